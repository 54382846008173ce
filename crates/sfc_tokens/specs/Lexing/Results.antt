-- What a function of a reader returned, beside what reading gives.
use Rattle.std.specs.Prelude.{◌≡◌, Result, Ok, Err}
use Rattle.sfc_events.specs.ReadErrors.{Read}
use Rattle.sfc_tokens.specs.declared.lex_fault.LexFault.{LexFault}
use Rattle.sfc_tokens.specs.declared.lex_fault.LexFault.TheVariants.{Memory, Wrong}
use Rattle.sfc_events.specs.declared.read_error.ReadError.{ReadError}
use Rattle.sfc_events.specs.declared.read_error.ReadErrorKind.{ReadErrorKind}
use Rattle.sfc_events.specs.declared.read_error.ReadErrorKind.TheVariants as kind

infixl 10 ◌>>=◌
abbrev pub ◌>>=◌ : {A B : Type 0} → Result A ReadErrorKind → (A → Result B ReadErrorKind) → Result B ReadErrorKind
(Ok x) >>= f = f x
(Err e) >>= f = Err e

-- the fault that reading gives, or want of memory, which says nothing
abbrev pub Fails : {Y : Type 0} → LexFault → Result Y ReadErrorKind → Type 0
Fails Memory read = Unit {0}
Fails (Wrong kind left) read = read ≡ Err kind

-- what was returned, seen by view, is what reading gives
abbrev pub Gives : {X Y : Type 0} → (X → Y) → Result X LexFault → Result Y ReadErrorKind → Type 0
Gives view (Ok x) read = read ≡ Ok (view x)
Gives view (Err fault) read = Fails fault read

-- the same of an error that is told to the caller
abbrev pub FailsAs : {Y : Type 0} → ReadErrorKind → Read Y → Type 0
FailsAs kind.Memory read = Unit {0}
FailsAs k read = read ≡ Err k

abbrev pub Answers : {X Y : Type 0} → (X → Y) → Result X ReadError → Read Y → Type 0
Answers view (Ok x) read = read ≡ Ok (view x)
Answers view (Err error) read = FailsAs error.kind read

-- the kind of a fault
abbrev pub kind_of : LexFault → ReadErrorKind
kind_of Memory = kind.Memory
kind_of (Wrong k left) = k
