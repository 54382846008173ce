-- Whole texts and their tokens.
use Rattle.std.specs.Prelude.{ℕ, ◌<◌, ◌≤◌, List, ◌∷◌, length, ◌==◌, ◌&&◌, if◌then◌else◌, Result, Ok, Err}
use Rattle.sfc_events.specs.declared.read_error.ReadError.{ReadError}
use Rattle.sfc_events.specs.declared.read_error.ReadErrorKind.{ReadErrorKind}
use Rattle.sfc_events.specs.declared.read_error.ReadErrorKind.TheVariants as kind
use Rattle.sfc_events.specs.ReadErrors.{Read}
use Rattle.sfc_tokens.specs.Lexemes.{Tokens, Lexes}

-- the greatest length of a text, in bytes (our choice)
abbrev pub longest : ℕ
longest = 1048576

-- the bytes EF BB BF at the very start are skipped (our choice)
abbrev pub without_mark : List ℕ → List ℕ
without_mark (a ∷ b ∷ c ∷ rest) = if a == 239 && b == 187 && c == 191 then rest else a ∷ b ∷ c ∷ rest
without_mark text = text

-- The outcome of a text: its tokens, or that it is too long, or its first fault.
pub data TextLexes : List ℕ → Tokens → Type 0 where
  too_long : {text : List ℕ} → longest < length text → TextLexes text (Err kind.TooLong)
  lexed : {text : List ℕ} {outcome : Tokens} → length text ≤ longest → Lexes (without_mark text) outcome → TextLexes text outcome

-- What a function returned is an outcome, unless memory ran out.
abbrev pub FindsError : {Y : Type 0} → ReadErrorKind → (Read Y → Type 0) → Type 0
FindsError kind.Memory P = Unit {0}
FindsError k P = P (Err k)

abbrev pub Finds : {X Y : Type 0} → (X → Y) → Result X ReadError → (Read Y → Type 0) → Type 0
Finds view (Ok x) P = P (Ok (view x))
Finds view (Err error) P = FindsError error.kind P
