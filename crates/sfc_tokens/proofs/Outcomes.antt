-- The outcome of a text.
use Rattle.std.proofs.Common.{◌≡◌, ℕ, ◌≤◌, Bool, true, false, nat_le, List, length, Result, Ok, Err, refl, subst, arith}
use Rattle.std.proofs.lemmas.Bool.{leb-true, leb-false}
use Rattle.sfc_events.specs.declared.read_error.ReadError.{ReadError}
use Rattle.sfc_events.specs.declared.read_error.ReadErrorKind.{ReadErrorKind}
use Rattle.sfc_events.specs.declared.read_error.ReadErrorKind.TheVariants as kind
use Rattle.sfc_tokens.specs.declared.token.TokenKind.{TokenKind}
use Rattle.sfc_tokens.specs.Lexing.Results.{FailsAs, Answers}
use Rattle.sfc_events.specs.ReadErrors.{Read}
use Rattle.sfc_tokens.specs.Lexemes.{Tokens, Lexes}
use Rattle.sfc_tokens.specs.Lexing.Tokens.{lex}
use Rattle.sfc_tokens.specs.Texts as texts
use Rattle.sfc_tokens.specs.Texts.{longest, without_mark, TextLexes, FindsError, Finds}
use Rattle.sfc_tokens.proofs.Lexes.{lex_lexes, one_result}

finds_by : {Y : Type 0} (k : ReadErrorKind) (read : Read Y) (P : Read Y → Type 0) → FailsAs k read → P read → FindsError k P
finds_by kind.Memory read P e h = tt
finds_by kind.TooLong read P e h = subst P e h
finds_by kind.NotAscii read P e h = subst P e h
finds_by kind.BadToken read P e h = subst P e h
finds_by kind.Syntax read P e h = subst P e h
finds_by kind.TooDeep read P e h = subst P e h
finds_by kind.BadDuration read P e h = subst P e h
finds_by kind.BadNumber read P e h = subst P e h

pub finds : {X Y : Type 0} (view : X → Y) (r : Result X ReadError) (read : Read Y) (P : Read Y → Type 0) → Answers view r read → P read → Finds view r P
finds view (Ok x) read P e h = subst P e h
finds view (Err error) read P e h = finds_by error.kind read P e h

pub found : {V : Type 0} (view : V → List TokenKind) (r : Result V ReadError) (text bytes : List ℕ) → length text ≤ longest → bytes ≡ without_mark text → Answers view r (lex (length bytes) bytes) → Finds view r (λ outcome. TextLexes text outcome)
found view r text bytes le e h =
    let s : Lexes (without_mark text) (lex (length bytes) bytes) = subst (λ (x : List ℕ). Lexes x (lex (length bytes) bytes)) e (lex_lexes (length bytes) bytes (omega arith)) in
    finds view r (lex (length bytes) bytes) (λ outcome. TextLexes text outcome) h (texts.lexed le s)

-- a text that is too long has no other outcome
one_by : {text : List ℕ} {r s : Tokens} → TextLexes text r → TextLexes text s → r ≡ s
one_by (texts.too_long lt) (texts.too_long lt') = refl
one_by (texts.too_long lt) (texts.lexed le p) = absurd (omega (arith, lt, le))
one_by (texts.lexed le p) (texts.too_long lt) = absurd (omega (arith, lt, le))
one_by (texts.lexed {text = text} {outcome = r} le p) (texts.lexed {outcome = s} le' q) = one_result (without_mark text) r s p q

pub one_outcome : (text : List ℕ) (r s : Tokens) → TextLexes text r → TextLexes text s → r ≡ s
one_outcome text r s p q = one_by p q

pub some_outcome : (text : List ℕ) → (r : Tokens) × TextLexes text r
some_outcome text = by_length (nat_le (length text) longest) refl
  where
    by_length : (b : Bool) → nat_le (length text) longest ≡ b → (r : Tokens) × TextLexes text r
    by_length true e = (lex (length (without_mark text)) (without_mark text), texts.lexed (leb-true (length text) longest e) (lex_lexes (length (without_mark text)) (without_mark text) (omega arith)))
    by_length false e = (Err kind.TooLong, texts.too_long (leb-false (length text) longest e))
