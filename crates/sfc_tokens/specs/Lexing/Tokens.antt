-- Lexing from left to right.
use Rattle.std.specs.Prelude.{ℕ, zero, suc, List, [], ◌∷◌, Bool, true, false, ◌==◌, ◌&&◌, if◌then◌else◌, Option, Some, None, Result, Ok, Err}
use Rattle.std.specs.Borrow.{Bor}
use Rattle.sfc_base.specs.declared.delimiter.Delimiter.{Delimiter}
use Rattle.sfc_base.specs.declared.class.Class.{Class}
use Rattle.sfc_base.specs.declared.class.Class.TheVariants as class
use Rattle.sfc_base.specs.declared.run.Alphabet.TheVariants as alphabet
use Rattle.sfc_tokens.specs.declared.literal.LiteralKind.{LiteralKind}
use Rattle.sfc_tokens.specs.declared.literal.LiteralKind.TheVariants as kind
use Rattle.sfc_events.specs.declared.read_error.ReadErrorKind.{ReadErrorKind}
use Rattle.sfc_events.specs.declared.read_error.ReadErrorKind.TheVariants.{NotAscii, BadToken}
use Rattle.sfc_tokens.specs.declared.lex.Ahead.{Ahead}
use Rattle.sfc_tokens.specs.declared.lex.Ahead.TheVariants.{Alone, Longer, Comment}
use Rattle.sfc_tokens.specs.declared.token.TokenKind.{TokenKind}
use Rattle.sfc_tokens.specs.declared.token.TokenKind.TheVariants as token
use Rattle.sfc_base.specs.Classes.{class_of, first_class}
use Rattle.sfc_tokens.specs.Lexing.Results.{◌>>=◌}
use Rattle.sfc_base.specs.Private.Runs.{run}
use Rattle.sfc_tokens.specs.Literals.{kind_of_prefix, alphabet_of, fault_of}
use Rattle.sfc_tokens.specs.Lexing.Literals.{literal}
use Rattle.sfc_base.specs.Names.{is_spaced}
use Rattle.sfc_tokens.specs.Lexemes.{word_token, is_minus, look_ahead, Tokens}

-- what stands behind the end of a comment
unfoldable pub after_comment : List ℕ → Option (List ℕ)
after_comment [] = None
after_comment (b ∷ []) = None
after_comment (b ∷ c ∷ bs) = if b == 42 && c == 41 then Some bs else after_comment (c ∷ bs)

-- what stands behind the end of a pragma
unfoldable pub after_pragma : List ℕ → Option (List ℕ)
after_pragma [] = None
after_pragma (b ∷ bs) = if b == 125 then Some bs else after_pragma bs

-- the token at the front, or none for what is skipped, and the rest
abbrev pub Next : Type 0
Next = Result (Option TokenKind × List ℕ) ReadErrorKind

abbrev pub literal_found : LiteralKind → Option TokenKind → List ℕ → Next
literal_found k None rest = Err (fault_of k)
literal_found k (Some t) rest = Ok (Some t, rest)

abbrev pub literal_in : LiteralKind → Bool → List ℕ × List ℕ → Next
literal_in k negative r = literal_found k (literal k negative r.0) r.1

abbrev pub tail : List ℕ → List ℕ
tail [] = []
tail (b ∷ bs) = bs

abbrev pub literal_at : LiteralKind → List ℕ → Next
literal_at k bs = if is_minus bs then literal_in k true (run (alphabet_of k) (tail bs)) else literal_in k false (run (alphabet_of k) bs)

abbrev pub prefixed : Option LiteralKind → List ℕ → Next
prefixed None bs = Err BadToken
prefixed (Some k) bs = literal_at k bs

abbrev pub word_found : List ℕ → List ℕ → Next
word_found w rest = if is_spaced w then Ok (Some (word_token w), rest) else Err BadToken

abbrev pub word_or_prefix : List ℕ → List ℕ → Next
word_or_prefix w [] = word_found w []
word_or_prefix w (b ∷ rest) = if b == 35 then prefixed (kind_of_prefix w) rest else word_found w (b ∷ rest)

abbrev pub word_at : List ℕ → Next
word_at bs = word_or_prefix (run alphabet.Word bs).0 (run alphabet.Word bs).1

-- what is skipped, where it is closed
abbrev pub skipped : Option (List ℕ) → Next
skipped None = Err BadToken
skipped (Some rest) = Ok (None, rest)

abbrev pub sign_found : Ahead → Delimiter → List ℕ → Next
sign_found Alone d after = Ok (Some (token.Delimiter d), after)
sign_found (Longer e) d after = Ok (Some (token.Delimiter e), tail after)
sign_found Comment d after = skipped (after_comment (tail after))

abbrev pub sign_at : Delimiter → List ℕ → Next
sign_at d after = sign_found (look_ahead d (first_class after)) d after

unfoldable pub next_by : Class → ℕ → List ℕ → Next
next_by class.Space b bs = Ok (None, bs)
next_by class.Letter b bs = word_at (b ∷ bs)
next_by class.Underscore b bs = word_at (b ∷ bs)
next_by class.Digit b bs = literal_at kind.Number (b ∷ bs)
next_by class.Percent b bs = literal_at kind.Location bs
next_by class.Brace b bs = skipped (after_pragma bs)
next_by (class.Sign d) b bs = sign_at d bs
next_by class.Sharp b bs = Err BadToken
next_by class.Other b bs = Err BadToken
next_by class.High b bs = Err NotAscii

abbrev pub add : Option TokenKind → List TokenKind → List TokenKind
add None ts = ts
add (Some t) ts = t ∷ ts

unfoldable pub lex : ℕ → List ℕ → Tokens
lex n [] = Ok []
lex zero (b ∷ bs) = Err BadToken
lex (suc n) (b ∷ bs) = next_by (class_of b) b bs >>= λ x. lex n x.1 >>= λ ts. Ok (add x.0 ts)

-- as functions of the code return them
abbrev pub view_next : Option TokenKind × Bor (List ℕ) → Option TokenKind × List ℕ
view_next x = (x.0, x.1.now)
