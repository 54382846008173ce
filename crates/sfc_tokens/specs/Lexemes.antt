-- Texts and their tokens (2.1, 2.2): pieces of text, each as long as it can be, and the first fault.
use Rattle.std.specs.Prelude.{◌≡◌, ℕ, ℤ, List, [], ◌∷◌, ◌++◌, Bool, true, false, ◌&&◌, ◌==◌, Option, Some, None, Result, Ok, Err}
use Rattle.sfc_base.specs.declared.delimiter.Delimiter.{Delimiter}
use Rattle.sfc_base.specs.declared.delimiter.Delimiter.TheVariants as sign
use Rattle.sfc_base.specs.declared.class.Class.{Class}
use Rattle.sfc_base.specs.declared.class.Class.TheVariants as class
use Rattle.sfc_base.specs.declared.run.Alphabet.TheVariants as alphabet
use Rattle.sfc_base.specs.declared.keyword.Keyword.{Keyword}
use Rattle.sfc_tokens.specs.declared.literal.LiteralKind.{LiteralKind}
use Rattle.sfc_tokens.specs.declared.literal.LiteralKind.TheVariants as kinds
use Rattle.sfc_events.specs.declared.read_error.ReadErrorKind.{ReadErrorKind}
use Rattle.sfc_events.specs.declared.read_error.ReadErrorKind.TheVariants.{NotAscii, BadToken}
use Rattle.sfc_tokens.specs.declared.lex.Ahead.{Ahead}
use Rattle.sfc_tokens.specs.declared.lex.Ahead.TheVariants.{Alone, Longer, Comment}
use Rattle.sfc_tokens.specs.declared.token.TokenKind.{TokenKind}
use Rattle.sfc_tokens.specs.declared.token.TokenKind.TheVariants as token
use Rattle.sfc_base.specs.Classes.{class_of, first_class}
use Rattle.sfc_base.specs.Runs.{IsRun}
use Rattle.sfc_base.specs.Words.{keyword_of}
use Rattle.sfc_base.specs.Names.{StartsWord, is_spaced}
use Rattle.sfc_tokens.specs.Literals.{kind_of_prefix, alphabet_of, fault_of, signed, IsLiteral}
use Rattle.sfc_base.specs.Durations.{IsInterval}

-- ---- words

abbrev pub reserved_or_name : Option Keyword → List ℕ → TokenKind
reserved_or_name (Some k) w = token.Keyword k
reserved_or_name None w = token.Name w

-- a reserved word in any case, or a name
abbrev pub word_token : List ℕ → TokenKind
word_token w = reserved_or_name (keyword_of w) w

-- a `#` stands behind the prefix of a literal
abbrev pub is_sharp_first : List ℕ → Bool
is_sharp_first [] = false
is_sharp_first (b ∷ bs) = b == 35

-- ---- literals

-- Prefix kind front rest: the text in front of a literal of the kind, before rest
pub data Prefix : LiteralKind → List ℕ → List ℕ → Type 0 where
  none : {b : ℕ} {rest : List ℕ} → class_of b ≡ class.Digit → Prefix kinds.Number [] (b ∷ rest)
  percent : {b : ℕ} {rest : List ℕ} → class_of b ≡ class.Percent → Prefix kinds.Location (b ∷ []) rest
  word : {b : ℕ} {w rest : List ℕ} {kind : LiteralKind} → StartsWord (class_of b) → IsRun alphabet.Word (b ∷ w) (35 ∷ rest)
      → kind_of_prefix (b ∷ w) ≡ Some kind → Prefix kind (b ∷ (w ++ 35 ∷ [])) rest

-- a minus or none
abbrev pub minus : Bool → List ℕ
minus true = 45 ∷ []
minus false = []

abbrev pub is_minus : List ℕ → Bool
is_minus [] = false
is_minus (b ∷ bs) = b == 45

-- Body kind negative w rest: w is all that belongs to a literal of the kind behind its prefix and its minus, before rest
pub record Body (kind : LiteralKind) (negative : Bool) (w rest : List ℕ) : Type 0 where
  pub run : IsRun (alphabet_of kind) w rest
  pub sign : negative ≡ false → is_minus (w ++ rest) ≡ false

-- ---- delimiters and comments

-- what the first two bytes are together
abbrev pub look_ahead : Delimiter → Class → Ahead
look_ahead sign.Open (class.Sign sign.Star) = Comment
look_ahead sign.Colon (class.Sign sign.Equal) = Longer sign.Assign
look_ahead sign.Less (class.Sign sign.Equal) = Longer sign.LessOrEqual
look_ahead sign.Less (class.Sign sign.Greater) = Longer sign.NotEqual
look_ahead sign.Greater (class.Sign sign.Equal) = Longer sign.GreaterOrEqual
look_ahead _ _ = Alone

-- no `*)`
abbrev pub NoClose : List ℕ → Type 0
NoClose [] = Unit {0}
NoClose (b ∷ []) = Unit {0}
NoClose (b ∷ c ∷ bs) = ((b == 42 && c == 41) ≡ false) × NoClose (c ∷ bs)

-- no `}`
abbrev pub NoBrace : List ℕ → Type 0
NoBrace [] = Unit {0}
NoBrace (b ∷ bs) = ((b == 125) ≡ false) × NoBrace bs

-- ---- pieces of text. Piece text rest piece: before rest, the text is one token, or is skipped

pub data Piece : List ℕ → List ℕ → Option TokenKind → Type 0 where
  space : {b : ℕ} {rest : List ℕ} → class_of b ≡ class.Space → Piece (b ∷ []) rest None
  comment : {b c : ℕ} {rest : List ℕ} {d : Delimiter} (body : List ℕ) → class_of b ≡ class.Sign d → look_ahead d (class_of c) ≡ Comment
      → NoClose (body ++ 42 ∷ []) → Piece (b ∷ c ∷ (body ++ 42 ∷ 41 ∷ [])) rest None
  pragma : {b : ℕ} {rest : List ℕ} (body : List ℕ) → class_of b ≡ class.Brace → NoBrace body → Piece (b ∷ (body ++ 125 ∷ [])) rest None
  word : {b : ℕ} {w rest : List ℕ} → StartsWord (class_of b) → IsRun alphabet.Word (b ∷ w) rest → is_sharp_first rest ≡ false
      → is_spaced (b ∷ w) ≡ true → Piece (b ∷ w) rest (Some (word_token (b ∷ w)))
  literal : {front rest : List ℕ} {kind : LiteralKind} (negative : Bool) (w : List ℕ) {t : TokenKind}
      → Prefix kind front (minus negative ++ (w ++ rest)) → Body kind negative w rest → IsLiteral kind negative w t
      → Piece (front ++ (minus negative ++ w)) rest (Some t)
  single : {b : ℕ} {rest : List ℕ} {d : Delimiter} → class_of b ≡ class.Sign d → look_ahead d (first_class rest) ≡ Alone
      → Piece (b ∷ []) rest (Some (token.Delimiter d))
  double : {b c : ℕ} {rest : List ℕ} {d e : Delimiter} → class_of b ≡ class.Sign d → look_ahead d (class_of c) ≡ Longer e
      → Piece (b ∷ c ∷ []) rest (Some (token.Delimiter e))

-- what begins with a fault
pub data Faulty : List ℕ → ReadErrorKind → Type 0 where
  comment : {b c : ℕ} {rest : List ℕ} {d : Delimiter} → class_of b ≡ class.Sign d → look_ahead d (class_of c) ≡ Comment → NoClose rest
      → Faulty (b ∷ c ∷ rest) BadToken
  pragma : {b : ℕ} {rest : List ℕ} → class_of b ≡ class.Brace → NoBrace rest → Faulty (b ∷ rest) BadToken
  word : {b : ℕ} {w rest : List ℕ} → StartsWord (class_of b) → IsRun alphabet.Word (b ∷ w) rest → is_sharp_first rest ≡ false
      → is_spaced (b ∷ w) ≡ false → Faulty (b ∷ (w ++ rest)) BadToken
  prefix : {b : ℕ} {w rest : List ℕ} → StartsWord (class_of b) → IsRun alphabet.Word (b ∷ w) (35 ∷ rest) → kind_of_prefix (b ∷ w) ≡ None
      → Faulty (b ∷ (w ++ 35 ∷ rest)) BadToken
  literal : {front rest : List ℕ} {kind : LiteralKind} (negative : Bool) (w : List ℕ) → Prefix kind front (minus negative ++ (w ++ rest))
      → Body kind negative w rest → ((t : TokenKind) → IsLiteral kind negative w t → ⊥)
      → Faulty (front ++ (minus negative ++ (w ++ rest))) (fault_of kind)
  sharp : {b : ℕ} {rest : List ℕ} → class_of b ≡ class.Sharp → Faulty (b ∷ rest) BadToken
  other : {b : ℕ} {rest : List ℕ} → class_of b ≡ class.Other → Faulty (b ∷ rest) BadToken
  high : {b : ℕ} {rest : List ℕ} → class_of b ≡ class.High → Faulty (b ∷ rest) NotAscii

-- ---- whole texts

abbrev pub Tokens : Type 0
Tokens = Result (List TokenKind) ReadErrorKind

abbrev pub first : TokenKind → Tokens → Tokens
first t (Ok ts) = Ok (t ∷ ts)
first t (Err f) = Err f

pub data Lexes : List ℕ → Tokens → Type 0 where
  ended : Lexes [] (Ok [])
  skip : {text rest : List ℕ} {r : Tokens} → Piece text rest None → Lexes rest r → Lexes (text ++ rest) r
  one : {text rest : List ℕ} {t : TokenKind} {r : Tokens} → Piece text rest (Some t) → Lexes rest r → Lexes (text ++ rest) (first t r)
  fault : {bytes : List ℕ} {f : ReadErrorKind} → Faulty bytes f → Lexes bytes (Err f)

-- a word that is one duration: `T#` or `TIME#` in any case, a minus or none, and its parts
pub data IsDuration : List ℕ → ℤ → Type 0 where
  duration : (front : List ℕ) (negative : Bool) (w : List ℕ) (v : ℕ) → kind_of_prefix front ≡ Some kinds.Duration → IsInterval w v
      → IsDuration (front ++ 35 ∷ (minus negative ++ w)) (signed negative v)
