-- Tokens with white space behind them.
use Rattle.std.proofs.Common.{◌≡◌, ℕ, Bool, true, false, ◌==◌, List, [], ◌∷◌, ◌++◌, Some, refl, ap, subst, ◌∙◌}
use Rattle.std.proofs.lemmas.Bool.{eqb-true}
use Rattle.std.specs.List.{Contains}
use Rattle.sfc_base.specs.declared.delimiter.Delimiter.{Delimiter}
use Rattle.sfc_base.specs.declared.delimiter.Delimiter.TheVariants as sign
use Rattle.sfc_base.specs.declared.class.Class.TheVariants as class
use Rattle.sfc_base.specs.declared.keyword.Keyword.{Keyword}
use Rattle.sfc_base.specs.declared.run.Alphabet.{Alphabet}
use Rattle.sfc_base.specs.declared.run.Alphabet.TheVariants as alphabet
use Rattle.sfc_tokens.specs.declared.lex.Ahead.TheVariants.{Alone}
use Rattle.sfc_tokens.specs.declared.token.TokenKind.{TokenKind}
use Rattle.sfc_tokens.specs.declared.token.TokenKind.TheVariants as token
use Rattle.sfc_base.specs.Classes.{class_of}
use Rattle.sfc_base.specs.Runs.{is_in, Ends}
use Rattle.sfc_base.specs.Words.{reserved_words, keyword_of}
use Rattle.sfc_base.specs.Names.{IsWord, IsName}
use Rattle.sfc_tokens.specs.Lexemes.{is_sharp_first, look_ahead, Piece}
use Rattle.sfc_tokens.specs.Spelling as spelling
use Rattle.sfc_tokens.specs.Spelling.{Spells, sign_text}
use Rattle.sfc_tokens.proofs.Spelled.{name_spells, reserved_spells, reserved_word_spells}
use Rattle.sfc_tokens.proofs.Signs.{sign_spells}

-- ---- what white space is not

in_none : (a : Alphabet) → is_in a class.Space ≡ false
in_none alphabet.Letters = refl
in_none alphabet.Figures = refl
in_none alphabet.Fraction = refl
in_none alphabet.Word = refl
in_none alphabet.Number = refl
in_none alphabet.Interval = refl
in_none alphabet.Location = refl

pub ends_there : (a : Alphabet) (b : ℕ) (rest : List ℕ) → class_of b ≡ class.Space → Ends a (b ∷ rest)
ends_there a b rest e = ap (is_in a) e ∙ in_none a

sharp_other : class_of 35 ≡ class.Space → ⊥
unfolding class_of
sharp_other e = absurd cc

pub not_sharp : (b : ℕ) (rest : List ℕ) → class_of b ≡ class.Space → is_sharp_first (b ∷ rest) ≡ false
not_sharp b rest e = by_same (b == 35) refl
  where
    by_same : (t : Bool) → (b == 35) ≡ t → (b == 35) ≡ false
    by_same true is = absurd (sharp_other (subst (λ (x : ℕ). class_of x ≡ class.Space) (eqb-true b 35 is) e))
    by_same false is = is

not_longer : (d : Delimiter) → look_ahead d class.Space ≡ Alone
not_longer sign.Open = refl
not_longer _ = refl

-- ---- a token and white space

pub spaced : (w rest : List ℕ) (b : ℕ) (t : TokenKind) → class_of b ≡ class.Space → Piece w (b ∷ rest) (Some t) → Spells (w ++ b ∷ []) (t ∷ []) rest
spaced w rest b t e p = spelling.one p (spelling.space e spelling.nothing)

pub name_spaced : (w rest : List ℕ) (b : ℕ) → IsName w → class_of b ≡ class.Space → Spells (w ++ b ∷ []) (token.Name w ∷ []) rest
name_spaced w rest b is e = spaced w rest b (token.Name w) e (name_spells w (b ∷ rest) is (ends_there alphabet.Word b rest e) (not_sharp b rest e))

pub reserved_spaced : (w rest : List ℕ) (b : ℕ) (k : Keyword) → IsWord w → keyword_of w ≡ Some k → class_of b ≡ class.Space → Spells (w ++ b ∷ []) (token.Keyword k ∷ []) rest
reserved_spaced w rest b k is known e = spaced w rest b (token.Keyword k) e (reserved_spells w (b ∷ rest) k is known (ends_there alphabet.Word b rest e) (not_sharp b rest e))

pub reserved_word_spaced : (w rest : List ℕ) (b : ℕ) (k : Keyword) → Contains reserved_words (w, k) → class_of b ≡ class.Space → Spells (w ++ b ∷ []) (token.Keyword k ∷ []) rest
reserved_word_spaced w rest b k listed e = spaced w rest b (token.Keyword k) e (reserved_word_spells w (b ∷ rest) k listed (ends_there alphabet.Word b rest e) (not_sharp b rest e))

pub sign_spaced : (d : Delimiter) (rest : List ℕ) (b : ℕ) → class_of b ≡ class.Space → Spells (sign_text d ++ b ∷ []) (token.Delimiter d ∷ []) rest
sign_spaced d rest b e = spaced (sign_text d) rest b (token.Delimiter d) e (sign_spells d (b ∷ rest) (ap (look_ahead d) e ∙ not_longer d))
