-- The text of a value spells the tokens of its literal.
use Rattle.std.proofs.Common.{◌≡◌, ℕ, ℤ, pos, negsuc, unsigned_abs, int_le, leb, max, suc, ◌<◌, ◌≤◌, ◌^◌, ◌-◌, Bool, true, false, ◌&&◌, ◌==◌, List, [], ◌∷◌, IsTrue, refl, subst, arith, codes}
use Rattle.std.proofs.lemmas.Bool.{eqb-true, leb-true}
use Rattle.sfc_base.specs.declared.var_type.VarType.TheVariants as types
use Rattle.sfc_base.specs.declared.class.Class.{Class}
use Rattle.sfc_base.specs.declared.class.Class.TheVariants as class
use Rattle.sfc_base.specs.declared.run.Alphabet.TheVariants as alphabet
use Rattle.sfc_base.specs.declared.keyword.Keyword.TheVariants as keyword
use Rattle.sfc_tokens.specs.declared.token.TokenKind.TheVariants as token
use Rattle.sfc_base.specs.Case.{same_word}
use Rattle.sfc_base.specs.Classes.{class_of}
use Rattle.sfc_base.specs.Durations.{greatest}
use Rattle.sfc_tokens.specs.Lexemes.{is_sharp_first}
use Rattle.sfc_base.specs.Names.{is_spaced}
use Rattle.sfc_base.specs.Runs.{is_in, has, Ends}
use Rattle.sfc_tokens.specs.Spelling.{Spells}
use Rattle.sfc_base.specs.TimeText.{time_text}
use Rattle.sfc_base.specs.Words.{keyword_of}
use Rattle.sfc_tokens.proofs.DurationWords.{duration_before}
use Rattle.sfc_tokens.proofs.Spelled.{int_spells, dint_spells, reserved_spells}
use Rattle.sfc_tokens.proofs.Spellings.{alone}
use Rattle.sfc_tokens.proofs.TimeLaw.{time_is}
use Rattle.sfc_text.specs.Spelled.{literal_tokens}
use Rattle.sfc_base.specs.declared.value.Value.{Value}
use Rattle.sfc_base.specs.declared.value.Value.TheVariants as value
use Rattle.sfc_expr.specs.Types.{lies_in_range}
use Rattle.sfc_base.specs.Values.{is_in_range}
use Rattle.sfc_list.specs.Values.{literal_text}
use Rattle.sfc_read_back.specs.WrittenTerms.{literal_tree}

-- ---- what ends every run

word_in : (k : Class) → is_in alphabet.Location k ≡ false → is_in alphabet.Word k ≡ false
word_in class.Letter e = absurd cc
word_in class.Digit e = absurd cc
word_in class.Underscore e = absurd cc
word_in _ e = refl

number_in : (k : Class) → is_in alphabet.Location k ≡ false → is_in alphabet.Number k ≡ false
number_in class.Letter e = absurd cc
number_in class.Digit e = absurd cc
number_in class.Underscore e = absurd cc
number_in class.Sharp e = absurd cc
number_in _ e = refl

interval_in : (k : Class) → is_in alphabet.Location k ≡ false → is_in alphabet.Interval k ≡ false
interval_in class.Letter e = absurd cc
interval_in class.Digit e = absurd cc
interval_in class.Underscore e = absurd cc
interval_in class.Sharp e = absurd cc
interval_in (class.Sign d) e = e
interval_in _ e = refl

pub ends_word : (rest : List ℕ) → Ends alphabet.Location rest → Ends alphabet.Word rest
ends_word [] e = e
ends_word (b ∷ rest) e = word_in (class_of b) e

pub ends_number : (rest : List ℕ) → Ends alphabet.Location rest → Ends alphabet.Number rest
ends_number [] e = e
ends_number (b ∷ rest) e = number_in (class_of b) e

pub ends_interval : (rest : List ℕ) → Ends alphabet.Location rest → Ends alphabet.Interval rest
ends_interval [] e = e
ends_interval (b ∷ rest) e = interval_in (class_of b) e

sharp_inside : has alphabet.Location 35 ≡ false → ⊥
unfolding class_of
sharp_inside e = absurd cc

pub ends_sharp : (rest : List ℕ) → Ends alphabet.Location rest → is_sharp_first rest ≡ false
ends_sharp [] e = refl
ends_sharp (b ∷ rest) e = by_same (b == 35) refl
  where
    by_same : (t : Bool) → (b == 35) ≡ t → (b == 35) ≡ false
    by_same true is = absurd (sharp_inside (subst (λ (x : ℕ). has alphabet.Location x ≡ false) (eqb-true b 35 is) e))
    by_same false is = is

-- ---- ranges

pub both : (t u : Bool) → t && u ≡ true → (t ≡ true) × (u ≡ true)
both true u e = (refl, e)
both false u e = absurd cc

-- a number between bounds around 0 is as small as they are
within : (low high : ℕ) (z : ℤ) → int_le (negsuc low) z && int_le z (pos high) ≡ true → unsigned_abs z ≤ suc (max low high)
within low high (pos n) e = let le = leb-true n high e in omega (arith, le)
within low high (negsuc n) e = let le = leb-true n low (both (leb n low) true e).0 in omega (arith, le)

int_small : (z : ℤ) → is_in_range types.Int z ≡ true → unsigned_abs z < 2 ^ 32
int_small z e = let le = within (2 ^ 15 - 1) (2 ^ 15 - 1) z e in omega (arith, le)

dint_small : (z : ℤ) → is_in_range types.Dint z ≡ true → unsigned_abs z < 2 ^ 32
dint_small z e = let le = within (2 ^ 31 - 1) (2 ^ 31 - 1) z e in omega (arith, le)

time_small : (z : ℤ) → is_in_range types.Time z ≡ true → unsigned_abs z ≤ greatest
time_small (pos n) e = leb-true n greatest e
time_small (negsuc n) e = let le = leb-true n (2 ^ 62 - 1) (both (leb n (2 ^ 62 - 1)) true e).0 in omega (arith, le)

-- ---- literals

pub literal_spells : (v : Value) (rest : List ℕ) → IsTrue (lies_in_range v) → Ends alphabet.Location rest → Spells (literal_text v) (literal_tokens (literal_tree v)) rest
unfolding class_of is_spaced keyword_of same_word
literal_spells (value.Bool false) rest h ends = alone (codes "FALSE") rest (token.Keyword keyword.False) (reserved_spells (codes "FALSE") rest keyword.False refl refl (ends_word rest ends) (ends_sharp rest ends))
literal_spells (value.Bool true) rest h ends = alone (codes "TRUE") rest (token.Keyword keyword.True) (reserved_spells (codes "TRUE") rest keyword.True refl refl (ends_word rest ends) (ends_sharp rest ends))
literal_spells (value.Int n) rest h ends = alone (literal_text (value.Int n)) rest (token.Int n) (int_spells n rest (int_small n h) (ends_number rest ends))
literal_spells (value.Dint n) rest h ends = alone (literal_text (value.Dint n)) rest (token.Dint n) (dint_spells n rest (dint_small n h) (ends_number rest ends))
literal_spells (value.Time t) rest h ends = alone (time_text t) rest (token.Duration t) (duration_before (time_text t) t rest (time_is t (time_small t h)) (ends_interval rest ends))
