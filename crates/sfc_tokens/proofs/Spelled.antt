-- The spellings of tokens are pieces of text that lex as them.
use Rattle.std.proofs.Common.{◌≡◌, ℕ, ℤ, pos, negsuc, unsigned_abs, zero, suc, ◌<◌, ◌^◌, Bool, true, false, ◌&&◌, List, [], ◌∷◌, ◌++◌, length, Option, Some, None, is_none, refl, sym, subst, arith, codes}
use Rattle.std.specs.Fmt.{decimal, signed_decimal}
use Rattle.std.specs.List.{list_all, AllByRecursion, Contains}
use Rattle.std.specs.Prelude.{slice_index_or}
use Rattle.sfc_base.specs.declared.class.Class.{Class}
use Rattle.sfc_base.specs.declared.class.Class.TheVariants as class
use Rattle.sfc_base.specs.declared.run.Alphabet.TheVariants as alphabet
use Rattle.sfc_base.specs.declared.keyword.Keyword.{Keyword}
use Rattle.sfc_tokens.specs.declared.literal.LiteralKind.TheVariants as kind
use Rattle.sfc_tokens.specs.declared.token.TokenKind.TheVariants as token
use Rattle.sfc_base.specs.Classes.{class_of}
use Rattle.sfc_base.specs.Runs.{is_in, has, AllIn, Ends, IsRun}
use Rattle.sfc_base.specs.Case.{same_word}
use Rattle.sfc_base.specs.Words.{reserved_words, keyword_of}
use Rattle.sfc_base.specs.Names.{starts_word, is_spaced, is_word, IsWord, IsName}
use Rattle.sfc_tokens.specs.Literals as literals
use Rattle.sfc_tokens.specs.Literals.{kind_of_prefix}
use Rattle.sfc_tokens.specs.Lexemes as lexemes
use Rattle.sfc_tokens.specs.Lexemes.{reserved_or_name, word_token, is_sharp_first, Prefix, is_minus, Piece}
use Rattle.sfc_base.proofs.Runs.{wider}
use Rattle.sfc_tokens.proofs.Digits.{figures}
use Rattle.sfc_tokens.proofs.Parts.{integer_begins}
use Rattle.sfc_tokens.proofs.DurationWords.{no_minus}
use Rattle.sfc_tokens.proofs.TimeLaw.{decimal_integer}

-- ---- numbers

figure_by : (k : Class) → is_in alphabet.Figures k ≡ true → is_in alphabet.Number k ≡ true
figure_by class.Digit e = refl
figure_by class.Underscore e = refl
figure_by _ e = absurd cc

figures_in : (w : List ℕ) → AllIn alphabet.Figures w → AllIn alphabet.Number w
figures_in = wider alphabet.Figures alphabet.Number figure_by

-- decimal digits are one run
decimal_run : (n : ℕ) (rest : List ℕ) → n < 2 ^ 32 → Ends alphabet.Number rest → IsRun alphabet.Number (decimal n) rest
decimal_run n rest lt ends = record { all = figures_in (decimal n) (figures (decimal_integer n (omega (arith, lt)))); longest = ends }

-- and begin with no minus
decimal_plain : (n : ℕ) (rest : List ℕ) → n < 2 ^ 32 → is_minus (decimal n ++ rest) ≡ false
decimal_plain n rest lt =
    let b = integer_begins (decimal_integer n (omega (arith, lt))) in
    subst (λ (x : List ℕ). is_minus (x ++ rest) ≡ false) (sym b.is) (no_minus b.head b.holds)

-- an integer without a type
pub integer_spells : (n : ℕ) (rest : List ℕ) → n < 2 ^ 32 → Ends alphabet.Number rest → Piece (decimal n) rest (Some (token.Integer n))
integer_spells n rest lt ends =
    let i = decimal_integer n (omega (arith, lt)) in
    let b = integer_begins i in
    let front : Prefix kind.Number [] (decimal n ++ rest) = subst (λ (x : List ℕ). Prefix kind.Number [] (x ++ rest)) (sym b.is) (lexemes.none b.holds) in
    lexemes.literal false (decimal n) front (record { run = decimal_run n rest lt ends; sign = λ e. decimal_plain n rest lt }) (literals.integer i lt)

-- `INT#` and a number
int_front : (rest : List ℕ) → Prefix kind.Int (codes "INT#") rest
unfolding class_of kind_of_prefix same_word
int_front rest = lexemes.word {b = 73} {w = codes "NT"} refl (record { all = (refl, (refl, (refl, tt))); longest = refl }) refl

pub int_spells : (z : ℤ) (rest : List ℕ) → unsigned_abs z < 2 ^ 32 → Ends alphabet.Number rest → Piece (codes "INT#" ++ signed_decimal z) rest (Some (token.Int z))
int_spells (pos n) rest lt ends = lexemes.literal false (decimal n) (int_front (decimal n ++ rest)) (record { run = decimal_run n rest lt ends; sign = λ e. decimal_plain n rest lt }) (literals.int (literals.decimal (decimal_integer n (omega (arith, lt))) lt))
int_spells (negsuc n) rest lt ends = lexemes.literal true (decimal (suc n)) (int_front (45 ∷ (decimal (suc n) ++ rest))) (record { run = decimal_run (suc n) rest lt ends; sign = λ e. absurd cc }) (literals.int (literals.decimal (decimal_integer (suc n) (omega (arith, lt))) lt))

-- `DINT#` and a number
dint_front : (rest : List ℕ) → Prefix kind.Dint (codes "DINT#") rest
unfolding class_of kind_of_prefix same_word
dint_front rest = lexemes.word {b = 68} {w = codes "INT"} refl (record { all = (refl, (refl, (refl, (refl, tt)))); longest = refl }) refl

pub dint_spells : (z : ℤ) (rest : List ℕ) → unsigned_abs z < 2 ^ 32 → Ends alphabet.Number rest → Piece (codes "DINT#" ++ signed_decimal z) rest (Some (token.Dint z))
dint_spells (pos n) rest lt ends = lexemes.literal false (decimal n) (dint_front (decimal n ++ rest)) (record { run = decimal_run n rest lt ends; sign = λ e. decimal_plain n rest lt }) (literals.dint (literals.decimal (decimal_integer n (omega (arith, lt))) lt))
dint_spells (negsuc n) rest lt ends = lexemes.literal true (decimal (suc n)) (dint_front (45 ∷ (decimal (suc n) ++ rest))) (record { run = decimal_run (suc n) rest lt ends; sign = λ e. absurd cc }) (literals.dint (literals.decimal (decimal_integer (suc n) (omega (arith, lt))) lt))

-- ---- words

both : (t u : Bool) → t && u ≡ true → (t ≡ true) × (u ≡ true)
both true u e = (refl, e)
both false u e = absurd cc

listed_all : (w : List ℕ) → list_all (has alphabet.Word) w ≡ true → AllIn alphabet.Word w
listed_all [] e = tt
listed_all (b ∷ w) e = let h = both (has alphabet.Word b) (list_all (has alphabet.Word) w) e in (h.0, listed_all w h.1)

-- a word is one token
word_spells : (w rest : List ℕ) → IsWord w → Ends alphabet.Word rest → is_sharp_first rest ≡ false → Piece w rest (Some (word_token w))
word_spells [] rest is ends sharp = absurd cc
word_spells (b ∷ w) rest is ends sharp =
    let h = both (starts_word (class_of b) && list_all (has alphabet.Word) (b ∷ w)) (is_spaced (b ∷ w)) is in
    let g = both (starts_word (class_of b)) (list_all (has alphabet.Word) (b ∷ w)) h.0 in
    lexemes.word g.0 (record { all = listed_all (b ∷ w) g.1; longest = ends }) sharp h.1

none_of : (o : Option Keyword) → is_none o ≡ true → o ≡ None
none_of None e = refl
none_of (Some k) e = absurd cc

-- a name
pub name_spells : (w rest : List ℕ) → IsName w → Ends alphabet.Word rest → is_sharp_first rest ≡ false → Piece w rest (Some (token.Name w))
name_spells w rest is ends sharp =
    let h = both (is_word w) (is_none (keyword_of w)) is in
    let e = none_of (keyword_of w) h.1 in
    subst (λ (o : Option Keyword). Piece w rest (Some (reserved_or_name o w))) e (word_spells w rest h.0 ends sharp)

-- a reserved word in any case
pub reserved_spells : (w rest : List ℕ) (k : Keyword) → IsWord w → keyword_of w ≡ Some k → Ends alphabet.Word rest → is_sharp_first rest ≡ false → Piece w rest (Some (token.Keyword k))
reserved_spells w rest k is e ends sharp = subst (λ (o : Option Keyword). Piece w rest (Some (reserved_or_name o w))) e (word_spells w rest is ends sharp)

-- each word of the table is a word, and stands for what the table says
entries_are : AllByRecursion (λ (entry : List ℕ × Keyword). IsWord entry.0 × (keyword_of entry.0 ≡ Some entry.1)) reserved_words
unfolding class_of is_spaced keyword_of same_word
entries_are = ((refl, refl), ((refl, refl), ((refl, refl), ((refl, refl), ((refl, refl), ((refl, refl), ((refl, refl), ((refl, refl), ((refl, refl), ((refl, refl), ((refl, refl), ((refl, refl), ((refl, refl), ((refl, refl), ((refl, refl), ((refl, refl), ((refl, refl), ((refl, refl), ((refl, refl), ((refl, refl), ((refl, refl), ((refl, refl), ((refl, refl), ((refl, refl), ((refl, refl), ((refl, refl), ((refl, refl), ((refl, refl), ((refl, refl), ((refl, refl), ((refl, refl), ((refl, refl), ((refl, refl), ((refl, refl), ((refl, refl), ((refl, refl), ((refl, refl), ((refl, refl), ((refl, refl), tt)))))))))))))))))))))))))))))))))))))))

entry_at : (entries : List (List ℕ × Keyword)) → AllByRecursion (λ (entry : List ℕ × Keyword). IsWord entry.0 × (keyword_of entry.0 ≡ Some entry.1)) entries → (k : ℕ) (entry : List ℕ × Keyword) → k < length entries → slice_index_or entries k entry ≡ entry → IsWord entry.0 × (keyword_of entry.0 ≡ Some entry.1)
entry_at [] all k entry lt e = absurd (omega (arith, lt))
entry_at (x ∷ entries) all zero entry lt e = subst (λ (y : List ℕ × Keyword). IsWord y.0 × (keyword_of y.0 ≡ Some y.1)) e all.0
entry_at (x ∷ entries) all (suc k) entry lt e = entry_at entries all.1 k entry (omega (arith, lt)) e

-- a word of the table
pub reserved_word_spells : (w rest : List ℕ) (k : Keyword) → Contains reserved_words (w, k) → Ends alphabet.Word rest → is_sharp_first rest ≡ false → Piece w rest (Some (token.Keyword k))
reserved_word_spells w rest k listed ends sharp =
    let is = entry_at reserved_words entries_are listed.0 (w, k) listed.1 listed.2 in
    reserved_spells w rest k is.0 is.1 ends sharp
