-- The bytes of names, which are words.
use Rattle.std.proofs.Common.{◌≡◌, ◌∙◌, refl, sym, ap, ℕ, ◌==◌, Bool, true, false, ◌&&◌, ◌||◌, List, [], ◌∷◌}
use Rattle.std.specs.List.{list_all}
use Rattle.std.specs.Prelude.{is_none}
use Rattle.std.proofs.lemmas.Bool.{eqb-true}
use Rattle.sfc_base.specs.declared.run.Alphabet.TheVariants as alphabet
use Rattle.sfc_base.specs.Classes.{class_of, first_class}
use Rattle.sfc_base.specs.Names.{IsName, is_spaced, is_word, starts_word}
use Rattle.sfc_base.specs.Runs.{has}
use Rattle.sfc_base.specs.Words.{keyword_of}
use Rattle.sfc_asking.proofs.of_sfc_script.PlainInstants.{IsPlain, ArePlain}

-- bytes that part neither lines nor words and begin no comment, one at least
abbrev pub Word : List ℕ → Type 0
Word [] = ⊥
Word (b ∷ word) = IsPlain b × ArePlain word

both : (s t : Bool) → (s && t) ≡ true → (s ≡ true) × (t ≡ true)
both true t e = (refl, e)
both false t e = absurd cc

-- ---- the bytes of words

other : (c b : ℕ) → has alphabet.Word c ≡ false → has alphabet.Word b ≡ true → (b == c) ≡ false
other c b out among = by (b == c) refl
  where
    by : (t : Bool) → (b == c) ≡ t → (b == c) ≡ false
    by false e = e
    by true e =
        let bad : true ≡ false = sym among ∙ ap (has alphabet.Word) (eqb-true b c e) ∙ out in
        absurd cc

no_space : has alphabet.Word 32 ≡ false
unfolding class_of
no_space = refl

no_tab : has alphabet.Word 9 ≡ false
unfolding class_of
no_tab = refl

no_lf : has alphabet.Word 10 ≡ false
unfolding class_of
no_lf = refl

no_cr : has alphabet.Word 13 ≡ false
unfolding class_of
no_cr = refl

no_semicolon : has alphabet.Word 59 ≡ false
unfolding class_of
no_semicolon = refl

plain_byte : (b : ℕ) → has alphabet.Word b ≡ true → IsPlain b
plain_byte b among = record {
  blank = ap (λ t. t || b == 9) (other 32 b no_space among) ∙ other 9 b no_tab among;
  lf = other 10 b no_lf among;
  cr = other 13 b no_cr among;
  comment = other 59 b no_semicolon among;
}

plain_all : (word : List ℕ) → list_all (has alphabet.Word) word ≡ true → ArePlain word
plain_all [] all = tt
plain_all (b ∷ word) all =
    let parts = both (has alphabet.Word b) (list_all (has alphabet.Word) word) all in
    (plain_byte b parts.0, plain_all word parts.1)

-- ---- names

parts : (word : List ℕ) → IsName word → (starts_word (first_class word) ≡ true) × (list_all (has alphabet.Word) word ≡ true)
parts word is =
    let whole : is_word word ≡ true = (both (is_word word) (is_none (keyword_of word)) is).0 in
    both (starts_word (first_class word)) (list_all (has alphabet.Word) word)
    (both (starts_word (first_class word) && list_all (has alphabet.Word) word) (is_spaced word) whole).0

pub name_word : (name : List ℕ) → IsName name → Word name
name_word [] is = let bad : false ≡ true = (parts [] is).0 in absurd cc
name_word (b ∷ name) is = plain_all (b ∷ name) (parts (b ∷ name) is).1
