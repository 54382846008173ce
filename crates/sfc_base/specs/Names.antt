-- Words and names (2.1.2).
use Rattle.std.specs.Prelude.{◌≡◌, ℕ, List, [], ◌∷◌, Bool, true, false, not, ◌&&◌, ◌==◌, is_none, IsTrue}
use Rattle.std.specs.List.{list_all}
use Rattle.sfc_base.specs.declared.class.Class.{Class}
use Rattle.sfc_base.specs.declared.class.Class.TheVariants as class
use Rattle.sfc_base.specs.declared.run.Alphabet.TheVariants.{Word}
use Rattle.sfc_base.specs.Classes.{first_class}
use Rattle.sfc_base.specs.Runs.{has}
use Rattle.sfc_base.specs.Words.{keyword_of}

-- a letter or an underscore
abbrev pub starts_word : Class → Bool
starts_word class.Letter = true
starts_word class.Underscore = true
starts_word _ = false

abbrev pub StartsWord : Class → Type 0
StartsWord k = starts_word k ≡ true

-- underscores stand single and inside
unfoldable pub is_spaced : List ℕ → Bool
is_spaced [] = true
is_spaced (b ∷ []) = not (b == 95)
is_spaced (b ∷ c ∷ w) = not (b == 95 && c == 95) && is_spaced (c ∷ w)

-- a letter or an underscore, then letters, digits and underscores, which stand single and inside
abbrev pub is_word : List ℕ → Bool
is_word w = starts_word (first_class w) && list_all (has Word) w && is_spaced w

-- a word that isn't reserved
abbrev pub is_name : List ℕ → Bool
is_name w = is_word w && is_none (keyword_of w)

abbrev pub IsWord : List ℕ → Type 0
IsWord w = IsTrue (is_word w)

abbrev pub IsName : List ℕ → Type 0
IsName w = IsTrue (is_name w)
