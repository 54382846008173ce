-- Words of a line (our choice of format).
use Rattle.std.specs.Prelude.{ℕ, ◌==◌, Bool, false, ◌||◌, if◌then◌else◌, List, [], ◌∷◌, reverse, Option, Some, None}
use Rattle.sfc_base.specs.Case.{same_word}
use Rattle.sfc_asking.specs.sfc_script.Arriving.{is_lf}
use Rattle.sfc_asking.specs.sfc_script.Lines.{is_blank, only_word, split_before}

-- what stands before the first LF
abbrev pub before_lf : List ℕ → List ℕ
before_lf text = (split_before is_lf text).0

-- what stands from the first word on
abbrev pub from_word : List ℕ → List ℕ
from_word [] = []
from_word (b ∷ text) = if is_blank b then from_word text else b ∷ text

-- a blank, or a CR: no text ends with one
abbrev pub is_ending : ℕ → Bool
is_ending b = is_blank b || b == 13

-- what stands from the first byte on that may end a text
abbrev pub from_end : List ℕ → List ℕ
from_end [] = []
from_end (b ∷ text) = if is_ending b then from_end text else b ∷ text

-- what stands up to the last byte that may end a text
abbrev pub without_end : List ℕ → List ℕ
without_end text = reverse (from_end (reverse text))

-- without the blanks in front of it, and without the blanks and CR behind it
abbrev pub trimmed : List ℕ → List ℕ
trimmed text = without_end (from_word text)

-- one word but for case, where there is one
abbrev pub is_same : Option (List ℕ) → List ℕ → Bool
is_same None word = false
is_same (Some only) word = same_word only word

-- the text is this word alone
abbrev pub is_word : List ℕ → List ℕ → Bool
is_word text word = is_same (only_word text) word
