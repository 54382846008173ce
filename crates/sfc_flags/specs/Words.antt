-- Words, each of which holds the flags of 64 places that follow each other.
use Rattle.std.specs.Prelude.{ℕ, ◌≡◌, ◌<◌, ◌≤◌, ◌/◌, ◌%◌, ◌==◌, Bool, cond, List, length}
use Rattle.std.specs.Int.{bit_at, div_ceil}
use Rattle.sfc_flags.specs.declared.word.Word.{Word}

-- the flag that a word has for a place of the table; the place within the word alone counts
unfoldable pub has : Word → ℕ → Bool
has word place = bit_at word.0 (place % 64) == 1

-- how many words hold these flags
abbrev pub word_count : List Bool → ℕ
word_count flags = div_ceil (length flags) 64

-- which word holds the flag of a place
abbrev pub word_of : ℕ → ℕ
word_of place = place / 64

-- ---- work from word to word, where rows tell what each place has

-- the places of the word of this number have these rows, and the others what they had
abbrev pub ArePut : {A : Type 0} → ℕ → (ℕ → A) → (ℕ → A) → (ℕ → A) → Type 0
ArePut number rows old new = (place : ℕ) → new place ≡ cond (word_of place == number) (rows place) (old place)

-- the places of the words before this number have these rows, and the others what they had
pub record AreDone {A : Type 0} (number : ℕ) (rows old new : ℕ → A) : Type 0 where
  pub done : (place : ℕ) → word_of place < number → new place ≡ rows place
  pub rest : (place : ℕ) → number ≤ word_of place → new place ≡ old place
