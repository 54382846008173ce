-- Texts that are given to a caller's buffer.
use Rattle.std.specs.Prelude.{◌≡◌, ℕ, ◌<◌, ◌≤◌, List, ◌++◌, length, drop, ℤ, pos, negsuc, Ok, Err}
use Rattle.sfc_tools.specs.Codes.{code_of}
use Rattle.sfc_tools.specs.Told.{Answer}

-- the caller's array is too short
abbrev pub too_short : ℤ
too_short = negsuc 5

-- its length is told; the buffer begins with it, where it is long enough, and else nothing is written
pub record GivesText (text old new : List ℕ) (needed : ℕ) (result : ℤ) : Type 0 where
  pub told : needed ≡ length text
  pub fits : length text ≤ length old → (result ≡ pos 0) × (new ≡ text ++ drop (length text) old)
  pub short : length old < length text → (result ≡ too_short) × (new ≡ old)

-- a text that there is, or the code that tells why there is none; then nothing is written
abbrev pub Gives : Answer → List ℕ → List ℕ → ℕ → ℤ → Type 0
Gives (Ok text) old new needed result = GivesText text.items old new needed result
Gives (Err error) old new needed result = (result ≡ code_of error) × (new ≡ old) × (needed ≡ 0)

-- an answer of which this holds is given so
abbrev pub GivesWhat : (Answer → Type 0) → List ℕ → List ℕ → ℕ → ℤ → Type 0
GivesWhat Told old new needed result = (answer : Answer) × Told answer × Gives answer old new needed result
