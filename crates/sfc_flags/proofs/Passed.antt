-- How many places a pass over words stands for.
use Rattle.std.proofs.Common.{◌≡◌, ℕ, suc, ◌-◌, ◌/◌, ◌≤◌, ◌<◌, List, length, Option, None, Some, IfSome, arith}
use Rattle.sfc_flags.specs.Flags.{places_passed}
use Rattle.sfc_flags.specs.Private.Bits.{IsTable, IsNext, words_passed}

-- as many words as places at most
pub words_within : (n : ℕ) (words : List ℕ) → IsTable n words → length words ≤ n
words_within n words t = omega (arith, t.sized)

pub place_passed : (from i : ℕ) → from ≤ i → suc (i / 64) - from / 64 ≤ suc i - from
place_passed from i le = omega arith

none_passed : (n from : ℕ) (words : List ℕ) → IsTable n words → from < n → length words - from / 64 ≤ n - from
none_passed n from words t lt = omega (arith, t.sized)

-- a search passes no more words than places
pub passed : (n count from : ℕ) (words seen : List ℕ) (found : Option ℕ) → IsTable n words → seen ≡ words → count ≡ n → from < n
    → IfSome found (λ i. IsNext seen from i) → words_passed seen from found ≤ places_passed count from found
passed n count from words seen (Some i) t e p lt next = place_passed from i next.after
passed n count from words seen None t e p lt next = rw (e, p) (none_passed n from words t lt)
