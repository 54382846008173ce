-- The instant of the latest event is a number of 64 bits.
use Rattle.std.proofs.Common.{◌≤ℤ◌, ◌^◌, pos, negsuc, ℤ, rules, w64, SFits}

pub fits : (t : ℤ) → negsuc 0 ≤ℤ t → t ≤ℤ pos (2 ^ 62) → SFits w64 t
fits t low high = search rules
