-- Numbers with a sign.
use Rattle.std.proofs.Common.{◌≡◌, ℤ, pos, negsuc, ◌<ℤ◌, ◌≤ℤ◌, unsigned_abs, ◌++◌, codes, refl, rules}
use Rattle.std.specs.Fmt.{decimal, signed_decimal}

pub other_text : (z : ℤ) → pos 0 ≤ℤ z → signed_decimal z ≡ decimal (unsigned_abs z)
other_text (pos n) le = refl
other_text (negsuc n) le = search rules

pub negative_text : (z : ℤ) → z <ℤ pos 0 → signed_decimal z ≡ codes "-" ++ decimal (unsigned_abs z)
negative_text (pos n) lt = search rules
negative_text (negsuc n) lt = refl
