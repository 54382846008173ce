-- Integers (B.1.2.1): digits with single underscores between them.
use Rattle.std.specs.Prelude.{◌≡◌, ℕ, ◌+◌, ◌-◌, ◌*◌, nat_lt, List, [], ◌∷◌}
use Rattle.std.specs.Prelude.{◌++◌, Bool, true, false, if◌then◌else◌, Option, Some, None, codes}
use Rattle.sfc_base.specs.Classes.{between}

-- what a byte stands for as a digit, where that is below the base
abbrev pub below : ℕ → ℕ → Option ℕ
below base d = if nat_lt d base then Some d else None

abbrev pub digit_of : ℕ → ℕ → Option ℕ
digit_of base b =
    if between 48 57 b then below base (b - 48) else
    if between 65 70 b then below base (b - 55) else
    if between 97 102 b then below base (b - 87) else None

-- Digits base wanted n w m: w goes on behind the number n and makes it m; where a digit is wanted, w begins with one.
pub data Digits : ℕ → Bool → ℕ → List ℕ → ℕ → Type 0 where
  ended : {base n : ℕ} → Digits base false n [] n
  digit : {base n b d m : ℕ} {wanted : Bool} {w : List ℕ} → digit_of base b ≡ Some d → Digits base false (n * base + d) w m
      → Digits base wanted n (b ∷ w) m
  underscore : {base n m : ℕ} {w : List ℕ} → Digits base true n w m → Digits base false n (95 ∷ w) m

-- integer ::= digit {['_'] digit}
abbrev pub IsInteger : ℕ → List ℕ → ℕ → Type 0
IsInteger base w n = Digits base true 0 w n

-- based_integer ::= ('2' | '8' | '16') '#' integer
pub data IsBased : List ℕ → ℕ → Type 0 where
  binary : {w : List ℕ} {n : ℕ} → IsInteger 2 w n → IsBased (codes "2#" ++ w) n
  octal : {w : List ℕ} {n : ℕ} → IsInteger 8 w n → IsBased (codes "8#" ++ w) n
  hexadecimal : {w : List ℕ} {n : ℕ} → IsInteger 16 w n → IsBased (codes "16#" ++ w) n
