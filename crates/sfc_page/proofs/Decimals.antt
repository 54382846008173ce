-- Decimal digits, several at a time.
use Rattle.std.proofs.Common.{◌≡◌, ℕ, ◌<◌, ◌≤◌, ◌/◌, ◌%◌, [], ◌∷◌, ◌^◌, ◌++◌, ◌∙◌, ap, length, ◌+◌, append_assoc, arith}
use Rattle.std.specs.Fmt.{decimal}
use Rattle.std.proofs.lemmas.Fmt.{decimal_step, decimal_digit, length-decimal-le}
use Rattle.std.proofs.lemmas.List.{length-append}
use Rattle.sfc_base.specs.TimeText.{digit}

pub two_digits : (n : ℕ) → 10 ≤ n → n < 100 → decimal n ≡ digit (n / 10) ∷ digit (n % 10) ∷ []
two_digits n le lt =
    decimal_step n le (omega arith) ∙ ap (λ l. l ++ digit (n % 10) ∷ []) (decimal_digit (n / 10) (omega arith))

-- the digits of a number below a hundred and one more
three : (n hundreds tens ones : ℕ) → hundreds ≡ n / 10 / 10 → tens ≡ n / 10 % 10 → ones ≡ n % 10
    → digit (n / 10 / 10) ∷ digit (n / 10 % 10) ∷ digit (n % 10) ∷ [] ≡ digit hundreds ∷ digit tens ∷ digit ones ∷ []
three n hundreds tens ones h t o = cc

pub three_digits : (n : ℕ) → 100 ≤ n → n < 1000 → decimal n ≡ digit (n / 100) ∷ digit (n % 100 / 10) ∷ digit (n % 100 % 10) ∷ []
three_digits n le lt =
    decimal_step n (omega arith) (omega arith)
    ∙ ap (λ l. l ++ digit (n % 10) ∷ []) (two_digits (n / 10) (omega arith) (omega arith))
    ∙ three n (n / 100) (n % 100 / 10) (n % 100 % 10) (omega arith) (omega arith) (omega arith)

-- the last three digits
last_three : (n : ℕ) → 1000 ≤ n → n < 2 ^ 64
    → decimal n ≡ decimal (n / 10 / 10 / 10) ++ digit (n / 10 / 10 % 10) ∷ digit (n / 10 % 10) ∷ digit (n % 10) ∷ []
last_three n le fits =
    let front = decimal (n / 10 / 10 / 10) in
    let hundreds = digit (n / 10 / 10 % 10) in
    let tens = digit (n / 10 % 10) in
    let ones = digit (n % 10) in
    decimal_step n (omega arith) fits
    ∙ ap (λ l. l ++ ones ∷ []) (decimal_step (n / 10) (omega arith) (omega arith))
    ∙ ap (λ l. (l ++ tens ∷ []) ++ ones ∷ []) (decimal_step (n / 10 / 10) (omega arith) (omega arith))
    ∙ ap (λ l. l ++ ones ∷ []) (append_assoc front (hundreds ∷ []) (tens ∷ []))
    ∙ append_assoc front (hundreds ∷ tens ∷ []) (ones ∷ [])

same_parts : (n front hundreds tens ones : ℕ) → front ≡ n / 10 / 10 / 10 → hundreds ≡ n / 10 / 10 % 10 → tens ≡ n / 10 % 10 → ones ≡ n % 10
    → decimal (n / 10 / 10 / 10) ++ digit (n / 10 / 10 % 10) ∷ digit (n / 10 % 10) ∷ digit (n % 10) ∷ []
    ≡ decimal front ++ digit hundreds ∷ digit tens ∷ digit ones ∷ []
same_parts n front hundreds tens ones f h t o = cc

pub group : (n : ℕ) → 1000 ≤ n → n < 2 ^ 64 → decimal n
    ≡ decimal (n / 1000) ++ digit (n % 1000 / 100) ∷ digit (n % 1000 % 100 / 10) ∷ digit (n % 1000 % 100 % 10) ∷ []
group n le fits =
    last_three n le fits
    ∙ same_parts n (n / 1000) (n % 1000 / 100) (n % 1000 % 100 / 10) (n % 1000 % 100 % 10) (omega arith) (omega arith) (omega arith) (omega arith)

-- how many digits that makes
pub group_length : (n : ℕ) → 1000 ≤ n → n < 2 ^ 64 → length (decimal n) ≡ length (decimal (n / 1000)) + 3
group_length n le fits =
    ap length (group n le fits)
    ∙ length-append (decimal (n / 1000)) (digit (n % 1000 / 100) ∷ digit (n % 1000 % 100 / 10) ∷ digit (n % 1000 % 100 % 10) ∷ [])

pub most_digits : (n : ℕ) → n < 2 ^ 64 → length (decimal n) ≤ 20
most_digits n fits = length-decimal-le 20 n (omega arith) (omega arith) fits

pub nine_digits : (n : ℕ) → n < 1000000000 → length (decimal n) ≤ 9
nine_digits n lt = length-decimal-le 9 n (omega arith) (omega arith) (omega arith)
