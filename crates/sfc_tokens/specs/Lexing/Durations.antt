-- Durations, part by part.
use Rattle.std.specs.Prelude.{ℕ, ◌+◌, ◌*◌, ◌/◌, ◌%◌, List, [], ◌∷◌, Bool, true, false, ◌==◌, ◌&&◌, is_some, if◌then◌else◌, Option, Some, None}
use Rattle.sfc_base.specs.declared.unit.Unit.{Unit}
use Rattle.sfc_base.specs.declared.run.Alphabet.TheVariants as alphabet
use Rattle.sfc_base.specs.Case.{same_word}
use Rattle.sfc_base.specs.Numbers.{digit_of}
use Rattle.sfc_tokens.specs.Lexing.Integers.{◌>>=◌, at_most, integer}
use Rattle.sfc_base.specs.Private.Runs.{run}
use Rattle.sfc_base.specs.Durations.{micros_of, spelling_of, greatest}

-- digits with single underscores between them
unfoldable pub are_digits : Bool → List ℕ → Bool
are_digits true [] = false
are_digits false [] = true
are_digits true (b ∷ w) = is_some (digit_of 10 b) && are_digits false w
are_digits false (b ∷ w) = if b == 95 then are_digits true w else is_some (digit_of 10 b) && are_digits false w

abbrev pub exact_tenth : ℕ → Option ℕ
exact_tenth n = if n % 10 == 0 then Some (n / 10) else None

-- one more digit in front of the digits that are v microseconds
abbrev pub tenth_more : ℕ → ℕ → ℕ → Option ℕ
tenth_more unit b v = if b == 95 then Some v else digit_of 10 b >>= λ d. exact_tenth (v + d * unit)

-- what the digits w are, where v is what stands behind them
unfoldable pub tenths : ℕ → ℕ → List ℕ → Option ℕ
tenths unit v [] = Some v
tenths unit v (b ∷ w) = tenths unit v w >>= λ x. tenth_more unit b x

abbrev pub fraction : ℕ → List ℕ → Option ℕ
fraction unit w = if are_digits true w then tenths unit 0 w else None

-- the number of a part, its fraction, its unit, and what follows
abbrev pub Split : Type 0
Split = List ℕ × List ℕ × List ℕ × List ℕ

abbrev pub split_unit : List ℕ → List ℕ → List ℕ × List ℕ → Split
split_unit number fraction r = (number, fraction, r.0, r.1)

abbrev pub split_fraction : List ℕ → List ℕ × List ℕ → Split
split_fraction number r = split_unit number r.0 (run alphabet.Letters r.1)

abbrev pub split_number : List ℕ × List ℕ → Split
split_number r = split_fraction r.0 (run alphabet.Fraction r.1)

unfoldable pub split_part : List ℕ → Split
split_part w = split_number (run alphabet.Figures w)

-- the number of a part, in microseconds
abbrev pub whole : Unit → List ℕ → Option ℕ
whole u w = integer 10 (greatest / micros_of u) w >>= λ n. Some (n * micros_of u)

-- behind a part an underscore may stand
abbrev pub unspaced : List ℕ → List ℕ
unspaced [] = []
unspaced (b ∷ w) = if b == 95 then w else b ∷ w

abbrev pub point : Unit → List ℕ → List ℕ → Option ℕ
point u (b ∷ w) [] = if b == 46 then fraction (micros_of u) w else None
point u _ _ = None

-- what stands behind the number: nothing, a fraction, or further parts
abbrev pub behind : Unit → List ℕ → List ℕ → (List ℕ → Option ℕ) → Option ℕ
behind u [] [] further = Some 0
behind u [] (b ∷ rest) further = further (unspaced (b ∷ rest))
behind u (b ∷ f) rest further = point u (b ∷ f) rest

abbrev pub part : Unit → Split → (List ℕ → Option ℕ) → Option ℕ
part u s further = whole u s.0 >>= λ n. behind u s.1 s.3 further >>= λ v. at_most greatest (n + v)

abbrev pub is_unit : Unit → List ℕ → Bool
is_unit u w = same_word w (spelling_of u)

-- the greatest of these units that is spelled so, and the smaller ones
unfoldable pub unit_among : List Unit → List ℕ → Option (Unit × List Unit)
unit_among [] w = None
unit_among (u ∷ us) w = if is_unit u w then Some (u, us) else unit_among us w

unfoldable pub interval : List Unit → List ℕ → Option ℕ
interval [] w = None
interval (u ∷ us) w = if is_unit u (split_part w).2 then part u (split_part w) (interval us) else interval us w
