-- A word that is one duration, by itself (B.1.2.3.1).
use Rattle.std.specs.Prelude.{ℕ, List, [], ◌∷◌, Bool, true, false, ◌==◌, if◌then◌else◌, ℤ, Option, Some, None}
use Rattle.std.specs.Option.{option_map}
use Rattle.sfc_tokens.specs.declared.literal.LiteralKind.{LiteralKind}
use Rattle.sfc_tokens.specs.declared.literal.LiteralKind.TheVariants.{Duration}
use Rattle.sfc_base.specs.declared.run.Alphabet.TheVariants.{Word}
use Rattle.sfc_base.specs.Private.Runs.{run}
use Rattle.sfc_tokens.specs.Literals.{kind_of_prefix, signed}
use Rattle.sfc_base.specs.Durations.{units}
use Rattle.sfc_tokens.specs.Lexing.Durations.{interval}

-- the parts behind `T#` and its sign
abbrev pub parts_value : Bool → List ℕ → Option ℤ
parts_value negative w = option_map (signed negative) (interval units w)

-- what stands behind `T#`: a minus or none, and the parts
abbrev pub signed_value : List ℕ → Option ℤ
signed_value [] = parts_value false []
signed_value (b ∷ w) = if b == 45 then parts_value true w else parts_value false (b ∷ w)

abbrev pub value_behind : Option LiteralKind → List ℕ → Option ℤ
value_behind (Some Duration) w = signed_value w
value_behind _ w = None

-- a word of letters in front, and what follows it
abbrev pub value_after : List ℕ → List ℕ → Option ℤ
value_after front [] = None
value_after front (b ∷ w) = if b == 35 then value_behind (kind_of_prefix front) w else None

-- the microseconds of a word that is one duration
unfoldable pub duration_value : List ℕ → Option ℤ
duration_value w = value_after (run Word w).0 (run Word w).1
