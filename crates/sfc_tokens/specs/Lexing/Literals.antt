-- Literals, as they are lexed.
use Rattle.std.specs.Prelude.{ℕ, ◌-◌, ◌^◌, List, Bool, false, Option, Some, None}
use Rattle.sfc_tokens.specs.declared.literal.LiteralKind.{LiteralKind}
use Rattle.sfc_tokens.specs.declared.literal.LiteralKind.TheVariants.{Number, Int, Dint, Truth, Duration, Location}
use Rattle.sfc_tokens.specs.declared.token.TokenKind.{TokenKind}
use Rattle.sfc_tokens.specs.declared.token.TokenKind.TheVariants as token
use Rattle.sfc_tokens.specs.Lexing.Integers.{◌>>=◌, integer, base_at}
use Rattle.sfc_base.specs.Durations.{units}
use Rattle.sfc_tokens.specs.Lexing.Durations.{interval}
use Rattle.sfc_tokens.specs.Lexing.Locations.{location}
use Rattle.sfc_tokens.specs.Literals.{signed, truth_of}

-- the greatest integer literal
abbrev pub limit : ℕ
limit = 2 ^ 32 - 1

abbrev pub magnitude_at : Option (ℕ × List ℕ) → List ℕ → Option ℕ
magnitude_at (Some x) w = integer x.0 limit x.1
magnitude_at None w = integer 10 limit w

abbrev pub magnitude : List ℕ → Option ℕ
magnitude w = magnitude_at (base_at w) w

abbrev pub untyped_at : Option (ℕ × List ℕ) → List ℕ → Option TokenKind
untyped_at (Some x) w = integer x.0 limit x.1 >>= λ n. Some (token.Based n)
untyped_at None w = integer 10 limit w >>= λ n. Some (token.Integer n)

abbrev pub untyped : List ℕ → Option TokenKind
untyped w = untyped_at (base_at w) w

-- locations apart
unfoldable pub value_of : LiteralKind → Bool → List ℕ → Option TokenKind
value_of Number false w = untyped w
value_of Int negative w = magnitude w >>= λ n. Some (token.Int (signed negative n))
value_of Dint negative w = magnitude w >>= λ n. Some (token.Dint (signed negative n))
value_of Truth false w = truth_of w >>= λ b. Some (token.Truth b)
value_of Duration negative w = interval units w >>= λ v. Some (token.Duration (signed negative v))
value_of _ _ w = None

unfoldable pub literal : LiteralKind → Bool → List ℕ → Option TokenKind
literal Location false w = location w >>= λ located. Some (token.Location located)
literal kind negative w = value_of kind negative w
