-- Literals (2.2), by what stands in front of them.
use Rattle.std.specs.Prelude.{◌≡◌, ℕ, ℤ, pos, neg_ℤ, ◌<◌, ◌^◌, List, Bool, true, false, ◌||◌, if◌then◌else◌, Option, Some, None, codes}
use Rattle.sfc_tokens.specs.declared.literal.LiteralKind.{LiteralKind}
use Rattle.sfc_tokens.specs.declared.literal.LiteralKind.TheVariants.{Number, Int, Dint, Truth, Duration, Location}
use Rattle.sfc_events.specs.declared.read_error.ReadErrorKind.{ReadErrorKind}
use Rattle.sfc_events.specs.declared.read_error.ReadErrorKind.TheVariants as fault
use Rattle.sfc_base.specs.declared.run.Alphabet.{Alphabet}
use Rattle.sfc_base.specs.declared.run.Alphabet.TheVariants as alphabet
use Rattle.sfc_tokens.specs.declared.token.TokenKind.{TokenKind}
use Rattle.sfc_tokens.specs.declared.token.TokenKind.TheVariants as token
use Rattle.sfc_base.specs.declared.location.Location.{Location as LocationValue}
use Rattle.sfc_base.specs.Case.{same_word}
use Rattle.sfc_base.specs.Numbers.{IsInteger, IsBased}
use Rattle.sfc_base.specs.Durations.{IsInterval}
use Rattle.sfc_base.specs.Locations.{IsLocation}

-- T and TIME, INT, DINT, BOOL, in any case
unfoldable pub kind_of_prefix : List ℕ → Option LiteralKind
kind_of_prefix w =
    if same_word w (codes "T") || same_word w (codes "TIME") then Some Duration else
    if same_word w (codes "INT") then Some Int else
    if same_word w (codes "DINT") then Some Dint else
    if same_word w (codes "BOOL") then Some Truth else None

-- the bytes that belong to a literal behind its prefix and its sign
abbrev pub alphabet_of : LiteralKind → Alphabet
alphabet_of Number = alphabet.Number
alphabet_of Int = alphabet.Number
alphabet_of Dint = alphabet.Number
alphabet_of Truth = alphabet.Number
alphabet_of Duration = alphabet.Interval
alphabet_of Location = alphabet.Location

-- what is wrong where they are no such literal
abbrev pub fault_of : LiteralKind → ReadErrorKind
fault_of Number = fault.BadNumber
fault_of Int = fault.BadNumber
fault_of Dint = fault.BadNumber
fault_of Truth = fault.BadToken
fault_of Duration = fault.BadDuration
fault_of Location = fault.BadToken

-- the value with its sign
abbrev pub signed : Bool → ℕ → ℤ
signed true n = neg_ℤ (pos n)
signed false n = pos n

-- an integer of 32 bits, with a base or without one
pub data Magnitude : List ℕ → ℕ → Type 0 where
  decimal : {w : List ℕ} {n : ℕ} → IsInteger 10 w n → n < 2 ^ 32 → Magnitude w n
  based : {w : List ℕ} {n : ℕ} → IsBased w n → n < 2 ^ 32 → Magnitude w n

-- 0, FALSE, 1, TRUE
abbrev pub truth_of : List ℕ → Option Bool
truth_of w =
    if same_word w (codes "0") || same_word w (codes "FALSE") then Some false else
    if same_word w (codes "1") || same_word w (codes "TRUE") then Some true else None

-- IsLiteral kind negative w t: behind the prefix of the kind, w is the token t; a minus stands before it where it is negative.
pub data IsLiteral : LiteralKind → Bool → List ℕ → TokenKind → Type 0 where
  integer : {w : List ℕ} {n : ℕ} → IsInteger 10 w n → n < 2 ^ 32 → IsLiteral Number false w (token.Integer n)
  based : {w : List ℕ} {n : ℕ} → IsBased w n → n < 2 ^ 32 → IsLiteral Number false w (token.Based n)
  int : {negative : Bool} {w : List ℕ} {n : ℕ} → Magnitude w n → IsLiteral Int negative w (token.Int (signed negative n))
  dint : {negative : Bool} {w : List ℕ} {n : ℕ} → Magnitude w n → IsLiteral Dint negative w (token.Dint (signed negative n))
  truth : {w : List ℕ} {b : Bool} → truth_of w ≡ Some b → IsLiteral Truth false w (token.Truth b)
  duration : {negative : Bool} {w : List ℕ} {v : ℕ} → IsInterval w v → IsLiteral Duration negative w (token.Duration (signed negative v))
  location : {w : List ℕ} {located : LocationValue} → IsLocation w located → IsLiteral Location false w (token.Location located)
