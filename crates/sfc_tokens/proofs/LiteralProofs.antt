-- Literals are what stands behind their prefix.
use Rattle.std.proofs.Common.{◌≡◌, ℕ, Bool, true, false, List, Option, Some, None, refl, subst}
use Rattle.sfc_tokens.specs.declared.literal.LiteralKind.{LiteralKind}
use Rattle.sfc_tokens.specs.declared.literal.LiteralKind.TheVariants.{Number, Int, Dint, Truth, Duration, Location}
use Rattle.sfc_tokens.specs.declared.token.TokenKind.{TokenKind}
use Rattle.sfc_tokens.specs.declared.token.TokenKind.TheVariants as token
use Rattle.sfc_tokens.specs.Lexing.Integers.{◌>>=◌, integer, base_at}
use Rattle.sfc_base.specs.Durations.{units}
use Rattle.sfc_tokens.specs.Lexing.Durations.{interval}
use Rattle.sfc_tokens.specs.Lexing.Locations.{location}
use Rattle.sfc_tokens.specs.Literals as literals
use Rattle.sfc_tokens.specs.Literals.{signed, truth_of, IsLiteral}
use Rattle.sfc_tokens.specs.Lexing.Literals.{limit, magnitude, untyped_at, value_of, literal}
use Rattle.sfc_tokens.proofs.Digits.{bind_some, based_sound, decimal_sound, decimal_again, integer_base, based_again, magnitude_sound, magnitude_again}
use Rattle.sfc_tokens.proofs.Parts.{interval_sound}
use Rattle.sfc_tokens.proofs.WholeIntervals.{duration_again}
use Rattle.sfc_tokens.proofs.LocationProofs.{location_sound, location_again}

untyped_by : (o : Option (ℕ × List ℕ)) (w : List ℕ) (t : TokenKind) → base_at w ≡ o → untyped_at o w ≡ Some t → IsLiteral Number false w t
untyped_by None w t e f =
    let s = bind_some (integer 10 limit w) (λ n. Some (token.Integer n)) t f in
    let d = decimal_sound w s.0 s.1 in
    let same : token.Integer s.0 ≡ t = cc in
    subst (λ x. IsLiteral Number false w x) same (literals.integer d.integer d.fits)
untyped_by (Some x) w t e f =
    let s = bind_some (integer x.0 limit x.1) (λ n. Some (token.Based n)) t f in
    let d = based_sound w x s.0 e s.1 in
    let same : token.Based s.0 ≡ t = cc in
    subst (λ y. IsLiteral Number false w y) same (literals.based d.based d.fits)

int_sound : (negative : Bool) (w : List ℕ) (t : TokenKind) → (magnitude w >>= λ n. Some (token.Int (signed negative n))) ≡ Some t → IsLiteral Int negative w t
int_sound negative w t e =
    let s = bind_some (magnitude w) (λ n. Some (token.Int (signed negative n))) t e in
    let same : token.Int (signed negative s.0) ≡ t = cc in
    subst (λ y. IsLiteral Int negative w y) same (literals.int (magnitude_sound w s.0 s.1))

dint_sound : (negative : Bool) (w : List ℕ) (t : TokenKind) → (magnitude w >>= λ n. Some (token.Dint (signed negative n))) ≡ Some t → IsLiteral Dint negative w t
dint_sound negative w t e =
    let s = bind_some (magnitude w) (λ n. Some (token.Dint (signed negative n))) t e in
    let same : token.Dint (signed negative s.0) ≡ t = cc in
    subst (λ y. IsLiteral Dint negative w y) same (literals.dint (magnitude_sound w s.0 s.1))

truth_sound : (w : List ℕ) (t : TokenKind) → (truth_of w >>= λ b. Some (token.Truth b)) ≡ Some t → IsLiteral Truth false w t
truth_sound w t e =
    let s = bind_some (truth_of w) (λ b. Some (token.Truth b)) t e in
    let same : token.Truth s.0 ≡ t = cc in
    subst (λ y. IsLiteral Truth false w y) same (literals.truth s.1)

duration_sound : (negative : Bool) (w : List ℕ) (t : TokenKind) → (interval units w >>= λ v. Some (token.Duration (signed negative v))) ≡ Some t → IsLiteral Duration negative w t
duration_sound negative w t e =
    let s = bind_some (interval units w) (λ v. Some (token.Duration (signed negative v))) t e in
    let same : token.Duration (signed negative s.0) ≡ t = cc in
    subst (λ y. IsLiteral Duration negative w y) same (literals.duration (interval_sound w s.0 s.1))

place_sound : (w : List ℕ) (t : TokenKind) → (location w >>= λ l. Some (token.Location l)) ≡ Some t → IsLiteral Location false w t
place_sound w t e =
    let s = bind_some (location w) (λ l. Some (token.Location l)) t e in
    let same : token.Location s.0 ≡ t = cc in
    subst (λ y. IsLiteral Location false w y) same (literals.location (location_sound w s.0 s.1))

pub literal_sound : (k : LiteralKind) (negative : Bool) (w : List ℕ) (t : TokenKind) → literal k negative w ≡ Some t → IsLiteral k negative w t
unfolding literal value_of
literal_sound Number false w t e = untyped_by (base_at w) w t refl e
literal_sound Number true w t e = absurd cc
literal_sound Int negative w t e = int_sound negative w t e
literal_sound Dint negative w t e = dint_sound negative w t e
literal_sound Truth false w t e = truth_sound w t e
literal_sound Truth true w t e = absurd cc
literal_sound Duration negative w t e = duration_sound negative w t e
literal_sound Location false w t e = place_sound w t e
literal_sound Location true w t e = absurd cc

pub literal_again : {k : LiteralKind} {negative : Bool} {w : List ℕ} {t : TokenKind} → IsLiteral k negative w t → literal k negative w ≡ Some t
unfolding literal value_of
literal_again (literals.integer {w = w} {n = n} i lt) = let e = integer_base w n i in let d = decimal_again w n i lt in rw (e, d) refl
literal_again (literals.based {w = w} {n = n} i lt) = let b = based_again w n i lt in let e = b.found in let d = b.value in rw (e, d) refl
literal_again (literals.int m) = let e = magnitude_again m in rw e refl
literal_again (literals.dint m) = let e = magnitude_again m in rw e refl
literal_again (literals.truth e) = rw e refl
literal_again (literals.duration {w = w} {v = v} i) = let e = duration_again w v i in rw e refl
literal_again (literals.location i) = let e = location_again i in rw e refl
