-- What a block's past gives after one call more.
use Rattle.std.proofs.Common.{◌≡◌, Bool, true, false, List, [], ◌∷◌, ◌++◌, refl, sym, ◌∙◌, ap, ℤ, ◌-ℤ◌, int_le, Option, Some, None}
use Rattle.sfc_timers.specs.Timers.{Bistable, Reading, is_on, has_elapsed, instant_of}
use Rattle.sfc_timers.specs.Past.{on_delay_past, edge_past}

-- the past after a call, by the past before it
abbrev on_after : Bistable → Bool → Bool
on_after (s, true) on = false
on_after (true, false) on = true
on_after (false, false) on = on

is_on_after : (call : Bistable) (h : List Bistable) → is_on (call ∷ h) ≡ on_after call (is_on h)
is_on_after (s, true) h = refl
is_on_after (true, false) h = refl
is_on_after (false, false) h = refl

abbrev begun_after : Reading → Option (ℤ × ℤ) → Option (ℤ × ℤ)
begun_after (false, p, t) past = None
begun_after (true, p, t) (Some begun) = Some begun
begun_after (true, p, t) None = Some (p, t)

past_after : (call : Reading) (h : List Reading) → on_delay_past (call ∷ h) ≡ begun_after call (on_delay_past h)
past_after (false, p, t) h = refl
past_after (true, p, t) [] = refl
past_after (true, p, t) ((false, q, u) ∷ h) = refl
past_after (true, p, t) ((true, q, u) ∷ h) = refl

-- whether a run that began so has lasted at t
abbrev lasted_at : ℤ → Option (ℤ × ℤ) → Bool
lasted_at t None = false
lasted_at t (Some (p, u)) = int_le p (t -ℤ u)

elapsed_by : (call : Reading) (h : List Reading) → has_elapsed (call ∷ h) ≡ lasted_at (instant_of call) (on_delay_past (call ∷ h))
elapsed_by (false, p, t) h = refl
elapsed_by (true, p, t) h = refl

pub on_cut : (h g later : List Bistable) → is_on h ≡ is_on g → is_on (later ++ h) ≡ is_on (later ++ g)
on_cut h g [] e = e
on_cut h g (call ∷ later) e =
    is_on_after call (later ++ h) ∙ ap (on_after call) (on_cut h g later e) ∙ sym (is_on_after call (later ++ g))

pub past_cut : (h g later : List Reading) → on_delay_past h ≡ on_delay_past g
    → on_delay_past (later ++ h) ≡ on_delay_past (later ++ g)
past_cut h g [] e = e
past_cut h g (call ∷ later) e =
    past_after call (later ++ h) ∙ ap (begun_after call) (past_cut h g later e) ∙ sym (past_after call (later ++ g))

pub elapsed_cut : (call : Reading) (h g later : List Reading) → on_delay_past h ≡ on_delay_past g
    → has_elapsed (call ∷ later ++ h) ≡ has_elapsed (call ∷ later ++ g)
elapsed_cut call h g later e =
    elapsed_by call (later ++ h) ∙ ap (lasted_at (instant_of call)) (past_cut h g (call ∷ later) e)
    ∙ sym (elapsed_by call (later ++ g))

pub edge_cut : (h g later : List Bool) → edge_past h ≡ edge_past g → edge_past (later ++ h) ≡ edge_past (later ++ g)
edge_cut h g [] e = e
edge_cut h g (input ∷ later) e = refl
