-- How many breakpoints are set, and where.
use Rattle.std.proofs.Common.{◌≡◌, ℕ, suc, ◌<◌, ◌≤◌, true, cond, List, [], ◌∷◌, length, take, drop, All, arith, refl, rules}
use Rattle.std.proofs.Common.{Option, Some, None, ℤ}
use Rattle.std.specs.Prelude.{IsOk, not, nat_lt, is_none}
use Rattle.std.proofs.lemmas.Bool.{ltb-true}
use Rattle.std.proofs.lemmas.List.{length-append, length-set, length-take, length-drop}
use Rattle.std.proofs.lemmas.List.Elements.{All-append, All-set, All-take, All-drop, All-nil, All-cons}
use Rattle.sfc_base.specs.declared.ids.ProgId.{ProgId}
use Rattle.sfc_plant.specs.Plants.{PlantData}
use Rattle.sfc_events.specs.declared.command.Command.{Command}
use Rattle.sfc_events.specs.declared.command.Command.TheVariants as commands
use Rattle.sfc_events.specs.declared.command.CondId.{CondId}
use Rattle.sfc_events.specs.declared.command.Point.{Point}
use Rattle.sfc_events.specs.declared.refusal.Refusal.TheVariants.{TooManyPoints, NoSuchPoint}
use Rattle.sfc_core.specs.Verdict.{refused_if, or_then, program_refusal}
use Rattle.sfc_debug.specs.declared.break_condition.BreakCondition.{BreakCondition}
use Rattle.sfc_debug.specs.declared.breakpoint.Breakpoint.{Breakpoint}
use Rattle.sfc_debug.specs.Histories.{CommandHistory}
use Rattle.sfc_debug.specs.Meaning.{IsAccepted, stands_in}
use Rattle.sfc_debug.specs.Points.{has_point, place_of, put_at, with_breakpoint, without_place, points_after}
use Rattle.sfc_debug.specs.States.{state_of}
use Rattle.sfc_debug.specs.Verdict.{verdict, own_refusal, point_refusal, condition_refusal, room_refusal}
use Rattle.sfc_debug.proofs.Accepting.{neither, not_refused, own_granted, by_itself}

-- ---- lists of breakpoints

-- at most 64, each at a point of the plant
pub record Fits (plant : PlantData) (set : List Breakpoint) : Type 0 where
  pub count : length set ≤ 64
  pub points : All (λ b. stands_in plant b ≡ true) set

put : (plant : PlantData) (place : Option ℕ) (b : Breakpoint) (set : List Breakpoint) → stands_in plant b ≡ true →
    (place ≡ None → length set < 64) → Fits plant set → Fits plant (put_at place b set)
put plant None b set stands room fits =
    let less = room refl in
    record {
      count = omega (arith, length-append set (b ∷ []));
      points =
          All-append (λ x. stands_in plant x ≡ true) set (b ∷ []) fits.points
          (All-cons (λ x. stands_in plant x ≡ true) b [] stands (All-nil (λ x. stands_in plant x ≡ true)));
    }
put plant (Some k) b set stands room fits =
    let most = fits.count in
    record {
      count = omega (arith, length-set set k b);
      points = All-set (λ x. stands_in plant x ≡ true) set k b stands fits.points;
    }

taken_out : (plant : PlantData) (place : Option ℕ) (set : List Breakpoint) → Fits plant set → Fits plant (without_place place set)
taken_out plant None set fits = fits
taken_out plant (Some k) set fits =
    let most = fits.count in
    record {
      count =
          omega (arith, length-append (take k set) (drop (suc k) set), length-take k set, length-drop (suc k) set);
      points =
          All-append (λ x. stands_in plant x ≡ true) (take k set) (drop (suc k) set)
          (All-take (λ x. stands_in plant x ≡ true) k set fits.points)
          (All-drop (λ x. stands_in plant x ≡ true) (suc k) set fits.points);
    }

-- ---- commands

below : (n : ℕ) → refused_if (not (nat_lt n 64)) TooManyPoints ≡ None → n < 64
below n e = ltb-true n 64 (not_refused (nat_lt n 64) TooManyPoints e)

room_by : (place : Option ℕ) (n : ℕ) → cond (is_none place) (refused_if (not (nat_lt n 64)) TooManyPoints) None ≡ None →
    place ≡ None → n < 64
room_by None n e none = below n e
room_by (Some k) n e none = search rules

has : (plant : PlantData) (p : ProgId) (point : Point) → point_refusal plant p point ≡ None → has_point plant p point ≡ true
has plant p point e =
    not_refused (has_point plant p point) NoSuchPoint
    (neither (program_refusal plant p) (refused_if (not (has_point plant p point)) NoSuchPoint) e).1

broken : (plant : PlantData) (p : ProgId) (point : Point) (condition : Option CondId) (set : List Breakpoint) →
    point_refusal plant p point ≡ None → room_refusal p point set ≡ None → Fits plant set →
    Fits plant (with_breakpoint (record { program = p; point = point; condition = condition }) set)
broken plant p point condition set there room fits =
    put plant (place_of p point set) (record { program = p; point = point; condition = condition }) set (has plant p point there)
    (room_by (place_of p point set) (length set) room) fits

one_more : (plant : PlantData) (table : List BreakCondition) (h : CommandHistory) (command : Command) (raw : ℤ) →
    IsOk (verdict plant table h command raw) → Fits plant (state_of plant table h).points →
    Fits plant (points_after command (state_of plant table h).points)
one_more plant table h (commands.Break p point) raw ok fits =
    let set = (state_of plant table h).points in
    let given = by_itself plant table h (commands.Break p point) raw ok in
    let granted = own_granted (own_refusal plant table set (commands.Break p point)) _ given in
    let both = neither (point_refusal plant p point) (room_refusal p point set) granted in
    broken plant p point None set both.0 both.1 fits
one_more plant table h (commands.BreakIf p point id) raw ok fits =
    let set = (state_of plant table h).points in
    let given = by_itself plant table h (commands.BreakIf p point id) raw ok in
    let granted = own_granted (own_refusal plant table set (commands.BreakIf p point id)) _ given in
    let both = neither (point_refusal plant p point) (or_then (condition_refusal table p id) (room_refusal p point set)) granted in
    broken plant p point (Some id) set both.0 (neither (condition_refusal table p id) (room_refusal p point set) both.1).1 fits
one_more plant table h (commands.Unbreak p point) raw ok fits =
    taken_out plant (place_of p point (state_of plant table h).points) (state_of plant table h).points fits
one_more plant table h (commands.Scan task) raw ok fits = fits
one_more plant table h (commands.Single task delta) raw ok fits = fits
one_more plant table h (commands.Input id v) raw ok fits = fits
one_more plant table h (commands.Force id v) raw ok fits = fits
one_more plant table h (commands.Release id) raw ok fits = fits
one_more plant table h (commands.Reset p) raw ok fits = fits
one_more plant table h (commands.Read id) raw ok fits = fits
one_more plant table h commands.Stop raw ok fits = fits
one_more plant table h commands.Go raw ok fits = fits
one_more plant table h commands.End raw ok fits = fits
one_more plant table h commands.Epoch raw ok fits = fits

pub fits : (plant : PlantData) (table : List BreakCondition) (h : CommandHistory) → IsAccepted plant table h →
    Fits plant (state_of plant table h).points
unfolding state_of
fits plant table [] accepted = record { count = omega arith; points = All-nil (λ x. stands_in plant x ≡ true) }
fits plant table (timed ∷ h) accepted = one_more plant table h timed.0 timed.1 accepted.0 (fits plant table h accepted.1)
