-- The breakpoint at a point is the one that was set there last.
use Rattle.std.proofs.Common.{◌≡◌, ◌∙◌, ℕ, suc, ◌+◌, ◌==◌, Bool, true, false, cond, ◌&&◌, List, [], ◌∷◌, arith, refl, rules, sym, ap}
use Rattle.std.proofs.Common.{subst}
use Rattle.std.proofs.Common.{Option, Some, None}
use Rattle.std.specs.Prelude.{⊤}
use Rattle.std.proofs.lemmas.Bool.{eqb-true, eq-eqb}
use Rattle.sfc_base.specs.declared.ids.ProgId.{ProgId}
use Rattle.sfc_plant.specs.Plants.{PlantData}
use Rattle.sfc_events.specs.declared.command.Command.{Command}
use Rattle.sfc_events.specs.declared.command.Command.TheVariants as commands
use Rattle.sfc_events.specs.declared.command.Point.{Point}
use Rattle.sfc_events.specs.declared.command.Point.TheVariants.{Step, Transition, Action}
use Rattle.sfc_debug.specs.declared.break_condition.BreakCondition.{BreakCondition}
use Rattle.sfc_debug.specs.declared.breakpoint.Breakpoint.{Breakpoint}
use Rattle.sfc_debug.specs.Histories.{CommandHistory}
use Rattle.sfc_debug.specs.Meaning.{breakpoint_at, is_same, is_of_point, set_by, latest_at}
use Rattle.sfc_debug.specs.Points.{is_point, is_at, place_from, place_of, put_at, with_breakpoint, without_place, without, points_after}
use Rattle.sfc_debug.specs.States.{state_of}

-- ---- points

both : (a b : Bool) → (a && b) ≡ true → (a ≡ true) × (b ≡ true)
both true true e = (refl, refl)
both true false e = search rules
both false b e = search rules

point_is : (a b : Point) → is_point a b ≡ true → a ≡ b
point_is (Step s) (Step other) e = let n = eqb-true s.0 other.0 e in λ i. Step (record { 0 = n i })
point_is (Transition tr) (Transition other) e = let n = eqb-true tr.0 other.0 e in λ i. Transition (record { 0 = n i })
point_is (Action a) (Action other) e = let n = eqb-true a.0 other.0 e in λ i. Action (record { 0 = n i })
point_is (Step s) (Transition other) e = search rules
point_is (Step s) (Action other) e = search rules
point_is (Transition tr) (Step other) e = search rules
point_is (Transition tr) (Action other) e = search rules
point_is (Action a) (Step other) e = search rules
point_is (Action a) (Transition other) e = search rules

itself : (a : Point) → is_point a a ≡ true
itself (Step s) = eq-eqb s.0 s.0 refl
itself (Transition tr) = eq-eqb tr.0 tr.0 refl
itself (Action a) = eq-eqb a.0 a.0 refl

program_is : (p q : ProgId) → (q.0 == p.0) ≡ true → q ≡ p
program_is p q e = let n = eqb-true q.0 p.0 e in λ i. record { 0 = n i }

same_is : (p : ProgId) (point : Point) (q : ProgId) (other : Point) → is_same p point q other ≡ true → (q ≡ p) × (other ≡ point)
same_is p point q other e =
    let parts = both (q.0 == p.0) (is_point other point) e in
    (program_is p q parts.0, point_is other point parts.1)

is_itself : (p : ProgId) (point : Point) → is_same p point p point ≡ true
is_itself p point = ap (λ b. b && is_point point point) (eq-eqb p.0 p.0 refl) ∙ itself point

-- the other way round
turned : (p : ProgId) (point : Point) (q : ProgId) (other : Point) → is_same p point q other ≡ is_same q other p point
turned p point q other = by (is_same p point q other) (is_same q other p point) refl refl
  where
    by : (a b : Bool) → is_same p point q other ≡ a → is_same q other p point ≡ b → is_same p point q other ≡ is_same q other p point
    by true b e f =
        let is = same_is p point q other e in
        (λ i. is_same p point (is.0 i) (is.1 i)) ∙ is_itself p point ∙ sym (is_itself p point)
        ∙ sym (λ i. is_same (is.0 i) (is.1 i) p point)
    by false true e f =
        let is = same_is q other p point f in
        (λ i. is_same (is.0 i) (is.1 i) q other) ∙ is_itself q other ∙ sym (is_itself q other)
        ∙ sym (λ i. is_same q other (is.0 i) (is.1 i))
    by false false e f = e ∙ sym f

-- what stands at one point stands at the other exactly where both are the same
moved : (p : ProgId) (point : Point) (q : ProgId) (other : Point) (x : Breakpoint) → is_at q other x ≡ true →
    is_at p point x ≡ is_same p point q other
moved p point q other x e =
    let is = same_is q other x.program x.point e in
    λ i. is_same p point (is.0 i) (is.1 i)

-- ---- the same by recursion

abbrev put_in : Breakpoint → List Breakpoint → List Breakpoint
put_in b [] = b ∷ []
put_in b (x ∷ set) = cond (is_at b.program b.point x) (b ∷ set) (x ∷ put_in b set)

abbrev taken_out : ProgId → Point → List Breakpoint → List Breakpoint
taken_out p point [] = []
taken_out p point (x ∷ set) = cond (is_at p point x) set (x ∷ taken_out p point set)

abbrev one_on : Option ℕ → Option ℕ
one_on None = None
one_on (Some k) = Some (suc k)

behind : (p : ProgId) (point : Point) (set : List Breakpoint) (k : ℕ) → place_from (suc k) p point set ≡ one_on (place_from k p point set)
behind p point [] k = refl
behind p point (x ∷ set) k = by (is_at p point x) (behind p point set (k + 1))
  where
    by : (b : Bool) → place_from (suc (k + 1)) p point set ≡ one_on (place_from (k + 1) p point set) →
        cond b (Some (suc k)) (place_from (suc k + 1) p point set) ≡ one_on (cond b (Some k) (place_from (k + 1) p point set))
    by true rest = refl
    by false rest = let e : suc k + 1 ≡ suc (k + 1) = omega arith in ap (λ n. place_from n p point set) e ∙ rest

put_behind : (place : Option ℕ) (b x : Breakpoint) (set : List Breakpoint) → put_at (one_on place) b (x ∷ set) ≡ x ∷ put_at place b set
put_behind None b x set = refl
put_behind (Some k) b x set = refl

put_is : (b : Breakpoint) (set : List Breakpoint) → with_breakpoint b set ≡ put_in b set
put_is b [] = refl
put_is b (x ∷ set) = by (is_at b.program b.point x) (put_is b set)
  where
    by : (e : Bool) → with_breakpoint b set ≡ put_in b set →
        put_at (cond e (Some 0) (place_from 1 b.program b.point set)) b (x ∷ set) ≡ cond e (b ∷ set) (x ∷ put_in b set)
    by true same = refl
    by false same =
        ap (λ place. put_at place b (x ∷ set)) (behind b.program b.point set 0)
        ∙ put_behind (place_of b.program b.point set) b x set ∙ ap (λ rest. x ∷ rest) same

out_behind : (place : Option ℕ) (x : Breakpoint) (set : List Breakpoint) →
    without_place (one_on place) (x ∷ set) ≡ x ∷ without_place place set
out_behind None x set = refl
out_behind (Some k) x set = refl

out_is : (p : ProgId) (point : Point) (set : List Breakpoint) → without p point set ≡ taken_out p point set
out_is p point [] = refl
out_is p point (x ∷ set) = by (is_at p point x) (out_is p point set)
  where
    by : (e : Bool) → without p point set ≡ taken_out p point set →
        without_place (cond e (Some 0) (place_from 1 p point set)) (x ∷ set) ≡ cond e set (x ∷ taken_out p point set)
    by true same = refl
    by false same =
        ap (λ place. without_place place (x ∷ set)) (behind p point set 0)
        ∙ out_behind (place_of p point set) x set ∙ ap (λ rest. x ∷ rest) same

-- ---- one at each point

abbrev AreApart : List Breakpoint → Type 0
AreApart [] = ⊤
AreApart (b ∷ set) = (breakpoint_at b.program b.point set ≡ None) × AreApart set

-- two choices in the other order
exchanged : (a b : Bool) (x y z : Option Breakpoint) → (a ≡ true → b ≡ true → x ≡ y) → cond a x (cond b y z) ≡ cond b y (cond a x z)
exchanged true true x y z same = same refl refl
exchanged true false x y z same = refl
exchanged false true x y z same = refl
exchanged false false x y z same = refl

-- the second choice says nothing more
once : (a b : Bool) (x y z : Option Breakpoint) → b ≡ a → cond a x z ≡ cond a x (cond b y z)
once true b x y z e = refl
once false true x y z e = search rules
once false false x y z e = refl

-- two at one point
clash : (p : ProgId) (point : Point) (q : ProgId) (other : Point) (x : Breakpoint) → is_at q other x ≡ false → is_at p point x ≡ true →
    is_same p point q other ≡ true → ⊥
clash p point q other x away here same =
    let is = same_is p point q other same in
    let e : is_at q other x ≡ true = (λ i. is_at (is.0 i) (is.1 i) x) ∙ here in
    differ (sym e ∙ away)
  where
    differ : true ≡ false → ⊥
    differ e = search rules

at_put : (p : ProgId) (point : Point) (b : Breakpoint) (set : List Breakpoint) →
    breakpoint_at p point (put_in b set) ≡ cond (is_at p point b) (Some b) (breakpoint_at p point set)
at_put p point b [] = refl
at_put p point b (x ∷ set) = by (is_at b.program b.point x) refl (at_put p point b set)
  where
    by : (e : Bool) → is_at b.program b.point x ≡ e →
        breakpoint_at p point (put_in b set) ≡ cond (is_at p point b) (Some b) (breakpoint_at p point set) →
        breakpoint_at p point (cond e (b ∷ set) (x ∷ put_in b set))
        ≡ cond (is_at p point b) (Some b) (cond (is_at p point x) (Some x) (breakpoint_at p point set))
    by true is same =
        once (is_at p point b) (is_at p point x) (Some b) (Some x) (breakpoint_at p point set)
        (moved p point b.program b.point x is)
    by false is same =
        ap (λ rest. cond (is_at p point x) (Some x) rest) same
        ∙ exchanged (is_at p point x) (is_at p point b) (Some x) (Some b) (breakpoint_at p point set)
        (λ here both_there. absurd (clash p point b.program b.point x is here both_there))

abbrev no_breakpoint : Option Breakpoint
no_breakpoint = None

none_twice : (b : Bool) → cond b no_breakpoint no_breakpoint ≡ no_breakpoint
none_twice true = refl
none_twice false = refl

gone : (a b : Bool) (x z : Option Breakpoint) → b ≡ a → (a ≡ true → z ≡ None) → z ≡ cond a None (cond b x z)
gone true b x z e none = none refl
gone false true x z e none = search rules
gone false false x z e none = refl

at_out : (p : ProgId) (point : Point) (q : ProgId) (other : Point) (set : List Breakpoint) → AreApart set →
    breakpoint_at p point (taken_out q other set) ≡ cond (is_same p point q other) None (breakpoint_at p point set)
at_out p point q other [] apart = sym (none_twice (is_same p point q other))
at_out p point q other (x ∷ set) apart = by (is_at q other x) refl (at_out p point q other set apart.1)
  where
    by : (e : Bool) → is_at q other x ≡ e →
        breakpoint_at p point (taken_out q other set) ≡ cond (is_same p point q other) None (breakpoint_at p point set) →
        breakpoint_at p point (cond e set (x ∷ taken_out q other set))
        ≡ cond (is_same p point q other) None (cond (is_at p point x) (Some x) (breakpoint_at p point set))
    by true is rest =
        let here = same_is q other x.program x.point is in
        gone (is_same p point q other) (is_at p point x) (Some x) (breakpoint_at p point set) (moved p point q other x is)
        (λ same.
        let there = same_is p point q other same in
        sym (λ i. breakpoint_at ((here.0 ∙ there.0) i) ((here.1 ∙ there.1) i) set) ∙ apart.0)
    by false is rest =
        ap (cond (is_at p point x) (Some x)) rest
        ∙ exchanged (is_at p point x) (is_same p point q other) (Some x) None (breakpoint_at p point set)
        (λ here same. absurd (clash p point q other x is here same))

put_apart : (b : Breakpoint) (set : List Breakpoint) → AreApart set → AreApart (put_in b set)
put_apart b [] apart = (refl, tt)
put_apart b (x ∷ set) apart = by (is_at b.program b.point x) refl (put_apart b set apart.1)
  where
    by : (e : Bool) → is_at b.program b.point x ≡ e → AreApart (put_in b set) → AreApart (cond e (b ∷ set) (x ∷ put_in b set))
    by true is rest =
        let here = same_is b.program b.point x.program x.point is in
        (sym (λ i. breakpoint_at (here.0 i) (here.1 i) set) ∙ apart.0, apart.1)
    by false is rest = (
      at_put x.program x.point b set
          ∙ ap (λ e. cond e (Some b) (breakpoint_at x.program x.point set)) (turned x.program x.point b.program b.point ∙ is) ∙ apart.0,
      rest,
    )

out_apart : (q : ProgId) (other : Point) (set : List Breakpoint) → AreApart set → AreApart (taken_out q other set)
out_apart q other [] apart = tt
out_apart q other (x ∷ set) apart = by (is_at q other x) (out_apart q other set apart.1)
  where
    by : (e : Bool) → AreApart (taken_out q other set) → AreApart (cond e set (x ∷ taken_out q other set))
    by true rest = apart.1
    by false rest = (
      at_out x.program x.point q other set apart.1 ∙ ap (cond (is_same x.program x.point q other) no_breakpoint) apart.0
          ∙ none_twice (is_same x.program x.point q other),
      rest,
    )

-- ---- commands

set_apart : (command : Command) (set : List Breakpoint) → AreApart set → AreApart (points_after command set)
set_apart (commands.Break p point) set apart =
    let b : Breakpoint = record { program = p; point = point; condition = None } in
    subst AreApart (sym (put_is b set)) (put_apart b set apart)
set_apart (commands.BreakIf p point id) set apart =
    let b : Breakpoint = record { program = p; point = point; condition = Some id } in
    subst AreApart (sym (put_is b set)) (put_apart b set apart)
set_apart (commands.Unbreak p point) set apart = subst AreApart (sym (out_is p point set)) (out_apart p point set apart)
set_apart (commands.Scan task) set apart = apart
set_apart (commands.Single task delta) set apart = apart
set_apart (commands.Input id v) set apart = apart
set_apart (commands.Force id v) set apart = apart
set_apart (commands.Release id) set apart = apart
set_apart (commands.Reset p) set apart = apart
set_apart (commands.Read id) set apart = apart
set_apart commands.Stop set apart = apart
set_apart commands.Go set apart = apart
set_apart commands.End set apart = apart
set_apart commands.Epoch set apart = apart

set_at : (p : ProgId) (point : Point) (command : Command) (set : List Breakpoint) → AreApart set →
    breakpoint_at p point (points_after command set) ≡ cond (is_of_point p point command) (set_by command) (breakpoint_at p point set)
set_at p point (commands.Break q other) set apart =
    let b : Breakpoint = record { program = q; point = other; condition = None } in
    ap (breakpoint_at p point) (put_is b set) ∙ at_put p point b set
set_at p point (commands.BreakIf q other id) set apart =
    let b : Breakpoint = record { program = q; point = other; condition = Some id } in
    ap (breakpoint_at p point) (put_is b set) ∙ at_put p point b set
set_at p point (commands.Unbreak q other) set apart = ap (breakpoint_at p point) (out_is q other set) ∙ at_out p point q other set apart
set_at p point (commands.Scan task) set apart = refl
set_at p point (commands.Single task delta) set apart = refl
set_at p point (commands.Input id v) set apart = refl
set_at p point (commands.Force id v) set apart = refl
set_at p point (commands.Release id) set apart = refl
set_at p point (commands.Reset q) set apart = refl
set_at p point (commands.Read id) set apart = refl
set_at p point commands.Stop set apart = refl
set_at p point commands.Go set apart = refl
set_at p point commands.End set apart = refl
set_at p point commands.Epoch set apart = refl

all_apart : (plant : PlantData) (table : List BreakCondition) (h : CommandHistory) → AreApart (state_of plant table h).points
unfolding state_of
all_apart plant table [] = tt
all_apart plant table (timed ∷ h) = set_apart timed.0 (state_of plant table h).points (all_apart plant table h)

pub latest : (plant : PlantData) (table : List BreakCondition) (h : CommandHistory) (p : ProgId) (point : Point) →
    breakpoint_at p point (state_of plant table h).points ≡ latest_at p point h
unfolding state_of
latest plant table [] p point = refl
latest plant table (timed ∷ h) p point =
    set_at p point timed.0 (state_of plant table h).points (all_apart plant table h)
    ∙ ap (cond (is_of_point p point timed.0) (set_by timed.0)) (latest plant table h p point)
