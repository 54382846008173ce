use Rattle.std.proofs.Common.{◌≡◌, ◌∙◌, ℕ, ◌+◌, ℤ, ◌∷◌, Ok, Err, ap, sym, subst, length, w64, SFits, to_z-of_z, arith}
use Rattle.std.proofs.lemmas.Result.{err_from_is_err_and}
use Rattle.sfc_events.specs.Commands.{event_of}
use Rattle.sfc_core.specs.Agreement as core
use Rattle.sfc_core.specs.Verdict.{or_then}
use Rattle.sfc_events.specs.declared.command.TraceRow.{TraceRow}
use Rattle.sfc_debug.specs.Agreement.{Agrees, Keeps, Traces, plant_of, table_of, mask_of}
use Rattle.sfc_debug.specs.Points.{points_after}
use Rattle.sfc_debug.specs.Private.Newest.{KeepsNewest}
use Rattle.sfc_debug.specs.Private.Ranges.{granted}
use Rattle.sfc_debug.specs.RunClock.{run_instant}
use Rattle.sfc_debug.specs.States.{state_of, clock_after, hits, with_event, after_command}
use Rattle.sfc_debug.specs.Tracing.{with_row}
use Rattle.sfc_debug.specs.Verdict.{verdict, verdict_at, end_refusal, clock_refusal}
use Rattle.sfc_debug.proofs.Instants as instants
use Rattle.sfc_debug.proofs.Commands.{refused, goes_on, instant_is, kept_state, over, told_hit}
use Rattle.sfc_debug.proofs.debugger.Debugger.command.Goals as goal

pub returns-in_err-t-clause-answer : goal.returns-in_err-t-clause-answer
unfolding Agrees plant_of table_of verdict
returns-in_err-t-clause-answer c h a =
    let f = err_from_is_err_and c.from_residual.result c.from_residual.ensures.1 in
    let s = c.args.self.now in
    let fits : SFits w64 c.args.raw = c.ranges.raw in
    let command = c.args.command in
    let raw = c.args.raw in
    let plant = plant_of s in
    let table = table_of s in
    let state = state_of plant table h in
    let t = run_instant s.clock command raw in
    let refusal = or_then (end_refusal s.clock.mode s.accepted) (clock_refusal s.clock command raw) in
    let why = c.in_err-t.field-0.0 in
    let is : Err why ≡ granted refusal t = sym c.in_err-t.was ∙ simp (to_z-of_z, fits) at c.at.ensures.value in
    f.1 ∙ ap Err f.2
    ∙ refused refusal t (verdict_at plant table (kept_state s state.events) command t (event_of command)) why is
    ∙ over plant table s state (length h) command raw a

pub returns-in_err-answer-clause-answer : goal.returns-in_err-answer-clause-answer
unfolding Agrees plant_of table_of verdict
returns-in_err-answer-clause-answer c h a =
    let f = err_from_is_err_and c.from_residual-in_err-answer.result c.from_residual-in_err-answer.ensures.1 in
    let s = c.args.self.now in
    let fits : SFits w64 c.args.raw = c.ranges.raw in
    let command = c.args.command in
    let raw = c.args.raw in
    let plant = plant_of s in
    let table = table_of s in
    let state = state_of plant table h in
    let t = run_instant s.clock command raw in
    let refusal = or_then (end_refusal s.clock.mode s.accepted) (clock_refusal s.clock command raw) in
    let is : Ok c.in_ok-t.t ≡ granted refusal t = sym c.in_ok-t.was ∙ simp (to_z-of_z, fits) at c.at.ensures.value in
    let same = instant_is refusal t c.in_ok-t.t is in
    let t_fits : SFits w64 c.in_ok-t.t = instants.fits c.in_ok-t.t c.in_ok-t.ensures.low c.in_ok-t.ensures.high in
    let given : c.answer.result ≡ verdict_at plant table (kept_state s state.events) command t (event_of command) =
    simp (to_z-of_z, t_fits) at (c.answer.ensures.answer state.events a.resource)
    ∙ (λ i. verdict_at plant table (kept_state s state.events) command (same i) (event_of command)) in
    f.1 ∙ ap Err f.2 ∙ sym c.in_err-answer.was ∙ given
    ∙ goes_on refusal t c.in_ok-t.t (verdict_at plant table (kept_state s state.events) command t (event_of command)) is
    ∙ over plant table s state (length h) command raw a

pub returns-clause-answer : goal.returns-clause-answer
unfolding Agrees plant_of table_of verdict
returns-clause-answer c h a =
    let s = c.args.self.now in
    let fits : SFits w64 c.args.raw = c.ranges.raw in
    let command = c.args.command in
    let raw = c.args.raw in
    let plant = plant_of s in
    let table = table_of s in
    let state = state_of plant table h in
    let t = run_instant s.clock command raw in
    let refusal = or_then (end_refusal s.clock.mode s.accepted) (clock_refusal s.clock command raw) in
    let is : Ok c.in_ok-t.t ≡ granted refusal t = sym c.in_ok-t.was ∙ simp (to_z-of_z, fits) at c.at.ensures.value in
    let same = instant_is refusal t c.in_ok-t.t is in
    let t_fits : SFits w64 c.in_ok-t.t = instants.fits c.in_ok-t.t c.in_ok-t.ensures.low c.in_ok-t.ensures.high in
    let given : c.answer.result ≡ verdict_at plant table (kept_state s state.events) command t (event_of command) =
    simp (to_z-of_z, t_fits) at (c.answer.ensures.answer state.events a.resource)
    ∙ (λ i. verdict_at plant table (kept_state s state.events) command (same i) (event_of command)) in
    sym c.in_ok-answer.was ∙ given
    ∙ goes_on refusal t c.in_ok-t.t (verdict_at plant table (kept_state s state.events) command t (event_of command)) is
    ∙ over plant table s state (length h) command raw a

pub returns-clause-ok : goal.returns-clause-ok
unfolding Agrees plant_of table_of state_of
returns-clause-ok c h a =
    let s = c.args.self.now in
    let new = c.keep.new.self in
    let fits : SFits w64 c.args.raw = c.ranges.raw in
    let command = c.args.command in
    let raw = c.args.raw in
    let plant = plant_of s in
    let table = table_of s in
    let state = state_of plant table h in
    let t = run_instant s.clock command raw in
    let refusal = or_then (end_refusal s.clock.mode s.accepted) (clock_refusal s.clock command raw) in
    let is : Ok c.in_ok-t.t ≡ granted refusal t = sym c.in_ok-t.was ∙ simp (to_z-of_z, fits) at c.at.ensures.value in
    let same = instant_is refusal t c.in_ok-t.t is in
    let t_fits : SFits w64 c.in_ok-t.t = instants.fits c.in_ok-t.t c.in_ok-t.ensures.low c.in_ok-t.ensures.high in
    let given : c.answer.result ≡ verdict_at plant table (kept_state s state.events) command t (event_of command) =
    simp (to_z-of_z, t_fits) at (c.answer.ensures.answer state.events a.resource)
    ∙ (λ i. verdict_at plant table (kept_state s state.events) command (same i) (event_of command)) in
    let hit = told_hit plant table (kept_state s state.events) command t c.in_ok-answer.answer (sym c.in_ok-answer.was ∙ given) in
    let clock : new.clock ≡ clock_after command raw t (hits plant table command t s.points state.events) s.clock =
    simp (to_z-of_z, fits, t_fits) at c.keep.ensures.clock
    ∙ (λ i. clock_after command raw (same i) (hit i) (c.answer.ensures.clock i)) in
    let there : core.Agrees new.resource (with_event (event_of command) t state.events) =
    subst (λ r. core.Agrees r (with_event (event_of command) t state.events)) (sym c.keep.ensures.resource)
    (subst (λ x. core.Agrees c.answer.new.self.resource (with_event (event_of command) x state.events)) same
    (simp (to_z-of_z, t_fits) at (c.in_ok-answer.ensures.ok state.events a.resource))) in
    let next : length h + 1 ≡ length ((command, raw) ∷ h) = omega arith in
    let kept : Keeps new (after_command plant table command raw state) (length ((command, raw) ∷ h)) = record {
      clock =
          clock
          ∙ (λ i. clock_after command raw (run_instant (a.clock i) command raw)
          (hits plant table command (run_instant (a.clock i) command raw) (a.points i) state.events) (a.clock i));
      points = c.keep.ensures.points ∙ ap (points_after command) (c.answer.ensures.points ∙ a.points);
      accepted = c.keep.ensures.accepted ∙ ap (λ n. n + 1) (c.answer.ensures.accepted ∙ a.accepted) ∙ next;
      resource =
          subst (λ x. core.Agrees new.resource (with_event (event_of command) (run_instant x command raw) state.events)) a.clock there;
    } in
    subst (λ p. Keeps new (state_of p (table_of new) ((command, raw) ∷ h)) (length ((command, raw) ∷ h)))
    (sym (ap core.plant_of c.keep.ensures.resource ∙ c.answer.ensures.plant))
    (subst (λ q. Keeps new (state_of plant q ((command, raw) ∷ h)) (length ((command, raw) ∷ h)))
    (sym (ap (λ v. v.items) (c.keep.ensures.conditions ∙ c.answer.ensures.conditions))) kept)

pub returns-clause-traces : goal.returns-clause-traces
unfolding Agrees plant_of table_of mask_of Traces
returns-clause-traces c h rows a traced =
    let s = c.args.self.now in
    let new = c.keep.new.self in
    let fits : SFits w64 c.args.raw = c.ranges.raw in
    let command = c.args.command in
    let raw = c.args.raw in
    let state = state_of (plant_of s) (table_of s) h in
    let t = run_instant s.clock command raw in
    let refusal = or_then (end_refusal s.clock.mode s.accepted) (clock_refusal s.clock command raw) in
    let is : Ok c.in_ok-t.t ≡ granted refusal t = sym c.in_ok-t.was ∙ simp (to_z-of_z, fits) at c.at.ensures.value in
    let same = instant_is refusal t c.in_ok-t.t is ∙ ap (λ x. run_instant x command raw) a.clock in
    let t_fits : SFits w64 c.in_ok-t.t = instants.fits c.in_ok-t.t c.in_ok-t.ensures.low c.in_ok-t.ensures.high in
    let count = c.answer.ensures.accepted ∙ a.accepted in
    let row : ℕ → ℤ → TraceRow =
    λ n at. record { number = n + 1; raw = raw; t = at; command = command; answer = c.in_ok-answer.answer } in
    let kept =
    simp (to_z-of_z, fits, t_fits)
    at (c.keep.ensures.trace rows (subst (λ tr. KeepsNewest tr rows) (sym c.answer.ensures.trace) traced)) in
    subst (λ x. x)
    (λ i. KeepsNewest new.trace (with_row (c.answer.ensures.trace i).mask (row (count i) (same i)) rows))
    kept
