use Rattle.std.proofs.Common.{rules, arith, ◌≡◌, ◌≤◌, ◌-◌, ◌∷◌, Ok, Err, sym, ◌∙◌, subst, SFits, w64, to_z-of_z, length}
use Rattle.std.proofs.Math.Logic.{∥∥₁_map}
use Rattle.rtrb.specs.Ring.{sent, known_free}
use Rattle.sfc_plant.specs.Plants.{PlantData}
use Rattle.sfc_events.specs.declared.command.TraceRow.{TraceRow}
use Rattle.sfc_debug.specs.declared.trace_mask.TraceMask.{TraceMask}
use Rattle.sfc_debug.specs.Agreement.{Agrees, plant_of, table_of, mask_of}
use Rattle.sfc_debug.specs.Histories.{CommandHistory}
use Rattle.sfc_debug.specs.Openings.{IsOpeningFor}
use Rattle.sfc_debug.specs.States.{state_of}
use Rattle.sfc_debug.specs.Verdict.{verdict}
use Rattle.sfc_debug.specs.Work.{command_work}
use Rattle.sfc_control.specs.declared.entry.Entry.{Entry}
use Rattle.sfc_control.specs.Histories.{whole, first_of, limit_of}
use Rattle.sfc_control.specs.LegalHistory.{commands_of}
use Rattle.sfc_control.specs.Publishing.{Publishes}
use Rattle.sfc_control.proofs.Applying.{answered_as, within_here, index_is, instant_is, row_is, legal_kept, agrees_kept, opened_kept, rows_stay, rise_stays}
use Rattle.sfc_control.proofs.FeedRows.{next_number}
use Rattle.sfc_control.proofs.Legal.{here, Verdict-set}
use Rattle.sfc_control.proofs.book.Book.apply.Goals as goal

pub tell-requires-clause-some : goal.tell-requires-clause-some
tell-requires-clause-some c =
    let b = c.args.self.now in
    ∥∥₁_map b.agrees (λ a. (commands_of (whole b.history), a))

pub returns-in-Err-clause-answer : goal.returns-in-Err-clause-answer
returns-in-Err-clause-answer c =
    let b = c.args.self.now in
    let fits : SFits w64 c.args.raw = c.ranges.raw in
    let es = whole b.history in
    let is = here Verdict-set b.debugger es (λ h. verdict (plant_of b.debugger) (table_of b.debugger) h c.args.command c.args.raw) (Err c.in-Err.refusal) b.agrees
    (λ h a. simp (to_z-of_z, fits) at (c.in-Err.ensures.answer h a)) in
    answered_as (plant_of b.debugger) (table_of b.debugger) (limit_of b.history) es c.args.seat c.args.command c.args.raw (Err c.in-Err.refusal)
    (sym c.bar.ensures ∙ c.in_default.is) is

pub returns-in-Err-clause-ticks : goal.returns-in-Err-clause-ticks
returns-in-Err-clause-ticks c =
    let b = c.args.self.now in
    within_here b.debugger (whole b.history)
    (λ h. command_work (plant_of b.debugger) (table_of b.debugger) (state_of (plant_of b.debugger) (table_of b.debugger) h).points c.args.command)
    c.args.ticks.now c.tell.new.ticks b.agrees (λ h a. c.in-Err.ensures.ticks h a)

pub push-requires-clause-index : goal.push-requires-clause-index
push-requires-clause-index c =
    let b = c.args.self.now in
    let fits : SFits w64 c.args.raw = c.ranges.raw in
    let goes : (h : CommandHistory) → Agrees b.debugger h → Agrees c.tell.new.debugger ((c.args.command, c.args.raw) ∷ h) =
    λ h a. simp (to_z-of_z, fits) at (c.in-Ok.ensures.ok h a) in
    index_is b.debugger c.tell.new.debugger (whole b.history) c.args.command c.args.raw b.agrees goes c.accepted-index.result (λ h a. c.accepted-index.ensures h a)

pub publish-requires : goal.publish-requires
publish-requires c =
    let b = c.args.self.now in
    let fits : SFits w64 c.args.raw = c.ranges.raw in
    let es = whole b.history in
    let goes : (h : CommandHistory) → Agrees b.debugger h → Agrees c.tell.new.debugger ((c.args.command, c.args.raw) ∷ h) =
    λ h a. simp (to_z-of_z, fits) at (c.in-Ok.ensures.ok h a) in
    let index = index_is b.debugger c.tell.new.debugger es c.args.command c.args.raw b.agrees goes c.accepted-index.result (λ h a. c.accepted-index.ensures h a) in
    let entry : Entry = record { seat = c.args.seat; command = c.args.command; raw = c.args.raw; answer = c.in-Ok.answer } in
    next_number (plant_of b.debugger) (table_of b.debugger) (mask_of b.debugger) es entry (sent b.feed) c.accepted-index.result index b.rows

pub invariant_of-self-2-clause-legal : goal.invariant_of-self-2-clause-legal
invariant_of-self-2-clause-legal c =
    let b = c.args.self.now in
    let fits : SFits w64 c.args.raw = c.ranges.raw in
    let es = whole b.history in
    let goes : (h : CommandHistory) → Agrees b.debugger h → Agrees c.tell.new.debugger ((c.args.command, c.args.raw) ∷ h) =
    λ h a. simp (to_z-of_z, fits) at (c.in-Ok.ensures.ok h a) in
    let is = here Verdict-set b.debugger es (λ h. verdict (plant_of b.debugger) (table_of b.debugger) h c.args.command c.args.raw) (Ok c.in-Ok.answer) b.agrees
    (λ h a. simp (to_z-of_z, fits) at (c.in-Ok.ensures.answer h a)) in
    legal_kept b.debugger c.tell.new.debugger es c.args.command c.args.raw b.agrees goes c.args.seat c.in-Ok.answer (whole c.push.new.self)
    (simp (to_z-of_z, fits) at c.push.ensures.whole) c.in-Ok.ensures.plant c.in-Ok.ensures.table b.legal is

pub invariant_of-self-2-clause-agrees : goal.invariant_of-self-2-clause-agrees
invariant_of-self-2-clause-agrees c =
    let b = c.args.self.now in
    let fits : SFits w64 c.args.raw = c.ranges.raw in
    let es = whole b.history in
    let goes : (h : CommandHistory) → Agrees b.debugger h → Agrees c.tell.new.debugger ((c.args.command, c.args.raw) ∷ h) =
    λ h a. simp (to_z-of_z, fits) at (c.in-Ok.ensures.ok h a) in
    agrees_kept b.debugger c.tell.new.debugger es c.args.command c.args.raw b.agrees goes c.args.seat c.in-Ok.answer (whole c.push.new.self)
    (simp (to_z-of_z, fits) at c.push.ensures.whole) c.in-Ok.ensures.plant c.in-Ok.ensures.table

pub invariant_of-self-2-clause-fits : goal.invariant_of-self-2-clause-fits
invariant_of-self-2-clause-fits c =
    subst (λ (p : PlantData). IsOpeningFor p c.tell.new.opening) (sym c.in-Ok.ensures.plant) c.in-Ok.ensures.sizes

pub invariant_of-self-2-clause-opened : goal.invariant_of-self-2-clause-opened
invariant_of-self-2-clause-opened c =
    let b = c.args.self.now in
    let fits : SFits w64 c.args.raw = c.ranges.raw in
    let es = whole b.history in
    let goes : (h : CommandHistory) → Agrees b.debugger h → Agrees c.tell.new.debugger ((c.args.command, c.args.raw) ∷ h) =
    λ h a. simp (to_z-of_z, fits) at (c.in-Ok.ensures.ok h a) in
    let index = index_is b.debugger c.tell.new.debugger es c.args.command c.args.raw b.agrees goes c.accepted-index.result (λ h a. c.accepted-index.ensures h a) in
    let low : first_of b.history - 1 ≤ length es = omega (arith, b.history.placed) in
    opened_kept b.debugger c.tell.new.debugger es c.args.command c.args.raw b.agrees goes c.args.seat c.in-Ok.answer (whole c.push.new.self)
    (simp (to_z-of_z, fits) at c.push.ensures.whole) c.in-Ok.ensures.plant c.in-Ok.ensures.table (first_of b.history) (first_of c.push.new.self)
    c.accepted-index.result b.opening c.tell.new.opening low c.push.ensures.first index b.opened (λ h a. c.in-Ok.ensures.saved h a)

pub invariant_of-self-2-clause-rows : goal.invariant_of-self-2-clause-rows
invariant_of-self-2-clause-rows c =
    let b = c.args.self.now in
    let fits : SFits w64 c.args.raw = c.ranges.raw in
    let t_fits : SFits w64 c.run_instant.result = search rules in
    let es = whole b.history in
    let goes : (h : CommandHistory) → Agrees b.debugger h → Agrees c.tell.new.debugger ((c.args.command, c.args.raw) ∷ h) =
    λ h a. simp (to_z-of_z, fits) at (c.in-Ok.ensures.ok h a) in
    let index = index_is b.debugger c.tell.new.debugger es c.args.command c.args.raw b.agrees goes c.accepted-index.result (λ h a. c.accepted-index.ensures h a) in
    let instant = instant_is b.debugger c.tell.new.debugger es c.args.command c.args.raw b.agrees goes c.run_instant.result c.in-Ok.ensures.plant c.in-Ok.ensures.table (λ h a. c.run_instant.ensures h a) in
    let row = row_is b.debugger c.tell.new.debugger es c.args.command c.args.raw b.agrees goes c.accepted-index.result c.run_instant.result c.in-Ok.answer index instant in
    let mask = c.mask.ensures ∙ c.in-Ok.ensures.mask in
    let said = subst (λ (r : TraceRow). Publishes (mask_of b.debugger) r b.feed c.publish.new.feed) row
    (subst (λ (m : TraceMask). Publishes m (record { number = c.accepted-index.result; raw = c.args.raw; t = c.run_instant.result; command = c.args.command; answer = c.in-Ok.answer }) b.feed c.publish.new.feed) mask (simp (to_z-of_z, fits, t_fits) at c.publish.ensures.row)) in
    rows_stay b.debugger c.tell.new.debugger es c.args.command c.args.raw b.agrees goes c.args.seat c.in-Ok.answer (whole c.push.new.self)
    (simp (to_z-of_z, fits) at c.push.ensures.whole) c.in-Ok.ensures.plant c.in-Ok.ensures.table (mask_of b.debugger) (mask_of c.tell.new.debugger) c.in-Ok.ensures.mask
    (sent b.feed) (sent c.publish.new.feed) (known_free c.publish.new.feed ≡ 0) said b.rows

pub invariant_of-self-2-clause-rising : goal.invariant_of-self-2-clause-rising
invariant_of-self-2-clause-rising c =
    let b = c.args.self.now in
    let fits : SFits w64 c.args.raw = c.ranges.raw in
    let t_fits : SFits w64 c.run_instant.result = search rules in
    let es = whole b.history in
    let goes : (h : CommandHistory) → Agrees b.debugger h → Agrees c.tell.new.debugger ((c.args.command, c.args.raw) ∷ h) =
    λ h a. simp (to_z-of_z, fits) at (c.in-Ok.ensures.ok h a) in
    let index = index_is b.debugger c.tell.new.debugger es c.args.command c.args.raw b.agrees goes c.accepted-index.result (λ h a. c.accepted-index.ensures h a) in
    let instant = instant_is b.debugger c.tell.new.debugger es c.args.command c.args.raw b.agrees goes c.run_instant.result c.in-Ok.ensures.plant c.in-Ok.ensures.table (λ h a. c.run_instant.ensures h a) in
    let row = row_is b.debugger c.tell.new.debugger es c.args.command c.args.raw b.agrees goes c.accepted-index.result c.run_instant.result c.in-Ok.answer index instant in
    let mask = c.mask.ensures ∙ c.in-Ok.ensures.mask in
    let said = subst (λ (r : TraceRow). Publishes (mask_of b.debugger) r b.feed c.publish.new.feed) row
    (subst (λ (m : TraceMask). Publishes m (record { number = c.accepted-index.result; raw = c.args.raw; t = c.run_instant.result; command = c.args.command; answer = c.in-Ok.answer }) b.feed c.publish.new.feed) mask (simp (to_z-of_z, fits, t_fits) at c.publish.ensures.row)) in
    rise_stays b.debugger c.tell.new.debugger es c.args.command c.args.raw b.agrees goes c.args.seat c.in-Ok.answer (whole c.push.new.self)
    (simp (to_z-of_z, fits) at c.push.ensures.whole) c.in-Ok.ensures.plant c.in-Ok.ensures.table (mask_of b.debugger) (mask_of c.tell.new.debugger) c.in-Ok.ensures.mask
    (sent b.feed) (sent c.publish.new.feed) (known_free c.publish.new.feed ≡ 0) said b.rows b.rising

pub returns-clause-answer : goal.returns-clause-answer
returns-clause-answer c =
    let b = c.args.self.now in
    let fits : SFits w64 c.args.raw = c.ranges.raw in
    let es = whole b.history in
    let goes : (h : CommandHistory) → Agrees b.debugger h → Agrees c.tell.new.debugger ((c.args.command, c.args.raw) ∷ h) =
    λ h a. simp (to_z-of_z, fits) at (c.in-Ok.ensures.ok h a) in
    let index = index_is b.debugger c.tell.new.debugger es c.args.command c.args.raw b.agrees goes c.accepted-index.result (λ h a. c.accepted-index.ensures h a) in
    let is = here Verdict-set b.debugger es (λ h. verdict (plant_of b.debugger) (table_of b.debugger) h c.args.command c.args.raw) (Ok c.in-Ok.answer) b.agrees
    (λ h a. simp (to_z-of_z, fits) at (c.in-Ok.ensures.answer h a)) in
    let e = answered_as (plant_of b.debugger) (table_of b.debugger) (limit_of b.history) es c.args.seat c.args.command c.args.raw (Ok c.in-Ok.answer)
    (sym c.bar.ensures ∙ c.in_default.is) is in
    rw (to_z-of_z, index) e

pub returns-clause-index : goal.returns-clause-index
returns-clause-index c =
    let b = c.args.self.now in
    let fits : SFits w64 c.args.raw = c.ranges.raw in
    let goes : (h : CommandHistory) → Agrees b.debugger h → Agrees c.tell.new.debugger ((c.args.command, c.args.raw) ∷ h) =
    λ h a. simp (to_z-of_z, fits) at (c.in-Ok.ensures.ok h a) in
    index_is b.debugger c.tell.new.debugger (whole b.history) c.args.command c.args.raw b.agrees goes c.accepted-index.result (λ h a. c.accepted-index.ensures h a)

pub returns-clause-row : goal.returns-clause-row
returns-clause-row c =
    let b = c.args.self.now in
    let fits : SFits w64 c.args.raw = c.ranges.raw in
    let t_fits : SFits w64 c.run_instant.result = search rules in
    let es = whole b.history in
    let goes : (h : CommandHistory) → Agrees b.debugger h → Agrees c.tell.new.debugger ((c.args.command, c.args.raw) ∷ h) =
    λ h a. simp (to_z-of_z, fits) at (c.in-Ok.ensures.ok h a) in
    let index = index_is b.debugger c.tell.new.debugger es c.args.command c.args.raw b.agrees goes c.accepted-index.result (λ h a. c.accepted-index.ensures h a) in
    let instant = instant_is b.debugger c.tell.new.debugger es c.args.command c.args.raw b.agrees goes c.run_instant.result c.in-Ok.ensures.plant c.in-Ok.ensures.table (λ h a. c.run_instant.ensures h a) in
    let row = row_is b.debugger c.tell.new.debugger es c.args.command c.args.raw b.agrees goes c.accepted-index.result c.run_instant.result c.in-Ok.answer index instant in
    let mask = c.mask.ensures ∙ c.in-Ok.ensures.mask in
    subst (λ (r : TraceRow). Publishes (mask_of b.debugger) r b.feed c.publish.new.feed) row
    (subst (λ (m : TraceMask). Publishes m (record { number = c.accepted-index.result; raw = c.args.raw; t = c.run_instant.result; command = c.args.command; answer = c.in-Ok.answer }) b.feed c.publish.new.feed) mask (simp (to_z-of_z, fits, t_fits) at c.publish.ensures.row))

pub returns-clause-ticks : goal.returns-clause-ticks
returns-clause-ticks c =
    let b = c.args.self.now in
    within_here b.debugger (whole b.history)
    (λ h. command_work (plant_of b.debugger) (table_of b.debugger) (state_of (plant_of b.debugger) (table_of b.debugger) h).points c.args.command)
    c.args.ticks.now c.tell.new.ticks b.agrees (λ h a. c.in-Ok.ensures.ticks h a)
