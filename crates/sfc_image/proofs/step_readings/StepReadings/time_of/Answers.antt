use Rattle.std.proofs.Common.{◌≡◌, ◌-ℤ◌, pos, cond, Bool, sym, ap, ◌∙◌, arith, length, slice_index_or, to_z, of_z, w64}
use Rattle.std.proofs.lemmas.Int.{to_z-of_z}
use Rattle.std.proofs.lemmas.List.{get_or_past}
use Rattle.std.proofs.lemmas.List.FromFn.{length-map-range_with_len, get_or-map-range_with_len}
use Rattle.sfc_image.specs.StepTimes.{time_at, times_of}
use Rattle.sfc_image.proofs.step_readings.StepReadings.time_of.Goals as goal

pub returns-then-s-count : goal.returns-then-s-count
returns-then-s-count c =
    let steps = c.args.self.now in
    let n = length steps.active.now in
    sym (get_or_past (times_of steps) c.args.step.0 (pos 0)
    (omega (arith, length-map-range_with_len (time_at steps) 0 n, c.if-s-count.true, c.count.ensures)))

pub returns-then-get : goal.returns-then-get
returns-then-get c =
    let steps = c.args.self.now in
    let s = c.args.step.0 in
    let n = length steps.active.now in
    let there : slice_index_or (times_of steps) s (pos 0) ≡ time_at steps s =
    get_or-map-range_with_len (time_at steps) 0 n s s (pos 0) (omega (arith, c.if-s-count.false, c.count.ensures)) (omega arith) in
    let at : to_z w64 (of_z w64 steps.at) ≡ steps.at = to_z-of_z w64 steps.at (record { sfits = omega (arith, steps.low, steps.high) }) in
    let instant = steps.instants s in
    let since : to_z w64 (of_z w64 (slice_index_or steps.since.now s (pos 0))) ≡ slice_index_or steps.since.now s (pos 0) =
    to_z-of_z w64 (slice_index_or steps.since.now s (pos 0)) (record { sfits = omega (arith, instant.0, instant.1) }) in
    to_z-of_z w64 c.time_since.result (record { sfits = c.time_since.type_inv })
    ∙ c.time_since.ensures
    ∙ (λ i. at i -ℤ since i)
    ∙ ap (λ (b : Bool). cond b (steps.at -ℤ slice_index_or steps.since.now s (pos 0)) (slice_index_or steps.held_times.now s (pos 0)))
    (sym (sym c.get.ensures ∙ c.if-get.true))
    ∙ sym there

pub returns-else-get : goal.returns-else-get
returns-else-get c =
    let steps = c.args.self.now in
    let s = c.args.step.0 in
    let n = length steps.active.now in
    let there : slice_index_or (times_of steps) s (pos 0) ≡ time_at steps s =
    get_or-map-range_with_len (time_at steps) 0 n s s (pos 0) (omega (arith, c.if-s-count.false, c.count.ensures)) (omega arith) in
    to_z-of_z w64 c.kept_time.result (record { sfits = c.kept_time.type_inv })
    ∙ c.kept_time.ensures
    ∙ ap (λ (b : Bool). cond b (steps.at -ℤ slice_index_or steps.since.now s (pos 0)) (slice_index_or steps.held_times.now s (pos 0)))
    (sym (sym c.get.ensures ∙ c.if-get.false))
    ∙ sym there
