use Rattle.std.proofs.Common.{◌<◌, ◌+◌, ◌-◌, ◌++◌, ℕ, List, arith, ap, sym, ◌∙◌, append_assoc}
use Rattle.std.specs.List.{flat_map, range_with_len}
use Rattle.sfc_debug.specs.sfc_image.Values.{variable_count}
use Rattle.sfc_debug.specs.sfc_core.PlantState.{state_of}
use Rattle.sfc_debug.specs.sfc_core.Agreement.{plant_of}
use Rattle.sfc_output.specs.ImageLines.{variable_line}
use Rattle.sfc_output.proofs.Numbered.{lines_head}
use Rattle.sfc_output.proofs.image_line.append_image.Goals as goal

pub loop-v-preserved : goal.loop-v-preserved
loop-v-preserved c h agrees =
    let plant = plant_of c.args.resource.now in
    let line = variable_line plant (state_of plant h) in
    let n = variable_count plant in
    let v = c.loop-v.v in
    let out = c.loop-v.out.items in
    let lt : v < n = omega (arith, c.loop-v-test.true, c.variables-v-end.ensures.count) in
    let rest = flat_map line (range_with_len (v + 1) (n - (v + 1))) in
    c.loop-v.invariant h agrees ∙ ap (λ (xs : List ℕ). out ++ xs) (lines_head line v n lt) ∙ sym (append_assoc out (line v) rest)
    ∙ ap (λ (x : List ℕ). x ++ rest) (sym (c.in_ok-append_numbered.ensures h agrees))
