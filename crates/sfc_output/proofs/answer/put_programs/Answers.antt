use Rattle.std.proofs.Common.{◌≡◌, ◌<◌, ◌+◌, ◌-◌, ◌++◌, ℕ, List, Option, Some, length, arith, ap, sym, subst, ◌∙◌, append_assoc}
use Rattle.std.specs.List.{flat_map, range_with_len}
use Rattle.std.proofs.lemmas.List.{append-nil}
use Rattle.sfc_events.specs.History.{History}
use Rattle.sfc_plant.specs.Plants.{PlantData}
use Rattle.sfc_debug.specs.sfc_instance.declared.scan_end.ScanEnd.{ScanEnd}
use Rattle.sfc_debug.specs.sfc_core.Agreement.{Agrees, plant_of}
use Rattle.sfc_debug.specs.sfc_core.PlantState.{state_of}
use Rattle.sfc_output.specs.Commands.{scan_end_in, written_line}
use Rattle.sfc_output.specs.Memories.{Fits}
use Rattle.sfc_page.specs.Lines.{written}
use Rattle.sfc_output.proofs.Numbered.{lines_head, untold}
use Rattle.sfc_output.proofs.answer.put_programs.Goals.{in-Some-Ran+in_ok-put_ran-in-Some-Ran, in-Some+in_ok-put_ended-in-Some, in-None}
use Rattle.sfc_output.proofs.answer.put_programs.Goals as goal

pub loop-k-preserved : goal.loop-k-preserved
loop-k-preserved c =
    let plant = plant_of c.args.resource.now in
    let k = c.loop-k.k in
    let old = written c.loop-k.out.items c.loop-k.line in
    let new = written c.match-scan_end_in.out.items c.match-scan_end_in.line in
    let line = λ (h : History) (e : Option ScanEnd). written_line plant (state_of plant h).instance_state k e in
    let written : ((h : History) → Agrees c.args.resource.now h → Fits plant c.loop-k.memory → new ≡ old ++ line h (scan_end_in c.args.answer.now k))
    × (Fits plant c.loop-k.memory → Fits plant c.match-scan_end_in.memory) =
    elim c.match-scan_end_in.branch [
      | in-Some-Ran+in_ok-put_ran-in-Some-Ran w ↦ (
        λ h agrees fits.
            (λ i. written (w.out-is i).items (w.line-is i)) ∙ w.in_ok-put_ran-in-Some-Ran.ensures.line h agrees fits
            ∙ ap (λ (e : Option ScanEnd). old ++ line h e) (ap Some (sym w.in-Some-Ran.field-0-is) ∙ sym w.in-Some-Ran.is ∙ c.scan_end_in.ensures),
        λ fits. subst (Fits plant) (sym w.memory-is) (w.put_ran.ensures.fits fits),
      )
      | in-Some+in_ok-put_ended-in-Some w ↦ (
        λ h agrees fits.
            (λ i. written (w.out-is i).items (w.line-is i)) ∙ w.in_ok-put_ended-in-Some.ensures h agrees
            ∙ ap (λ (e : Option ScanEnd). old ++ line h e) (sym w.in-Some.is ∙ c.scan_end_in.ensures),
        λ fits. subst (Fits plant) (sym w.memory-is) fits,
      )
      | in-None w ↦ (
        λ h agrees fits.
            (λ i. written (w.out-is i).items (w.line-is i)) ∙ sym (append-nil old)
            ∙ ap (λ (e : Option ScanEnd). old ++ line h e) (sym w.in-None.is ∙ c.scan_end_in.ensures),
        λ fits. subst (Fits plant) (sym w.memory-is) fits,
      )
    ] in
    record {
      lines = λ h agrees fits.
          let lines_of = λ (j : ℕ). written_line plant (state_of plant h).instance_state j (scan_end_in c.args.answer.now j) in
          let n = length plant.instances in
          let lt : k < n = omega (arith, c.loop-k-test.true, ap (λ (p : PlantData). length p.instances) c.plant.ensures, ap length c.instances-k-end.ensures.value) in
          let rest = flat_map lines_of (range_with_len (k + 1) (n - (k + 1))) in
          c.loop-k.invariant.lines h agrees fits ∙ ap (λ (xs : List ℕ). old ++ xs) (lines_head lines_of k n lt)
          ∙ sym (append_assoc old (lines_of k) rest)
          ∙ ap (λ (xs : List ℕ). xs ++ rest) (sym (written.0 h agrees (c.loop-k.invariant.fits fits)));
      fits = λ fits. written.1 (c.loop-k.invariant.fits fits);
    }

pub returns-in_default : goal.returns-in_default
returns-in_default c = record {
  lines = λ h agrees fits.
      let plant = plant_of c.args.resource.now in
      let old = written c.args.out.now.items c.args.line.now in
      sym (append-nil old)
      ∙ ap (λ (xs : List ℕ). old ++ xs) (sym (untold plant (state_of plant h).instance_state c.args.answer.now c.in_default.not-Scanned));
  fits = λ fits. fits;
}
