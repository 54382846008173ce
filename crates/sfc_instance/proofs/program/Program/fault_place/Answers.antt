use Rattle.std.proofs.Common.{Option, sym, ap, ◌∙◌}
use Rattle.sfc_instance.specs.declared.scan_fault.ScanFault.{ScanFault}
use Rattle.sfc_instance.specs.Agreement.{ProgramAgrees, place_after}
use Rattle.sfc_instance.proofs.program.Program.fault_place.Goals as goal

pub returns-in-Some : goal.returns-in-Some
unfolding ProgramAgrees
returns-in-Some c tables instance_state agrees =
    sym (ap (λ (o : Option ScanFault). place_after o c.args.self.now.run.place) c.in-Some.is) ∙ agrees.place

pub returns-in-None : goal.returns-in-None
unfolding ProgramAgrees
returns-in-None c tables instance_state agrees =
    sym (ap (λ (o : Option ScanFault). place_after o c.args.self.now.run.place) c.in-None.is) ∙ agrees.place
