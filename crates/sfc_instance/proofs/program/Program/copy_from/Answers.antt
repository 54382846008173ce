use Rattle.std.proofs.Common.{[], ◌∙◌, ◌≤ℤ◌, ◌^◌, pos, ℤ, rules, w64, SFits, to_z-of_z}
use Rattle.sfc_instance.specs.Agreement.{ProgramAgrees}
use Rattle.sfc_instance.proofs.program.Program.copy_from.Goals as goal

-- an instant is a number of 64 bits
fits : (t : ℤ) → pos 0 ≤ℤ t → t ≤ℤ pos (2 ^ 62) → SFits w64 t
fits t low high = search rules

pub returns-clause-agrees : goal.returns-clause-agrees
unfolding ProgramAgrees
returns-clause-agrees c instance_state agrees =
    let other = c.args.other.now in
    record {
      now = c.copy_from.ensures.agrees instance_state.life agrees.now;
      fresh = c.copy_from-2.ensures.agrees [] agrees.fresh;
      scans = agrees.scans;
      at = to_z-of_z (fits other.at other.at_low other.at_high) ∙ agrees.at;
      fault = agrees.fault;
      place = agrees.place;
    }
