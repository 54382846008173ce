-- What the end of a scan tells.
use Rattle.std.proofs.Common.{◌≡◌, ◌↔◌, true, List, Option, Some, None, Result, Ok, Err, is_some, refl, ℤ}
use Rattle.sfc_base.specs.declared.ids.ProgId.{ProgId}
use Rattle.sfc_plant.specs.Plants.{PlantData}
use Rattle.sfc_instance.specs.sfc_image.Changes.{Change}
use Rattle.sfc_instance.specs.declared.scan_end.ScanEnd.TheVariants.{Faulted, Skipped}
use Rattle.sfc_instance.specs.declared.scan_fault.ScanFault.{ScanFault}
use Rattle.sfc_instance.specs.Life.{Row, PlacedFault, InstanceState}
use Rattle.sfc_instance.specs.ProgramScan.{After, after_attempt, unless_faulted, attempt, next_row}

-- of a scan of an instance that stands so, from these changes and this fault on
pub record Tells (instance_state : InstanceState) (changes : List Change) (fault : Option ScanFault) (after : After) : Type 0 where
  pub undone : after.scan_end ≡ Faulted → after.changes ≡ changes
  pub lives : after.scan_end ≡ Faulted → after.instance_state.life ≡ instance_state.life
  pub faults : after.scan_end ≡ Faulted → is_some after.instance_state.fault ≡ true
  pub places : after.scan_end ≡ Faulted → is_some after.instance_state.place ≡ true
  pub skips : (after.scan_end ≡ Skipped) ↔ (is_some fault ≡ true)
  pub stays : after.scan_end ≡ Skipped → after.changes ≡ changes
  pub stands : after.scan_end ≡ Skipped → after.instance_state ≡ instance_state

attempted : (instance_state : InstanceState) (changes : List Change) (row : Row) (r : Result (List Change) PlacedFault)
    → Tells instance_state changes None (after_attempt instance_state.life changes row r)
attempted instance_state changes row (Ok done) = record {
  undone = λ e. absurd cc;
  lives = λ e. absurd cc;
  faults = λ e. absurd cc;
  places = λ e. absurd cc;
  skips = (λ e. absurd cc, λ e. absurd cc);
  stays = λ e. absurd cc;
  stands = λ e. absurd cc;
}
attempted instance_state changes row (Err f) = record {
  undone = λ e. refl;
  lives = λ e. refl;
  faults = λ e. refl;
  places = λ e. refl;
  skips = (λ e. absurd cc, λ e. absurd cc);
  stays = λ e. absurd cc;
  stands = λ e. absurd cc;
}

pub end_tells : (plant : PlantData) (p : ProgId) (instance_state : InstanceState) (changes : List Change) (t : ℤ) (fault : Option ScanFault)
    → Tells instance_state changes fault (unless_faulted plant p instance_state changes t fault)
end_tells plant p instance_state changes t None =
    attempted instance_state changes (next_row plant p instance_state.life changes t) (attempt plant p instance_state.life changes t)
end_tells plant p instance_state changes t (Some f) = record {
  undone = λ e. absurd cc;
  lives = λ e. absurd cc;
  faults = λ e. absurd cc;
  places = λ e. absurd cc;
  skips = (λ e. refl, λ e. refl);
  stays = λ e. refl;
  stands = λ e. refl;
}
