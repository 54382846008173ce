-- The line of a scan that hit no breakpoint, piece by piece.
use Rattle.std.proofs.Common.{◌≡◌, ℕ, ℤ, List, [], ◌++◌, append_assoc, codes}
use Rattle.std.specs.Fmt.{decimal}
use Rattle.sfc_base.specs.TimeText.{time_text}
use Rattle.sfc_base.specs.declared.ids.TaskId.{TaskId}
use Rattle.sfc_plant.specs.Plants.{PlantData}
use Rattle.sfc_output.specs.Memories.{plain_scan_text}
use Rattle.sfc_plant.specs.PlantNames.{task_name}
use Rattle.sfc_output.specs.Private.Pieces.{scanned_text, scanned_line}
use Rattle.sfc_page.specs.Values.{line_end}

regrouped : (time scan task word number last : List ℕ)
    → time ++ scan ++ task ++ word ++ number ++ last ≡ time ++ (scan ++ task) ++ (word ++ number ++ []) ++ last
regrouped time scan task word number last = simp append_assoc

pub scanned_regrouped : (t : ℤ) (task : List ℕ) (overruns : ℕ) → scanned_text t task overruns ≡ scanned_line t task overruns
unfolding scanned_text scanned_line
scanned_regrouped t task overruns = regrouped (time_text t) (codes " SCAN ") task (codes " overruns ") (decimal overruns) line_end

kept_parts : (time scan task word number last : List ℕ)
    → time ++ (scan ++ task ++ word ++ number ++ last) ≡ time ++ (scan ++ task) ++ (word ++ number ++ []) ++ last
kept_parts time scan task word number last = simp append_assoc

pub kept_regrouped : (plant : PlantData) (task : TaskId) (t : ℤ) → time_text t ++ plain_scan_text plant task.0 ≡ scanned_line t (task_name plant task) 0
unfolding plain_scan_text scanned_line
kept_regrouped plant task t = kept_parts (time_text t) (codes " SCAN ") (task_name plant task) (codes " overruns ") (decimal 0) line_end
