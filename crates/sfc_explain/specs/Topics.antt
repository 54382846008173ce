-- The numbers and names of what is refused or fails: those by which it is told.
use Rattle.std.specs.Prelude.{ℕ, List, Option, Some, None, codes}
use Rattle.sfc_events.specs.ReadErrors as reading
use Rattle.sfc_events.specs.LoadErrors as loading
use Rattle.sfc_events.specs.Refusals as command
use Rattle.sfc_explain.specs.declared.topic.Topic.{Topic}
use Rattle.sfc_explain.specs.declared.topic.Topic.TheVariants.{Reading, Loading, Command, Audit, Named}

abbrev pub number_of : Topic → Option ℕ
number_of (Reading kind) = Some (reading.number_of kind)
number_of (Loading error) = Some (loading.number_of error)
number_of (Command refusal) = Some (command.number_of refusal)
number_of Audit = Some 41
number_of (Named name) = None

abbrev pub name_of : Topic → List ℕ
name_of (Reading kind) = reading.name_of kind
name_of (Loading error) = loading.name_of error
name_of (Command refusal) = command.name_of refusal
name_of Audit = codes "AuditMismatch"
name_of (Named name) = name.now
