-- How a refusal of tokens is told.
use Rattle.sfc_events.specs.declared.read_error.ReadErrorKind.{ReadErrorKind}
use Rattle.sfc_events.specs.declared.read_error.ReadErrorKind.TheVariants as kind
use Rattle.sfc_text.specs.declared.parse.fault.ParseFault.{ParseFault}
use Rattle.sfc_text.specs.declared.parse.fault.ParseFault.TheVariants as fault

abbrev pub kind_of : ParseFault → ReadErrorKind
kind_of fault.Memory = kind.Memory
kind_of (fault.Syntax left) = kind.Syntax
kind_of (fault.TooDeep left) = kind.TooDeep
