-- What is read of a script, in running form: texts stand in the bytes of the script.
use Rattle.sfc_script.specs.declared.command.Conditional as running
use Rattle.sfc_script.specs.declared.line.Line.{Line}
use Rattle.sfc_script.specs.declared.line.Line.TheVariants as line
use Rattle.sfc_script.specs.Commands.{Conditional, Said, Nothing, Plain, When, Wrong}

abbrev pub as_conditional : running.Conditional → Conditional
as_conditional c = record { place = c.place; text = c.text.now }

abbrev pub as_said : Line → Said
as_said line.Skipped = Nothing
as_said (line.Plain command t) = Plain command t
as_said (line.When c t) = When (as_conditional c) t
as_said line.Faulty = Wrong
