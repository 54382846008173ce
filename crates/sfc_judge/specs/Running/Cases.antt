-- The lines of a case.
use Rattle.std.specs.Prelude.{List, ◌++◌}
use Rattle.sfc_judge.specs.declared.case.Case.{Case}
use Rattle.sfc_cases.specs.declared.line.Line.{Line}

-- those before the first TEST, and its own
abbrev pub lines_in : Case → List Line
lines_in lines = lines.front.now ++ lines.own.now
