-- The numbers of what names stand for; -3 where there is none (our choice).
use Rattle.std.specs.Prelude.{ℕ, nat_lt, cond, ℤ, pos, negsuc, Option, Some, None}
use Rattle.sfc_base.specs.declared.ids.ProgId.{ProgId}
use Rattle.sfc_base.specs.declared.ids.TaskId.{TaskId}
use Rattle.sfc_base.specs.declared.ids.VarId.{VarId}

abbrev pub number_of_variable : Option VarId → ℤ
number_of_variable None = negsuc 2
number_of_variable (Some id) = pos id.0

abbrev pub number_of_task : Option TaskId → ℤ
number_of_task None = negsuc 2
number_of_task (Some task) = pos task.0

abbrev pub number_of_program : Option ProgId → ℤ
number_of_program None = negsuc 2
number_of_program (Some p) = pos p.0

-- a place in a chart, which has fewer than 65,536; a count of things with names likewise
abbrev pub number_of_place : Option ℕ → ℤ
number_of_place None = negsuc 2
number_of_place (Some place) = cond (nat_lt place 65536) (pos place) (negsuc 2)
