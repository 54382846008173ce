-- The items of lists take a token each.
use Rattle.std.specs.Prelude.{◌≡◌, false, refl}
use Rattle.sfc_text.specs.Grammar.{further_name, names, declaration, external, variables, association, association_line, element, step, before_from, before_condition, transition, action, program, before_interval, task, task_line, instance, instance_line}
use Rattle.sfc_text.specs.Parsing.Lookahead.{empty}

pub further_name_takes : empty further_name ≡ false
unfolding further_name
further_name_takes = refl

pub declaration_takes : empty declaration ≡ false
unfolding declaration
declaration_takes = refl

pub external_takes : empty external ≡ false
unfolding external names
external_takes = refl

pub variables_takes : empty variables ≡ false
unfolding variables
variables_takes = refl

pub association_takes : empty association_line ≡ false
unfolding association_line association
association_takes = refl

pub element_takes : empty element ≡ false
unfolding element step before_from before_condition transition action
element_takes = refl

pub program_takes : empty program ≡ false
unfolding program
program_takes = refl

pub task_takes : empty task_line ≡ false
unfolding task_line before_interval task
task_takes = refl

pub instance_takes : empty instance_line ≡ false
unfolding instance_line instance
instance_takes = refl
