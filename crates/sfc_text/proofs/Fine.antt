-- One token ahead decides.
use Rattle.std.proofs.Common.{◌≡◌, true, refl}
use Rattle.sfc_base.specs.Case.{same_word}
use Rattle.sfc_text.specs.Grammar.{data_type, literal, signed, variable, parenthesized, primary, opposite, negation, unary, joined, expression, assignment, conditional, statement, entry, body, branch, other_branch, other_branches, else_branch, branches, initial_value, further_name, further_names, names, names_or_location, declaration, external, variables, association_time, plain, timed, qualifier, association, association_line, step, priority, steps, before_from, before_condition, transition, action, element, program, globals, single, interval, before_interval, task, task_line, instance, instance_line, before_resource, before_tasks, configuration, source}
use Rattle.sfc_text.specs.Parsing.Lookahead.{fine}

pub source_fine : fine source ≡ true
unfolding data_type literal signed variable parenthesized primary opposite negation unary joined expression assignment conditional statement entry body branch other_branch other_branches else_branch branches initial_value further_name further_names names names_or_location declaration external variables association_time plain timed qualifier association association_line step priority steps before_from before_condition transition action element program globals single interval before_interval task task_line instance instance_line before_resource before_tasks configuration source same_word
source_fine = refl

pub expression_fine : fine expression ≡ true
unfolding literal signed variable parenthesized primary opposite negation unary joined expression
expression_fine = refl
