-- What one line adds to a script.
use Rattle.std.proofs.Common.{◌≡◌, ℕ, ℤ, ◌<◌, nat_lt, true, if◌then◌else◌, List, [], ◌∷◌, ◌++◌, length, Option, Some, None, Result, Ok, Err, refl, ap, subst, ◌∙◌, sym, arith}
use Rattle.std.specs.Option.{option_to_list}
use Rattle.std.proofs.lemmas.Bool.Decides.{nat_tests}
use Rattle.sfc_plant.specs.Plants.{PlantData}
use Rattle.sfc_events.specs.declared.command.Command.{Command}
use Rattle.sfc_events.specs.declared.command.Command.TheVariants.{BreakIf}
use Rattle.sfc_debug.specs.Histories.{TimedCommand}
use Rattle.sfc_debug.specs.declared.break_condition.BreakCondition.{BreakCondition}
use Rattle.sfc_script.specs.declared.command.Conditional as running
use Rattle.sfc_script.specs.declared.line.Line.{Line}
use Rattle.sfc_script.specs.declared.line.Line.TheVariants as line
use Rattle.sfc_script.specs.declared.point.Place.{Place}
use Rattle.sfc_script.specs.declared.script.Script.{Script}
use Rattle.sfc_script.specs.declared.script.ScriptError.{ScriptError}
use Rattle.sfc_script.specs.declared.script.ScriptError.TheVariants.{Faulty, Memory}
use Rattle.sfc_script.specs.Answers.{script_data}
use Rattle.sfc_script.specs.Commands.{Conditional}
use Rattle.sfc_script.specs.Scripts.{ScriptData, ConditionReads, nothing_said, numbered, in_table, joined}
use Rattle.sfc_script.specs.Private.Adding.{AddsCondition, AddsLine}
use Rattle.sfc_script.specs.Private.Reading.{as_conditional, as_said}
use Rattle.sfc_script.proofs.Said.{append_nothing, joined_nothing}

-- commands and conditions behind others
behind : (old new : Script) (first : ScriptData) → new.commands.items ≡ old.commands.items ++ first.commands
    → new.conditions.items ≡ old.conditions.items ++ first.table → script_data new ≡ joined (script_data old) first
behind old new first e f =
    ap (λ commands. let s : ScriptData = record { commands = commands; table = new.conditions.items } in s) e
    ∙ ap (λ table. let s : ScriptData = record { commands = old.commands.items ++ first.commands; table = table } in s) f

-- one command, whose instant is this one
at_instant : (commands : List TimedCommand) (command : Command) (z t : ℤ) → z ≡ t → commands ++ (command, z) ∷ [] ≡ commands ++ (command, t) ∷ []
at_instant commands command z t e = ap (λ y. commands ++ (command, y) ∷ []) e

-- ---- a breakpoint with a condition

below : (k : ℕ) → k < 65535 → nat_lt k 65535 ≡ true
below k h = grind (arith, nat_tests)

-- the breakpoint was put behind the commands, and its condition, if it is known, behind the others
pub adds_breakpoint : (place : Place) (t z : ℤ) (condition : Option BreakCondition) (n k : ℕ) (old new : Script) → k ≡ length old.conditions.items → k < 65535 → z ≡ t
    → new.commands.items ≡ old.commands.items ++ (BreakIf place.program place.point (record { 0 = k }), z) ∷ []
    → new.conditions.items ≡ old.conditions.items ++ option_to_list condition → AddsCondition place t condition n old new (Ok tt)
adds_breakpoint place t z condition n k old new here small same e f =
    subst (λ j. (text : List ℕ) → (first : ScriptData)
    × (in_table j (record { place = place; text = text }) t (Some (option_to_list condition)) ≡ Some first)
    × (script_data new ≡ joined (script_data old) first)) here
    (λ text.
    let c : Conditional = record { place = place; text = text } in
    let first : ScriptData = numbered k c t (option_to_list condition) in (
      first,
      ap (λ b. if b then Some first else None) (below k small),
      behind old new first (e ∙ at_instant old.commands.items (BreakIf place.program place.point (record { 0 = k })) z t same) f,
    ))

-- ---- lines

pub adds_nothing : (plant : PlantData) (n : ℕ) (l : Line) (script : Script) → l ≡ line.Skipped → AddsLine plant (as_said l) n script script (Ok tt)
adds_nothing plant n l script e =
    subst (λ x. AddsLine plant (as_said x) n script script (Ok tt)) (sym e)
    (Some nothing_said, refl, (nothing_said, refl, sym (joined_nothing (script_data script))))

pub adds_plain : (plant : PlantData) (n : ℕ) (l : Line) (command : Command) (t z : ℤ) (old new : Script) → l ≡ line.Plain command t → z ≡ t
    → new.commands.items ≡ old.commands.items ++ (command, z) ∷ [] → new.conditions.items ≡ old.conditions.items
    → AddsLine plant (as_said l) n old new (Ok tt)
adds_plain plant n l command t z old new e same f g =
    let first : ScriptData = record { commands = (command, t) ∷ []; table = [] } in
    subst (λ x. AddsLine plant (as_said x) n old new (Ok tt)) (sym e)
    (Some first, refl, (first, refl, behind old new first (f ∙ at_instant old.commands.items command z t same) (g ∙ sym (append_nothing old.conditions.items))))

when_added : (plant : PlantData) (n : ℕ) (c : running.Conditional) (t : ℤ) (condition : Option BreakCondition) (old new : Script) (result : Result (Unit {0}) ScriptError)
    → ConditionReads plant (length old.conditions.items) c.place.program c.text.now (Some (option_to_list condition))
    → AddsCondition c.place t condition n old new result → AddsLine plant (as_said (line.When c t)) n old new result
when_added plant n c t condition old new (Ok u) reads adds =
    (in_table (length old.conditions.items) (as_conditional c) t (Some (option_to_list condition)), (Some (option_to_list condition), reads, refl), adds c.text.now)
when_added plant n c t condition old new (Err (Faulty m)) reads adds =
    (in_table (length old.conditions.items) (as_conditional c) t (Some (option_to_list condition)), (Some (option_to_list condition), reads, refl), adds c.text.now)
when_added plant n c t condition old new (Err Memory) reads adds = tt

pub adds_when : (plant : PlantData) (n : ℕ) (l : Line) (c : running.Conditional) (t : ℤ) (condition : Option BreakCondition) (old new : Script) (result : Result (Unit {0}) ScriptError)
    → l ≡ line.When c t → ConditionReads plant (length old.conditions.items) c.place.program c.text.now (Some (option_to_list condition))
    → AddsCondition c.place t condition n old new result → AddsLine plant (as_said l) n old new result
adds_when plant n l c t condition old new result e reads adds =
    subst (λ x. AddsLine plant (as_said x) n old new result) (sym e) (when_added plant n c t condition old new result reads adds)
