-- What C reads of answers, values and points: the numbers that stand for them (our choice).
use Rattle.std.specs.Prelude.{ℕ, ℤ, pos, negsuc, int_lt, not, cond, ◌==◌, ◌&&◌, ◌^◌, ◌-◌, if◌then◌else◌}
use Rattle.std.specs.Prelude.{Bool, true, false, Option, Some, None, Result, Ok, Err, option_map, slice_get}
use Rattle.sfc_base.specs.declared.var_type.VarType.{VarType}
use Rattle.sfc_base.specs.declared.var_type.VarType.TheVariants as types
use Rattle.sfc_base.specs.declared.value.Value.{Value}
use Rattle.sfc_base.specs.declared.value.Value.TheVariants as values
use Rattle.sfc_base.specs.declared.ids.ProgId.{ProgId}
use Rattle.sfc_base.specs.declared.ids.VarId.{VarId}
use Rattle.sfc_plant.specs.Plants.{PlantData}
use Rattle.sfc_plant.specs.Image.{image_variables}
use Rattle.sfc_events.specs.declared.command.Answer.{Answer}
use Rattle.sfc_events.specs.declared.command.Answer.TheVariants as answers
use Rattle.sfc_events.specs.declared.command.Command.{Command}
use Rattle.sfc_events.specs.declared.command.Command.TheVariants.{Break, BreakIf}
use Rattle.sfc_events.specs.declared.command.Point.{Point}
use Rattle.sfc_events.specs.declared.command.Point.TheVariants.{Step, Transition, Action}
use Rattle.sfc_events.specs.declared.refusal.Refusal.{Refusal}
use Rattle.sfc_events.specs.declared.refusal.Refusal.TheVariants.{NotDue, Yield}
use Rattle.sfc_events.specs.Refusals.{number_of}
use Rattle.sfc_replay.specs.sfc_debug.declared.mode.Mode.{Mode}
use Rattle.sfc_replay.specs.sfc_debug.declared.mode.Mode.TheVariants as mode
use Rattle.sfc_c.specs.declared.reply.Reply.{Reply}

-- ---- the library's own codes

-- the handle holds no resource
abbrev pub closed : ℤ
closed = negsuc 0

-- the number is no value of the variable's type
abbrev pub no_value : ℤ
no_value = negsuc 1

-- there is nothing with this number or name
abbrev pub unknown : ℤ
unknown = negsuc 2

-- memory was refused
abbrev pub no_memory : ℤ
no_memory = negsuc 3

-- it is no line of a script with one command at most
abbrev pub no_line : ℤ
no_line = negsuc 4

-- the caller's array is too short
abbrev pub too_short : ℤ
too_short = negsuc 5

-- the text is no condition
abbrev pub no_expression : ℤ
no_expression = negsuc 6

-- ---- answers

-- 0, or the number of the refusal
abbrev pub code_of : Result Answer Refusal → ℤ
code_of (Ok answer) = pos 0
code_of (Err refusal) = pos (number_of refusal)

-- 1 for true, 0 for false
abbrev pub flag : Bool → ℤ
flag false = pos 0
flag true = pos 1

-- BOOL as 0 or 1, and each other type as its number, a TIME in microseconds
abbrev pub told : Value → ℤ
told (values.Bool false) = pos 0
told (values.Bool true) = pos 1
told (values.Int n) = n
told (values.Dint n) = n
told (values.Time t) = t

-- what is told where nothing is
abbrev pub nothing_told : Reply
nothing_told = record {
  ran = 0;
  faulted = 0;
  skipped = 0;
  overruns = 0;
  next = negsuc 0;
  value = pos 0;
  first = negsuc 0;
  hit = pos 0;
}

-- an instant, or -1
abbrev pub instant_or_none : Option ℤ → ℤ
instant_or_none None = negsuc 0
instant_or_none (Some t) = t

-- What a scan did, or what was read; else when the task would be due, or which task goes first.
abbrev pub reply_of : Result Answer Refusal → Reply
reply_of (Ok answers.Done) = nothing_told
reply_of (Ok (answers.Value v)) = record {
  ran = 0;
  faulted = 0;
  skipped = 0;
  overruns = 0;
  next = negsuc 0;
  value = told v;
  first = negsuc 0;
  hit = pos 0;
}
reply_of (Ok (answers.Scanned ran faulted skipped overruns hit)) = record {
  ran = ran.bits;
  faulted = faulted.bits;
  skipped = skipped.bits;
  overruns = overruns;
  next = negsuc 0;
  value = pos 0;
  first = negsuc 0;
  hit = flag hit;
}
reply_of (Err (NotDue next)) = record {
  ran = 0;
  faulted = 0;
  skipped = 0;
  overruns = 0;
  next = instant_or_none next;
  value = pos 0;
  first = negsuc 0;
  hit = pos 0;
}
reply_of (Err (Yield task)) = record {
  ran = 0;
  faulted = 0;
  skipped = 0;
  overruns = 0;
  next = negsuc 0;
  value = pos 0;
  first = pos task.0;
  hit = pos 0;
}
reply_of (Err refusal) = nothing_told

-- ---- values

-- the type of a variable, if there is one with this number
abbrev pub type_of : PlantData → VarId → Option VarType
type_of plant id = option_map (λ v. v.var_type) (slice_get (image_variables plant) id.0)

-- it is not below the first and not above the second
abbrev pub is_within : ℤ → ℤ → ℤ → Bool
is_within low high n = not (int_lt n low) && not (int_lt high n)

-- The value of this type that the number is told as, if there is one. Where there is no type, any value is refused.
abbrev pub value_of_number : Option VarType → ℤ → Option Value
value_of_number None n = Some (values.Bool false)
value_of_number (Some types.Bool) n = cond (is_within (pos 0) (pos 1) n) (Some (values.Bool (int_lt (pos 0) n))) None
value_of_number (Some types.Int) n = cond (is_within (negsuc 32767) (pos 32767) n) (Some (values.Int n)) None
value_of_number (Some types.Dint) n = cond (is_within (negsuc 2147483647) (pos 2147483647) n) (Some (values.Dint n)) None
value_of_number (Some types.Time) n = cond (is_within (negsuc (2 ^ 62 - 1)) (pos (2 ^ 62)) n) (Some (values.Time n)) None

-- ---- points and modes

-- a step, a transition or an action, counted from 0
abbrev pub point_of : ℕ → ℕ → Option Point
point_of kind n =
    if kind == 0 then Some (Step (record { 0 = n })) else
    if kind == 1 then Some (Transition (record { 0 = n })) else
    if kind == 2 then Some (Action (record { 0 = n })) else None

-- a breakpoint without a condition for 65535, else with the condition of this number
abbrev pub break_of : ProgId → Point → ℕ → Command
break_of p point condition = if condition == 65535 then Break p point else BreakIf p point (record { 0 = condition })

-- 0 for running, 1 for halted, 2 for ended
abbrev pub mode_number : Mode → ℤ
mode_number mode.Running = pos 0
mode_number mode.Stopped = pos 1
mode_number mode.Ended = pos 2
