-- Stimuli: commands that are given beside RUN and UNTIL, each at its instant (our choice of format).
use Rattle.std.specs.Prelude.{ℕ, Bool, true, not, if◌then◌else◌, List, codes, ℤ, pos, ◌+ℤ◌, ◌-ℤ◌, int_le, int_lt}
use Rattle.std.specs.Prelude.{Option, Some, None, option_map}
use Rattle.std.specs.Int.{int_wrapping_div, saturate_signed, w16, w32, w64}
use Rattle.std.specs.Option.{option_and_then}
use Rattle.sfc_base.specs.Case.{same_word}
use Rattle.sfc_base.specs.declared.ids.VarId.{VarId}
use Rattle.sfc_base.specs.declared.value.Value.{Value}
use Rattle.sfc_base.specs.declared.value.Value.TheVariants as value
use Rattle.sfc_events.specs.declared.command.Command.{Command}
use Rattle.sfc_events.specs.declared.command.Command.TheVariants.{Input}
use Rattle.sfc_plant.specs.Plants.{PlantData}
use Rattle.sfc_tokens.specs.Lexing.DurationWords.{duration_value}
use Rattle.sfc_script.specs.Commands.{command_of}
use Rattle.sfc_script.specs.Lines.{first_word, two_words}
use Rattle.sfc_script.specs.Names.{type_of, variable_of}
use Rattle.sfc_script.specs.Values.{dint_of}
use Rattle.sfc_base.specs.Values.{is_in_range}
use Rattle.sfc_base.specs.declared.var_type.VarType.{VarType}
use Rattle.sfc_base.specs.declared.var_type.VarType.TheVariants as types
use Rattle.sfc_cases.specs.declared.instant.Instant.{Instant}
use Rattle.sfc_cases.specs.declared.instant.Instant.TheVariants.{Same, At, Later}
use Rattle.sfc_cases.specs.declared.stimulus.Change.{Change}
use Rattle.sfc_cases.specs.declared.stimulus.Change.TheVariants.{Stays, Toggles, Rises, Falls}
use Rattle.sfc_cases.specs.declared.stimulus.Stimulus.{Stimulus}
use Rattle.sfc_cases.specs.Lines.{instant_after, instant_of}

-- ---- what becomes of a stimulus

-- the value behind this one, of 16 or 32 bits
abbrev pub changed : Change → Value → Value
changed Toggles (value.Bool b) = value.Bool (not b)
changed Rises (value.Int n) = value.Int (saturate_signed w16 (n +ℤ pos 1))
changed Rises (value.Dint n) = value.Dint (saturate_signed w32 (n +ℤ pos 1))
changed Falls (value.Int n) = value.Int (saturate_signed w16 (n -ℤ pos 1))
changed Falls (value.Dint n) = value.Dint (saturate_signed w32 (n -ℤ pos 1))
changed _ v = v

abbrev pub changed_command : Change → Command → Command
changed_command change (Input id v) = Input id (changed change v)
changed_command change command = command

-- one command less is left, where they are counted
abbrev pub less : Option ℤ → Option ℤ
less left = option_map (λ n. saturate_signed w64 (n -ℤ pos 1)) left

-- begun at the clock's instant
abbrev pub begun : ℤ → Stimulus → Stimulus
begun clock s = record {
  first = At (instant_after clock s.first);
  period = s.period;
  left = s.left;
  command = s.command;
  change = s.change;
}

-- behind its command that was wanted at this instant
abbrev pub behind_one : ℤ → Stimulus → Stimulus
behind_one instant s = record {
  first = At (saturate_signed w64 (instant +ℤ s.period));
  period = s.period;
  left = less s.left;
  command = changed_command s.change s.command;
  change = s.change;
}

-- whether a command is left
abbrev pub is_left : Option ℤ → Bool
is_left None = true
is_left (Some n) = int_lt (pos 0) n

-- ---- EVERY, AT and RAMP

abbrev pub stimulus_of : Instant → ℤ → Option ℤ → Command × Change → Stimulus
stimulus_of first period left c = record { first = first; period = period; left = left; command = c.0; change = c.1 }

-- a duration above 0
abbrev pub if_positive : ℤ → Option ℤ
if_positive d = if int_lt (pos 0) d then Some d else None

abbrev pub positive : List ℕ → Option ℤ
positive word = option_and_then if_positive (duration_value word)

-- variable TOGGLE: TRUE at first
abbrev pub toggle_by : PlantData → List ℕ × List ℕ → Option (Command × Change)
toggle_by plant w =
    if same_word w.1 (codes "TOGGLE")
    then Some (Input (variable_of plant w.0) (value.Bool true), Toggles) else None

abbrev pub toggle_in : PlantData → List ℕ → Option (Command × Change)
toggle_in plant text = option_and_then (toggle_by plant) (two_words text)

abbrev pub toggled_by : PlantData → List ℕ × List ℕ → Option (Command × Change)
toggled_by plant w = if same_word w.0 (codes "INPUT") then toggle_in plant w.1 else None

abbrev pub toggled : PlantData → List ℕ → Option (Command × Change)
toggled plant text = option_and_then (toggled_by plant) (first_word text)

abbrev pub repeated_by : PlantData → List ℕ → Option (Command × Change) → Option (Command × Change)
repeated_by plant text (Some c) = Some c
repeated_by plant text None = option_map (λ command. (command, Stays)) (command_of plant text)

-- INPUT variable TOGGLE, or a command of a script
abbrev pub repeated_of : PlantData → List ℕ → Option (Command × Change)
repeated_of plant text = repeated_by plant text (toggled plant text)

abbrev pub every_by : Option ℤ → Option (Command × Change) → Option Stimulus
every_by (Some d) (Some c) = Some (stimulus_of (Later d) d None c)
every_by _ _ = None

-- EVERY duration command
abbrev pub every_of : PlantData → List ℕ → Option Stimulus
every_of plant text = option_and_then (λ w. every_by (positive w.0) (repeated_of plant w.1)) (first_word text)

abbrev pub at_by : Option Instant → Option Command → Option Stimulus
at_by (Some instant) (Some command) = Some (stimulus_of instant (pos 0) (Some (pos 1)) (command, Stays))
at_by _ _ = None

-- AT instant command
abbrev pub at_of : PlantData → List ℕ → Option Stimulus
at_of plant text = option_and_then (λ w. at_by (instant_of w.0) (command_of plant w.1)) (first_word text)

-- how far it is from one number to another, which are of 32 bits
abbrev pub span : ℤ → ℤ → ℤ
span from to = if int_le from to then saturate_signed w64 (to -ℤ from) else saturate_signed w64 (from -ℤ to)

abbrev pub direction : ℤ → ℤ → Change
direction from to = if int_le from to then Rises else Falls

-- how far the steps of a ramp are apart: an n-th of its duration, rounded down
abbrev pub pace : ℤ → ℤ → ℤ
pace d n = if int_lt (pos 0) n then int_wrapping_div w64 d n else d

-- one write for each number from the first to the last, where they are a microsecond apart at least
abbrev pub ramp_at : Command → ℤ → ℤ → ℤ → Option Stimulus
ramp_at command from to d = option_map (λ period. stimulus_of Same period (Some (saturate_signed w64 (span from to +ℤ pos 1)))
    (command, direction from to)) (if_positive (pace d (span from to)))

abbrev pub ramp_between : VarId → Value → Value → ℤ → Option Stimulus
ramp_between id (value.Int from) (value.Int to) d = ramp_at (Input id (value.Int from)) from to d
ramp_between id (value.Dint from) (value.Dint to) d = ramp_at (Input id (value.Dint from)) from to d
ramp_between id _ _ d = None

abbrev pub ramp_by : VarId → Option Value → Option Value → Option ℤ → Option Stimulus
ramp_by id (Some from) (Some to) (Some d) = ramp_between id from to d
ramp_by id _ _ _ = None

-- a number as a value of the type, INT where it fits or DINT
abbrev pub value_in : VarType → ℤ → Option Value
value_in types.Int z = if is_in_range types.Int z then Some (value.Int z) else None
value_in types.Dint z = Some (value.Dint z)
value_in _ z = None

abbrev pub value_said : VarType → List ℕ → Option Value
value_said type word = option_and_then (value_in type) (dint_of word)

abbrev pub ramp_to : VarId → VarType → List ℕ → List ℕ × List ℕ → Option Stimulus
ramp_to id type from w = ramp_by id (value_said type from) (value_said type w.0) (positive w.1)

abbrev pub ramp_in : VarId → List ℕ → VarType → Option Stimulus
ramp_in id text type = option_and_then (λ w. option_and_then (ramp_to id type w.0) (two_words w.1)) (first_word text)

-- of a variable that is there
abbrev pub ramp_of_variable : PlantData → VarId → List ℕ → Option Stimulus
ramp_of_variable plant id text = option_and_then (ramp_in id text) (type_of plant id)

-- RAMP variable number number duration
abbrev pub ramp_of : PlantData → List ℕ → Option Stimulus
ramp_of plant text = option_and_then (λ w. ramp_of_variable plant (variable_of plant w.0) w.1) (first_word text)
