-- What an accepted command leaves of the opening.
use Rattle.std.proofs.Common.{◌≡◌, ℕ, ◌+◌, ◌-◌, ◌≤◌, List, [], ◌∷◌, ◌++◌, sym, ◌∙◌, length, arith, take}
use Rattle.std.proofs.Props.{props}
use Rattle.std.proofs.lemmas.List.{take-append-le, take_at}
use Rattle.sfc_plant.specs.Plants.{PlantData}
use Rattle.sfc_events.specs.declared.command.Command.{Command}
use Rattle.sfc_events.specs.declared.command.Command.TheVariants as commands
use Rattle.sfc_debug.specs.declared.break_condition.BreakCondition.{BreakCondition}
use Rattle.sfc_debug.specs.declared.opening.DebugOpening.{DebugOpening}
use Rattle.sfc_debug.specs.Openings.{past_of}
use Rattle.sfc_debug.specs.Past.{DebugPast, debug_past}
use Rattle.sfc_control.specs.declared.entry.Entry.{Entry}
use Rattle.sfc_control.specs.Holding.{first_after}
use Rattle.sfc_control.specs.LegalHistory.{commands_of}
use Rattle.sfc_control.specs.Private.Saving.{IsSaved}

pub Past-set : IsSet DebugPast
Past-set = hlevel props

module _ (plant : PlantData) (table : List BreakCondition) (es : List Entry) (e : Entry) (first : ℕ) (low : first - 1 ≤ length es) (old new : DebugOpening) where
  -- it is that of the entries before an index
  abbrev Opens : DebugOpening → ℕ → List Entry → Type 0
  Opens opening at all = past_of plant opening ≡ debug_past plant table (commands_of (take (at - 1) all))

  stays : Opens old first es → new ≡ old → Opens new first (es ++ e ∷ [])
  stays opened is = rw (is, take-append-le (first - 1) es (e ∷ []) low) opened

  cut : (index : ℕ) → index ≡ length es + 1 → past_of plant new ≡ debug_past plant table (commands_of es) → Opens new index (es ++ e ∷ [])
  cut index at saved =
      let place : length es ≡ index - 1 = omega (arith, at) in
      rw (take_at es (e ∷ []) (index - 1) place) saved

  pub opened_after : (command : Command) (index : ℕ) → index ≡ length es + 1 → Opens old first es →
      IsSaved plant table (commands_of es) command old new → Opens new (first_after command first index) (es ++ e ∷ [])
  opened_after commands.Epoch index at opened saved = cut index at saved
  opened_after (commands.Scan task) index at opened saved = stays opened saved
  opened_after (commands.Single task delta) index at opened saved = stays opened saved
  opened_after (commands.Input id v) index at opened saved = stays opened saved
  opened_after (commands.Force id v) index at opened saved = stays opened saved
  opened_after (commands.Release id) index at opened saved = stays opened saved
  opened_after (commands.Reset p) index at opened saved = stays opened saved
  opened_after (commands.Read id) index at opened saved = stays opened saved
  opened_after (commands.Break p point) index at opened saved = stays opened saved
  opened_after (commands.BreakIf p point id) index at opened saved = stays opened saved
  opened_after (commands.Unbreak p point) index at opened saved = stays opened saved
  opened_after commands.Stop index at opened saved = stays opened saved
  opened_after commands.Go index at opened saved = stays opened saved
  opened_after commands.End index at opened saved = stays opened saved

-- where nothing was dropped
pub opened_new : (plant : PlantData) (table : List BreakCondition) (opening : DebugOpening) (first : ℕ) (es : List Entry) → first ≡ 1 → es ≡ [] →
    past_of plant opening ≡ debug_past plant table [] → past_of plant opening ≡ debug_past plant table (commands_of (take (first - 1) es))
opened_new plant table opening first es one none e = e ∙ (λ i. debug_past plant table (commands_of (take (sym one i - 1) (sym none i))))
