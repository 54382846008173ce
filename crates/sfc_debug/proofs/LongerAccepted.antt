-- Accepted commands name conditions of their table alone, so a longer one changes neither them nor what they leave.
use Rattle.std.proofs.Common.{◌≡◌, refl, sym, ap, subst, ℕ, true, ◌<◌, List, [], ◌∷◌, ◌++◌, length, ◌+◌, Option, Some, None, ℤ, rules}
use Rattle.std.specs.Prelude.{IsOk, slice_get}
use Rattle.std.proofs.lemmas.Option.{slice_get_within}
use Rattle.sfc_base.specs.declared.ids.ProgId.{ProgId}
use Rattle.sfc_plant.specs.Plants.{PlantData}
use Rattle.sfc_events.specs.declared.command.Command.{Command}
use Rattle.sfc_events.specs.declared.command.Command.TheVariants as commands
use Rattle.sfc_events.specs.declared.refusal.Refusal.TheVariants.{NoSuchCondition}
use Rattle.sfc_core.specs.Verdict.{or_then}
use Rattle.sfc_debug.specs.declared.break_condition.BreakCondition.{BreakCondition}
use Rattle.sfc_debug.specs.Histories.{CommandHistory}
use Rattle.sfc_debug.specs.Longer.{IsNamedWithin, NamesWithin}
use Rattle.sfc_debug.specs.Meaning.{IsAccepted}
use Rattle.sfc_debug.specs.Past.{debug_past, past_in}
use Rattle.sfc_debug.specs.RunClock.{run_instant}
use Rattle.sfc_debug.specs.States.{state_of}
use Rattle.sfc_debug.specs.Sums.{all_rows, answer_in}
use Rattle.sfc_debug.specs.Verdict.{verdict, is_condition_of, own_refusal, point_refusal, condition_refusal, room_refusal}
use Rattle.sfc_debug.proofs.Accepting.{neither, not_refused, own_granted, by_itself}
use Rattle.sfc_debug.proofs.Longer.{state_same, verdict_same}

there : (p : ProgId) (table : List BreakCondition) (k : ℕ) → is_condition_of p (slice_get table k) ≡ true → k < length table
there p table k e = found (slice_get table k) refl e
  where
    found : (entry : Option BreakCondition) → slice_get table k ≡ entry → is_condition_of p entry ≡ true → k < length table
    found None is e = search rules
    found (Some entry) is e = slice_get_within table k entry is

pub named_one : (plant : PlantData) (table : List BreakCondition) (h : CommandHistory) (command : Command) (raw : ℤ)
    → IsOk (verdict plant table h command raw) → IsNamedWithin (length table) command
named_one plant table h (commands.BreakIf p point id) raw ok =
    let set = (state_of plant table h).points in
    let given = by_itself plant table h (commands.BreakIf p point id) raw ok in
    let granted = own_granted (own_refusal plant table set (commands.BreakIf p point id)) _ given in
    let both = neither (point_refusal plant p point) (or_then (condition_refusal table p id) (room_refusal p point set)) granted in
    let one = neither (condition_refusal table p id) (room_refusal p point set) both.1 in
    there p table id.0 (not_refused (is_condition_of p (slice_get table id.0)) NoSuchCondition one.0)
named_one plant table h (commands.Scan task) raw ok = tt
named_one plant table h (commands.Single task delta) raw ok = tt
named_one plant table h (commands.Input id v) raw ok = tt
named_one plant table h (commands.Force id v) raw ok = tt
named_one plant table h (commands.Release id) raw ok = tt
named_one plant table h (commands.Reset p) raw ok = tt
named_one plant table h (commands.Read id) raw ok = tt
named_one plant table h (commands.Break p point) raw ok = tt
named_one plant table h (commands.Unbreak p point) raw ok = tt
named_one plant table h commands.Stop raw ok = tt
named_one plant table h commands.Go raw ok = tt
named_one plant table h commands.End raw ok = tt
named_one plant table h commands.Epoch raw ok = tt

pub named : (plant : PlantData) (table : List BreakCondition) (h : CommandHistory) → IsAccepted plant table h → NamesWithin (length table) h
named plant table [] accepted = tt
named plant table (timed ∷ h) accepted =
    (named_one plant table h timed.0 timed.1 accepted.0, named plant table h accepted.1)

module _ (plant : PlantData) (table more : List BreakCondition) where
  pub accepted_longer : (h : CommandHistory) → IsAccepted plant table h → IsAccepted plant (table ++ more) h
  accepted_longer [] accepted = tt
  accepted_longer (timed ∷ h) accepted =
      let same = verdict_same plant table more h timed.0 timed.1 (named plant table h accepted.1)
      (named_one plant table h timed.0 timed.1 accepted.0) in
      (subst IsOk (sym same) accepted.0, accepted_longer h accepted.1)

  pub past_same : (h : CommandHistory) → IsAccepted plant table h → debug_past plant (table ++ more) h ≡ debug_past plant table h
  past_same h accepted = ap (λ state. past_in plant state (length h)) (state_same plant table more h (named plant table h accepted))

  pub rows_same : (h : CommandHistory) → IsAccepted plant table h → all_rows plant (table ++ more) h ≡ all_rows plant table h
  rows_same [] accepted = refl
  rows_same (timed ∷ h) accepted =
      let within = named plant table h accepted.1 in
      let one = named_one plant table h timed.0 timed.1 accepted.0 in
      let state = state_same plant table more h within in
      let answer = verdict_same plant table more h timed.0 timed.1 within one in
      let rest = rows_same h accepted.1 in
      (λ i. record {
        number = length h + 1;
        raw = timed.1;
        t = run_instant (state i).clock timed.0 timed.1;
        command = timed.0;
        answer = answer_in (answer i);
      } ∷ rest i)
