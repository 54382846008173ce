-- What tables name is there.
use Rattle.std.proofs.Common.{◌≡◌, ℕ, suc, ◌+◌, ◌<◌, ◌≤◌, List, [], ◌∷◌, length, get_or, refl, sym, ◌∙◌, ap, subst, arith}
use Rattle.std.specs.Prelude.{map, All}
use Rattle.std.specs.List.Sorted.{IsPermutation}
use Rattle.std.proofs.lemmas.List.{length-map}
use Rattle.std.proofs.lemmas.List.Elements.{All-nil, All-cons, All-head, All-tail, All-append, All-map}
use Rattle.sfc_base.specs.declared.references.StepId.{StepId}
use Rattle.sfc_plant.specs.declared.association.Association.{Association}
use Rattle.sfc_plant.specs.declared.association.Target.{Target}
use Rattle.sfc_plant.specs.declared.chart.Step.{Step}
use Rattle.sfc_plant.specs.declared.chart.Chart.{Chart}
use Rattle.sfc_tables.specs.declared.step_action.StepAction.{StepAction}
use Rattle.sfc_tables.specs.Actions.{actions_of, number_of}
use Rattle.sfc_plant.specs.Chart.{Counts, IsChart}
use Rattle.sfc_tables.specs.Ranks.{priorities_of, transitions_to}
use Rattle.sfc_tables.specs.Tables.{Sides, Tabled, sides_of, in_text, numbered}
use Rattle.sfc_tables.specs.Tables.{associations_of, tables_of, IsTablesOf, AreSides, IsStepAction, AreTables}
use Rattle.sfc_tables.proofs.Found.{all_found}
use Rattle.sfc_tables.proofs.Numberings.{length-numbered, length-in_text, numbers_rise}
use Rattle.sfc_tables.proofs.RankOrders.{rank_order_ranks}

abbrev Pair : Type 0
Pair = StepId × Association

-- among n steps, and with an action of these
record IsPlaced (n : ℕ) (actions : List Target) (pair : Pair) : Type 0 where
  step : pair.0.0 < n
  action : (number_of actions pair.1.target).0 < length actions

module _ (n : ℕ) (actions : List Target) where
  abbrev Listed : Association → Type 0
  Listed association = (number_of actions association.target).0 < length actions

  numbered_placed : (k : ℕ) (pairs : List Pair) → All (IsPlaced n actions) pairs
      → All (IsStepAction n (length actions)) (numbered actions k pairs)
  numbered_placed k [] all = All-nil (IsStepAction n (length actions))
  numbered_placed k (pair ∷ pairs) all =
      let here = All-head (IsPlaced n actions) pair pairs all in
      All-cons (IsStepAction n (length actions))
      record { number = record { 0 = k }; step = pair.0; action = number_of actions pair.1.target; qualifier = pair.1.qualifier }
      (numbered actions (suc k) pairs)
      record { step = here.step; action = here.action }
      (numbered_placed (suc k) pairs (All-tail (IsPlaced n actions) pair pairs all))

  text_placed : (s : ℕ) (steps : List Step) → s + length steps ≤ n → All (λ (step : Step). All Listed step.associations) steps
      → All (IsPlaced n actions) (in_text s steps)
  text_placed s [] le all = All-nil (IsPlaced n actions)
  text_placed s (step ∷ steps) le all =
      let id : StepId = record { 0 = s } in
      let pair : Association → Pair = λ association. (id, association) in
      let here = All-head (λ (step : Step). All Listed step.associations) step steps all in
      All-append (IsPlaced n actions) (map pair step.associations) (in_text (suc s) steps)
      (All-map (IsPlaced n actions) pair step.associations (λ k d lt. record { step = omega arith; action = here k d lt }))
      (text_placed (suc s) steps (omega arith) (All-tail (λ (step : Step). All Listed step.associations) step steps all))

module _ (counts : Counts) (chart : Chart) (sound : IsChart counts chart)
    (tables : Tabled) (made : IsTablesOf chart tables) where
  steps_long : length tables.initial ≡ length chart.steps
  steps_long = ap length made.initial ∙ length-map chart.steps (λ step. step.is_initial)

  transitions_long : length tables.sides ≡ length chart.transitions
  transitions_long = ap length made.sides ∙ length-map chart.transitions sides_of

  sides_sound : All (AreSides (length chart.steps)) (map sides_of chart.transitions)
  sides_sound = All-map (AreSides (length chart.steps)) sides_of chart.transitions (λ k d lt.
      let t = sound.transitions k d lt in record {
        preceding = t.preceding;
        following = t.following;
        some_preceding = t.some_preceding;
        some_following = t.some_following;
      })

  associations_sound : All (IsStepAction (length chart.steps) (length (actions_of chart))) (associations_of chart)
  associations_sound =
      numbered_placed (length chart.steps) (actions_of chart) 0 (in_text 0 chart.steps)
      (text_placed (length chart.steps) (actions_of chart) 0 chart.steps (omega arith) (all_found counts chart sound.associations))

  pub tables_sound : AreTables tables
  tables_sound = record {
    sides = subst (λ (n : ℕ). All (AreSides n) tables.sides) (sym steps_long)
        (subst (λ (sides : List Sides). All (AreSides (length chart.steps)) sides) (sym made.sides) sides_sound);
    ranked =
        subst (λ (n : ℕ). IsPermutation (transitions_to n) tables.ranked)
        (length-map chart.transitions (λ transition. transition.priority) ∙ sym transitions_long) made.ranked.all;
    associations =
        subst (λ (n : ℕ). All (IsStepAction n (length tables.actions)) tables.associations) (sym steps_long)
        (subst (λ (actions : List Target). All (IsStepAction (length chart.steps) (length actions)) tables.associations) (sym made.actions)
        (subst (λ (entries : List StepAction). All (IsStepAction (length chart.steps) (length (actions_of chart))) entries)
        (sym made.associations) associations_sound));
    numbers = λ k d lt.
        let within : k < length (associations_of chart) = omega (arith, ap length made.associations) in
        ap (λ (entries : List StepAction). (get_or entries k d).number.0) made.associations
        ∙ numbers_rise (actions_of chart) 0 (in_text 0 chart.steps) k d within ∙ omega arith;
    step_limit = omega (arith, steps_long, sound.step_limit);
    transition_limit = omega (arith, transitions_long, sound.transition_limit);
    association_limit =
        omega (
          arith,
          ap length made.associations,
          length-numbered (actions_of chart) 0 (in_text 0 chart.steps),
          length-in_text 0 chart.steps,
          sound.association_limit,
        );
  }

-- the tables that the definitions give are the tables of the chart
pub tables_of_made : (chart : Chart) → IsTablesOf chart (tables_of chart)
tables_of_made chart =
    record {
      initial = refl;
      sides = refl;
      least_times = refl;
      ranked = rank_order_ranks (priorities_of chart.transitions);
      actions = refl;
      associations = refl;
    }
