-- What a chart says (2.6.2 to 2.6.4) and what is told of it, and what is drawn of that.
use Rattle.std.specs.Prelude.{◌++◌, ◌≡◌, ◌+◌, ℕ, List, [], ◌∷◌, Bool, true, false, Option, Some, None, map, flat_map, slice_get, codes}
use Rattle.sfc_base.specs.declared.ids.TransitionId.{TransitionId}
use Rattle.sfc_base.specs.declared.references.StepId.{StepId}
use Rattle.sfc_base.specs.declared.references.Variable.{Variable}
use Rattle.sfc_plant.specs.declared.action.Action.{Action}
use Rattle.sfc_plant.specs.declared.association.Association.{Association}
use Rattle.sfc_plant.specs.declared.association.Qualifier.{Qualifier}
use Rattle.sfc_plant.specs.declared.association.Qualifier.TheVariants.{Timed}
use Rattle.sfc_plant.specs.declared.association.Target.{Target}
use Rattle.sfc_plant.specs.declared.association.Target.TheVariants.{Boolean, Declared}
use Rattle.sfc_plant.specs.declared.chart.Chart.{Chart}
use Rattle.sfc_plant.specs.declared.chart.Step.{Step}
use Rattle.sfc_plant.specs.declared.chart.Transition.{Transition}
use Rattle.sfc_plant.specs.Letters.{letters}
use Rattle.sfc_plant.specs.Names.{variable_name, step_name, target_name}
use Rattle.sfc_plant.specs.Spaces.{Space}
use Rattle.sfc_list.specs.Charts.{association_time}
use Rattle.sfc_layout.specs.Apart.{AreApart}
use Rattle.sfc_drawing.specs.declared.draw_link.Side.{Side}
use Rattle.sfc_drawing.specs.declared.draw_link.Side.TheVariants.{To, From}
use Rattle.sfc_drawing.specs.declared.drawn.ActionMark.{ActionMark}
use Rattle.sfc_drawing.specs.declared.drawn.DrawnBody.{DrawnBody}
use Rattle.sfc_drawing.specs.declared.drawn.DrawnChart.{DrawnChart}
use Rattle.sfc_drawing.specs.declared.drawn.DrawnLink.{DrawnLink}
use Rattle.sfc_drawing.specs.declared.drawn.DrawnRow.{DrawnRow}
use Rattle.sfc_drawing.specs.declared.drawn.DrawnStep.{DrawnStep}
use Rattle.sfc_drawing.specs.declared.drawn.DrawnTransition.{DrawnTransition}
use Rattle.sfc_drawing.specs.declared.drawn.StepMark.{StepMark}
use Rattle.sfc_drawing.specs.declared.drawn.TransitionMark.{TransitionMark}
use Rattle.sfc_drawing.specs.declared.marks.Marks.{Marks}
use Rattle.sfc_drawing.specs.declared.marks.StepState.{StepState}
use Rattle.sfc_drawing.specs.Told.{action_mark, transition_mark, step_mark, rows_told}
use Rattle.sfc_drawing.specs.declared.drawn.End.{End}
use Rattle.sfc_drawing.specs.declared.drawn.End.TheVariants as end

-- what is made of each element and of its number, where the first has number n
abbrev pub counted : {A B : Type 0} → (ℕ → A → B) → ℕ → List A → List B
counted f n [] = []
counted f n (x ∷ xs) = f n x ∷ counted f (n + 1) xs

-- ---- associations (2.6.4.3)

pub record SaidRow : Type 0 where
  pub qualifier : List ℕ
  pub time : List ℕ
  pub action : List ℕ
  pub indicators : List ℕ
  pub has_body : Bool
  pub mark : ActionMark

abbrev pub time_said : Space → Qualifier → List ℕ
time_said space (Timed q t) = association_time space t
time_said space q = []

-- another indicator behind the first
abbrev pub further : Space → Variable → List ℕ
further space v = codes ", " ++ variable_name space v

abbrev pub indicators_said : Space → List Variable → List ℕ
indicators_said space [] = []
indicators_said space (v ∷ vs) = variable_name space v ++ flat_map (further space) vs

abbrev pub has_body : Target → Bool
has_body (Declared id) = true
has_body (Boolean v) = false

abbrev pub row_said : Space → ActionMark → Association → SaidRow
row_said space mark a = record {
  qualifier = letters a.qualifier;
  time = time_said space a.qualifier;
  action = target_name space a.target;
  indicators = indicators_said space a.indicators;
  has_body = has_body a.target;
  mark = mark;
}

abbrev pub rows_said : Space → List ActionMark → List Association → List SaidRow
rows_said space marks associations = counted (λ n a. row_said space (action_mark (slice_get marks n)) a) 0 associations

abbrev pub row_drawn : DrawnRow → SaidRow
row_drawn row = record {
  qualifier = row.qualifier;
  time = row.time;
  action = row.action;
  indicators = row.indicators;
  has_body = row.has_body;
  mark = row.mark;
}

-- ---- steps (2.6.2), with their action blocks

pub record SaidStep : Type 0 where
  pub name : List ℕ
  pub is_initial : Bool
  pub rows : List SaidRow
  pub mark : StepMark

abbrev pub step_said : Space → Option StepState → Step → SaidStep
step_said space told s = record {
  name = s.name;
  is_initial = s.is_initial;
  rows = rows_said space (rows_told told) s.associations;
  mark = step_mark told;
}

abbrev pub step_drawn : DrawnStep → SaidStep
step_drawn s = record { name = s.name; is_initial = s.is_initial; rows = map row_drawn s.rows; mark = s.mark }

abbrev pub steps_said : Space → Marks → List Step → List SaidStep
steps_said space told steps = counted (λ n s. step_said space (slice_get told.steps n) s) 0 steps

-- ---- transitions (2.6.3)

pub record SaidTransition : Type 0 where
  pub name : Option (List ℕ)
  pub priority : Option ℕ
  pub mark : TransitionMark

abbrev pub transition_said : TransitionMark → Transition → SaidTransition
transition_said mark t = record { name = t.name; priority = t.priority; mark = mark }

abbrev pub transition_drawn : DrawnTransition → SaidTransition
transition_drawn t = record { name = t.name; priority = t.priority; mark = t.mark }

abbrev pub transitions_said : Marks → List Transition → List SaidTransition
transitions_said told transitions = counted (λ n t. transition_said (transition_mark (slice_get told.transitions n)) t) 0 transitions

-- ---- bodies of actions (2.6.4.1)

pub record SaidBody : Type 0 where
  pub name : List ℕ
  pub mark : ActionMark

abbrev pub body_said : ActionMark → Action → SaidBody
body_said mark a = record { name = a.name; mark = mark }

abbrev pub body_drawn : DrawnBody → SaidBody
body_drawn b = record { name = b.name; mark = b.mark }

abbrev pub bodies_said : Marks → List Action → List SaidBody
bodies_said told actions = counted (λ n a. body_said (action_mark (slice_get told.bodies n)) a) 0 actions

-- ---- links (2.6.5)

pub record SaidLink : Type 0 where
  pub source : End
  pub target : End

abbrev pub ends : End → End → SaidLink
ends source target = record { source = source; target = target }

abbrev pub link_drawn : DrawnLink → SaidLink
link_drawn l = record { source = l.source; target = l.target }

abbrev pub step_end : Space → StepId → End
step_end space s = end.Step (step_name space s)

-- transitions are counted from 1
abbrev pub transition_end : ℕ → End
transition_end place = end.Transition (place + 1)

abbrev pub link_to : Space → ℕ → StepId → SaidLink
link_to space place s = record { source = step_end space s; target = transition_end place }

abbrev pub link_from : Space → ℕ → StepId → SaidLink
link_from space place s = record { source = transition_end place; target = step_end space s }

abbrev pub link_on : Side → Space → ℕ → StepId → SaidLink
link_on To space place s = link_to space place s
link_on From space place s = link_from space place s

-- the links of a transition: those to it, and those from it
abbrev pub links_of : Space → ℕ → Option Transition → List SaidLink
links_of space place None = []
links_of space place (Some t) = map (link_to space place) t.preceding ++ map (link_from space place) t.following

abbrev pub links_at : Space → List Transition → TransitionId → List SaidLink
links_at space transitions id = links_of space id.0 (slice_get transitions id.0)

-- ---- charts

-- Each step with each of its associations, and each transition, is drawn once, in the order of the text, with what is told of it; and no
-- point lies in the boxes of two of them.
pub record ArePartsOf (space : Space) (chart : Chart) (told : Marks) (steps : List DrawnStep) (transitions : List DrawnTransition) : Type 0 where
  pub steps_drawn : map step_drawn steps ≡ steps_said space told chart.steps
  pub transitions_drawn : map transition_drawn transitions ≡ transitions_said told chart.transitions
  pub apart : AreApart (map (λ s. s.place) steps ++ map (λ t. t.place) transitions)

-- so is each link, in the order of the rank of its transition, and each action with a body
pub record IsDrawn (space : Space) (chart : Chart) (ranked : List TransitionId) (told : Marks) (c : DrawnChart) : Type 0 where
  pub parts : ArePartsOf space chart told c.steps c.transitions
  pub links : map link_drawn c.links ≡ flat_map (links_at space chart.transitions) ranked
  pub bodies : map body_drawn c.bodies ≡ bodies_said told chart.actions
