-- What holds of each chart that a program can have (2.6.2 to 2.6.4).
use Rattle.std.specs.Prelude.{◌≡◌, ℕ, ℤ, ◌<◌, ◌≤◌, ◌^◌, neg_ℤ, pos, ◌≤ℤ◌, true, All, Any, length, sum_by}
use Rattle.sfc_base.specs.declared.limits.TheConstants.{ASSOCIATIONS, STEPS, TRANSITIONS}
use Rattle.sfc_base.specs.declared.references.Variable.{Variable}
use Rattle.sfc_base.specs.declared.references.Variable.TheVariants as variable
use Rattle.sfc_base.specs.declared.references.StepId.{StepId}
use Rattle.sfc_plant.specs.declared.association.Target.{Target}
use Rattle.sfc_plant.specs.declared.association.Target.TheVariants as target
use Rattle.sfc_plant.specs.declared.association.Time.{Time}
use Rattle.sfc_plant.specs.declared.association.Time.TheVariants as time
use Rattle.sfc_plant.specs.declared.association.Qualifier.{Qualifier}
use Rattle.sfc_plant.specs.declared.association.Qualifier.TheVariants as qualifier
use Rattle.sfc_plant.specs.declared.association.Association.{Association}
use Rattle.sfc_plant.specs.declared.chart.Step.{Step}
use Rattle.sfc_plant.specs.declared.chart.Transition.{Transition}
use Rattle.sfc_plant.specs.declared.chart.Chart.{Chart}

-- how many variables there are: those that all programs share, and the program's own
pub record Counts : Type 0 where
  pub globals : ℕ
  pub locals : ℕ

abbrev pub IsVariable : Counts → Variable → Type 0
IsVariable counts (variable.Global id) = id.0 < counts.globals
IsVariable counts (variable.Local id) = id.0 < counts.locals

-- from -2^62 to 2^62 microseconds
pub record IsTime (t : ℤ) : Type 0 where
  pub low : neg_ℤ (pos (2 ^ 62)) ≤ℤ t
  pub high : t ≤ℤ pos (2 ^ 62)

abbrev pub IsAssociationTime : Counts → Time → Type 0
IsAssociationTime counts (time.Literal t) = IsTime t
IsAssociationTime counts (time.Variable v) = IsVariable counts v

abbrev pub IsQualifier : Counts → Qualifier → Type 0
IsQualifier counts (qualifier.Timed q t) = IsAssociationTime counts t
IsQualifier counts _ = Unit {0}

-- among n declared actions
abbrev pub IsTarget : Counts → ℕ → Target → Type 0
IsTarget counts n (target.Declared id) = id.0 < n
IsTarget counts n (target.Boolean v) = IsVariable counts v

-- among n declared actions
pub record IsAssociation (counts : Counts) (n : ℕ) (association : Association) : Type 0 where
  pub target : IsTarget counts n association.target
  pub qualifier : IsQualifier counts association.qualifier
  pub indicators : All (IsVariable counts) association.indicators

-- among m steps: at least one preceding and one following step
pub record IsTransition (m : ℕ) (transition : Transition) : Type 0 where
  pub preceding : All (λ (s : StepId). s.0 < m) transition.preceding
  pub following : All (λ (s : StepId). s.0 < m) transition.following
  pub some_preceding : 0 < length transition.preceding
  pub some_following : 0 < length transition.following

pub record IsChart (counts : Counts) (chart : Chart) : Type 0 where
  pub associations : All (λ (step : Step). All (IsAssociation counts (length chart.actions)) step.associations) chart.steps
  pub transitions : All (IsTransition (length chart.steps)) chart.transitions
  pub initial : Any (λ (step : Step). step.is_initial ≡ true) chart.steps
  pub step_limit : length chart.steps ≤ STEPS
  pub transition_limit : length chart.transitions ≤ TRANSITIONS
  pub association_limit : sum_by (λ (step : Step). length step.associations) chart.steps ≤ ASSOCIATIONS
