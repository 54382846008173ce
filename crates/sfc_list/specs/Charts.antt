-- The text of steps (2.6.2), transitions (2.6.3) and actions (2.6.4).
use Rattle.std.specs.Prelude.{◌++◌, ℕ, List, [], ◌∷◌, Bool, true, false, map, flat_map, Option, Some, None, codes}
use Rattle.std.specs.Fmt.{decimal}
use Rattle.sfc_base.specs.TimeText.{time_text}
use Rattle.sfc_base.specs.declared.references.Variable.{Variable}
use Rattle.sfc_plant.specs.declared.association.Association.{Association}
use Rattle.sfc_plant.specs.declared.association.Time.{Time}
use Rattle.sfc_plant.specs.declared.association.Time.TheVariants as time
use Rattle.sfc_plant.specs.declared.association.Qualifier.{Qualifier}
use Rattle.sfc_plant.specs.declared.association.Qualifier.TheVariants as qualifier
use Rattle.sfc_plant.specs.declared.action.Action.{Action}
use Rattle.sfc_plant.specs.declared.chart.Step.{Step}
use Rattle.sfc_plant.specs.declared.chart.Transition.{Transition}
use Rattle.sfc_plant.specs.Spaces.{Space}
use Rattle.sfc_list.specs.Layout.{line, after_commas, with_commas}
use Rattle.sfc_plant.specs.Letters.{letters, timed_letters}
use Rattle.sfc_plant.specs.Names.{variable_name, step_name, target_name}
use Rattle.sfc_list.specs.Expressions.{expression_text}
use Rattle.sfc_list.specs.Statements.{body_text}

-- ---- steps and their action blocks

abbrev pub association_time : Space → Time → List ℕ
association_time space (time.Literal t) = time_text t
association_time space (time.Variable v) = variable_name space v

-- a qualifier with its time, if it has one (2.6.4.4)
abbrev pub qualifier_text : Space → Qualifier → List ℕ
qualifier_text space (qualifier.Timed q t) = timed_letters q ++ codes ", " ++ association_time space t
qualifier_text space q = letters q

abbrev pub indicators_text : Space → List Variable → List ℕ
indicators_text space indicators = after_commas (map (variable_name space) indicators)

abbrev pub association_text : Space → Association → List ℕ
association_text space a =
    target_name space a.target ++ codes "(" ++ qualifier_text space a.qualifier ++ indicators_text space a.indicators
    ++ codes ");"

abbrev pub step_word : Bool → List ℕ
step_word false = codes "STEP "
step_word true = codes "INITIAL_STEP "

abbrev pub step_head : Step → List ℕ
step_head s = step_word s.is_initial ++ s.name ++ codes ":"

abbrev pub step_text : Space → Step → List ℕ
step_text space s =
    line 1 (step_head s) ++ flat_map (λ a. line 2 (association_text space a)) s.associations ++ line 1 (codes "END_STEP")

-- ---- transitions

-- one step plainly, several in parentheses
abbrev pub side_text : List (List ℕ) → List ℕ
side_text (one ∷ []) = one
side_text names = codes "(" ++ with_commas names ++ codes ")"

abbrev pub priority_text : Option ℕ → List ℕ
priority_text None = []
priority_text (Some n) = codes "(PRIORITY := " ++ decimal n ++ codes ") "

abbrev pub transition_name : Option (List ℕ) → List ℕ
transition_name None = []
transition_name (Some name) = name ++ codes " "

abbrev pub transition_head : Space → Transition → List ℕ
transition_head space t =
    codes "TRANSITION " ++ transition_name t.name ++ priority_text t.priority
    ++ codes "FROM " ++ side_text (map (step_name space) t.preceding)
    ++ codes " TO " ++ side_text (map (step_name space) t.following)

abbrev pub condition_text : Space → Transition → List ℕ
condition_text space t = codes ":= " ++ expression_text space [] t.condition ++ codes ";"

abbrev pub transition_text : Space → Transition → List ℕ
transition_text space t =
    line 1 (transition_head space t) ++ line 2 (condition_text space t) ++ line 1 (codes "END_TRANSITION")

-- ---- actions

abbrev pub action_head : Action → List ℕ
action_head a = codes "ACTION " ++ a.name ++ codes ":"

abbrev pub action_text : Space → Action → List ℕ
action_text space a = line 1 (action_head a) ++ body_text space a.name 2 a.body ++ line 1 (codes "END_ACTION")
