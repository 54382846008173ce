-- The tokens that spell the elements of a chart: steps (2.6.2), transitions (2.6.3) and actions (2.6.4).
use Rattle.std.specs.Prelude.{◌≡◌, ◌≤◌, ℕ, List, [], ◌∷◌, ◌++◌, Bool, true, false, flat_map, Option, Some, None, ⊤, codes}
use Rattle.sfc_base.specs.declared.delimiter.Delimiter.TheVariants as sign
use Rattle.sfc_base.specs.declared.keyword.Keyword.{Keyword}
use Rattle.sfc_base.specs.declared.keyword.Keyword.TheVariants as keyword
use Rattle.sfc_tokens.specs.declared.token.TokenKind.TheVariants as token
use Rattle.sfc_tokens.specs.Tokens.{Kinds}
use Rattle.sfc_text.specs.declared.tree.Association.{Association}
use Rattle.sfc_text.specs.declared.tree.AssociationTime.{AssociationTime}
use Rattle.sfc_text.specs.declared.tree.AssociationTime.TheVariants as time
use Rattle.sfc_text.specs.declared.tree.Qualifier.{Qualifier}
use Rattle.sfc_text.specs.declared.tree.Qualifier.TheVariants as qualifier
use Rattle.sfc_text.specs.declared.tree.Step.{Step}
use Rattle.sfc_base.specs.declared.qualifier.TimedQualifier.{TimedQualifier}
use Rattle.sfc_base.specs.declared.qualifier.TimedQualifier.TheVariants as timed
use Rattle.sfc_text.specs.Limits.{Limits}
use Rattle.sfc_text.specs.Lists.{is_empty}
use Rattle.sfc_text.specs.Trees.{TransitionTree, ActionTree, ElementTree, AStep, ATransition, AnAction, operators}
use Rattle.sfc_text.specs.Spelled.{tree_tokens, nesting}
use Rattle.sfc_text.specs.SpelledStatements.{IsBody, body_tokens, block_nesting, most_operators}

-- names behind a comma each
abbrev pub further_tokens : List (List ℕ) → Kinds
further_tokens names = flat_map (λ n. token.Delimiter sign.Comma ∷ token.Name n ∷ []) names

-- the letters of a qualifier with a time (2.6.4.4)
abbrev pub timed_letters : TimedQualifier → List ℕ
timed_letters timed.Limited = codes "L"
timed_letters timed.Delayed = codes "D"
timed_letters timed.StoredDelayed = codes "SD"
timed_letters timed.DelayedStored = codes "DS"
timed_letters timed.StoredLimited = codes "SL"

-- the time of an association: a duration, or the name of a variable
abbrev pub time_tokens : AssociationTime → Kinds
time_tokens (time.Literal d) = token.Duration d ∷ []
time_tokens (time.Variable name) = token.Name name ∷ []

-- a qualifier with its time, if it has one (2.6.4.4)
abbrev pub qualifier_tokens : Qualifier → Kinds
qualifier_tokens qualifier.NonStored = token.Name (codes "N") ∷ []
qualifier_tokens qualifier.Reset = token.Name (codes "R") ∷ []
qualifier_tokens qualifier.Set = token.Name (codes "S") ∷ []
qualifier_tokens qualifier.Pulse = token.Name (codes "P") ∷ []
qualifier_tokens qualifier.RisingPulse = token.Name (codes "P1") ∷ []
qualifier_tokens qualifier.FallingPulse = token.Name (codes "P0") ∷ []
qualifier_tokens (qualifier.Timed q t) = token.Name (timed_letters q) ∷ token.Delimiter sign.Comma ∷ time_tokens t

-- an association with its qualifier and its indicator variables (2.6.4.3), up to the semicolon
abbrev pub association_tokens : Association → Kinds
association_tokens a =
    (token.Name a.action ∷ token.Delimiter sign.Open ∷ qualifier_tokens a.qualifier) ++ further_tokens a.indicators
    ++ (token.Delimiter sign.Close ∷ token.Delimiter sign.Semicolon ∷ [])

-- the word that a step begins with
abbrev pub step_word : Bool → Keyword
step_word true = keyword.InitialStep
step_word false = keyword.Step

-- a step with its associations (2.6.2)
abbrev pub step_tokens : Step → Kinds
step_tokens s =
    (token.Keyword (step_word s.is_initial) ∷ token.Name s.name ∷ token.Delimiter sign.Colon
    ∷ flat_map association_tokens s.associations)
    ++ (token.Keyword keyword.EndStep ∷ [])

-- an action with its body (2.6.4.1)
abbrev pub action_tokens : ActionTree → Kinds
action_tokens a =
    (token.Keyword keyword.Action ∷ token.Name a.name ∷ token.Delimiter sign.Colon ∷ body_tokens a.body)
    ++ (token.Keyword keyword.EndAction ∷ [])

-- whether the body of an action is statements within the limits
abbrev pub KeepsAction : Limits → ActionTree → Type 0
KeepsAction limits a =
    IsBody a.body × block_nesting a.body ≤ limits.depth × most_operators a.body ≤ limits.operators

-- one step of a side plainly, several in parentheses (2.6.3)
abbrev pub side_tokens : List (List ℕ) → Kinds
side_tokens [] = []
side_tokens (one ∷ []) = token.Name one ∷ []
side_tokens (one ∷ others) =
    (token.Delimiter sign.Open ∷ token.Name one ∷ further_tokens others) ++ (token.Delimiter sign.Close ∷ [])

-- the name of a transition, if it has one
abbrev pub transition_name : Option (List ℕ) → Kinds
transition_name None = []
transition_name (Some name) = token.Name name ∷ []

-- the priority of a transition, if it has one (2.6.3)
abbrev pub priority_tokens : Option ℕ → Kinds
priority_tokens None = []
priority_tokens (Some n) =
    token.Delimiter sign.Open ∷ token.Name (codes "PRIORITY") ∷ token.Delimiter sign.Assign ∷ token.Integer n
    ∷ token.Delimiter sign.Close ∷ []

-- a transition from its preceding to its following steps, with its condition (2.6.3)
abbrev pub transition_tokens : TransitionTree → Kinds
transition_tokens t =
    (token.Keyword keyword.Transition ∷ transition_name t.name) ++ priority_tokens t.priority
    ++ (token.Keyword keyword.From ∷ side_tokens t.preceding) ++ (token.Keyword keyword.To ∷ side_tokens t.following)
    ++ (token.Delimiter sign.Assign ∷ tree_tokens t.condition)
    ++ (token.Delimiter sign.Semicolon ∷ token.Keyword keyword.EndTransition ∷ [])

-- whether a transition has steps on both sides and a condition within the limits
abbrev pub KeepsTransition : Limits → TransitionTree → Type 0
KeepsTransition limits t =
    (is_empty t.preceding ≡ false) × (is_empty t.following ≡ false) × nesting t.condition ≤ limits.depth
    × operators t.condition ≤ limits.operators

-- an element of a chart (2.6)
abbrev pub element_tokens : ElementTree → Kinds
element_tokens (AStep s) = step_tokens s
element_tokens (ATransition t) = transition_tokens t
element_tokens (AnAction a) = action_tokens a

-- whether an element keeps to the limits, as a transition or an action has to
abbrev pub KeepsElement : Limits → ElementTree → Type 0
KeepsElement limits (AStep s) = ⊤
KeepsElement limits (ATransition t) = KeepsTransition limits t
KeepsElement limits (AnAction a) = KeepsAction limits a
