-- What derives can stand in a text, and keeps to the limits.
use Rattle.std.proofs.Common.{◌≡◌, ℕ, ◌≤◌, false, List, [], ◌∷◌, ◌++◌, All, refl}
use Rattle.std.proofs.lemmas.List.Elements.{All-append}
use Rattle.sfc_tokens.specs.Tokens.{Kinds}
use Rattle.sfc_text.specs.Grammar as grammar
use Rattle.sfc_text.specs.Limits.{Limits}
use Rattle.sfc_text.specs.Lists.{is_empty}
use Rattle.sfc_text.specs.Reads.{IsSource}
use Rattle.sfc_text.specs.Rules.{Rule}
use Rattle.sfc_text.specs.Trees.{SourceTree, operators}
use Rattle.sfc_text.specs.Spelled.{nesting}
use Rattle.sfc_text.specs.SpelledStatements.{IsBody, block_nesting, most_operators}
use Rattle.sfc_text.specs.SpelledCharts.{KeepsAction, KeepsTransition, KeepsElement}
use Rattle.sfc_text.specs.SpelledSources.{AreDeclared, IsDeclaration, IsExternal, AreVariables, KeepsProgram, IsConfiguration, KeepsSource}
use Rattle.sfc_text.proofs.Holding.{Gives, Anything, always, so, of_map, of_both, of_left, of_right, of_either, of_repeated, of_gathered}
use Rattle.sfc_text.proofs.Nesting.{expression_needs}
use Rattle.sfc_text.proofs.NestingStatements.{body_needs}

-- whatever the tokens
abbrev Yields : {X : Type 0} → Limits → Rule X → (X → Type 0) → Type 0
Yields limits rule Q = Gives Anything limits rule Q

-- ---- variables

names_or_location_keeps : (limits : Limits) → Yields limits grammar.names_or_location (λ p. (one : List ℕ) → AreDeclared (one ∷ p.0) p.1)
unfolding grammar.names_or_location
names_or_location_keeps limits = of_either (of_map (always (λ l one. refl))) (of_map (always (λ ns one. tt)))

declaration_keeps : (limits : Limits) → Yields limits grammar.declaration IsDeclaration
unfolding grammar.declaration
declaration_keeps limits =
    of_map (of_left (of_both (λ y. AreDeclared (y.0.0 ∷ y.0.1.0) y.0.1.1)
    (of_both (λ y. AreDeclared (y.0 ∷ y.1.0) y.1.1)
    (of_left (of_both Anything (always (λ one. tt)) (so (names_or_location_keeps limits) (λ p h one t. h one))))
    (always (λ t y h. h)))
    (always (λ i y h. h))))

names_keep : (limits : Limits) → Yields limits grammar.names (λ ns. is_empty ns ≡ false)
unfolding grammar.names
names_keep limits = of_both Anything (always (λ n. tt)) (always (λ ns n t. refl))

external_keeps : (limits : Limits) → Yields limits grammar.external IsExternal
unfolding grammar.external
external_keeps limits = of_map (of_left (of_both (λ ns. is_empty ns ≡ false) (of_left (names_keep limits)) (always (λ t ns h. h))))

variables_keep : (limits : Limits) → Yields limits grammar.variables AreVariables
unfolding grammar.variables
variables_keep limits = of_either (of_map (of_left (of_right (of_repeated (declaration_keeps limits))))) (of_map (of_left (of_right (of_repeated (external_keeps limits)))))

-- ---- charts

expression_keeps : (limits : Limits) → Yields limits grammar.expression (λ e. nesting e ≤ limits.depth × operators e ≤ limits.operators)
expression_keeps limits = record { holds = λ ts e rest d all. expression_needs limits.operators limits.depth ts e rest d }

body_keeps : (limits : Limits) → Yields limits grammar.body (λ b. IsBody b × block_nesting b ≤ limits.depth × most_operators b ≤ limits.operators)
body_keeps limits = record { holds = λ ts b rest d all. body_needs limits.operators limits.depth ts b rest d }

steps_keep : (limits : Limits) → Yields limits grammar.steps (λ ns. is_empty ns ≡ false)
unfolding grammar.steps
steps_keep limits = of_either (of_map (always (λ n. refl))) (of_left (of_right (names_keep limits)))

transition_keeps : (limits : Limits) → Yields limits grammar.transition (KeepsTransition limits)
unfolding grammar.before_from grammar.before_condition grammar.transition
transition_keeps limits =
    let some = steps_keep limits in
    of_map (of_left (of_left (of_both (λ y. (is_empty y.0.1 ≡ false) × (is_empty y.1 ≡ false))
    (of_left (of_both (λ y. is_empty y.1 ≡ false)
    (of_left (of_both Anything (always (λ y. tt)) (so some (λ ns h y t. h))))
    (so some (λ ns h y g. (g, h)))))
    (so (expression_keeps limits) (λ e h y g. (g.0, g.1, h.0, h.1))))))

action_keeps : (limits : Limits) → Yields limits grammar.action (KeepsAction limits)
unfolding grammar.action
action_keeps limits = of_map (of_left (of_both Anything (always (λ n. tt)) (so (body_keeps limits) (λ b h n t. h))))

element_keeps : (limits : Limits) → Yields limits grammar.element (KeepsElement limits)
unfolding grammar.element
element_keeps limits = of_either (of_map (always (λ s. tt))) (of_either (of_map (always (λ s. tt))) (of_either (of_map (transition_keeps limits)) (of_map (action_keeps limits))))

-- ---- program types

program_keeps : (limits : Limits) → Yields limits grammar.program (KeepsProgram limits)
unfolding grammar.program
program_keeps limits =
    of_map (of_left (of_both (λ y. All AreVariables y.1)
    (of_both Anything (always (λ n. tt)) (so (of_repeated (variables_keep limits)) (λ vs h n t. h)))
    (so (of_repeated (element_keeps limits)) (λ es h y g. record { variables = g; elements = h }))))

-- ---- the configuration

globals_keep : (limits : Limits) → Yields limits grammar.globals (All IsDeclaration)
unfolding grammar.globals
globals_keep limits = of_left (of_right (of_repeated (declaration_keeps limits)))

configuration_keeps : (limits : Limits) → Yields limits grammar.configuration IsConfiguration
unfolding grammar.before_resource grammar.before_tasks grammar.configuration
configuration_keeps limits =
    let all = of_gathered IsDeclaration (globals_keep limits) in
    of_map (of_left (of_left (of_both (λ y. All IsDeclaration (y.0.0.0.0.1 ++ y.0.1))
    (of_both (λ y. All IsDeclaration (y.0.0.0.1 ++ y.1))
    (of_both (λ y. All IsDeclaration y.0.0.1)
    (of_both (λ y. All IsDeclaration y.0.1)
    (of_left (of_both (λ y. All IsDeclaration y.1)
    (of_left (of_both Anything (always (λ n. tt)) (so all (λ ds h n t. h))))
    (always (λ n y h. h))))
    (always (λ n y h. h)))
    (so all (λ ds h y g. All-append IsDeclaration y.0.0.1 ds g h)))
    (always (λ ts y h. h)))
    (of_both Anything (always (λ i. tt)) (always (λ is i t y h. record { globals = h; instances = refl }))))))

-- ---- whole texts

source_keeps : (limits : Limits) → Yields limits grammar.source (KeepsSource limits)
unfolding grammar.source
source_keeps limits =
    let programs = of_repeated (program_keeps limits) in
    of_map (of_both (λ y. All (KeepsProgram limits) y.0 × IsConfiguration y.1)
    (of_both (All (KeepsProgram limits)) programs (so (configuration_keeps limits) (λ c h ps g. (g, h))))
    (so programs (λ ps h y g. record { programs = All-append (KeepsProgram limits) y.0 ps g.0 h; configuration = g.1 })))

pub keeps : (limits : Limits) (ts : Kinds) (s : SourceTree) → IsSource limits ts s → KeepsSource limits s
keeps limits ts s d = (source_keeps limits).holds ts s [] d (λ k t lt. tt)
