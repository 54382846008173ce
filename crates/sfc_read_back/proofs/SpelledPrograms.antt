-- The text of a program type spells the tokens of the one that the listing spells.
use Rattle.std.proofs.Common.{ℕ, List, [], ◌∷◌, ◌++◌, map, flat_map, refl, sym, subst, codes}
use Rattle.std.proofs.lemmas.Grind.{flat_map-append}
use Rattle.sfc_base.specs.declared.keyword.Keyword.{Keyword}
use Rattle.sfc_base.specs.declared.keyword.Keyword.TheVariants as keyword
use Rattle.sfc_tokens.specs.declared.token.TokenKind.{TokenKind}
use Rattle.sfc_tokens.specs.declared.token.TokenKind.TheVariants as token
use Rattle.sfc_base.specs.Case.{same_word}
use Rattle.sfc_base.specs.Classes.{class_of}
use Rattle.sfc_base.specs.Names.{is_spaced, IsName}
use Rattle.sfc_tokens.specs.Spelling.{Spells}
use Rattle.sfc_base.specs.Words.{keyword_of}
use Rattle.sfc_tokens.proofs.Spaced.{reserved_spaced}
use Rattle.sfc_tokens.proofs.Spelled.{reserved_spells}
use Rattle.sfc_tokens.proofs.Spellings.{alone, joined}
use Rattle.sfc_text.specs.declared.tree.VariableBlock.{VariableBlock}
use Rattle.sfc_text.specs.declared.tree.VariableBlock.TheVariants as block_of
use Rattle.sfc_text.specs.SpelledCharts.{element_tokens}
use Rattle.sfc_text.specs.SpelledSources.{variables_tokens, program_tokens}
use Rattle.sfc_text.specs.Trees.{ElementTree, AStep, ATransition, AnAction}
use Rattle.sfc_plant.specs.declared.chart.Chart.{Chart}
use Rattle.sfc_plant.specs.declared.variable.Variable.{Variable}
use Rattle.sfc_plant.specs.declared.program_type.ProgramType.{ProgramType}
use Rattle.sfc_plant.specs.Spaces.{Space, space_in}
use Rattle.sfc_list.specs.Layout.{line, block}
use Rattle.sfc_list.specs.Charts.{step_text, transition_text, action_text}
use Rattle.sfc_list.specs.Listing.{variable_text, external_text, program_head, chart_text, program_text}
use Rattle.sfc_read_back.specs.SpelledPlants.{CanSpellStep, CanSpellTransition, CanSpellAction, CanSpellChart, CanSpellProgram}
use Rattle.sfc_read_back.specs.Written.{program_tree}
use Rattle.sfc_read_back.specs.WrittenCharts.{step_tree, transition_tree, action_tree, element_trees}
use Rattle.sfc_read_back.specs.WrittenVariables.{declaration_tree, external_tree, block_tree}
use Rattle.sfc_read_back.proofs.SpelledLines.{SpellsAlways, SpellsLine, both_spelled, line_spelled, each_spelled, named, before_line}
use Rattle.sfc_read_back.proofs.SpelledSteps.{step_spelled}
use Rattle.sfc_read_back.proofs.SpelledTransitions.{transition_spelled, action_spelled}
use Rattle.sfc_read_back.proofs.SpelledVariables.{locals_spelled, externals_spelled}

-- ---- charts

-- what is spelled of two lists is spelled of both in a row
both_listed : {A : Type 0} (tokens : A → List TokenKind) (a b : List ℕ) (xs ys : List A) → SpellsAlways a (flat_map tokens xs) → SpellsAlways b (flat_map tokens ys)
    → SpellsAlways (a ++ b) (flat_map tokens (xs ++ ys))
both_listed tokens a b xs ys p q rest =
    subst (λ (ts : List TokenKind). Spells (a ++ b) ts rest) (sym (flat_map-append tokens xs ys)) (both_spelled a b (flat_map tokens xs) (flat_map tokens ys) p q rest)

chart_spelled : (space : Space) (chart : Chart) → CanSpellChart space chart → SpellsAlways (chart_text space chart) (flat_map element_tokens (element_trees space chart))
chart_spelled space chart is =
    let steps = flat_map (step_text space) chart.steps in
    let transitions = flat_map (transition_text space) chart.transitions in
    let actions = flat_map (action_text space) chart.actions in
    let first : List ElementTree = map (λ s. AStep (step_tree space s)) chart.steps in
    let second : List ElementTree = map (λ t. ATransition (transition_tree space t)) chart.transitions in
    let third : List ElementTree = map (λ a. AnAction (action_tree space a)) chart.actions in
    both_listed element_tokens (steps ++ transitions) actions (first ++ second) third
    (both_listed element_tokens steps transitions first second
    (each_spelled (step_text space) (λ s. AStep (step_tree space s)) element_tokens (CanSpellStep space) (step_spelled space) chart.steps is.steps)
    (each_spelled (transition_text space) (λ t. ATransition (transition_tree space t)) element_tokens (CanSpellTransition space) (transition_spelled space) chart.transitions is.transitions))
    (each_spelled (action_text space) (λ a. AnAction (action_tree space a)) element_tokens (CanSpellAction space) (action_spelled space) chart.actions is.actions)

-- ---- program types

pub program_word : SpellsAlways (codes "PROGRAM ") (token.Keyword keyword.Program ∷ [])
unfolding class_of is_spaced keyword_of same_word
program_word rest = reserved_spaced (codes "PROGRAM") rest 32 keyword.Program refl refl refl

end_program : SpellsLine (codes "END_PROGRAM") (token.Keyword keyword.EndProgram ∷ [])
unfolding class_of is_spaced keyword_of same_word
end_program rest = alone (codes "END_PROGRAM") (10 ∷ rest) (token.Keyword keyword.EndProgram) (reserved_spells (codes "END_PROGRAM") (10 ∷ rest) keyword.EndProgram refl refl refl refl)

-- a word and a name
pub word_and_name : (word name : List ℕ) (k : Keyword) → SpellsAlways word (token.Keyword k ∷ []) → IsName name → SpellsLine (word ++ name) (token.Keyword k ∷ token.Name name ∷ [])
word_and_name word name k h is rest = joined word name (10 ∷ rest) (token.Keyword k ∷ []) (token.Name name ∷ []) (h (name ++ (10 ∷ rest))) (named name (10 ∷ rest) is (before_line rest))

-- a head, two blocks of variables and a chart
programmed : (head first second chart final : List ℕ) (k : Keyword) (name : List ℕ) (xs ys : List VariableBlock) (ts : List TokenKind) (t : TokenKind) → SpellsLine head (token.Keyword k ∷ token.Name name ∷ [])
    → SpellsAlways first (flat_map variables_tokens xs) → SpellsAlways second (flat_map variables_tokens ys) → SpellsAlways chart ts → SpellsLine final (t ∷ [])
    → SpellsAlways (line 0 head ++ first ++ second ++ chart ++ line 0 final) ((token.Keyword k ∷ token.Name name ∷ flat_map variables_tokens (xs ++ ys)) ++ ts ++ (t ∷ []))
programmed head first second chart final k name xs ys ts t p q r s u rest =
    let front = line 0 head ++ first ++ second in
    let us = flat_map variables_tokens xs in
    let vs = flat_map variables_tokens ys in
    let variables : SpellsAlways front (token.Keyword k ∷ token.Name name ∷ flat_map variables_tokens (xs ++ ys)) =
    λ others. subst (λ (ws : List TokenKind). Spells front (token.Keyword k ∷ token.Name name ∷ ws) others) (sym (flat_map-append variables_tokens xs ys))
    (both_spelled (line 0 head ++ first) second (token.Keyword k ∷ token.Name name ∷ us) vs
    (both_spelled (line 0 head) first (token.Keyword k ∷ token.Name name ∷ []) us (line_spelled 0 head (token.Keyword k ∷ token.Name name ∷ []) p) q) r others) in
    both_spelled (front ++ chart) (line 0 final) ((token.Keyword k ∷ token.Name name ∷ flat_map variables_tokens (xs ++ ys)) ++ ts) (t ∷ [])
    (both_spelled front chart (token.Keyword k ∷ token.Name name ∷ flat_map variables_tokens (xs ++ ys)) ts variables s) (line_spelled 0 final (t ∷ []) u) rest

pub program_spelled : (globals : List Variable) (p : ProgramType) → CanSpellProgram globals p → SpellsAlways (program_text globals p) (program_tokens (program_tree globals p))
program_spelled globals p is =
    let space = space_in globals p in
    programmed (program_head p) (block 1 (codes "VAR") variable_text p.locals) (block 1 (codes "VAR_EXTERNAL") (external_text space) p.externals) (chart_text space p.chart) (codes "END_PROGRAM")
    keyword.Program p.name (block_tree (λ ds. block_of.Local ds) (map declaration_tree p.locals)) (block_tree (λ es. block_of.External es) (map (external_tree globals) p.externals))
    (flat_map element_tokens (element_trees space p.chart)) (token.Keyword keyword.EndProgram)
    (word_and_name (codes "PROGRAM ") p.name keyword.Program program_word is.name)
    (locals_spelled p.locals is.locals) (externals_spelled globals p p.externals is.externals) (chart_spelled space p.chart is.chart) end_program
