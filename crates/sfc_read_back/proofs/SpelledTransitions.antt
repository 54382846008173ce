-- The texts of transitions and actions spell the tokens of those that the listing spells.
use Rattle.std.proofs.Common.{◌≡◌, ℕ, ◌<◌, ◌^◌, List, [], ◌∷◌, ◌++◌, map, length, All, Option, Some, None, refl, sym, ap, subst, ◌∙◌, append_assoc, arith, codes}
use Rattle.std.specs.Fmt.{decimal}
use Rattle.std.proofs.lemmas.List.Elements.{All-head, All-tail, All-map}
use Rattle.sfc_base.specs.declared.delimiter.Delimiter.TheVariants as sign
use Rattle.sfc_base.specs.declared.keyword.Keyword.TheVariants as keyword
use Rattle.sfc_base.specs.declared.run.Alphabet.TheVariants as alphabet
use Rattle.sfc_tokens.specs.declared.token.TokenKind.{TokenKind}
use Rattle.sfc_tokens.specs.declared.token.TokenKind.TheVariants as token
use Rattle.sfc_base.specs.Case.{same_word}
use Rattle.sfc_base.specs.Classes.{class_of}
use Rattle.sfc_base.specs.Names.{is_spaced, IsName}
use Rattle.sfc_base.specs.Runs.{Ends}
use Rattle.sfc_tokens.specs.Spelling as spelling
use Rattle.sfc_tokens.specs.Spelling.{Spells}
use Rattle.sfc_base.specs.Words.{keyword_of}
use Rattle.sfc_tokens.proofs.Signs.{sign_spells}
use Rattle.sfc_tokens.proofs.Spaced.{name_spaced, reserved_spaced}
use Rattle.sfc_tokens.proofs.Spelled.{integer_spells, reserved_spells}
use Rattle.sfc_tokens.proofs.Spellings.{alone, joined}
use Rattle.sfc_text.specs.Declares.{OfOptional}
use Rattle.sfc_text.specs.Spelled.{tree_tokens}
use Rattle.sfc_text.specs.SpelledCharts as spelled
use Rattle.sfc_text.specs.SpelledCharts.{further_tokens, side_tokens, priority_tokens, transition_tokens, action_tokens}
use Rattle.sfc_text.specs.SpelledStatements.{body_tokens}
use Rattle.sfc_plant.specs.declared.action.Action.{Action}
use Rattle.sfc_plant.specs.declared.chart.Transition.{Transition}
use Rattle.sfc_plant.specs.Spaces.{Space}
use Rattle.sfc_list.specs.Layout.{line, after_commas}
use Rattle.sfc_list.specs.Charts.{side_text, priority_text, transition_name, transition_head, condition_text, transition_text, action_head, action_text}
use Rattle.sfc_list.specs.Expressions.{expression_text}
use Rattle.sfc_plant.specs.Names.{step_name}
use Rattle.sfc_list.specs.Statements.{body_text}
use Rattle.sfc_read_back.specs.SpelledPlants.{CanSpellTransition, CanSpellAction}
use Rattle.sfc_read_back.specs.WrittenCharts.{transition_tree, action_tree}
use Rattle.sfc_read_back.specs.WrittenTerms.{expression_tree, body_tree}
use Rattle.sfc_read_back.proofs.SpelledBodies.{body_spells, before_space, before_semicolon}
use Rattle.sfc_read_back.proofs.SpelledExpressions.{name_part_first, expression_spells}
use Rattle.sfc_read_back.proofs.SpelledLines.{SpellsAlways, SpellsLine, both_spelled, joined_two, line_spelled, framed, named, before_line, before_close, close, semicolon, assign_behind, further_ends, further_spelled}
use Rattle.sfc_read_back.proofs.SpelledLiterals.{ends_number}
use Rattle.sfc_read_back.proofs.SpelledSteps.{titled}

-- ---- sides

-- several names in parentheses
enclosed_names : (first : List ℕ) (others : List (List ℕ)) (rest : List ℕ) → IsName first → All IsName others
    → Spells (codes "(" ++ (first ++ after_commas others) ++ codes ")") ((token.Delimiter sign.Open ∷ token.Name first ∷ further_tokens others) ++ (token.Delimiter sign.Close ∷ [])) rest
enclosed_names first others rest is all =
    let names = first ++ after_commas others in
    let behind = 41 ∷ rest in
    joined (codes "(" ++ names) (codes ")") rest (token.Delimiter sign.Open ∷ token.Name first ∷ further_tokens others) (token.Delimiter sign.Close ∷ [])
    (spelling.one {w = 40 ∷ []} {text = names} (sign_spells sign.Open (names ++ behind) (name_part_first first (after_commas others) behind is))
    (joined first (after_commas others) behind (token.Name first ∷ []) (further_tokens others)
    (named first (after_commas others ++ behind) is (further_ends others behind (before_close rest)))
    (further_spelled others behind all (before_close rest))))
    (close rest)

side_spelled : (names : List (List ℕ)) (rest : List ℕ) → All IsName names → 0 < length names → Ends alphabet.Location rest → Spells (side_text names) (side_tokens names) rest
side_spelled [] rest all some ends = absurd (omega (arith, some))
side_spelled (one ∷ []) rest all some ends = named one rest (All-head IsName one [] all) ends
side_spelled (one ∷ other ∷ others) rest all some ends =
    enclosed_names one (other ∷ others) rest (All-head IsName one (other ∷ others) all) (All-tail IsName one (other ∷ others) all)

some_mapped : {A B : Type 0} (f : A → B) (xs : List A) → 0 < length xs → 0 < length (map f xs)
some_mapped f [] some = some
some_mapped f (x ∷ xs) some = omega arith

-- ---- the head of a transition

named_transition : (name : Option (List ℕ)) → OfOptional IsName name → SpellsAlways (transition_name name) (spelled.transition_name name)
unfolding class_of
named_transition None is rest = spelling.nothing
named_transition (Some name) is rest = name_spaced name rest 32 is refl

priority_front : SpellsAlways (codes "(PRIORITY := ") (token.Delimiter sign.Open ∷ token.Name (codes "PRIORITY") ∷ token.Delimiter sign.Assign ∷ [])
unfolding class_of is_spaced keyword_of same_word
priority_front rest =
    spelling.one {w = 40 ∷ []} {text = codes "PRIORITY := "} (sign_spells sign.Open (codes "PRIORITY := " ++ rest) refl)
    (joined (codes "PRIORITY ") (codes ":= ") rest (token.Name (codes "PRIORITY") ∷ []) (token.Delimiter sign.Assign ∷ [])
    (name_spaced (codes "PRIORITY") (codes ":= " ++ rest) 32 refl refl) (assign_behind rest))

close_space : SpellsAlways (codes ") ") (token.Delimiter sign.Close ∷ [])
unfolding class_of
close_space rest = spelling.one {w = 41 ∷ []} {text = 32 ∷ []} (sign_spells sign.Close (32 ∷ rest) refl) (spelling.space refl spelling.nothing)

prioritized : (priority : Option ℕ) → OfOptional (λ n. n < 2 ^ 32) priority → SpellsAlways (priority_text priority) (priority_tokens priority)
prioritized None lt rest = spelling.nothing
prioritized (Some n) lt rest =
    joined (codes "(PRIORITY := " ++ decimal n) (codes ") ") rest
    (token.Delimiter sign.Open ∷ token.Name (codes "PRIORITY") ∷ token.Delimiter sign.Assign ∷ token.Integer n ∷ []) (token.Delimiter sign.Close ∷ [])
    (joined (codes "(PRIORITY := ") (decimal n) (codes ") " ++ rest) (token.Delimiter sign.Open ∷ token.Name (codes "PRIORITY") ∷ token.Delimiter sign.Assign ∷ [])
    (token.Integer n ∷ []) (priority_front (decimal n ++ (codes ") " ++ rest)))
    (alone (decimal n) (codes ") " ++ rest) (token.Integer n) (integer_spells n (codes ") " ++ rest) lt (ends_number (codes ") " ++ rest) (before_close (32 ∷ rest))))))
    (close_space rest)

transition_word : SpellsAlways (codes "TRANSITION ") (token.Keyword keyword.Transition ∷ [])
unfolding class_of is_spaced keyword_of same_word
transition_word rest = reserved_spaced (codes "TRANSITION") rest 32 keyword.Transition refl refl refl

from_word : SpellsAlways (codes "FROM ") (token.Keyword keyword.From ∷ [])
unfolding class_of is_spaced keyword_of same_word
from_word rest = reserved_spaced (codes "FROM") rest 32 keyword.From refl refl refl

to_word : SpellsAlways (codes " TO ") (token.Keyword keyword.To ∷ [])
unfolding class_of is_spaced keyword_of same_word
to_word rest = spelling.space refl (reserved_spaced (codes "TO") rest 32 keyword.To refl refl refl)

from_to : (front from to rest : List ℕ) (ts us vs : List TokenKind) → SpellsAlways front ts → Spells from us (codes " TO " ++ to ++ rest) → Spells to vs rest
    → Spells (front ++ codes "FROM " ++ from ++ codes " TO " ++ to) (ts ++ (token.Keyword keyword.From ∷ us) ++ (token.Keyword keyword.To ∷ vs)) rest
from_to front from to rest ts us vs h p q =
    let behind = codes " TO " ++ to ++ rest in
    joined_two (front ++ codes "FROM " ++ from) (codes " TO ") to rest (ts ++ (token.Keyword keyword.From ∷ us)) (token.Keyword keyword.To ∷ vs)
    (joined_two front (codes "FROM ") from behind ts (token.Keyword keyword.From ∷ us) (h (codes "FROM " ++ from ++ behind))
    (joined (codes "FROM ") from behind (token.Keyword keyword.From ∷ []) us (from_word (from ++ behind)) p))
    (joined (codes " TO ") to rest (token.Keyword keyword.To ∷ []) vs (to_word (to ++ rest)) q)

-- ---- transitions

conditioned : (text rest : List ℕ) (ts : List TokenKind) → Spells text ts (59 ∷ rest)
    → Spells (codes ":= " ++ text ++ codes ";") ((token.Delimiter sign.Assign ∷ ts) ++ (token.Delimiter sign.Semicolon ∷ [])) rest
conditioned text rest ts h =
    joined (codes ":= " ++ text) (codes ";") rest (token.Delimiter sign.Assign ∷ ts) (token.Delimiter sign.Semicolon ∷ [])
    (joined (codes ":= ") text (59 ∷ rest) (token.Delimiter sign.Assign ∷ []) ts (assign_behind (text ++ (59 ∷ rest))) h) (semicolon rest)

end_transition : SpellsLine (codes "END_TRANSITION") (token.Keyword keyword.EndTransition ∷ [])
unfolding class_of is_spaced keyword_of same_word
end_transition rest = alone (codes "END_TRANSITION") (10 ∷ rest) (token.Keyword keyword.EndTransition) (reserved_spells (codes "END_TRANSITION") (10 ∷ rest) keyword.EndTransition refl refl refl refl)

-- two last tokens, one of them with what stands before
one_with : (a b : List TokenKind) (s t : TokenKind) → (a ++ (b ++ (s ∷ []))) ++ (t ∷ []) ≡ a ++ b ++ (s ∷ t ∷ [])
one_with a b s t = ap (λ (x : List TokenKind). x ++ (t ∷ [])) (sym (append_assoc a b (s ∷ []))) ∙ append_assoc (a ++ b) (s ∷ []) (t ∷ [])

between : (head condition final : List ℕ) (ts us : List TokenKind) (s t : TokenKind) → SpellsLine head ts → SpellsLine condition (us ++ (s ∷ [])) → SpellsLine final (t ∷ [])
    → SpellsAlways (line 1 head ++ line 2 condition ++ line 1 final) (ts ++ us ++ (s ∷ t ∷ []))
between head condition final ts us s t p q r rest =
    subst (λ (x : List TokenKind). Spells (line 1 head ++ line 2 condition ++ line 1 final) x rest) (one_with ts us s t)
    (framed 1 head (line 2 condition) final ts (us ++ (s ∷ [])) t p (line_spelled 2 condition (us ++ (s ∷ [])) q) r rest)

head_spelled : (space : Space) (t : Transition) → CanSpellTransition space t
    → SpellsLine (transition_head space t) ((token.Keyword keyword.Transition ∷ spelled.transition_name t.name) ++ priority_tokens t.priority
    ++ (token.Keyword keyword.From ∷ side_tokens (map (step_name space) t.preceding)) ++ (token.Keyword keyword.To ∷ side_tokens (map (step_name space) t.following)))
head_spelled space t is rest =
    let preceding = map (step_name space) t.preceding in
    let following = map (step_name space) t.following in
    from_to (codes "TRANSITION " ++ transition_name t.name ++ priority_text t.priority) (side_text preceding) (side_text following) (10 ∷ rest)
    ((token.Keyword keyword.Transition ∷ spelled.transition_name t.name) ++ priority_tokens t.priority) (side_tokens preceding) (side_tokens following)
    (both_spelled (codes "TRANSITION " ++ transition_name t.name) (priority_text t.priority) (token.Keyword keyword.Transition ∷ spelled.transition_name t.name) (priority_tokens t.priority)
    (both_spelled (codes "TRANSITION ") (transition_name t.name) (token.Keyword keyword.Transition ∷ []) (spelled.transition_name t.name) transition_word (named_transition t.name is.name))
    (prioritized t.priority is.priority))
    (side_spelled preceding (codes " TO " ++ side_text following ++ (10 ∷ rest)) (All-map IsName (step_name space) t.preceding is.preceding)
    (some_mapped (step_name space) t.preceding is.some_preceding) (before_space (codes "TO " ++ side_text following ++ (10 ∷ rest))))
    (side_spelled following (10 ∷ rest) (All-map IsName (step_name space) t.following is.following) (some_mapped (step_name space) t.following is.some_following) (before_line rest))

pub transition_spelled : (space : Space) (t : Transition) → CanSpellTransition space t → SpellsAlways (transition_text space t) (transition_tokens (transition_tree space t))
transition_spelled space t is =
    between (transition_head space t) (condition_text space t) (codes "END_TRANSITION")
    ((token.Keyword keyword.Transition ∷ spelled.transition_name t.name) ++ priority_tokens t.priority
    ++ (token.Keyword keyword.From ∷ side_tokens (map (step_name space) t.preceding)) ++ (token.Keyword keyword.To ∷ side_tokens (map (step_name space) t.following)))
    (token.Delimiter sign.Assign ∷ tree_tokens (expression_tree space [] t.condition)) (token.Delimiter sign.Semicolon) (token.Keyword keyword.EndTransition)
    (head_spelled space t is)
    (λ rest. conditioned (expression_text space [] t.condition) (10 ∷ rest) (tree_tokens (expression_tree space [] t.condition))
    (expression_spells space [] t.condition is.condition (59 ∷ 10 ∷ rest) (before_semicolon (10 ∷ rest))))
    end_transition

-- ---- actions

action_word : SpellsAlways (codes "ACTION ") (token.Keyword keyword.Action ∷ [])
unfolding class_of is_spaced keyword_of same_word
action_word rest = reserved_spaced (codes "ACTION") rest 32 keyword.Action refl refl refl

end_action : SpellsLine (codes "END_ACTION") (token.Keyword keyword.EndAction ∷ [])
unfolding class_of is_spaced keyword_of same_word
end_action rest = alone (codes "END_ACTION") (10 ∷ rest) (token.Keyword keyword.EndAction) (reserved_spells (codes "END_ACTION") (10 ∷ rest) keyword.EndAction refl refl refl refl)

pub action_spelled : (space : Space) (a : Action) → CanSpellAction space a → SpellsAlways (action_text space a) (action_tokens (action_tree space a))
action_spelled space a is =
    framed 1 (action_head a) (body_text space a.name 2 a.body) (codes "END_ACTION") (token.Keyword keyword.Action ∷ token.Name a.name ∷ token.Delimiter sign.Colon ∷ [])
    (body_tokens (body_tree space a.name a.body)) (token.Keyword keyword.EndAction) (titled (codes "ACTION ") a.name keyword.Action action_word is.name)
    (λ rest. body_spells space a.name 2 a.body is.body rest) end_action
