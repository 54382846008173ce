-- The tokens of a chart's parts derive them.
use Rattle.std.proofs.Common.{◌≡◌, inl, inr, ℕ, Bool, true, false, List, [], ◌∷◌, ◌++◌, Option, Some, None, flat_map, codes, refl, sym, subst, ◌∙◌, append_assoc}
use Rattle.sfc_base.specs.declared.delimiter.Delimiter.TheVariants as sign
use Rattle.sfc_base.specs.declared.keyword.Keyword.TheVariants as keyword
use Rattle.sfc_tokens.specs.declared.token.TokenKind.TheVariants as token
use Rattle.sfc_base.specs.Case.{same_word}
use Rattle.sfc_tokens.specs.Tokens.{Kinds}
use Rattle.sfc_text.specs.declared.tree.Association.{Association}
use Rattle.sfc_text.specs.declared.tree.AssociationTime.{AssociationTime}
use Rattle.sfc_text.specs.declared.tree.AssociationTime.TheVariants as time
use Rattle.sfc_text.specs.declared.tree.Qualifier.{Qualifier}
use Rattle.sfc_text.specs.declared.tree.Qualifier.TheVariants as qualifier
use Rattle.sfc_text.specs.declared.tree.Step.{Step}
use Rattle.sfc_base.specs.declared.qualifier.TimedQualifier.{TimedQualifier}
use Rattle.sfc_base.specs.declared.qualifier.TimedQualifier.TheVariants as timed
use Rattle.sfc_text.specs.Grammar as grammar
use Rattle.sfc_text.specs.Limits.{Limits, Within, Derived}
use Rattle.sfc_text.specs.Lists.{is_empty}
use Rattle.sfc_text.specs.Marks.{is_any, Word}
use Rattle.sfc_text.specs.Rules.{Rule, Many, none, next, Inner, Derives}
use Rattle.sfc_text.specs.Terms.{maybe}
use Rattle.sfc_text.specs.Trees.{Tree, Block, TransitionTree, ActionTree, ElementTree, AStep, ATransition, AnAction}
use Rattle.sfc_text.specs.Spelled.{tree_tokens}
use Rattle.sfc_text.specs.SpelledStatements.{body_tokens}
use Rattle.sfc_text.specs.SpelledCharts.{action_tokens, KeepsAction, side_tokens, transition_name, priority_tokens, transition_tokens, KeepsTransition, element_tokens, KeepsElement, further_tokens, timed_letters, time_tokens, qualifier_tokens, association_tokens, step_word, step_tokens}
use Rattle.sfc_text.proofs.Spelled.{expression_derives}
use Rattle.sfc_text.proofs.SpelledStatements.{three, body_derives}

-- ---- items in a row

pub items_derive : {X : Type 0} (n : ℕ) (In : Inner) (rule : Rule X) (tokens : X → Kinds) → ((x : X) (rest : Kinds) → Derives n In rule (tokens x ++ rest) x rest) → (xs : List X) (rest : Kinds) → Many (Derives n In rule) (flat_map tokens xs ++ rest) xs rest
items_derive n In rule tokens h [] rest = none
items_derive n In rule tokens h (x ∷ xs) rest =
    let behind = flat_map tokens xs ++ rest in
    subst (λ us. Many (Derives n In rule) us (x ∷ xs) rest) (sym (append_assoc (tokens x) (flat_map tokens xs) rest)) (next (h x behind) (items_derive n In rule tokens h xs rest))

further_name_derives : (n : ℕ) (In : Inner) (name : List ℕ) (rest : Kinds) → Derives n In grammar.further_name (token.Delimiter sign.Comma ∷ token.Name name ∷ rest) name rest
unfolding grammar.further_name
further_name_derives n In name rest = ((tt, name), (token.Name name ∷ rest, (token.Delimiter sign.Comma, refl, refl, refl), (token.Name name, refl, refl, refl)), refl)

pub further_names_derive : (n : ℕ) (In : Inner) (names : List (List ℕ)) (rest : Kinds) → Derives n In grammar.further_names (further_tokens names ++ rest) names rest
unfolding grammar.further_names
further_names_derive n In names rest = (names, items_derive n In grammar.further_name (λ name. token.Delimiter sign.Comma ∷ token.Name name ∷ []) (further_name_derives n In) names rest, refl)

-- ---- steps

timed_derives : (n : ℕ) (In : Inner) (q : TimedQualifier) (rest : Kinds) → Derives n In grammar.timed (token.Name (timed_letters q) ∷ rest) q rest
unfolding grammar.timed same_word
timed_derives n In timed.Limited rest = (token.Name (timed_letters timed.Limited), refl, refl, refl)
timed_derives n In timed.Delayed rest = (token.Name (timed_letters timed.Delayed), refl, refl, refl)
timed_derives n In timed.StoredDelayed rest = (token.Name (timed_letters timed.StoredDelayed), refl, refl, refl)
timed_derives n In timed.DelayedStored rest = (token.Name (timed_letters timed.DelayedStored), refl, refl, refl)
timed_derives n In timed.StoredLimited rest = (token.Name (timed_letters timed.StoredLimited), refl, refl, refl)

time_derives : (n : ℕ) (In : Inner) (t : AssociationTime) (rest : Kinds) → Derives n In grammar.association_time (time_tokens t ++ rest) t rest
unfolding grammar.association_time
time_derives n In (time.Literal d) rest = inl (d, (token.Duration d, refl, refl, refl), refl)
time_derives n In (time.Variable name) rest = inr (name, (token.Name name, refl, refl, refl), refl)

qualifier_derives : (n : ℕ) (In : Inner) (q : Qualifier) (rest : Kinds) → Derives n In grammar.qualifier (qualifier_tokens q ++ rest) q rest
unfolding grammar.qualifier grammar.plain same_word
qualifier_derives n In qualifier.NonStored rest = inl (token.Name (codes "N"), refl, refl, refl)
qualifier_derives n In qualifier.Reset rest = inl (token.Name (codes "R"), refl, refl, refl)
qualifier_derives n In qualifier.Set rest = inl (token.Name (codes "S"), refl, refl, refl)
qualifier_derives n In qualifier.Pulse rest = inl (token.Name (codes "P"), refl, refl, refl)
qualifier_derives n In qualifier.RisingPulse rest = inl (token.Name (codes "P1"), refl, refl, refl)
qualifier_derives n In qualifier.FallingPulse rest = inl (token.Name (codes "P0"), refl, refl, refl)
qualifier_derives n In (qualifier.Timed q t) rest =
    let comma = token.Delimiter sign.Comma in
    let mid = time_tokens t ++ rest in
    inr ((q, t), (mid, ((q, tt), (comma ∷ mid, timed_derives n In q (comma ∷ mid), (comma, refl, refl, refl)), refl), time_derives n In t rest), refl)

association_derives : (n : ℕ) (In : Inner) (a : Association) (rest : Kinds) → Derives n In grammar.association_line (association_tokens a ++ rest) a rest
unfolding grammar.association_line grammar.association
association_derives n In a rest =
    let open_ = token.Delimiter sign.Open in
    let close = token.Delimiter sign.Close in
    let end = token.Delimiter sign.Semicolon in
    let named = token.Name a.action in
    let behind = close ∷ end ∷ rest in
    let indicated = further_tokens a.indicators ++ behind in
    let qualified = qualifier_tokens a.qualifier ++ indicated in
    let same = three (named ∷ open_ ∷ qualifier_tokens a.qualifier) (further_tokens a.indicators) (close ∷ end ∷ []) rest in
    let parts : (List ℕ × Qualifier) × List (List ℕ) = ((a.action, a.qualifier), a.indicators) in
    let d : Derives n In grammar.association_line (named ∷ open_ ∷ qualified) a rest = ((a, tt), (end ∷ rest, (parts, ((parts, tt), (behind, (parts, (indicated, ((a.action, a.qualifier), (qualified, ((a.action, tt), (open_ ∷ qualified, (named, refl, refl, refl), (open_, refl, refl, refl)), refl), inl (qualifier_derives n In a.qualifier indicated)), refl), further_names_derive n In a.indicators behind), refl), (close, refl, refl, refl)), refl), refl), (end, refl, refl, refl)), refl) in
    subst (λ us. Derives n In grammar.association_line us a rest) (sym same) d

step_word_marked : (b : Bool) → is_any (Word (step_word b) ∷ []) (token.Keyword (step_word b)) ≡ true
step_word_marked true = refl
step_word_marked false = refl

pub step_derives : (n : ℕ) (In : Inner) (s : Step) (rest : Kinds) → Derives n In (grammar.step s.is_initial (step_word s.is_initial)) (step_tokens s ++ rest) s rest
unfolding grammar.step
step_derives n In s rest =
    let first = token.Keyword (step_word s.is_initial) in
    let colon = token.Delimiter sign.Colon in
    let end = token.Keyword keyword.EndStep in
    let named = token.Name s.name in
    let behind = end ∷ rest in
    let lines = flat_map association_tokens s.associations ++ behind in
    let same = append_assoc (first ∷ named ∷ colon ∷ flat_map association_tokens s.associations) (end ∷ []) rest in
    let parts : List ℕ × List Association = (s.name, s.associations) in
    let d : Derives n In (grammar.step s.is_initial (step_word s.is_initial)) (first ∷ named ∷ colon ∷ lines) s rest = (parts, ((parts, tt), (behind, (parts, (lines, ((s.name, tt), (colon ∷ lines, ((tt, s.name), (named ∷ colon ∷ lines, (first, refl, step_word_marked s.is_initial, refl), (named, refl, refl, refl)), refl), (colon, refl, refl, refl)), refl), (s.associations, items_derive n In grammar.association_line association_tokens (association_derives n In) s.associations behind, refl)), refl), (end, refl, refl, refl)), refl), refl) in
    subst (λ us. Derives n In (grammar.step s.is_initial (step_word s.is_initial)) us s rest) (sym same) d

-- ---- actions

pub action_derives : (limits : Limits) (a : ActionTree) (rest : Kinds) → KeepsAction limits a → Derived limits grammar.action (action_tokens a ++ rest) a rest
unfolding grammar.action
action_derives limits a rest h =
    let first = token.Keyword keyword.Action in
    let colon = token.Delimiter sign.Colon in
    let end = token.Keyword keyword.EndAction in
    let named = token.Name a.name in
    let behind = end ∷ rest in
    let statements = body_tokens a.body ++ behind in
    let same = append_assoc (first ∷ named ∷ colon ∷ body_tokens a.body) (end ∷ []) rest in
    let parts : List ℕ × Block = (a.name, a.body) in
    let d : Derived limits grammar.action (first ∷ named ∷ colon ∷ statements) a rest = (parts, ((parts, tt), (behind, (parts, (statements, ((a.name, tt), (colon ∷ statements, ((tt, a.name), (named ∷ colon ∷ statements, (first, refl, refl, refl), (named, refl, refl, refl)), refl), (colon, refl, refl, refl)), refl), body_derives limits.operators a.body h.0 limits.depth h.1 h.2 behind), refl), (end, refl, refl, refl)), refl), refl) in
    subst (λ us. Derived limits grammar.action us a rest) (sym same) d

-- ---- transitions

side_derives : (n : ℕ) (In : Inner) (names : List (List ℕ)) (rest : Kinds) → is_empty names ≡ false → Derives n In grammar.steps (side_tokens names ++ rest) names rest
unfolding grammar.steps grammar.names
side_derives n In [] rest h = absurd cc
side_derives n In (one ∷ []) rest h = inl (one, (token.Name one, refl, refl, refl), refl)
side_derives n In (one ∷ two ∷ others) rest h =
    let open_ = token.Delimiter sign.Open in
    let close = token.Delimiter sign.Close in
    let all : List (List ℕ) = one ∷ two ∷ others in
    let behind = close ∷ rest in
    let named = token.Name one ∷ (further_tokens (two ∷ others) ++ behind) in
    let same = append_assoc (open_ ∷ token.Name one ∷ further_tokens (two ∷ others)) (close ∷ []) rest in
    let d : Derives n In grammar.steps (open_ ∷ named) all rest = inr ((all, tt), (behind, ((tt, all), (named, (open_, refl, refl, refl), ((one, two ∷ others), (further_tokens (two ∷ others) ++ behind, (token.Name one, refl, refl, refl), further_names_derive n In (two ∷ others) behind), refl)), refl), (close, refl, refl, refl)), refl) in
    subst (λ us. Derives n In grammar.steps us all rest) (sym same) d

transition_name_derives : (n : ℕ) (In : Inner) (name : Option (List ℕ)) (rest : Kinds) → Derives n In (maybe grammar.name) (transition_name name ++ rest) name rest
transition_name_derives n In None rest = inr (refl, refl)
transition_name_derives n In (Some name) rest = inl (name, (token.Name name, refl, refl, refl), refl)

priority_derives : (n : ℕ) (In : Inner) (priority : Option ℕ) (rest : Kinds) → Derives n In (maybe grammar.priority) (priority_tokens priority ++ rest) priority rest
unfolding grammar.priority same_word
priority_derives n In None rest = inr (refl, refl)
priority_derives n In (Some k) rest =
    let open_ = token.Delimiter sign.Open in
    let word = token.Name (codes "PRIORITY") in
    let assign = token.Delimiter sign.Assign in
    let close = token.Delimiter sign.Close in
    let from_number = token.Integer k ∷ close ∷ rest in
    inl (k, ((k, tt), (close ∷ rest, ((tt, k), (from_number, ((tt, tt), (assign ∷ from_number, ((tt, tt), (word ∷ assign ∷ from_number, (open_, refl, refl, refl), (word, refl, refl, refl)), refl), (assign, refl, refl, refl)), refl), (token.Integer k, refl, refl, refl)), refl), (close, refl, refl, refl)), refl), refl)

six : (a b c d e f rest : Kinds) → (a ++ b ++ c ++ d ++ e ++ f) ++ rest ≡ a ++ (b ++ (c ++ (d ++ (e ++ (f ++ rest)))))
six a b c d e f rest = append_assoc (a ++ b ++ c ++ d ++ e) f rest ∙ (append_assoc (a ++ b ++ c ++ d) e (f ++ rest) ∙ (append_assoc (a ++ b ++ c) d (e ++ (f ++ rest)) ∙ three a b c (d ++ (e ++ (f ++ rest)))))

pub transition_derives : (limits : Limits) (t : TransitionTree) (rest : Kinds) → KeepsTransition limits t → Derived limits grammar.transition (transition_tokens t ++ rest) t rest
unfolding grammar.before_from grammar.before_condition grammar.transition
transition_derives limits t rest h =
    let n = limits.operators in
    let In : Inner = Within limits.operators limits.depth in
    let first = token.Keyword keyword.Transition in
    let from = token.Keyword keyword.From in
    let to = token.Keyword keyword.To in
    let assign = token.Delimiter sign.Assign in
    let semicolon = token.Delimiter sign.Semicolon in
    let end = token.Keyword keyword.EndTransition in
    let behind = semicolon ∷ end ∷ rest in
    let condition = tree_tokens t.condition ++ behind in
    let following = side_tokens t.following ++ (assign ∷ condition) in
    let preceding = side_tokens t.preceding ++ (to ∷ following) in
    let prior = priority_tokens t.priority ++ (from ∷ preceding) in
    let named = transition_name t.name ++ prior in
    let same = six (first ∷ transition_name t.name) (priority_tokens t.priority) (from ∷ side_tokens t.preceding) (to ∷ side_tokens t.following) (assign ∷ tree_tokens t.condition) (semicolon ∷ end ∷ []) rest in
    let one : Option (List ℕ) × Option ℕ = (t.name, t.priority) in
    let two : (Option (List ℕ) × Option ℕ) × List (List ℕ) = (one, t.preceding) in
    let three_ : ((Option (List ℕ) × Option ℕ) × List (List ℕ)) × List (List ℕ) = (two, t.following) in
    let parts : (((Option (List ℕ) × Option ℕ) × List (List ℕ)) × List (List ℕ)) × Tree = (three_, t.condition) in
    let d : Derived limits grammar.transition (first ∷ named) t rest = (parts, ((parts, tt), (end ∷ rest, ((parts, tt), (behind, (parts, (condition, ((three_, tt), (assign ∷ condition, (three_, (following, ((two, tt), (to ∷ following, (two, (preceding, ((one, tt), (from ∷ preceding, (one, (prior, ((tt, t.name), (named, (first, refl, refl, refl), transition_name_derives n In t.name prior), refl), priority_derives n In t.priority (from ∷ preceding)), refl), (from, refl, refl, refl)), refl), side_derives n In t.preceding (to ∷ following) h.0), refl), (to, refl, refl, refl)), refl), side_derives n In t.following (assign ∷ condition) h.1), refl), (assign, refl, refl, refl)), refl), expression_derives n limits.depth t.condition behind h.2 h.3), refl), (semicolon, refl, refl, refl)), refl), (end, refl, refl, refl)), refl), refl) in
    subst (λ us. Derived limits grammar.transition us t rest) (sym same) d

-- ---- elements

pub element_derives : (limits : Limits) (e : ElementTree) (rest : Kinds) → KeepsElement limits e → Derived limits grammar.element (element_tokens e ++ rest) e rest
unfolding grammar.element
element_derives limits (AStep s) rest h = by_kind s.is_initial refl
  where
    by_kind : (b : Bool) → s.is_initial ≡ b → Derived limits grammar.element (step_tokens s ++ rest) (AStep s) rest
    by_kind true p = inl (s, subst (λ b. Derived limits (grammar.step b (step_word b)) (step_tokens s ++ rest) s rest) p (step_derives limits.operators (Within limits.operators limits.depth) s rest), refl)
    by_kind false p = inr (inl (s, subst (λ b. Derived limits (grammar.step b (step_word b)) (step_tokens s ++ rest) s rest) p (step_derives limits.operators (Within limits.operators limits.depth) s rest), refl))
element_derives limits (ATransition t) rest h = inr (inr (inl (t, transition_derives limits t rest h, refl)))
element_derives limits (AnAction a) rest h = inr (inr (inr (a, action_derives limits a rest h, refl)))
