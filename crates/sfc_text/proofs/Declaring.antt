-- Each name, priority and location that a text declares is that of a token.
use Rattle.std.proofs.Common.{◌≡◌, ℕ, true, false, Bool, List, [], ◌∷◌, ◌++◌, Some, All, subst}
use Rattle.std.proofs.lemmas.List.Elements.{All-nil, All-cons, All-append}
use Rattle.sfc_base.specs.declared.keyword.Keyword.{Keyword}
use Rattle.sfc_base.specs.declared.keyword.Keyword.TheVariants as keyword
use Rattle.sfc_base.specs.declared.location.Location.{Location}
use Rattle.sfc_tokens.specs.declared.token.TokenKind.{TokenKind}
use Rattle.sfc_tokens.specs.declared.token.TokenKind.TheVariants as token
use Rattle.sfc_tokens.specs.Tokens.{Kinds}
use Rattle.sfc_text.specs.declared.tree.Declaration.{Declaration}
use Rattle.sfc_text.specs.Building as make
use Rattle.sfc_text.specs.Grammar as grammar
use Rattle.sfc_text.specs.Limits.{Limits}
use Rattle.sfc_text.specs.Reads.{IsSource}
use Rattle.sfc_text.specs.Trees.{SourceTree}
use Rattle.sfc_text.specs.Declares.{OfName, OfOptional, OfDeclaration, OfVariables, OfTransition, OfElement, OfProgram, OfTask, OfConfiguration, OfSource}
use Rattle.sfc_text.proofs.Holding.{Gives, always, so, of_token, of_map, of_both, of_left, of_right, of_either, of_maybe, of_repeated, of_gathered}

abbrev OfInteger : (TokenKind → Type 0) → ℕ → Type 0
OfInteger P n = P (token.Integer n)

abbrev OfLocation : (TokenKind → Type 0) → Location → Type 0
OfLocation P l = P (token.Location l)

-- ---- single tokens

of_named : (P : TokenKind → Type 0) (t : TokenKind) (n : List ℕ) → P t → make.name_of t ≡ Some n → OfName P n
of_named P (token.Name m) n p e = let same : m ≡ n = cc in subst (OfName P) same p
of_named P _ n p e = absurd cc

of_counted : (P : TokenKind → Type 0) (t : TokenKind) (n : ℕ) → P t → make.integer_of t ≡ Some n → OfInteger P n
of_counted P (token.Integer m) n p e = let same : m ≡ n = cc in subst (OfInteger P) same p
of_counted P _ n p e = absurd cc

of_located : (P : TokenKind → Type 0) (t : TokenKind) (l : Location) → P t → make.location_of t ≡ Some l → OfLocation P l
of_located P (token.Location k) l p e = let same : k ≡ l = cc in subst (OfLocation P) same p
of_located P _ l p e = absurd cc

name_declares : (P : TokenKind → Type 0) (limits : Limits) → Gives P limits grammar.name (OfName P)
name_declares P limits = of_token (of_named P)

integer_declares : (P : TokenKind → Type 0) (limits : Limits) → Gives P limits grammar.integer (OfInteger P)
integer_declares P limits = of_token (of_counted P)

location_declares : (P : TokenKind → Type 0) (limits : Limits) → Gives P limits grammar.location (OfLocation P)
location_declares P limits = of_token (of_located P)

-- ---- variables

further_names_declare : (P : TokenKind → Type 0) (limits : Limits) → Gives P limits grammar.further_names (All (OfName P))
unfolding grammar.further_names grammar.further_name
further_names_declare P limits = of_repeated (of_right (name_declares P limits))

names_or_location_declares : (P : TokenKind → Type 0) (limits : Limits) → Gives P limits grammar.names_or_location (λ p. All (OfName P) p.0 × OfOptional (OfLocation P) p.1)
unfolding grammar.names_or_location
names_or_location_declares P limits = of_either (of_map (of_right (so (location_declares P limits) (λ l h. (All-nil (OfName P), h))))) (of_map (so (further_names_declare P limits) (λ ns h. (h, tt))))

declaration_declares : (P : TokenKind → Type 0) (limits : Limits) → Gives P limits grammar.declaration (OfDeclaration P)
unfolding grammar.declaration
declaration_declares P limits =
    let names_or_location = so (names_or_location_declares P limits) (λ p h n g. (All-cons (OfName P) n p.0 g h.0, h.1)) in
    of_map (of_left (of_both (λ y. All (OfName P) (y.0.0 ∷ y.0.1.0) × OfOptional (OfLocation P) y.0.1.1)
    (of_both (λ y. All (OfName P) (y.0 ∷ y.1.0) × OfOptional (OfLocation P) y.1.1)
    (of_left (of_both (OfName P) (name_declares P limits) names_or_location))
    (always (λ t y h. h)))
    (always (λ i y h. record { names = h.0; location = h.1 }))))

variables_declare : (P : TokenKind → Type 0) (limits : Limits) → Gives P limits grammar.variables (OfVariables P)
unfolding grammar.variables
variables_declare P limits = of_either (of_map (of_left (of_right (of_repeated (declaration_declares P limits))))) (of_map (always (λ es. tt)))

-- ---- charts

step_declares : (P : TokenKind → Type 0) (limits : Limits) (b : Bool) (first : Keyword) → Gives P limits (grammar.step b first) (λ s. OfName P s.name)
unfolding grammar.step
step_declares P limits b first = of_map (of_left (of_both (OfName P) (of_left (of_right (name_declares P limits))) (always (λ lines n h. h))))

priority_declares : (P : TokenKind → Type 0) (limits : Limits) → Gives P limits grammar.priority (OfInteger P)
unfolding grammar.priority
priority_declares P limits = of_left (of_right (integer_declares P limits))

transition_declares : (P : TokenKind → Type 0) (limits : Limits) → Gives P limits grammar.transition (OfTransition P)
unfolding grammar.before_from grammar.before_condition grammar.transition
transition_declares P limits =
    let name = of_maybe (OfName P) (name_declares P limits) in
    let priority = of_maybe (OfInteger P) (priority_declares P limits) in
    of_map (of_left (of_left (of_both (λ y. OfOptional (OfName P) y.0.0.0 × OfOptional (OfInteger P) y.0.0.1)
    (of_left (of_both (λ y. OfOptional (OfName P) y.0.0 × OfOptional (OfInteger P) y.0.1)
    (of_left (of_both (λ y. OfOptional (OfName P) y.0 × OfOptional (OfInteger P) y.1)
    (of_left (of_both (OfOptional (OfName P)) (of_right name) (so priority (λ k h n g. (g, h)))))
    (always (λ ns y h. h))))
    (always (λ ns y h. h))))
    (always (λ e y h. record { name = h.0; priority = h.1 })))))

action_declares : (P : TokenKind → Type 0) (limits : Limits) → Gives P limits grammar.action (λ a. OfName P a.name)
unfolding grammar.action
action_declares P limits = of_map (of_left (of_both (OfName P) (of_left (of_right (name_declares P limits))) (always (λ b n h. h))))

element_declares : (P : TokenKind → Type 0) (limits : Limits) → Gives P limits grammar.element (OfElement P)
unfolding grammar.element
element_declares P limits = of_either (of_map (step_declares P limits true keyword.InitialStep)) (of_either (of_map (step_declares P limits false keyword.Step)) (of_either (of_map (transition_declares P limits)) (of_map (action_declares P limits))))

-- ---- program types

program_declares : (P : TokenKind → Type 0) (limits : Limits) → Gives P limits grammar.program (OfProgram P)
unfolding grammar.program
program_declares P limits =
    let blocks = so (of_repeated (variables_declare P limits)) (λ vs h n g. (g, h)) in
    let chart = of_repeated (element_declares P limits) in
    of_map (of_left (of_both (λ y. OfName P y.0 × All (OfVariables P) y.1)
    (of_both (OfName P) (of_right (name_declares P limits)) blocks)
    (so chart (λ es h y g. record { name = g.0; variables = g.1; elements = h }))))

-- ---- the configuration

globals_declare : (P : TokenKind → Type 0) (limits : Limits) → Gives P limits grammar.globals (All (OfDeclaration P))
unfolding grammar.globals
globals_declare P limits = of_left (of_right (of_repeated (declaration_declares P limits)))

task_declares : (P : TokenKind → Type 0) (limits : Limits) → Gives P limits grammar.task_line (OfTask P)
unfolding grammar.task_line grammar.before_interval grammar.task
task_declares P limits =
    of_left (of_map (of_left (of_both (λ y. OfName P y.0.0)
    (of_left (of_left (of_both (λ y. OfName P y.0)
    (of_both (OfName P) (of_left (of_right (name_declares P limits))) (always (λ o n h. h)))
    (always (λ t y h. h)))))
    (so (integer_declares P limits) (λ k h y g. record { name = g; priority = h })))))

instance_declares : (P : TokenKind → Type 0) (limits : Limits) → Gives P limits grammar.instance_line (λ i. OfName P i.name)
unfolding grammar.instance_line grammar.instance
instance_declares P limits =
    of_left (of_map (of_both (λ y. OfName P y.0)
    (of_left (of_both (OfName P) (of_right (name_declares P limits)) (always (λ o n h. h))))
    (always (λ m y h. h))))

-- the names of a configuration, and the globals of both levels
record OfHead (P : TokenKind → Type 0) (y : (((List ℕ × List Declaration) × List ℕ) × List ℕ) × List Declaration) : Type 0 where
  pub name : OfName P y.0.0.0.0
  pub resource : OfName P y.0.0.1
  pub processor : OfName P y.0.1
  pub globals : All (OfDeclaration P) (y.0.0.0.1 ++ y.1)

configuration_declares : (P : TokenKind → Type 0) (limits : Limits) → Gives P limits grammar.configuration (OfConfiguration P)
unfolding grammar.before_resource grammar.before_tasks grammar.configuration
configuration_declares P limits =
    let name = name_declares P limits in
    let globals = of_gathered (OfDeclaration P) (globals_declare P limits) in
    let tasks = of_repeated (task_declares P limits) in
    let instance = instance_declares P limits in
    of_map (of_left (of_left (of_both (λ y. OfHead P y.0 × All (OfTask P) y.1)
    (of_both (OfHead P)
    (of_both (λ y. (OfName P y.0.0.0 × All (OfDeclaration P) y.0.0.1) × OfName P y.0.1 × OfName P y.1)
    (of_both (λ y. (OfName P y.0.0 × All (OfDeclaration P) y.0.1) × OfName P y.1)
    (of_left (of_both (λ y. OfName P y.0 × All (OfDeclaration P) y.1)
    (of_left (of_both (OfName P) (of_right name) (so globals (λ ds h n g. (g, h)))))
    (so name (λ n h y g. (g, h)))))
    (so name (λ n h y g. (g.0, g.1, h))))
    (so globals (λ ds h y g. record { name = g.0.0; resource = g.1; processor = g.2; globals = All-append (OfDeclaration P) y.0.0.1 ds g.0.1 h })))
    (so tasks (λ ts h y g. (g, h))))
    (of_both (λ i. OfName P i.name) instance (so (of_repeated instance) (λ is h i g y k. record { name = k.0.name; resource = k.0.resource; processor = k.0.processor; globals = k.0.globals; tasks = k.1; instances = All-cons (λ j. OfName P j.name) i is g h }))))))

-- ---- whole texts

source_declares : (P : TokenKind → Type 0) (limits : Limits) → Gives P limits grammar.source (OfSource P)
unfolding grammar.source
source_declares P limits =
    let programs = of_repeated (program_declares P limits) in
    of_map (of_both (λ y. All (OfProgram P) y.0 × OfConfiguration P y.1)
    (of_both (All (OfProgram P)) programs (so (configuration_declares P limits) (λ c h ps g. (g, h))))
    (so programs (λ ps h y g. record { programs = All-append (OfProgram P) y.0 ps g.0 h; configuration = g.1 })))

pub declares : (P : TokenKind → Type 0) (limits : Limits) (ts : Kinds) (s : SourceTree) → All P ts → IsSource limits ts s → OfSource P s
declares P limits ts s all d = (source_declares P limits).holds ts s [] d all
