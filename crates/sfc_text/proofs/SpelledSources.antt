-- The tokens of whole texts derive them.
use Rattle.std.proofs.Common.{◌≡◌, inl, inr, ℕ, ℤ, pos, negsuc, suc, Bool, true, false, List, [], ◌∷◌, ◌++◌, Option, Some, None, All, if◌then◌else◌, flat_map, codes, refl, sym, subst, ◌∙◌, append_assoc, append-nil, int_eq}
use Rattle.std.proofs.lemmas.Bool.Decides.{Decides-int_eq}
use Rattle.std.proofs.lemmas.List.Elements.{All-head, All-tail}
use Rattle.sfc_base.specs.declared.delimiter.Delimiter.TheVariants as sign
use Rattle.sfc_base.specs.declared.keyword.Keyword.TheVariants as keyword
use Rattle.sfc_base.specs.declared.location.Location.{Location}
use Rattle.sfc_tokens.specs.declared.token.TokenKind.TheVariants as token
use Rattle.sfc_base.specs.declared.var_type.VarType.{VarType}
use Rattle.sfc_base.specs.declared.var_type.VarType.TheVariants as types
use Rattle.sfc_base.specs.Case.{same_word}
use Rattle.sfc_tokens.specs.Tokens.{Kinds}
use Rattle.sfc_text.specs.declared.tree.Configuration.{Configuration}
use Rattle.sfc_text.specs.declared.tree.Declaration.{Declaration}
use Rattle.sfc_text.specs.declared.tree.External.{External}
use Rattle.sfc_text.specs.declared.tree.Instance.{Instance}
use Rattle.sfc_text.specs.declared.tree.Literal.{Literal}
use Rattle.sfc_text.specs.declared.tree.Literal.TheVariants as literal
use Rattle.sfc_text.specs.declared.tree.Task.{Task}
use Rattle.sfc_text.specs.declared.tree.VariableBlock.{VariableBlock}
use Rattle.sfc_text.specs.declared.tree.VariableBlock.TheVariants as block
use Rattle.sfc_text.specs.Building as make
use Rattle.sfc_text.specs.Grammar as grammar
use Rattle.sfc_text.specs.Limits.{Limits, Within, Derived}
use Rattle.sfc_text.specs.Lists.{is_empty}
use Rattle.sfc_text.specs.Reads.{IsSource}
use Rattle.sfc_text.specs.Rules.{Rule, Many, none, next, Inner, Derives}
use Rattle.sfc_text.specs.Terms.{word, ◌▸◌, ◌&◌, maybe, else_given, gathered, some_of}
use Rattle.sfc_text.specs.Trees.{ElementTree, ProgramTree, SourceTree}
use Rattle.sfc_text.specs.Spelled.{literal_tokens}
use Rattle.sfc_text.specs.SpelledCharts.{further_tokens, element_tokens, KeepsElement}
use Rattle.sfc_text.specs.SpelledSources.{names_tokens, at_tokens, type_word, initial_tokens, declaration_tokens, AreDeclared, IsDeclaration, external_tokens, IsExternal, variables_tokens, AreVariables, program_tokens, KeepsProgram, globals_tokens, single_tokens, interval_tokens, task_tokens, with_tokens, instance_tokens, configuration_tokens, IsConfiguration, source_tokens, KeepsSource}
use Rattle.sfc_text.proofs.SpelledCharts.{items_derive, further_names_derive, element_derives}
use Rattle.sfc_text.proofs.SpelledStatements.{three}

-- items in a row, each of which has to be as K says
kept_items_derive : {X : Type 0} (K : X → Type 0) (n : ℕ) (In : Inner) (rule : Rule X) (tokens : X → Kinds) → ((x : X) (rest : Kinds) → K x → Derives n In rule (tokens x ++ rest) x rest) → (xs : List X) (rest : Kinds) → All K xs → Many (Derives n In rule) (flat_map tokens xs ++ rest) xs rest
kept_items_derive K n In rule tokens h [] rest all = none
kept_items_derive K n In rule tokens h (x ∷ xs) rest all =
    let behind = flat_map tokens xs ++ rest in
    subst (λ us. Many (Derives n In rule) us (x ∷ xs) rest) (sym (append_assoc (tokens x) (flat_map tokens xs) rest)) (next (h x behind (All-head K x xs all)) (kept_items_derive K n In rule tokens h xs rest (All-tail K x xs all)))

four : (a b c d rest : Kinds) → (a ++ b ++ c ++ d) ++ rest ≡ a ++ (b ++ (c ++ (d ++ rest)))
four a b c d rest = append_assoc (a ++ b ++ c) d rest ∙ three a b c (d ++ rest)

-- ---- variables

type_derives : (n : ℕ) (In : Inner) (t : VarType) (rest : Kinds) → Derives n In grammar.data_type (token.Keyword (type_word t) ∷ rest) t rest
unfolding grammar.data_type
type_derives n In types.Bool rest = (token.Keyword keyword.Bool, refl, refl, refl)
type_derives n In types.Int rest = (token.Keyword keyword.Int, refl, refl, refl)
type_derives n In types.Dint rest = (token.Keyword keyword.Dint, refl, refl, refl)
type_derives n In types.Time rest = (token.Keyword keyword.Time, refl, refl, refl)

value_derives : (n : ℕ) (In : Inner) (l : Literal) (rest : Kinds) → Derives n In grammar.initial_value (literal_tokens l ++ rest) l rest
unfolding grammar.initial_value grammar.signed grammar.literal
value_derives n In (literal.Integer (pos k)) rest = inr (token.Integer k, refl, refl, refl)
value_derives n In (literal.Integer (negsuc k)) rest = inl (suc k, ((tt, suc k), (token.Integer (suc k) ∷ rest, (token.Delimiter sign.Minus, refl, refl, refl), (token.Integer (suc k), refl, refl, refl)), refl), refl)
value_derives n In (literal.Int k) rest = inr (token.Int k, refl, refl, refl)
value_derives n In (literal.Dint k) rest = inr (token.Dint k, refl, refl, refl)
value_derives n In (literal.Bool true) rest = inr (token.Keyword keyword.True, refl, refl, refl)
value_derives n In (literal.Bool false) rest = inr (token.Keyword keyword.False, refl, refl, refl)
value_derives n In (literal.Time d) rest = inr (token.Duration d, refl, refl, refl)

-- the last part of a declaration
declared : (n : ℕ) (In : Inner) (y : List ℕ × make.NamesOrLocation) (t : VarType) (initial : Option Literal) (ts rest : Kinds) → Derives n In (grammar.name & grammar.names_or_location) ts y (token.Delimiter sign.Colon ∷ token.Keyword (type_word t) ∷ (initial_tokens initial ++ (token.Delimiter sign.Semicolon ∷ rest))) → Derives n In grammar.declaration ts (make.a_declaration ((y, t), initial)) rest
unfolding grammar.declaration
declared n In y t None ts rest d =
    let colon = token.Delimiter sign.Colon in
    let end = token.Delimiter sign.Semicolon in
    let typed = token.Keyword (type_word t) ∷ end ∷ rest in
    let front : (List ℕ × make.NamesOrLocation) × VarType = (y, t) in
    let parts : ((List ℕ × make.NamesOrLocation) × VarType) × Option Literal = (front, None) in
    (parts, ((parts, tt), (end ∷ rest, (parts, (end ∷ rest, (front, (typed, ((y, tt), (colon ∷ typed, d, (colon, refl, refl, refl)), refl), type_derives n In t (end ∷ rest)), refl), inr (refl, refl)), refl), (end, refl, refl, refl)), refl), refl)
declared n In y t (Some l) ts rest d =
    let colon = token.Delimiter sign.Colon in
    let assign = token.Delimiter sign.Assign in
    let end = token.Delimiter sign.Semicolon in
    let value = literal_tokens l ++ (end ∷ rest) in
    let typed = token.Keyword (type_word t) ∷ assign ∷ value in
    let front : (List ℕ × make.NamesOrLocation) × VarType = (y, t) in
    let parts : ((List ℕ × make.NamesOrLocation) × VarType) × Option Literal = (front, Some l) in
    (parts, ((parts, tt), (end ∷ rest, (parts, (assign ∷ value, (front, (typed, ((y, tt), (colon ∷ typed, d, (colon, refl, refl, refl)), refl), type_derives n In t (assign ∷ value)), refl), inl (l, ((tt, l), (value, (assign, refl, refl, refl), value_derives n In l (end ∷ rest)), refl), refl)), refl), (end, refl, refl, refl)), refl), refl)

names_declared : (n : ℕ) (In : Inner) (names : List (List ℕ)) (location : Option Location) (t : VarType) (initial : Option Literal) (rest : Kinds) → AreDeclared names location → Derives n In grammar.declaration (names_tokens names ++ (at_tokens location ++ (token.Delimiter sign.Colon ∷ token.Keyword (type_word t) ∷ (initial_tokens initial ++ (token.Delimiter sign.Semicolon ∷ rest))))) (record { names = names; location = location; var_type = t; initial = initial }) rest
unfolding grammar.names_or_location
names_declared n In [] location t initial rest h = absurd h
names_declared n In (one ∷ others) None t initial rest h =
    let behind = token.Delimiter sign.Colon ∷ token.Keyword (type_word t) ∷ (initial_tokens initial ++ (token.Delimiter sign.Semicolon ∷ rest)) in
    let named = token.Name one in
    let y : List ℕ × make.NamesOrLocation = (one, (others, None)) in
    declared n In y t initial (named ∷ (further_tokens others ++ behind)) rest (y, (further_tokens others ++ behind, (named, refl, refl, refl), inr (others, further_names_derive n In others behind, refl)), refl)
names_declared n In (one ∷ []) (Some l) t initial rest h =
    let behind = token.Delimiter sign.Colon ∷ token.Keyword (type_word t) ∷ (initial_tokens initial ++ (token.Delimiter sign.Semicolon ∷ rest)) in
    let named = token.Name one in
    let at_ = token.Keyword keyword.At in
    let there = token.Location l in
    let y : List ℕ × make.NamesOrLocation = (one, ([], Some l)) in
    declared n In y t initial (named ∷ at_ ∷ there ∷ behind) rest (y, (at_ ∷ there ∷ behind, (named, refl, refl, refl), inl (l, ((tt, l), (there ∷ behind, (at_, refl, refl, refl), (there, refl, refl, refl)), refl), refl)), refl)
names_declared n In (one ∷ two ∷ others) (Some l) t initial rest h = absurd cc

declaration_derives : (n : ℕ) (In : Inner) (d : Declaration) (rest : Kinds) → IsDeclaration d → Derives n In grammar.declaration (declaration_tokens d ++ rest) d rest
declaration_derives n In d rest h =
    let same = four (names_tokens d.names) (at_tokens d.location) (token.Delimiter sign.Colon ∷ token.Keyword (type_word d.var_type) ∷ initial_tokens d.initial) (token.Delimiter sign.Semicolon ∷ []) rest in
    subst (λ us. Derives n In grammar.declaration us d rest) (sym same) (names_declared n In d.names d.location d.var_type d.initial rest h)

names_derive : (n : ℕ) (In : Inner) (names : List (List ℕ)) (rest : Kinds) → is_empty names ≡ false → Derives n In grammar.names (names_tokens names ++ rest) names rest
unfolding grammar.names
names_derive n In [] rest h = absurd cc
names_derive n In (one ∷ others) rest h = ((one, others), (further_tokens others ++ rest, (token.Name one, refl, refl, refl), further_names_derive n In others rest), refl)

external_derives : (n : ℕ) (In : Inner) (e : External) (rest : Kinds) → IsExternal e → Derives n In grammar.external (external_tokens e ++ rest) e rest
unfolding grammar.external
external_derives n In e rest h =
    let colon = token.Delimiter sign.Colon in
    let end = token.Delimiter sign.Semicolon in
    let typed = token.Keyword (type_word e.var_type) ∷ end ∷ rest in
    let same = append_assoc (names_tokens e.names) (colon ∷ token.Keyword (type_word e.var_type) ∷ end ∷ []) rest in
    let parts : List (List ℕ) × VarType = (e.names, e.var_type) in
    let d : Derives n In grammar.external (names_tokens e.names ++ (colon ∷ typed)) e rest = (parts, ((parts, tt), (end ∷ rest, (parts, (typed, ((e.names, tt), (colon ∷ typed, names_derive n In e.names (colon ∷ typed) h, (colon, refl, refl, refl)), refl), type_derives n In e.var_type (end ∷ rest)), refl), (end, refl, refl, refl)), refl), refl) in
    subst (λ us. Derives n In grammar.external us e rest) (sym same) d

variables_derive : (n : ℕ) (In : Inner) (v : VariableBlock) (rest : Kinds) → AreVariables v → Derives n In grammar.variables (variables_tokens v ++ rest) v rest
unfolding grammar.variables
variables_derive n In (block.Local ds) rest h =
    let first = token.Keyword keyword.Var in
    let end = token.Keyword keyword.EndVar in
    let lines = flat_map declaration_tokens ds ++ (end ∷ rest) in
    let same = append_assoc (first ∷ flat_map declaration_tokens ds) (end ∷ []) rest in
    let d : Derives n In grammar.variables (first ∷ lines) (block.Local ds) rest = inl (ds, ((ds, tt), (end ∷ rest, ((tt, ds), (lines, (first, refl, refl, refl), (ds, kept_items_derive IsDeclaration n In grammar.declaration declaration_tokens (declaration_derives n In) ds (end ∷ rest) h, refl)), refl), (end, refl, refl, refl)), refl), refl) in
    subst (λ us. Derives n In grammar.variables us (block.Local ds) rest) (sym same) d
variables_derive n In (block.External es) rest h =
    let first = token.Keyword keyword.VarExternal in
    let end = token.Keyword keyword.EndVar in
    let lines = flat_map external_tokens es ++ (end ∷ rest) in
    let same = append_assoc (first ∷ flat_map external_tokens es) (end ∷ []) rest in
    let d : Derives n In grammar.variables (first ∷ lines) (block.External es) rest = inr (es, ((es, tt), (end ∷ rest, ((tt, es), (lines, (first, refl, refl, refl), (es, kept_items_derive IsExternal n In grammar.external external_tokens (external_derives n In) es (end ∷ rest) h, refl)), refl), (end, refl, refl, refl)), refl), refl) in
    subst (λ us. Derives n In grammar.variables us (block.External es) rest) (sym same) d

-- ---- program types

pub program_derives : (limits : Limits) (p : ProgramTree) (rest : Kinds) → KeepsProgram limits p → Derived limits grammar.program (program_tokens p ++ rest) p rest
unfolding grammar.program
program_derives limits p rest h =
    let n = limits.operators in
    let In : Inner = Within limits.operators limits.depth in
    let first = token.Keyword keyword.Program in
    let named = token.Name p.name in
    let end = token.Keyword keyword.EndProgram in
    let behind = end ∷ rest in
    let elements = flat_map element_tokens p.elements ++ behind in
    let variables = flat_map variables_tokens p.variables ++ elements in
    let same = three (first ∷ named ∷ flat_map variables_tokens p.variables) (flat_map element_tokens p.elements) (end ∷ []) rest in
    let one : List ℕ × List VariableBlock = (p.name, p.variables) in
    let parts : (List ℕ × List VariableBlock) × List ElementTree = (one, p.elements) in
    let blocks = kept_items_derive AreVariables n In grammar.variables variables_tokens (variables_derive n In) p.variables elements h.variables in
    let chart = kept_items_derive (KeepsElement limits) n In grammar.element element_tokens (element_derives limits) p.elements behind h.elements in
    let d : Derived limits grammar.program (first ∷ named ∷ variables) p rest = (parts, ((parts, tt), (behind, (parts, (elements, (one, (variables, ((tt, p.name), (named ∷ variables, (first, refl, refl, refl), (named, refl, refl, refl)), refl), (p.variables, blocks, refl)), refl), (p.elements, chart, refl)), refl), (end, refl, refl, refl)), refl), refl) in
    subst (λ us. Derived limits grammar.program us p rest) (sym same) d

-- ---- the configuration

globals_derive : (n : ℕ) (In : Inner) (ds : List Declaration) (rest : Kinds) → All IsDeclaration ds → Derives n In (gathered grammar.globals) (globals_tokens ds ++ rest) ds rest
unfolding grammar.globals
globals_derive n In [] rest h = ([], none, refl)
globals_derive n In (d ∷ ds) rest h =
    let all : List Declaration = d ∷ ds in
    let first = token.Keyword keyword.VarGlobal in
    let end = token.Keyword keyword.EndVar in
    let lines = flat_map declaration_tokens all ++ (end ∷ rest) in
    let same = append_assoc (first ∷ flat_map declaration_tokens all) (end ∷ []) rest in
    let one : Derives n In grammar.globals (first ∷ lines) all rest = ((all, tt), (end ∷ rest, ((tt, all), (lines, (first, refl, refl, refl), (all, kept_items_derive IsDeclaration n In grammar.declaration declaration_tokens (declaration_derives n In) all (end ∷ rest) h, refl)), refl), (end, refl, refl, refl)), refl) in
    subst (λ us. Derives n In (gathered grammar.globals) us all rest) (sym same) (all ∷ [], next one none, refl)

single_derives : (n : ℕ) (In : Inner) (name : Option (List ℕ)) (rest : Kinds) → Derives n In (maybe grammar.single) (single_tokens name ++ rest) name rest
unfolding grammar.single same_word
single_derives n In None rest = inr (refl, refl)
single_derives n In (Some name) rest =
    let word = token.Name (codes "SINGLE") in
    let assign = token.Delimiter sign.Assign in
    let named = token.Name name in
    let comma = token.Delimiter sign.Comma in
    inl (name, ((name, tt), (comma ∷ rest, ((tt, name), (named ∷ comma ∷ rest, ((tt, tt), (assign ∷ named ∷ comma ∷ rest, (word, refl, refl, refl), (assign, refl, refl, refl)), refl), (named, refl, refl, refl)), refl), (comma, refl, refl, refl)), refl), refl)

interval_derives : (n : ℕ) (In : Inner) (t : ℤ) (rest : Kinds) → Derives n In (else_given (pos 0) grammar.interval) (interval_tokens t ++ rest) t rest
unfolding grammar.interval same_word
interval_derives n In t rest = by_test (int_eq t (pos 0)) refl
  where
    by_test : (b : Bool) → int_eq t (pos 0) ≡ b → Derives n In (else_given (pos 0) grammar.interval) ((if b then [] else token.Name (codes "INTERVAL") ∷ token.Delimiter sign.Assign ∷ token.Duration t ∷ token.Delimiter sign.Comma ∷ []) ++ rest) t rest
    by_test true e = inr (refl, (Decides-int_eq t (pos 0)).0 e)
    by_test false e =
        let word = token.Name (codes "INTERVAL") in
        let assign = token.Delimiter sign.Assign in
        let time = token.Duration t in
        let comma = token.Delimiter sign.Comma in
        inl ((t, tt), (comma ∷ rest, ((tt, t), (time ∷ comma ∷ rest, ((tt, tt), (assign ∷ time ∷ comma ∷ rest, (word, refl, refl, refl), (assign, refl, refl, refl)), refl), (time, refl, refl, refl)), refl), (comma, refl, refl, refl)), refl)

task_derives : (n : ℕ) (In : Inner) (t : Task) (rest : Kinds) → Derives n In grammar.task_line (task_tokens t ++ rest) t rest
unfolding grammar.task_line grammar.before_interval grammar.task same_word
task_derives n In t rest =
    let first = token.Keyword keyword.Task in
    let named = token.Name t.name in
    let open_ = token.Delimiter sign.Open in
    let word = token.Name (codes "PRIORITY") in
    let assign = token.Delimiter sign.Assign in
    let number = token.Integer t.priority in
    let close = token.Delimiter sign.Close in
    let end = token.Delimiter sign.Semicolon in
    let prior = word ∷ assign ∷ number ∷ close ∷ end ∷ rest in
    let from_interval = interval_tokens t.interval ++ prior in
    let from_single = single_tokens t.single ++ from_interval in
    let same = three (first ∷ named ∷ open_ ∷ single_tokens t.single) (interval_tokens t.interval) (word ∷ assign ∷ number ∷ close ∷ end ∷ []) rest in
    let one : List ℕ × Option (List ℕ) = (t.name, t.single) in
    let two : (List ℕ × Option (List ℕ)) × ℤ = (one, t.interval) in
    let parts : ((List ℕ × Option (List ℕ)) × ℤ) × ℕ = (two, t.priority) in
    let d : Derives n In grammar.task_line (first ∷ named ∷ open_ ∷ from_single) t rest = ((t, tt), (end ∷ rest, (parts, ((parts, tt), (close ∷ end ∷ rest, (parts, (number ∷ close ∷ end ∷ rest, ((two, tt), (assign ∷ number ∷ close ∷ end ∷ rest, ((two, tt), (prior, (two, (from_interval, (one, (from_single, ((t.name, tt), (open_ ∷ from_single, ((tt, t.name), (named ∷ open_ ∷ from_single, (first, refl, refl, refl), (named, refl, refl, refl)), refl), (open_, refl, refl, refl)), refl), single_derives n In t.single from_interval), refl), interval_derives n In t.interval prior), refl), (word, refl, refl, refl)), refl), (assign, refl, refl, refl)), refl), (number, refl, refl, refl)), refl), (close, refl, refl, refl)), refl), refl), (end, refl, refl, refl)), refl) in
    subst (λ us. Derives n In grammar.task_line us t rest) (sym same) d

instance_derives : (n : ℕ) (In : Inner) (i : Instance) (rest : Kinds) → Derives n In grammar.instance_line (instance_tokens i ++ rest) i rest
unfolding grammar.instance_line grammar.instance
instance_derives n In i rest =
    let first = token.Keyword keyword.Program in
    let named = token.Name i.name in
    let colon = token.Delimiter sign.Colon in
    let kind = token.Name i.program in
    let end = token.Delimiter sign.Semicolon in
    let behind = colon ∷ kind ∷ end ∷ rest in
    let with_ = with_tokens i.task ++ behind in
    let same = append_assoc (first ∷ named ∷ with_tokens i.task) (colon ∷ kind ∷ end ∷ []) rest in
    let one : List ℕ × Option (List ℕ) = (i.name, i.task) in
    let parts : (List ℕ × Option (List ℕ)) × List ℕ = (one, i.program) in
    let d : Derives n In grammar.instance_line (first ∷ named ∷ with_) i rest = ((i, tt), (end ∷ rest, (parts, (parts, (kind ∷ end ∷ rest, ((one, tt), (behind, (one, (with_, ((tt, i.name), (named ∷ with_, (first, refl, refl, refl), (named, refl, refl, refl)), refl), given i.task behind), refl), (colon, refl, refl, refl)), refl), (kind, refl, refl, refl)), refl), refl), (end, refl, refl, refl)), refl) in
    subst (λ us. Derives n In grammar.instance_line us i rest) (sym same) d
  where
    given : (name : Option (List ℕ)) (ts : Kinds) → Derives n In (maybe (word keyword.With ▸ grammar.name)) (with_tokens name ++ ts) name ts
    given None ts = inr (refl, refl)
    given (Some name) ts = inl (name, ((tt, name), (token.Name name ∷ ts, (token.Keyword keyword.With, refl, refl, refl), (token.Name name, refl, refl, refl)), refl), refl)

instances_derive : (n : ℕ) (In : Inner) (is : List Instance) (rest : Kinds) → is_empty is ≡ false → Derives n In (some_of grammar.instance_line grammar.instance_line) (flat_map instance_tokens is ++ rest) is rest
instances_derive n In [] rest h = absurd cc
instances_derive n In (i ∷ is) rest h =
    let behind = flat_map instance_tokens is ++ rest in
    subst (λ us. Derives n In (some_of grammar.instance_line grammar.instance_line) us (i ∷ is) rest) (sym (append_assoc (instance_tokens i) (flat_map instance_tokens is) rest)) ((i, is), (behind, instance_derives n In i behind, (is, items_derive n In grammar.instance_line instance_tokens (instance_derives n In) is rest, refl)), refl)

pub configuration_derives : (limits : Limits) (c : Configuration) (rest : Kinds) → IsConfiguration c → Derived limits grammar.configuration (configuration_tokens c ++ rest) c rest
unfolding grammar.before_resource grammar.before_tasks grammar.configuration
configuration_derives limits c rest h =
    let n = limits.operators in
    let In : Inner = Within limits.operators limits.depth in
    let first = token.Keyword keyword.Configuration in
    let named = token.Name c.name in
    let resource = token.Keyword keyword.Resource in
    let called = token.Name c.resource in
    let on = token.Keyword keyword.On in
    let processor = token.Name c.processor in
    let end = token.Keyword keyword.EndResource in
    let last = token.Keyword keyword.EndConfiguration in
    let behind = end ∷ last ∷ rest in
    let instances = flat_map instance_tokens c.instances ++ behind in
    let tasks = flat_map task_tokens c.tasks ++ instances in
    let globals = globals_tokens c.globals ++ tasks in
    let head = first ∷ named ∷ resource ∷ called ∷ on ∷ processor ∷ globals_tokens c.globals in
    let same = four head (flat_map task_tokens c.tasks) (flat_map instance_tokens c.instances) (end ∷ last ∷ []) rest in
    let none_ : List Declaration = [] in
    let one : List ℕ × List Declaration = (c.name, none_) in
    let two : (List ℕ × List Declaration) × List ℕ = (one, c.resource) in
    let three_ : ((List ℕ × List Declaration) × List ℕ) × List ℕ = (two, c.processor) in
    let four_ : (((List ℕ × List Declaration) × List ℕ) × List ℕ) × List Declaration = (three_, c.globals) in
    let five : ((((List ℕ × List Declaration) × List ℕ) × List ℕ) × List Declaration) × List Task = (four_, c.tasks) in
    let parts : (((((List ℕ × List Declaration) × List ℕ) × List ℕ) × List Declaration) × List Task) × List Instance = (five, c.instances) in
    let from_on = on ∷ processor ∷ globals in
    let from_resource = resource ∷ called ∷ from_on in
    let d : Derived limits grammar.configuration (first ∷ named ∷ from_resource) c rest = (parts, ((parts, tt), (last ∷ rest, ((parts, tt), (behind, (parts, (instances, (five, (tasks, (four_, (globals, (three_, (processor ∷ globals, ((two, tt), (from_on, (two, (called ∷ from_on, ((one, tt), (from_resource, (one, (from_resource, ((tt, c.name), (named ∷ from_resource, (first, refl, refl, refl), (named, refl, refl, refl)), refl), ([], none, refl)), refl), (resource, refl, refl, refl)), refl), (called, refl, refl, refl)), refl), (on, refl, refl, refl)), refl), (processor, refl, refl, refl)), refl), globals_derive n In c.globals tasks h.globals), refl), (c.tasks, items_derive n In grammar.task_line task_tokens (task_derives n In) c.tasks instances, refl)), refl), instances_derive n In c.instances behind h.instances), refl), (end, refl, refl, refl)), refl), (last, refl, refl, refl)), refl), refl) in
    subst (λ us. Derived limits grammar.configuration us c rest) (sym same) d

-- ---- whole texts

pub source_derives : (limits : Limits) (s : SourceTree) → KeepsSource limits s → IsSource limits (source_tokens s) s
unfolding grammar.source
source_derives limits s h =
    let n = limits.operators in
    let In : Inner = Within limits.operators limits.depth in
    let ts = configuration_tokens s.configuration in
    let none_ : List ProgramTree = [] in
    let front : List ProgramTree × Configuration = (s.programs, s.configuration) in
    let parts : (List ProgramTree × Configuration) × List ProgramTree = (front, none_) in
    let programs = kept_items_derive (KeepsProgram limits) n In grammar.program program_tokens (program_derives limits) s.programs ts h.programs in
    let configured = subst (λ us. Derived limits grammar.configuration us s.configuration []) (append-nil ts) (configuration_derives limits s.configuration [] h.configuration) in
    let d : IsSource limits (source_tokens s) (make.a_source parts) = (parts, (parts, ([], (front, (ts, (s.programs, programs, refl), configured), refl), (none_, none, refl)), refl), refl) in
    subst (λ (ps : List ProgramTree). IsSource limits (source_tokens s) (record { programs = ps; configuration = s.configuration })) (append-nil s.programs) d
