-- The texts of variables, and of blocks of them, spell the tokens of those that the listing spells.
use Rattle.std.proofs.Common.{◌≡◌, ℕ, zero, suc, arith, ◌<◌, List, [], ◌∷◌, ◌++◌, map, flat_map, length, All, Option, Some, None, slice_get, refl, sym, ap, subst, ◌∙◌, append_assoc, codes}
use Rattle.std.proofs.lemmas.List.{append-nil}
use Rattle.sfc_base.specs.declared.delimiter.Delimiter.TheVariants as sign
use Rattle.sfc_base.specs.declared.keyword.Keyword.{Keyword}
use Rattle.sfc_base.specs.declared.keyword.Keyword.TheVariants as keyword
use Rattle.sfc_base.specs.declared.location.Location.{Location}
use Rattle.sfc_base.specs.declared.run.Alphabet.TheVariants as alphabet
use Rattle.sfc_tokens.specs.declared.token.TokenKind.{TokenKind}
use Rattle.sfc_tokens.specs.declared.token.TokenKind.TheVariants as token
use Rattle.sfc_base.specs.declared.var_type.VarType.{VarType}
use Rattle.sfc_base.specs.declared.var_type.VarType.TheVariants as types
use Rattle.sfc_base.specs.Case.{same_word}
use Rattle.sfc_base.specs.Classes.{class_of}
use Rattle.sfc_base.specs.LocationText.{location_text}
use Rattle.sfc_base.specs.Names.{is_spaced, IsName}
use Rattle.sfc_base.specs.Runs.{Ends}
use Rattle.sfc_tokens.specs.Spelling as spelling
use Rattle.sfc_tokens.specs.Spelling.{Spells}
use Rattle.sfc_base.specs.Words.{keyword_of}
use Rattle.sfc_tokens.proofs.Spaced.{reserved_spaced}
use Rattle.sfc_tokens.proofs.Spelled.{reserved_spells}
use Rattle.sfc_tokens.proofs.SpelledLocations.{location_spells}
use Rattle.sfc_tokens.proofs.Spellings.{alone, joined}
use Rattle.sfc_text.specs.declared.tree.VariableBlock.{VariableBlock}
use Rattle.sfc_text.specs.declared.tree.VariableBlock.TheVariants as block_of
use Rattle.sfc_text.specs.Declares.{OfOptional}
use Rattle.sfc_text.specs.Spelled.{literal_tokens}
use Rattle.sfc_text.specs.SpelledSources.{at_tokens, type_word, declaration_tokens, external_tokens, variables_tokens, globals_tokens}
use Rattle.sfc_base.specs.declared.references.GlobalId.{GlobalId}
use Rattle.sfc_plant.specs.declared.variable.Variable.{Variable}
use Rattle.sfc_plant.specs.VariableNames.{names_of}
use Rattle.sfc_plant.specs.declared.program_type.ProgramType.{ProgramType}
use Rattle.sfc_plant.specs.Spaces.{space_in}
use Rattle.sfc_list.specs.Layout.{line, block}
use Rattle.sfc_list.specs.Listing.{at_text, variable_text, external_type, external_text}
use Rattle.sfc_plant.specs.Names.{name_at}
use Rattle.sfc_list.specs.Values.{type_text, literal_text}
use Rattle.sfc_read_back.specs.SpelledPlants.{CanSpellLocation, CanSpellVariable, CanSpellExternal}
use Rattle.sfc_read_back.specs.WrittenTerms.{literal_tree}
use Rattle.sfc_read_back.specs.WrittenVariables.{declaration_tree, type_of_global, external_tree, block_tree}
use Rattle.sfc_read_back.proofs.SpelledBodies.{before_space, before_semicolon}
use Rattle.sfc_read_back.proofs.SpelledLines.{SpellsAlways, SpellsLine, framed, each_line_spelled, named, semicolon, colon_between, assign_between}
use Rattle.sfc_read_back.proofs.SpelledLiterals.{ends_word, ends_sharp, literal_spells}

-- ---- types and locations

type_spelled : (t : VarType) (rest : List ℕ) → Ends alphabet.Location rest → Spells (type_text t) (token.Keyword (type_word t) ∷ []) rest
unfolding class_of is_spaced keyword_of same_word
type_spelled types.Bool rest ends = alone (codes "BOOL") rest (token.Keyword keyword.Bool) (reserved_spells (codes "BOOL") rest keyword.Bool refl refl (ends_word rest ends) (ends_sharp rest ends))
type_spelled types.Int rest ends = alone (codes "INT") rest (token.Keyword keyword.Int) (reserved_spells (codes "INT") rest keyword.Int refl refl (ends_word rest ends) (ends_sharp rest ends))
type_spelled types.Dint rest ends = alone (codes "DINT") rest (token.Keyword keyword.Dint) (reserved_spells (codes "DINT") rest keyword.Dint refl refl (ends_word rest ends) (ends_sharp rest ends))
type_spelled types.Time rest ends = alone (codes "TIME") rest (token.Keyword keyword.Time) (reserved_spells (codes "TIME") rest keyword.Time refl refl (ends_word rest ends) (ends_sharp rest ends))

at_word : SpellsAlways (codes " AT ") (token.Keyword keyword.At ∷ [])
unfolding class_of is_spaced keyword_of same_word
at_word rest = spelling.space refl (reserved_spaced (codes "AT") rest 32 keyword.At refl refl refl)

at_spelled : (location : Option Location) (rest : List ℕ) → OfOptional CanSpellLocation location → Ends alphabet.Location rest → Spells (at_text location) (at_tokens location) rest
at_spelled None rest is ends = spelling.nothing
at_spelled (Some l) rest is ends =
    joined (codes " AT ") (location_text l) rest (token.Keyword keyword.At ∷ []) (token.Location l ∷ []) (at_word (location_text l ++ rest))
    (alone (location_text l) rest (token.Location l) (location_spells l rest is.count is.numbers ends))

at_ends : (location : Option Location) (rest : List ℕ) → Ends alphabet.Location rest → Ends alphabet.Location (at_text location ++ rest)
unfolding class_of
at_ends None rest ends = ends
at_ends (Some l) rest ends = refl

-- ---- declarations

four : (x c t a v : List ℕ) → x ++ c ++ t ++ a ++ v ≡ x ++ (c ++ t ++ a ++ v)
four x c t a v =
    ap (λ (y : List ℕ). y ++ a ++ v) (append_assoc x c t) ∙ ap (λ (y : List ℕ). y ++ v) (append_assoc x (c ++ t) a) ∙ append_assoc x (c ++ t ++ a) v

-- a type and a value
typed : (t v rest : List ℕ) (k : Keyword) (vs : List TokenKind) → ((others : List ℕ) → Spells t (token.Keyword k ∷ []) (32 ∷ others)) → Spells v vs rest
    → Spells (codes " : " ++ t ++ codes " := " ++ v) (token.Delimiter sign.Colon ∷ token.Keyword k ∷ token.Delimiter sign.Assign ∷ vs) rest
typed t v rest k vs p q =
    joined (codes " : " ++ t ++ codes " := ") v rest (token.Delimiter sign.Colon ∷ token.Keyword k ∷ token.Delimiter sign.Assign ∷ []) vs
    (joined (codes " : " ++ t) (codes " := ") (v ++ rest) (token.Delimiter sign.Colon ∷ token.Keyword k ∷ []) (token.Delimiter sign.Assign ∷ [])
    (joined (codes " : ") t (codes " := " ++ v ++ rest) (token.Delimiter sign.Colon ∷ []) (token.Keyword k ∷ []) (colon_between (t ++ (codes " := " ++ v ++ rest))) (p (codes ":= " ++ v ++ rest)))
    (assign_between (v ++ rest))) q

declared : (front t v rest : List ℕ) (ts : List TokenKind) (k : Keyword) (vs : List TokenKind) → ((others : List ℕ) → Spells front ts (32 ∷ others))
    → ((others : List ℕ) → Spells t (token.Keyword k ∷ []) (32 ∷ others)) → Spells v vs (59 ∷ rest)
    → Spells (front ++ codes " : " ++ t ++ codes " := " ++ v ++ codes ";") (ts ++ (token.Delimiter sign.Colon ∷ token.Keyword k ∷ token.Delimiter sign.Assign ∷ vs) ++ (token.Delimiter sign.Semicolon ∷ [])) rest
declared front t v rest ts k vs p q h =
    let us : List TokenKind = token.Delimiter sign.Colon ∷ token.Keyword k ∷ token.Delimiter sign.Assign ∷ vs in
    joined (front ++ codes " : " ++ t ++ codes " := " ++ v) (codes ";") rest (ts ++ us) (token.Delimiter sign.Semicolon ∷ [])
    (subst (λ (x : List ℕ). Spells x (ts ++ us) (59 ∷ rest)) (sym (four front (codes " : ") t (codes " := ") v))
    (joined front (codes " : " ++ t ++ codes " := " ++ v) (59 ∷ rest) ts us (p (codes ": " ++ t ++ codes " := " ++ v ++ (59 ∷ rest))) (typed t v (59 ∷ rest) k vs q h)))
    (semicolon rest)

located : (name : List ℕ) (location : Option Location) (rest : List ℕ) → IsName name → OfOptional CanSpellLocation location
    → Spells (name ++ at_text location) ((token.Name name ∷ []) ++ at_tokens location) (32 ∷ rest)
located name location rest is at =
    joined name (at_text location) (32 ∷ rest) (token.Name name ∷ []) (at_tokens location)
    (named name (at_text location ++ (32 ∷ rest)) is (at_ends location (32 ∷ rest) (before_space rest))) (at_spelled location (32 ∷ rest) at (before_space rest))

pub variable_spelled : (v : Variable) → CanSpellVariable v → SpellsAlways (variable_text v) (declaration_tokens (declaration_tree v))
variable_spelled v is rest =
    declared (v.name ++ at_text v.location) (type_text v.var_type) (literal_text v.initial) rest ((token.Name v.name ∷ []) ++ at_tokens v.location)
    (type_word v.var_type) (literal_tokens (literal_tree v.initial)) (λ others. located v.name v.location others is.name is.location)
    (λ others. type_spelled v.var_type (32 ∷ others) (before_space others)) (literal_spells v.initial (59 ∷ rest) is.initial (before_semicolon rest))

-- ---- externals

typed_name : (name t rest : List ℕ) (k : Keyword) → IsName name → Spells t (token.Keyword k ∷ []) (59 ∷ rest)
    → Spells (name ++ codes " : " ++ t ++ codes ";") (token.Name name ∷ token.Delimiter sign.Colon ∷ token.Keyword k ∷ token.Delimiter sign.Semicolon ∷ []) rest
typed_name name t rest k is h =
    joined (name ++ codes " : " ++ t) (codes ";") rest (token.Name name ∷ token.Delimiter sign.Colon ∷ token.Keyword k ∷ []) (token.Delimiter sign.Semicolon ∷ [])
    (joined (name ++ codes " : ") t (59 ∷ rest) (token.Name name ∷ token.Delimiter sign.Colon ∷ []) (token.Keyword k ∷ [])
    (joined name (codes " : ") (t ++ (59 ∷ rest)) (token.Name name ∷ []) (token.Delimiter sign.Colon ∷ []) (named name (codes " : " ++ (t ++ (59 ∷ rest))) is (before_space (codes ": " ++ (t ++ (59 ∷ rest)))))
    (colon_between (t ++ (59 ∷ rest)))) h) (semicolon rest)

not_found : (vs : List Variable) (place : ℕ) → place < length vs → slice_get vs place ≡ None → ⊥
not_found [] place lt e = omega (arith, lt)
not_found (v ∷ vs) zero lt e = cc
not_found (v ∷ vs) (suc place) lt e = not_found vs place (omega (arith, lt)) e

-- the type of a global that is one
global_type : (globals : List Variable) (place : ℕ) → place < length globals → (rest : List ℕ) → Ends alphabet.Location rest
    → Spells (external_type (slice_get globals place)) (token.Keyword (type_word (type_of_global (slice_get globals place))) ∷ []) rest
global_type globals place lt rest ends = by_found (slice_get globals place) refl
  where
    by_found : (o : Option Variable) → slice_get globals place ≡ o → Spells (external_type o) (token.Keyword (type_word (type_of_global o)) ∷ []) rest
    by_found (Some v) e = type_spelled v.var_type rest ends
    by_found None e = absurd (not_found globals place lt e)

pub external_spelled : (globals : List Variable) (p : ProgramType) (id : GlobalId) → CanSpellExternal (space_in globals p) id
    → SpellsAlways (external_text (space_in globals p) id) (external_tokens (external_tree globals id))
external_spelled globals p id is rest =
    typed_name (name_at (names_of globals) id.0) (external_type (slice_get globals id.0)) rest (type_word (type_of_global (slice_get globals id.0))) is.name
    (global_type globals id.0 is.is_global (59 ∷ rest) (before_semicolon rest))

-- ---- blocks

end_variables : SpellsLine (codes "END_VAR") (token.Keyword keyword.EndVar ∷ [])
unfolding class_of is_spaced keyword_of same_word
end_variables rest = alone (codes "END_VAR") (10 ∷ rest) (token.Keyword keyword.EndVar) (reserved_spells (codes "END_VAR") (10 ∷ rest) keyword.EndVar refl refl refl refl)

block_spelled : {A B : Type 0} (level : ℕ) (first : List ℕ) (k : Keyword) (text : A → List ℕ) (tree : A → B) (tokens : B → List TokenKind) (P : A → Type 0) → SpellsLine first (token.Keyword k ∷ [])
    → ((x : A) → P x → SpellsAlways (text x) (tokens (tree x))) → (x : A) (xs : List A) → All P (x ∷ xs)
    → SpellsAlways (block level first text (x ∷ xs)) ((token.Keyword k ∷ flat_map tokens (map tree (x ∷ xs))) ++ (token.Keyword keyword.EndVar ∷ []))
block_spelled level first k text tree tokens P p h x xs all =
    framed level first (flat_map (λ y. line (suc level) (text y)) (x ∷ xs)) (codes "END_VAR") (token.Keyword k ∷ []) (flat_map tokens (map tree (x ∷ xs))) (token.Keyword keyword.EndVar) p
    (each_line_spelled (suc level) text tree tokens P (λ y is rest. h y is (10 ∷ rest)) (x ∷ xs) all) end_variables

local_word : SpellsLine (codes "VAR") (token.Keyword keyword.Var ∷ [])
unfolding class_of is_spaced keyword_of same_word
local_word rest = alone (codes "VAR") (10 ∷ rest) (token.Keyword keyword.Var) (reserved_spells (codes "VAR") (10 ∷ rest) keyword.Var refl refl refl refl)

external_word : SpellsLine (codes "VAR_EXTERNAL") (token.Keyword keyword.VarExternal ∷ [])
unfolding class_of is_spaced keyword_of same_word
external_word rest = alone (codes "VAR_EXTERNAL") (10 ∷ rest) (token.Keyword keyword.VarExternal) (reserved_spells (codes "VAR_EXTERNAL") (10 ∷ rest) keyword.VarExternal refl refl refl refl)

global_word : SpellsLine (codes "VAR_GLOBAL") (token.Keyword keyword.VarGlobal ∷ [])
unfolding class_of is_spaced keyword_of same_word
global_word rest = alone (codes "VAR_GLOBAL") (10 ∷ rest) (token.Keyword keyword.VarGlobal) (reserved_spells (codes "VAR_GLOBAL") (10 ∷ rest) keyword.VarGlobal refl refl refl refl)

-- one block alone
one_block : (text : List ℕ) (b : VariableBlock) → SpellsAlways text (variables_tokens b) → SpellsAlways text (flat_map variables_tokens (b ∷ []))
one_block text b h rest = subst (λ (ts : List TokenKind). Spells text ts rest) (sym (append-nil (variables_tokens b))) (h rest)

pub locals_spelled : (locals : List Variable) → All CanSpellVariable locals
    → SpellsAlways (block 1 (codes "VAR") variable_text locals) (flat_map variables_tokens (block_tree (λ ds. block_of.Local ds) (map declaration_tree locals)))
locals_spelled [] all rest = spelling.nothing
locals_spelled (v ∷ vs) all rest =
    one_block (block 1 (codes "VAR") variable_text (v ∷ vs)) (block_of.Local (map declaration_tree (v ∷ vs)))
    (block_spelled 1 (codes "VAR") keyword.Var variable_text declaration_tree declaration_tokens CanSpellVariable local_word variable_spelled v vs all) rest

pub externals_spelled : (globals : List Variable) (p : ProgramType) (externals : List GlobalId) → All (CanSpellExternal (space_in globals p)) externals
    → SpellsAlways (block 1 (codes "VAR_EXTERNAL") (external_text (space_in globals p)) externals) (flat_map variables_tokens (block_tree (λ es. block_of.External es) (map (external_tree globals) externals)))
externals_spelled globals p [] all rest = spelling.nothing
externals_spelled globals p (id ∷ ids) all rest =
    one_block (block 1 (codes "VAR_EXTERNAL") (external_text (space_in globals p)) (id ∷ ids)) (block_of.External (map (external_tree globals) (id ∷ ids)))
    (block_spelled 1 (codes "VAR_EXTERNAL") keyword.VarExternal (external_text (space_in globals p)) (external_tree globals) external_tokens (CanSpellExternal (space_in globals p)) external_word
    (external_spelled globals p) id ids all) rest

pub globals_spelled : (globals : List Variable) → All CanSpellVariable globals
    → SpellsAlways (block 2 (codes "VAR_GLOBAL") variable_text globals) (globals_tokens (map declaration_tree globals))
globals_spelled [] all rest = spelling.nothing
globals_spelled (v ∷ vs) all rest =
    block_spelled 2 (codes "VAR_GLOBAL") keyword.VarGlobal variable_text declaration_tree declaration_tokens CanSpellVariable global_word variable_spelled v vs all rest
