-- The tokens that spell a whole text: variables (2.4.3), program types (2.5.3), and the configuration (2.7).
use Rattle.std.specs.Prelude.{◌≡◌, ℕ, ℤ, pos, List, [], ◌∷◌, ◌++◌, false, flat_map}
use Rattle.std.specs.Prelude.{Option, Some, None, All, ⊤, codes, if◌then◌else◌}
use Rattle.std.specs.Ordering.{int_eq}
use Rattle.sfc_base.specs.declared.delimiter.Delimiter.TheVariants as sign
use Rattle.sfc_base.specs.declared.keyword.Keyword.{Keyword}
use Rattle.sfc_base.specs.declared.keyword.Keyword.TheVariants as keyword
use Rattle.sfc_base.specs.declared.location.Location.{Location}
use Rattle.sfc_tokens.specs.declared.token.TokenKind.TheVariants as token
use Rattle.sfc_base.specs.declared.var_type.VarType.{VarType}
use Rattle.sfc_base.specs.declared.var_type.VarType.TheVariants as types
use Rattle.sfc_tokens.specs.Tokens.{Kinds}
use Rattle.sfc_text.specs.declared.tree.Configuration.{Configuration}
use Rattle.sfc_text.specs.declared.tree.Declaration.{Declaration}
use Rattle.sfc_text.specs.declared.tree.External.{External}
use Rattle.sfc_text.specs.declared.tree.Instance.{Instance}
use Rattle.sfc_text.specs.declared.tree.Literal.{Literal}
use Rattle.sfc_text.specs.declared.tree.Task.{Task}
use Rattle.sfc_text.specs.declared.tree.VariableBlock.{VariableBlock}
use Rattle.sfc_text.specs.declared.tree.VariableBlock.TheVariants as block
use Rattle.sfc_text.specs.Limits.{Limits}
use Rattle.sfc_text.specs.Lists.{is_empty}
use Rattle.sfc_text.specs.Trees.{ProgramTree, SourceTree}
use Rattle.sfc_text.specs.Spelled.{literal_tokens}
use Rattle.sfc_text.specs.SpelledCharts.{further_tokens, element_tokens, KeepsElement}

-- ---- variables (2.4.3)

-- names, parted by commas
abbrev pub names_tokens : List (List ℕ) → Kinds
names_tokens [] = []
names_tokens (one ∷ others) = token.Name one ∷ further_tokens others

abbrev pub at_tokens : Option Location → Kinds
at_tokens None = []
at_tokens (Some l) = token.Keyword keyword.At ∷ token.Location l ∷ []

abbrev pub type_word : VarType → Keyword
type_word types.Bool = keyword.Bool
type_word types.Int = keyword.Int
type_word types.Dint = keyword.Dint
type_word types.Time = keyword.Time

abbrev pub initial_tokens : Option Literal → Kinds
initial_tokens None = []
initial_tokens (Some l) = token.Delimiter sign.Assign ∷ literal_tokens l

abbrev pub declaration_tokens : Declaration → Kinds
declaration_tokens d =
    names_tokens d.names ++ at_tokens d.location
    ++ (token.Delimiter sign.Colon ∷ token.Keyword (type_word d.var_type) ∷ initial_tokens d.initial)
    ++ (token.Delimiter sign.Semicolon ∷ [])

-- whether a declaration has names, and one alone where it has a location
abbrev pub AreDeclared : List (List ℕ) → Option Location → Type 0
AreDeclared [] l = ⊥
AreDeclared (one ∷ others) None = ⊤
AreDeclared (one ∷ others) (Some l) = others ≡ []

abbrev pub IsDeclaration : Declaration → Type 0
IsDeclaration d = AreDeclared d.names d.location

abbrev pub external_tokens : External → Kinds
external_tokens e =
    names_tokens e.names
    ++ (token.Delimiter sign.Colon ∷ token.Keyword (type_word e.var_type) ∷ token.Delimiter sign.Semicolon ∷ [])

abbrev pub IsExternal : External → Type 0
IsExternal e = is_empty e.names ≡ false

abbrev pub variables_tokens : VariableBlock → Kinds
variables_tokens (block.Local ds) =
    (token.Keyword keyword.Var ∷ flat_map declaration_tokens ds) ++ (token.Keyword keyword.EndVar ∷ [])
variables_tokens (block.External es) =
    (token.Keyword keyword.VarExternal ∷ flat_map external_tokens es) ++ (token.Keyword keyword.EndVar ∷ [])

abbrev pub AreVariables : VariableBlock → Type 0
AreVariables (block.Local ds) = All IsDeclaration ds
AreVariables (block.External es) = All IsExternal es

-- ---- program types (2.5.3)

abbrev pub program_tokens : ProgramTree → Kinds
program_tokens p =
    (token.Keyword keyword.Program ∷ token.Name p.name ∷ flat_map variables_tokens p.variables)
    ++ flat_map element_tokens p.elements ++ (token.Keyword keyword.EndProgram ∷ [])

-- whether each of its variables and elements can stand in a text, and keeps to the limits
pub record KeepsProgram (limits : Limits) (p : ProgramTree) : Type 0 where
  pub variables : All AreVariables p.variables
  pub elements : All (KeepsElement limits) p.elements

-- ---- the configuration (2.7.1, 2.7.2)

-- one block in the resource, and none where there is nothing in it
abbrev pub globals_tokens : List Declaration → Kinds
globals_tokens [] = []
globals_tokens (d ∷ ds) =
    (token.Keyword keyword.VarGlobal ∷ flat_map declaration_tokens (d ∷ ds)) ++ (token.Keyword keyword.EndVar ∷ [])

abbrev pub single_tokens : Option (List ℕ) → Kinds
single_tokens None = []
single_tokens (Some name) =
    token.Name (codes "SINGLE") ∷ token.Delimiter sign.Assign ∷ token.Name name ∷ token.Delimiter sign.Comma ∷ []

-- an interval of 0 is none
abbrev pub interval_tokens : ℤ → Kinds
interval_tokens t =
    if int_eq t (pos 0) then []
    else token.Name (codes "INTERVAL") ∷ token.Delimiter sign.Assign ∷ token.Duration t ∷ token.Delimiter sign.Comma ∷ []

abbrev pub task_tokens : Task → Kinds
task_tokens t =
    (token.Keyword keyword.Task ∷ token.Name t.name ∷ token.Delimiter sign.Open ∷ single_tokens t.single)
    ++ interval_tokens t.interval
    ++ (token.Name (codes "PRIORITY") ∷ token.Delimiter sign.Assign ∷ token.Integer t.priority
    ∷ token.Delimiter sign.Close ∷ token.Delimiter sign.Semicolon ∷ [])

abbrev pub with_tokens : Option (List ℕ) → Kinds
with_tokens None = []
with_tokens (Some name) = token.Keyword keyword.With ∷ token.Name name ∷ []

abbrev pub instance_tokens : Instance → Kinds
instance_tokens i =
    (token.Keyword keyword.Program ∷ token.Name i.name ∷ with_tokens i.task)
    ++ (token.Delimiter sign.Colon ∷ token.Name i.program ∷ token.Delimiter sign.Semicolon ∷ [])

abbrev pub configuration_tokens : Configuration → Kinds
configuration_tokens c =
    (token.Keyword keyword.Configuration ∷ token.Name c.name ∷ token.Keyword keyword.Resource ∷ token.Name c.resource
    ∷ token.Keyword keyword.On ∷ token.Name c.processor ∷ globals_tokens c.globals)
    ++ flat_map task_tokens c.tasks ++ flat_map instance_tokens c.instances
    ++ (token.Keyword keyword.EndResource ∷ token.Keyword keyword.EndConfiguration ∷ [])

-- whether each of its variables can stand in a text, and it has an instance
pub record IsConfiguration (c : Configuration) : Type 0 where
  pub globals : All IsDeclaration c.globals
  pub instances : is_empty c.instances ≡ false

-- ---- whole texts

-- the program types in order, and then the configuration
abbrev pub source_tokens : SourceTree → Kinds
source_tokens s = flat_map program_tokens s.programs ++ configuration_tokens s.configuration

-- whether each part of it can stand in a text, and keeps to the limits
pub record KeepsSource (limits : Limits) (s : SourceTree) : Type 0 where
  pub programs : All (KeepsProgram limits) s.programs
  pub configuration : IsConfiguration s.configuration
