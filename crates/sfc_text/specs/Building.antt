-- What the productions make of their parts.
use Rattle.std.specs.Prelude.{ℕ, ℤ, pos, neg_ℤ, List, [], ◌∷◌, ◌++◌, Bool, true, false, cond, Option, Some, None, codes}
use Rattle.sfc_base.specs.declared.delimiter.Delimiter.TheVariants as sign
use Rattle.sfc_base.specs.declared.keyword.Keyword.TheVariants as keyword
use Rattle.sfc_base.specs.declared.location.Location.{Location}
use Rattle.sfc_tokens.specs.declared.token.TokenKind.{TokenKind}
use Rattle.sfc_tokens.specs.declared.token.TokenKind.TheVariants as token
use Rattle.sfc_base.specs.declared.var_type.VarType.{VarType}
use Rattle.sfc_base.specs.declared.var_type.VarType.TheVariants as types
use Rattle.sfc_base.specs.Case.{same_word}
use Rattle.sfc_tokens.specs.Tokens.{Kinds}
use Rattle.sfc_text.specs.declared.expression.Operator.{Operator}
use Rattle.sfc_text.specs.declared.expression.Operator.TheVariants as operator
use Rattle.sfc_text.specs.declared.expression.Variable.{Variable}
use Rattle.sfc_text.specs.declared.tree.Association.{Association}
use Rattle.sfc_text.specs.declared.tree.Configuration.{Configuration}
use Rattle.sfc_text.specs.declared.tree.Declaration.{Declaration}
use Rattle.sfc_text.specs.declared.tree.External.{External}
use Rattle.sfc_text.specs.declared.tree.Instance.{Instance}
use Rattle.sfc_text.specs.declared.tree.Literal.{Literal}
use Rattle.sfc_text.specs.declared.tree.Literal.TheVariants as literal
use Rattle.sfc_text.specs.declared.tree.Qualifier.{Qualifier}
use Rattle.sfc_text.specs.declared.tree.Qualifier.TheVariants as qualifier
use Rattle.sfc_text.specs.declared.tree.Step.{Step}
use Rattle.sfc_text.specs.declared.tree.Task.{Task}
use Rattle.sfc_base.specs.declared.qualifier.TimedQualifier.{TimedQualifier}
use Rattle.sfc_base.specs.declared.qualifier.TimedQualifier.TheVariants as timed
use Rattle.sfc_text.specs.declared.tree.VariableBlock.{VariableBlock}
use Rattle.sfc_text.specs.Trees.{Tree, Binary, Block, Nothing, Assign, If, When, Otherwise, append, TransitionTree, ActionTree, ElementTree, ProgramTree, SourceTree}
use Rattle.sfc_text.specs.Terms.{folded}

-- ---- values of single tokens

abbrev pub name_of : TokenKind → Option (List ℕ)
name_of (token.Name n) = Some n
name_of _ = None

abbrev pub integer_of : TokenKind → Option ℕ
integer_of (token.Integer n) = Some n
integer_of _ = None

abbrev pub duration_of : TokenKind → Option ℤ
duration_of (token.Duration d) = Some d
duration_of _ = None

abbrev pub location_of : TokenKind → Option Location
location_of (token.Location l) = Some l
location_of _ = None

abbrev pub type_of : TokenKind → Option VarType
type_of (token.Keyword keyword.Bool) = Some types.Bool
type_of (token.Keyword keyword.Int) = Some types.Int
type_of (token.Keyword keyword.Dint) = Some types.Dint
type_of (token.Keyword keyword.Time) = Some types.Time
type_of _ = None

abbrev pub literal_of : TokenKind → Option Literal
literal_of (token.Integer n) = Some (literal.Integer (pos n))
literal_of (token.Based n) = Some (literal.Integer (pos n))
literal_of (token.Int z) = Some (literal.Int z)
literal_of (token.Dint z) = Some (literal.Dint z)
literal_of (token.Truth b) = Some (literal.Bool b)
literal_of (token.Duration d) = Some (literal.Time d)
literal_of (token.Keyword keyword.True) = Some (literal.Bool true)
literal_of (token.Keyword keyword.False) = Some (literal.Bool false)
literal_of _ = None

abbrev pub plain_qualifier : List ℕ → Option Qualifier
plain_qualifier w =
    cond (same_word w (codes "N")) (Some qualifier.NonStored)
    (cond (same_word w (codes "R")) (Some qualifier.Reset)
    (cond (same_word w (codes "S")) (Some qualifier.Set)
    (cond (same_word w (codes "P")) (Some qualifier.Pulse)
    (cond (same_word w (codes "P0")) (Some qualifier.FallingPulse)
    (cond (same_word w (codes "P1")) (Some qualifier.RisingPulse) None)))))

abbrev pub timed_qualifier : List ℕ → Option TimedQualifier
timed_qualifier w =
    cond (same_word w (codes "L")) (Some timed.Limited)
    (cond (same_word w (codes "D")) (Some timed.Delayed)
    (cond (same_word w (codes "SD")) (Some timed.StoredDelayed)
    (cond (same_word w (codes "DS")) (Some timed.DelayedStored)
    (cond (same_word w (codes "SL")) (Some timed.StoredLimited) None))))

abbrev pub plain_of : TokenKind → Option Qualifier
plain_of (token.Name n) = plain_qualifier n
plain_of _ = None

abbrev pub timed_of : TokenKind → Option TimedQualifier
timed_of (token.Name n) = timed_qualifier n
timed_of _ = None

-- ---- variables

abbrev pub negative : ℕ → Literal
negative n = literal.Integer (neg_ℤ (pos n))

-- the names behind the first one, and the location
abbrev pub NamesOrLocation : Type 0
NamesOrLocation = List (List ℕ) × Option Location

abbrev pub at_location : Location → NamesOrLocation
at_location l = ([], Some l)

abbrev pub with_names : List (List ℕ) → NamesOrLocation
with_names ns = (ns, None)

abbrev pub a_declaration : ((List ℕ × NamesOrLocation) × VarType) × Option Literal → Declaration
a_declaration x = record { names = x.0.0.0 ∷ x.0.0.1.0; location = x.0.0.1.1; var_type = x.0.1; initial = x.1 }

abbrev pub an_external : List (List ℕ) × VarType → External
an_external x = record { names = x.0; var_type = x.1 }

-- ---- charts

abbrev pub an_association : (List ℕ × Qualifier) × List (List ℕ) → Association
an_association x = record { action = x.0.0; qualifier = x.0.1; indicators = x.1 }

abbrev pub a_step : Bool → List ℕ × List Association → Step
a_step initial x = record { is_initial = initial; name = x.0; associations = x.1 }

abbrev pub a_transition : (((Option (List ℕ) × Option ℕ) × List (List ℕ)) × List (List ℕ)) × Tree → TransitionTree
a_transition x = record { name = x.0.0.0.0; priority = x.0.0.0.1; preceding = x.0.0.1; following = x.0.1; condition = x.1 }

abbrev pub an_action : List ℕ × Block → ActionTree
an_action x = record { name = x.0; body = x.1 }

-- ---- statements

abbrev pub an_assignment : Variable × Tree → Block
an_assignment x = Assign x.0 x.1 Nothing

abbrev pub an_if : Block → Block
an_if branches = If branches Nothing

abbrev pub a_branch : Tree × Block → Block
a_branch x = When x.0 x.1 Nothing

abbrev pub an_else : Block → Block
an_else body = Otherwise body Nothing

abbrev pub joined : List Block → Block
joined bs = folded append Nothing bs

-- ---- programs and the configuration

abbrev pub a_program : (List ℕ × List VariableBlock) × List ElementTree → ProgramTree
a_program x = record { name = x.0.0; variables = x.0.1; elements = x.1 }

abbrev pub a_task : ((List ℕ × Option (List ℕ)) × ℤ) × ℕ → Task
a_task x = record { name = x.0.0.0; single = x.0.0.1; interval = x.0.1; priority = x.1 }

abbrev pub an_instance : (List ℕ × Option (List ℕ)) × List ℕ → Instance
an_instance x = record { name = x.0.0; task = x.0.1; program = x.1 }

-- the name, the globals of both levels, the two names of the resource, its tasks and its instances
abbrev pub a_configuration :
    (((((List ℕ × List Declaration) × List ℕ) × List ℕ) × List Declaration) × List Task) × List Instance → Configuration
a_configuration x = record {
  name = x.0.0.0.0.0.0;
  resource = x.0.0.0.0.1;
  processor = x.0.0.0.1;
  globals = x.0.0.0.0.0.1 ++ x.0.0.1;
  tasks = x.0.1;
  instances = x.1;
}

abbrev pub a_source : (List ProgramTree × Configuration) × List ProgramTree → SourceTree
a_source x = record { programs = x.0.0 ++ x.1; configuration = x.0.1 }

-- ---- expressions

abbrev pub a_variable : List ℕ × Option (List ℕ) → Variable
a_variable x = record { name = x.0; part = x.1 }

-- a minus directly before a decimal integer without a type is its sign
abbrev pub is_signed : Kinds → Bool
is_signed (token.Delimiter sign.Minus ∷ token.Integer n ∷ ts) = true
is_signed _ = false

abbrev pub operator_of : TokenKind → Option Operator
operator_of (token.Keyword keyword.Or) = Some operator.Or
operator_of (token.Keyword keyword.Xor) = Some operator.Xor
operator_of (token.Keyword keyword.And) = Some operator.And
operator_of (token.Delimiter sign.Ampersand) = Some operator.And
operator_of (token.Delimiter sign.Equal) = Some operator.Equal
operator_of (token.Delimiter sign.NotEqual) = Some operator.NotEqual
operator_of (token.Delimiter sign.Less) = Some operator.Less
operator_of (token.Delimiter sign.Greater) = Some operator.Greater
operator_of (token.Delimiter sign.LessOrEqual) = Some operator.LessOrEqual
operator_of (token.Delimiter sign.GreaterOrEqual) = Some operator.GreaterOrEqual
operator_of (token.Delimiter sign.Plus) = Some operator.Add
operator_of (token.Delimiter sign.Minus) = Some operator.Subtract
operator_of (token.Delimiter sign.Star) = Some operator.Multiply
operator_of (token.Delimiter sign.Slash) = Some operator.Divide
operator_of (token.Keyword keyword.Mod) = Some operator.Modulo
operator_of _ = None

-- an operator and its right operand behind the left one
abbrev pub join : Tree → Operator × Tree → Tree
join a x = Binary x.0 a x.1

-- operators of one level group to the left
abbrev pub grouped : Tree → List (Operator × Tree) → Tree
grouped a xs = folded join a xs
