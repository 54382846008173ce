-- The grammar (Annex B): all productions, from single tokens up to whole texts.
use Rattle.std.specs.Prelude.{ℕ, zero, suc, ℤ, pos, List, [], ◌∷◌, Bool, true, false, cond, nat_eq, Option, codes}
use Rattle.sfc_base.specs.declared.delimiter.Delimiter.TheVariants as sign
use Rattle.sfc_base.specs.declared.keyword.Keyword.{Keyword}
use Rattle.sfc_base.specs.declared.keyword.Keyword.TheVariants as keyword
use Rattle.sfc_base.specs.declared.location.Location.{Location}
use Rattle.sfc_base.specs.declared.var_type.VarType.{VarType}
use Rattle.sfc_text.specs.declared.expression.Operator.{Operator}
use Rattle.sfc_text.specs.declared.expression.Variable.{Variable}
use Rattle.sfc_text.specs.declared.tree.Association.{Association}
use Rattle.sfc_text.specs.declared.tree.AssociationTime.{AssociationTime}
use Rattle.sfc_text.specs.declared.tree.AssociationTime.TheVariants as time
use Rattle.sfc_text.specs.declared.tree.Configuration.{Configuration}
use Rattle.sfc_text.specs.declared.tree.Declaration.{Declaration}
use Rattle.sfc_text.specs.declared.tree.External.{External}
use Rattle.sfc_text.specs.declared.tree.Instance.{Instance}
use Rattle.sfc_text.specs.declared.tree.Literal.{Literal}
use Rattle.sfc_text.specs.declared.tree.Qualifier.{Qualifier}
use Rattle.sfc_text.specs.declared.tree.Qualifier.TheVariants.{NonStored, Timed}
use Rattle.sfc_text.specs.declared.tree.Step.{Step}
use Rattle.sfc_text.specs.declared.tree.Task.{Task}
use Rattle.sfc_base.specs.declared.qualifier.TimedQualifier.{TimedQualifier}
use Rattle.sfc_text.specs.declared.tree.VariableBlock.{VariableBlock}
use Rattle.sfc_text.specs.declared.tree.VariableBlock.TheVariants as block
use Rattle.sfc_text.specs.Trees as trees
use Rattle.sfc_text.specs.Trees.{Tree, Constant, Block, append, operators, TransitionTree, ActionTree, ElementTree, ProgramTree, SourceTree}
use Rattle.sfc_text.specs.Marks.{Marks, Word, Sign, AnyName, Named, AnInteger, ABased, AnInt, ADint, ATruth, ADuration, ALocation}
use Rattle.sfc_text.specs.Sorts.{Sort, Sorted, AnExpression, AnOperand, Branches}
use Rattle.sfc_text.specs.Rules.{Rule, token, map, both, many, chain, ahead, inner, counted}
use Rattle.sfc_text.specs.Building as make
use Rattle.sfc_text.specs.Terms.{word, sign, named, ◌▸◌, ◌◂◌, ◌&◌, ◌or◌, maybe, else_given, repeated, gathered, some_of}

-- ---- single tokens

abbrev pub name : Rule (List ℕ)
name = token (AnyName ∷ []) make.name_of

abbrev pub integer : Rule ℕ
integer = token (AnInteger ∷ []) make.integer_of

abbrev pub duration : Rule ℤ
duration = token (ADuration ∷ []) make.duration_of

abbrev pub location : Rule Location
location = token (ALocation ∷ []) make.location_of

-- type ::= BOOL | INT | DINT | TIME
unfoldable pub data_type : Rule VarType
data_type = token (Word keyword.Bool ∷ Word keyword.Int ∷ Word keyword.Dint ∷ Word keyword.Time ∷ []) make.type_of

-- literal ::= integer | based | typed | duration | TRUE | FALSE
unfoldable pub literal : Rule Literal
literal = token (AnInteger ∷ ABased ∷ AnInt ∷ ADint ∷ ATruth ∷ ADuration ∷ Word keyword.True ∷ Word keyword.False
    ∷ []) make.literal_of

-- ---- expressions (B.3.1)

-- '-' integer
unfoldable pub signed : Rule Literal
signed = map make.negative (sign sign.Minus ▸ integer)

-- name ['.' name]
unfoldable pub variable : Rule Variable
variable = map make.a_variable (name & maybe (sign sign.Dot ▸ name))

-- '(' expr ')'
unfoldable pub parenthesized : Rule Tree
parenthesized = sign sign.Open ▸ inner AnExpression (λ e. e) ◂ sign sign.Close

-- primary ::= literal | name ['.' name] | '(' expr ')'
unfoldable pub primary : Rule Tree
primary = map Constant literal or (map trees.Named variable or parenthesized)

-- '-' unary
unfoldable pub opposite : Rule Tree
opposite = sign sign.Minus ▸ inner AnOperand trees.Minus

-- NOT unary
unfoldable pub negation : Rule Tree
negation = word keyword.Not ▸ inner AnOperand trees.Not

-- unary ::= '-' integer | '-' unary | NOT unary | primary
unfoldable pub unary : Rule Tree
unary = ahead make.is_signed (map Constant signed) (opposite or (negation or primary))

-- the operators of each level, from the tightest
abbrev pub operators_at : ℕ → Marks
operators_at level =
    cond (nat_eq level 1) (Sign sign.Star ∷ Sign sign.Slash ∷ Word keyword.Mod ∷ [])
    (cond (nat_eq level 2) (Sign sign.Plus ∷ Sign sign.Minus ∷ [])
    (cond (nat_eq level 3) (Sign sign.Less ∷ Sign sign.Greater ∷ Sign sign.LessOrEqual ∷ Sign sign.GreaterOrEqual ∷ [])
    (cond (nat_eq level 4) (Sign sign.Equal ∷ Sign sign.NotEqual ∷ [])
    (cond (nat_eq level 5) (Word keyword.And ∷ Sign sign.Ampersand ∷ [])
    (cond (nat_eq level 6) (Word keyword.Xor ∷ [])
    (cond (nat_eq level 7) (Word keyword.Or ∷ []) []))))))

abbrev pub operator : ℕ → Rule Operator
operator level = token (operators_at level) make.operator_of

-- an operand of the next tighter level, then {operator of the level, operand}; they group to the left
unfoldable pub joined : ℕ → Rule Tree
joined zero = unary
joined (suc level) = chain make.grouped (joined level) (operator (suc level))

-- expr ::= joined by the operators of all levels, so many of them at most
unfoldable pub expression : Rule Tree
expression = counted operators (joined 7)

-- ---- statements (B.3.2)

-- name ['.' name] ':=' expr
unfoldable pub assignment : Rule Block
assignment = map make.an_assignment (variable ◂ sign sign.Assign & expression)

-- IF and what stands before END_IF
unfoldable pub conditional : Rule Block
conditional = word keyword.If ▸ inner Branches make.an_if

-- stmt ::= assignment | IF ..
unfoldable pub statement : Rule Block
statement = assignment or conditional

-- [stmt] ';'
unfoldable pub entry : Rule Block
entry = else_given trees.Nothing statement ◂ sign sign.Semicolon

-- {[stmt] ';'}
unfoldable pub body : Rule Block
body = many make.joined entry

-- expr THEN {[stmt] ';'}
unfoldable pub branch : Rule Block
branch = map make.a_branch (expression ◂ word keyword.Then & body)

-- {ELSIF expr THEN {[stmt] ';'}}
unfoldable pub other_branch : Rule Block
other_branch = word keyword.Elsif ▸ branch

unfoldable pub other_branches : Rule Block
other_branches = many make.joined other_branch

-- ELSE {[stmt] ';'}
unfoldable pub else_branch : Rule Block
else_branch = map make.an_else (word keyword.Else ▸ body)

-- expr THEN {[stmt] ';'} {ELSIF expr THEN {[stmt] ';'}} [ELSE {[stmt] ';'}] END_IF
unfoldable pub branches : Rule Block
branches = both append (both append branch other_branches) (else_given trees.Nothing else_branch) ◂ word keyword.EndIf

-- ---- variables (B.1.4.3)

-- init ::= '-' integer | literal
unfoldable pub initial_value : Rule Literal
initial_value = signed or literal

-- name {',' name}
unfoldable pub further_name : Rule (List ℕ)
further_name = sign sign.Comma ▸ name

unfoldable pub further_names : Rule (List (List ℕ))
further_names = repeated further_name

unfoldable pub names : Rule (List (List ℕ))
names = both (λ n ns. n ∷ ns) name further_names

-- AT location | {',' name}
unfoldable pub names_or_location : Rule make.NamesOrLocation
names_or_location = map make.at_location (word keyword.At ▸ location) or map make.with_names further_names

-- decl ::= name (AT location | {',' name}) ':' type [':=' init] ';'
unfoldable pub declaration : Rule Declaration
declaration = map make.a_declaration
    (name & names_or_location ◂ sign sign.Colon & data_type & maybe (sign sign.Assign ▸ initial_value) ◂ sign sign.Semicolon)

-- name {',' name} ':' type ';'
unfoldable pub external : Rule External
external = map make.an_external (names ◂ sign sign.Colon & data_type ◂ sign sign.Semicolon)

-- vars ::= VAR {decl} END_VAR | VAR_EXTERNAL {name {',' name} ':' type ';'} END_VAR
unfoldable pub variables : Rule VariableBlock
variables = map block.Local (word keyword.Var ▸ repeated declaration ◂ word keyword.EndVar)
    or map block.External (word keyword.VarExternal ▸ repeated external ◂ word keyword.EndVar)

-- ---- charts (B.1.6)

-- duration | name
unfoldable pub association_time : Rule AssociationTime
association_time = map time.Literal duration or map time.Variable name

-- N | R | S | P | P0 | P1
unfoldable pub plain : Rule Qualifier
plain = token (Named (codes "N") ∷ Named (codes "R") ∷ Named (codes "S") ∷ Named (codes "P") ∷ Named (codes "P0")
    ∷ Named (codes "P1") ∷ []) make.plain_of

-- L | D | SD | DS | SL
unfoldable pub timed : Rule TimedQualifier
timed = token (Named (codes "L") ∷ Named (codes "D") ∷ Named (codes "SD") ∷ Named (codes "DS") ∷ Named (codes "SL")
    ∷ []) make.timed_of

-- qual ::= N | R | S | P | P0 | P1 | (L | D | SD | DS | SL) ',' (duration | name)
unfoldable pub qualifier : Rule Qualifier
qualifier = plain or both Timed (timed ◂ sign sign.Comma) association_time

-- assoc ::= name '(' [qual] {',' name} ')'
unfoldable pub association : Rule Association
association = map make.an_association
    (name ◂ sign sign.Open & else_given NonStored qualifier & further_names ◂ sign sign.Close)

-- assoc ';'
unfoldable pub association_line : Rule Association
association_line = association ◂ sign sign.Semicolon

-- INITIAL_STEP name ':' {assoc ';'} END_STEP, and the same with STEP
unfoldable pub step : Bool → Keyword → Rule Step
step is_initial first = map (make.a_step is_initial)
    (word first ▸ name ◂ sign sign.Colon & repeated association_line ◂ word keyword.EndStep)

-- '(' PRIORITY ':=' integer ')'
unfoldable pub priority : Rule ℕ
priority = sign sign.Open ▸ named (codes "PRIORITY") ▸ sign sign.Assign ▸ integer ◂ sign sign.Close

-- steps ::= name | '(' name {',' name} ')'
unfoldable pub steps : Rule (List (List ℕ))
steps = map (λ n. n ∷ []) name or (sign sign.Open ▸ names ◂ sign sign.Close)

-- TRANSITION [name] ['(' PRIORITY ':=' integer ')']
unfoldable pub before_from : Rule (Option (List ℕ) × Option ℕ)
before_from = word keyword.Transition ▸ maybe name & maybe priority

-- TRANSITION [name] ['(' PRIORITY ':=' integer ')'] FROM steps TO steps
unfoldable pub before_condition : Rule (((Option (List ℕ) × Option ℕ) × List (List ℕ)) × List (List ℕ))
before_condition = before_from ◂ word keyword.From & steps ◂ word keyword.To & steps

-- transition ::= TRANSITION [name] ['(' PRIORITY ':=' integer ')'] FROM steps TO steps ':=' expr ';' END_TRANSITION
unfoldable pub transition : Rule TransitionTree
transition = map make.a_transition
    (before_condition ◂ sign sign.Assign & expression ◂ sign sign.Semicolon ◂ word keyword.EndTransition)

-- action ::= ACTION name ':' {[stmt] ';'} END_ACTION
unfoldable pub action : Rule ActionTree
action = map make.an_action (word keyword.Action ▸ name ◂ sign sign.Colon & body ◂ word keyword.EndAction)

-- element ::= initial | step | transition | action
unfoldable pub element : Rule ElementTree
element = map trees.AStep (step true keyword.InitialStep) or (map trees.AStep (step false keyword.Step)
    or (map trees.ATransition transition or map trees.AnAction action))

-- program ::= PROGRAM name {vars} {element} END_PROGRAM
unfoldable pub program : Rule ProgramTree
program = map make.a_program
    (word keyword.Program ▸ name & repeated variables & repeated element ◂ word keyword.EndProgram)

-- ---- the configuration (B.1.7)

-- globals ::= VAR_GLOBAL {decl} END_VAR
unfoldable pub globals : Rule (List Declaration)
globals = word keyword.VarGlobal ▸ repeated declaration ◂ word keyword.EndVar

-- SINGLE ':=' name ','
unfoldable pub single : Rule (List ℕ)
single = named (codes "SINGLE") ▸ sign sign.Assign ▸ name ◂ sign sign.Comma

-- INTERVAL ':=' duration ','
unfoldable pub interval : Rule ℤ
interval = named (codes "INTERVAL") ▸ sign sign.Assign ▸ duration ◂ sign sign.Comma

-- TASK name '(' [SINGLE ':=' name ',']
unfoldable pub before_interval : Rule (List ℕ × Option (List ℕ))
before_interval = word keyword.Task ▸ name ◂ sign sign.Open & maybe single

-- task ::= TASK name '(' [SINGLE ':=' name ','] [INTERVAL ':=' duration ','] PRIORITY ':=' integer ')'
unfoldable pub task : Rule Task
task = map make.a_task
    (before_interval & else_given (pos 0) interval ◂ named (codes "PRIORITY") ◂ sign sign.Assign & integer ◂ sign sign.Close)

-- task ';'
unfoldable pub task_line : Rule Task
task_line = task ◂ sign sign.Semicolon

-- inst ::= PROGRAM name [WITH name] ':' name
unfoldable pub instance : Rule Instance
instance = map make.an_instance
    (word keyword.Program ▸ name & maybe (word keyword.With ▸ name) ◂ sign sign.Colon & name)

-- inst ';'
unfoldable pub instance_line : Rule Instance
instance_line = instance ◂ sign sign.Semicolon

-- CONFIGURATION name {globals}
unfoldable pub before_resource : Rule (List ℕ × List Declaration)
before_resource = word keyword.Configuration ▸ name & gathered globals

-- CONFIGURATION name {globals} RESOURCE name ON name {globals}
unfoldable pub before_tasks : Rule ((((List ℕ × List Declaration) × List ℕ) × List ℕ) × List Declaration)
before_tasks = before_resource ◂ word keyword.Resource & name ◂ word keyword.On & name & gathered globals

-- config ::= CONFIGURATION name {globals} RESOURCE name ON name {globals} {task ';'} inst ';' {inst ';'}
--     END_RESOURCE END_CONFIGURATION
unfoldable pub configuration : Rule Configuration
configuration = map make.a_configuration
    (before_tasks & repeated task_line & some_of instance_line instance_line
    ◂ word keyword.EndResource ◂ word keyword.EndConfiguration)

-- source ::= {program} config {program}
unfoldable pub source : Rule SourceTree
source = map make.a_source (repeated program & configuration & repeated program)

-- ---- what is nested

abbrev pub nested : (s : Sort) → Rule (Sorted s)
nested AnExpression = joined 7
nested AnOperand = unary
nested Branches = branches
