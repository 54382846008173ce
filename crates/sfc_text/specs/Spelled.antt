-- The tokens that spell an expression (3.3.1, Table 52), with parentheses where it would be another one without them.
use Rattle.std.specs.Prelude.{ℕ, suc, max, pos, negsuc, List, [], ◌∷◌, ◌++◌, Bool, true, false, nat_lt, if◌then◌else◌}
use Rattle.std.specs.Prelude.{Option, Some, None}
use Rattle.sfc_base.specs.declared.delimiter.Delimiter.TheVariants as sign
use Rattle.sfc_base.specs.declared.keyword.Keyword.TheVariants as keyword
use Rattle.sfc_tokens.specs.declared.token.TokenKind.{TokenKind}
use Rattle.sfc_tokens.specs.declared.token.TokenKind.TheVariants as token
use Rattle.sfc_tokens.specs.Tokens.{Kinds}
use Rattle.sfc_text.specs.declared.expression.Operator.{Operator}
use Rattle.sfc_text.specs.declared.expression.Operator.TheVariants as operator
use Rattle.sfc_text.specs.declared.expression.Variable.{Variable}
use Rattle.sfc_text.specs.declared.tree.Literal.{Literal}
use Rattle.sfc_text.specs.declared.tree.Literal.TheVariants as literal
use Rattle.sfc_text.specs.Trees.{Tree, Constant, Named, Not, Minus, Binary}

-- a literal (2.2): an integer below 0 without a type has its sign before it
abbrev pub literal_tokens : Literal → Kinds
literal_tokens (literal.Integer (pos n)) = token.Integer n ∷ []
literal_tokens (literal.Integer (negsuc n)) = token.Delimiter sign.Minus ∷ token.Integer (suc n) ∷ []
literal_tokens (literal.Int n) = token.Int n ∷ []
literal_tokens (literal.Dint n) = token.Dint n ∷ []
literal_tokens (literal.Bool true) = token.Keyword keyword.True ∷ []
literal_tokens (literal.Bool false) = token.Keyword keyword.False ∷ []
literal_tokens (literal.Time d) = token.Duration d ∷ []

-- a dot and what stands behind it
abbrev pub part_tokens : Option (List ℕ) → Kinds
part_tokens None = []
part_tokens (Some part) = token.Delimiter sign.Dot ∷ token.Name part ∷ []

abbrev pub variable_tokens : Variable → Kinds
variable_tokens v = token.Name v.name ∷ part_tokens v.part

abbrev pub operator_token : Operator → TokenKind
operator_token operator.Or = token.Keyword keyword.Or
operator_token operator.Xor = token.Keyword keyword.Xor
operator_token operator.And = token.Keyword keyword.And
operator_token operator.Equal = token.Delimiter sign.Equal
operator_token operator.NotEqual = token.Delimiter sign.NotEqual
operator_token operator.Less = token.Delimiter sign.Less
operator_token operator.Greater = token.Delimiter sign.Greater
operator_token operator.LessOrEqual = token.Delimiter sign.LessOrEqual
operator_token operator.GreaterOrEqual = token.Delimiter sign.GreaterOrEqual
operator_token operator.Add = token.Delimiter sign.Plus
operator_token operator.Subtract = token.Delimiter sign.Minus
operator_token operator.Multiply = token.Delimiter sign.Star
operator_token operator.Divide = token.Delimiter sign.Slash
operator_token operator.Modulo = token.Keyword keyword.Mod

-- how many levels of operators with two operands bind more tightly than this one
abbrev pub tighter : Operator → ℕ
tighter operator.Multiply = 0
tighter operator.Divide = 0
tighter operator.Modulo = 0
tighter operator.Add = 1
tighter operator.Subtract = 1
tighter operator.Less = 2
tighter operator.Greater = 2
tighter operator.LessOrEqual = 2
tighter operator.GreaterOrEqual = 2
tighter operator.Equal = 3
tighter operator.NotEqual = 3
tighter operator.And = 4
tighter operator.Xor = 5
tighter operator.Or = 6

-- the level of an expression: 1 for multiplication up to 7 for OR (Table 52), and 0 for one that is no operator of two operands
abbrev pub level : Tree → ℕ
level (Binary o a b) = suc (tighter o)
level _ = 0

-- whether an operand stands in parentheses where no looser level than this one may stand
abbrev pub is_looser : ℕ → Tree → Bool
is_looser wanted a = nat_lt wanted (level a)

-- tokens in parentheses, or as they are
abbrev pub enclosed : Bool → Kinds → Kinds
enclosed in_parentheses ts =
    if in_parentheses then token.Delimiter sign.Open ∷ ts ++ token.Delimiter sign.Close ∷ [] else ts

-- The operand of a minus. A minus before a decimal integer without a type would be its sign, so that such an integer has a base.
abbrev pub behind_minus : Tree → Kinds → Kinds
behind_minus (Constant (literal.Integer (pos n))) ts = token.Based n ∷ []
behind_minus a ts = enclosed (is_looser 0 a) ts

-- The tokens of an expression. Operators of one level group to the left, so that a right operand has to bind more tightly.
abbrev pub tree_tokens : Tree → Kinds
tree_tokens (Constant l) = literal_tokens l
tree_tokens (Named v) = variable_tokens v
tree_tokens (Not a) = token.Keyword keyword.Not ∷ enclosed (is_looser 0 a) (tree_tokens a)
tree_tokens (Minus a) = token.Delimiter sign.Minus ∷ behind_minus a (tree_tokens a)
tree_tokens (Binary o a b) =
    enclosed (is_looser (suc (tighter o)) a) (tree_tokens a)
    ++ operator_token o ∷ enclosed (is_looser (tighter o) b) (tree_tokens b)

-- a depth, and one more in parentheses
abbrev pub deeper : Bool → ℕ → ℕ
deeper in_parentheses depth = if in_parentheses then suc depth else depth

-- how deep parentheses and prefix operators nest in the tokens of an expression
abbrev pub nesting : Tree → ℕ
nesting (Constant l) = 0
nesting (Named v) = 0
nesting (Not a) = suc (deeper (is_looser 0 a) (nesting a))
nesting (Minus a) = suc (deeper (is_looser 0 a) (nesting a))
nesting (Binary o a b) =
    max (deeper (is_looser (suc (tighter o)) a) (nesting a)) (deeper (is_looser (tighter o) b) (nesting b))
