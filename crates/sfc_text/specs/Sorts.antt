-- What the grammar nests: each of these may stand inside of the others, one level deeper.
use Rattle.sfc_text.specs.Trees.{Tree, Block}

pub data Sort : Type 0 where
  -- an expression in parentheses
  AnExpression : Sort
  -- the operand of a prefix operator
  AnOperand : Sort
  -- what stands between IF and END_IF
  Branches : Sort

-- the trees of a sort
abbrev pub Sorted : Sort → Type 0
Sorted AnExpression = Tree
Sorted AnOperand = Tree
Sorted Branches = Block
