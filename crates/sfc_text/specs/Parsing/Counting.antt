-- Reading expressions while their operators are counted: the one too many is told where it stands.
use Rattle.std.specs.Prelude.{◌≡◌, ◌<◌, ◌≤◌, ℕ, List, Result, Ok, Err}
use Rattle.std.specs.Borrow.{Bor}
use Rattle.sfc_tokens.specs.declared.token.Token.{Token}
use Rattle.sfc_tokens.specs.Tokens.{Kinds, kinds}
use Rattle.sfc_text.specs.declared.expression.Operator.{Operator}
use Rattle.sfc_text.specs.declared.parse.expression.Counted.{Counted}
use Rattle.sfc_text.specs.declared.parse.fault.ParseFault.{ParseFault}
use Rattle.sfc_text.specs.declared.parse.fault.ParseFault.TheVariants as fault
use Rattle.sfc_text.specs.Trees.{Tree, tree_of, operators}
use Rattle.sfc_text.specs.Parsing.Reading.{Read, Syntax, ◌>>=◌}

-- there is no tree with so many operators at most
abbrev pub Exceeds : ℕ → Read (Tree × Kinds) → Type 0
Exceeds n (Ok x) = n < operators x.0
Exceeds n (Err e) = Unit {0}

-- why there is no tree with so many operators at most
abbrev pub Stops : ℕ → ParseFault → Read (Tree × Kinds) → Type 0
Stops n fault.Memory read = Unit {0}
Stops n (fault.Syntax left) read = read ≡ Err Syntax
Stops n (fault.TooDeep left) read = Exceeds n read

pub record IsCounted (n : ℕ) (counted : Counted) : Type 0 where
  pub exact : counted.operators ≡ operators (tree_of counted.tree)
  pub within : counted.operators ≤ n

-- what was returned is what reading gives, with so many operators at most
abbrev pub Counts : ℕ → Result (Counted × Bor (List Token)) ParseFault → Read (Tree × Kinds) → Type 0
Counts n (Ok x) read = (read ≡ Ok (tree_of x.0.tree, kinds x.1.now)) × IsCounted n x.0
Counts n (Err fault) read = Stops n fault read

-- the same of an operator and its right operand
abbrev pub StopsPair : ℕ → ParseFault → Read ((Operator × Tree) × Kinds) → Type 0
StopsPair n fault read = Stops n fault (read >>= λ x. Ok (x.0.1, x.1))

abbrev pub CountsPair : ℕ → Result (Operator × Counted × Bor (List Token)) ParseFault → Read ((Operator × Tree) × Kinds) → Type 0
CountsPair n (Ok x) read = (read ≡ Ok ((x.0, tree_of x.1.tree), kinds x.2.now)) × IsCounted n x.1
CountsPair n (Err fault) read = StopsPair n fault read
