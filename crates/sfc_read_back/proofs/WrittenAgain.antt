-- What a listing spells of an expression that was checked is checked as it.
use Rattle.std.proofs.Common.{◌≡◌, ℕ, List, [], Option, unwrap_or, Ok, Err}
use Rattle.std.specs.Prelude.{IfOk}
use Rattle.sfc_base.specs.declared.var_type.VarType.{VarType}
use Rattle.sfc_expr.specs.Trees.{Expression}
use Rattle.sfc_text.specs.Trees.{Tree}
use Rattle.sfc_load.specs.sfc_check.Checking.{checked}
use Rattle.sfc_load.specs.sfc_check.TypeFaults.{Checked}
use Rattle.sfc_plant.specs.Spaces.{Space}
use Rattle.sfc_load.specs.sfc_program.Names.{names_in}
use Rattle.sfc_load.specs.sfc_program.Scoping.AnyCase.{ignoring_case}
use Rattle.sfc_read_back.specs.WrittenTerms.{expression_tree}
use Rattle.sfc_read_back.proofs.WrittenExpressions.{IsBack, expression_back}
use Rattle.sfc_read_back.proofs.WrittenNames.{spells}

pub checked_again : (space : Space) (own : Option (List ℕ)) (e : Tree) (t : VarType)
    → IfOk (checked (names_in space own) e t)
    (λ x. checked (names_in space own) (expression_tree space (unwrap_or own []) x) t ≡ Ok x)
checked_again space own e t =
    by (checked (names_in space own) e t)
    (expression_back (names_in space own) (ignoring_case own space) space (unwrap_or own []) (spells space own) e t)
  where
    by : (r : Checked Expression) → IfOk r (IsBack (names_in space own) (ignoring_case own space) space (unwrap_or own []) (spells space own) t)
        → IfOk r (λ x. checked (names_in space own) (expression_tree space (unwrap_or own []) x) t ≡ Ok x)
    by (Ok x) back = back.checks
    by (Err fault) back = tt
