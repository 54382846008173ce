use Rattle.std.proofs.Common.{◌≡◌, take, flat_map, codes}
use Rattle.sfc_expr.specs.Trees.{branches_of}
use Rattle.sfc_list.specs.Statements.{branches_text}
use Rattle.sfc_list.specs.Private.Sinking.{Puts}
use Rattle.sfc_list.specs.Private.Parts.{statement_text, branch_word}
use Rattle.sfc_list.proofs.statement.+statement.Given as goal

abbrev pub invariant-put_branches-loop-branch : goal.invariant-put_branches-loop-branch
invariant-put_branches-loop-branch g l = record {
  next : l.word ≡ branch_word l.branch-index;
  done : Puts g.W.Write.contents l.initial.out l.out
      (branches_text l.at.names.now l.at.own.now l.at.level (codes "IF ") (branches_of (take l.branch-index l.branches)));
}

abbrev pub invariant-put_statements-loop-statement : goal.invariant-put_statements-loop-statement
invariant-put_statements-loop-statement g l =
    Puts g.W.Write.contents l.initial.out l.out
    (flat_map (statement_text l.at.names.now l.at.own.now l.at.level) (take l.statement-index l.statements))
