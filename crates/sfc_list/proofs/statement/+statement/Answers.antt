use Rattle.std.proofs.Common.{ℕ, List, ◌+◌, take, codes, add-one, refl, sym, ap, subst, ◌∙◌}
use Rattle.sfc_expr.specs.declared.statement.Branch.{Branch}
use Rattle.sfc_expr.specs.declared.statement.Statement.{Statement}
use Rattle.sfc_expr.specs.Trees.{body_of, branches_of}
use Rattle.sfc_list.specs.Statements.{body_text, branches_text}
use Rattle.sfc_list.specs.Private.Sinking.{Puts}
use Rattle.sfc_list.specs.Private.Parts.{statement_text, branch_text, branch_word}
use Rattle.sfc_list.proofs.Sunk.{puts_nothing, puts_then, puts_item, puts_all}
use Rattle.sfc_list.proofs.Bodies.{when_text, body_lines, branches_grown}
use Rattle.sfc_list.proofs.statement.+statement.Goals as goal

pub put_branch-returns-in-When : goal.put_branch-returns-in-When
put_branch-returns-in-When g t c =
    let n : _ = g.W.Write.contents in
    let space : _ = c.args.at.now.names.now in
    let own : List ℕ = c.args.at.now.own.now in
    let level : ℕ = c.args.at.now.level in
    let word : List ℕ = c.args.word.now in
    let inside : _ = subst (λ (ss : List Statement). Puts n c.put.new.self c.put_inside.new.out (body_text space own (level + 1) (body_of ss))) c.deref.ensures.value c.put_inside.ensures in
    let head : _ = puts_then n _ _ _ _ _ (puts_then n _ _ _ _ _ c.put_indent.ensures c.put_branch_head.ensures) c.put.ensures in
    subst (λ (b : Branch). Puts n c.args.out.now c.put_inside.new.out (branch_text space own level word b)) (sym c.in-When.is)
    (subst (λ (text : List ℕ). Puts n c.args.out.now c.put_inside.new.out text)
    (sym (when_text space own level word c.in-When.condition c.in-When.body)) (puts_then n _ _ _ _ _ head inside))

pub put_branches-loop-branch-init : goal.put_branches-loop-branch-init
put_branches-loop-branch-init g t c = record { next = refl; done = puts_nothing g.W.Write.contents c.args.out.now _ refl }

pub put_branches-loop-branch-preserved : goal.put_branches-loop-branch-preserved
put_branches-loop-branch-preserved g t c =
    let n : _ = g.W.Write.contents in
    let space : _ = c.args.at.now.names.now in
    let own : List ℕ = c.args.at.now.own.now in
    let level : ℕ = c.args.at.now.level in
    let bs : List Branch = c.args.branches.now in
    let i : ℕ = c.loop-branch.branch-index in
    let word : _ = subst (λ (w : List ℕ). Puts n c.loop-branch.out c.put_branch.new.out (branch_text space own level w c.branch-item.result)) c.loop-branch.invariant.next c.put_branch.ensures in
    let there : _ = subst (λ (b : Branch). Puts n c.loop-branch.out c.put_branch.new.out (branch_text space own level (branch_word i) b)) c.branch-item.is word in
    let grown : _ = ap (λ k. branches_text space own level (codes "IF ") (branches_of (take k bs))) (add-one i)
    ∙ branches_grown space own level bs i c.branch-item.result c.loop-branch-test.true in
    record {
      next = sym (ap branch_word (add-one i));
      done = subst (λ (text : List ℕ). Puts n c.args.out.now c.put_branch.new.out text) (sym grown)
          (puts_then n _ _ _ _ _ c.loop-branch.invariant.done there);
    }

pub put_statements-returns : goal.put_statements-returns
put_statements-returns g t c =
    let n : _ = g.W.Write.contents in
    let space : _ = c.args.at.now.names.now in
    let own : List ℕ = c.args.at.now.own.now in
    let level : ℕ = c.args.at.now.level in
    subst (λ (text : List ℕ). Puts n c.args.out.now c.loop-statement.out text) (sym (body_lines space own level c.args.statements.now))
    (puts_all n _ _ (statement_text space own level) c.args.statements.now c.loop-statement.statement-index c.loop-statement-test.false c.loop-statement.invariant)

pub put_statements-loop-statement-preserved : goal.put_statements-loop-statement-preserved
put_statements-loop-statement-preserved g t c =
    puts_item g.W.Write.contents _ _ _ (statement_text c.args.at.now.names.now c.args.at.now.own.now c.args.at.now.level)
    c.args.statements.now c.loop-statement.statement-index c.statement-item.result c.loop-statement-test.true c.statement-item.is
    c.loop-statement.invariant c.put_statement.ensures
