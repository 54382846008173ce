-- Statements and branches, one after the other.
use Rattle.std.proofs.Common.{◌≡◌, ℕ, zero, suc, ◌+◌, ◌<◌, length, take, get_or, List, [], ◌∷◌, ◌++◌, Vec, Global, flat_map, codes, refl, sym, ap, ◌∙◌, append_assoc, arith}
use Rattle.std.proofs.lemmas.List.{append-nil}
use Rattle.sfc_expr.specs.declared.expr.Expr.{Expr}
use Rattle.sfc_base.specs.declared.references.Variable.{Variable}
use Rattle.sfc_expr.specs.declared.statement.Statement.{Statement}
use Rattle.sfc_expr.specs.declared.statement.Statement.TheVariants as statement
use Rattle.sfc_expr.specs.declared.statement.Branch.{Branch}
use Rattle.sfc_expr.specs.declared.statement.Branch.TheVariants as branch
use Rattle.sfc_expr.specs.Trees.{Body, Nothing, Branches, NoBranch, expression_of, before, tried_before, body_of, branches_of}
use Rattle.sfc_expr.proofs.Rows.{before-if, tried_before-when, tried_before-otherwise}
use Rattle.sfc_plant.specs.Spaces.{Space}
use Rattle.sfc_list.specs.Layout.{line}
use Rattle.sfc_list.specs.Statements.{assignment_text, branch_head, body_text, branches_text}
use Rattle.sfc_list.specs.Private.Parts.{statement_text, branch_text, branch_word}

module _ (space : Space) (own : List ℕ) (level : ℕ) where
  statement_before : (s : Statement) (rest : Body)
      → body_text space own level (before s rest) ≡ statement_text space own level s ++ body_text space own level rest
  statement_before (statement.Assign v e) rest = ap (λ text. text ++ body_text space own level rest) (sym (append-nil _))
  statement_before (statement.If' shape bs) rest = ap (λ text. text ++ body_text space own level rest) (sym (append-nil _))

  branch_before : (word : List ℕ) (b : Branch) (rest : Branches)
      → branches_text space own level word (tried_before b rest)
      ≡ branch_text space own level word b ++ branches_text space own level (codes "ELSIF ") rest
  branch_before word (branch.When' e shape body) rest =
      ap (λ text. text ++ branches_text space own level (codes "ELSIF ") rest) (sym (append-nil _))
  branch_before word (branch.Otherwise' shape body) rest =
      ap (λ text. text ++ branches_text space own level (codes "ELSIF ") rest) (sym (append-nil _))

  pub body_lines : (ss : List Statement) → body_text space own level (body_of ss) ≡ flat_map (statement_text space own level) ss
  body_lines [] = refl
  body_lines (s ∷ ss) = statement_before s (body_of ss) ∙ ap (λ text. statement_text space own level s ++ text) (body_lines ss)

  pub assign_text : (v : Variable) (e : Expr)
      → statement_text space own level (statement.Assign v e) ≡ line level (assignment_text space own v (expression_of e))
  assign_text v e = append-nil _

  -- one branch more
  grown_behind : (bs : List Branch) (i : ℕ) (d : Branch) → i < length bs
      → branches_text space own level (codes "ELSIF ") (branches_of (take (suc i) bs))
      ≡ branches_text space own level (codes "ELSIF ") (branches_of (take i bs)) ++ branch_text space own level (codes "ELSIF ") (get_or bs i d)
  grown_behind [] i d lt = absurd (omega arith)
  grown_behind (b ∷ bs) zero d lt = branch_before (codes "ELSIF ") b NoBranch ∙ append-nil _
  grown_behind (b ∷ bs) (suc i) d lt =
      branch_before (codes "ELSIF ") b (branches_of (take (suc i) bs))
      ∙ ap (λ text. branch_text space own level (codes "ELSIF ") b ++ text) (grown_behind bs i d (omega arith))
      ∙ sym (append_assoc (branch_text space own level (codes "ELSIF ") b) _ _)
      ∙ ap (λ text. text ++ branch_text space own level (codes "ELSIF ") (get_or bs i d))
      (sym (branch_before (codes "ELSIF ") b (branches_of (take i bs))))

  pub branches_grown : (bs : List Branch) (i : ℕ) (d : Branch) → i < length bs
      → branches_text space own level (codes "IF ") (branches_of (take (suc i) bs))
      ≡ branches_text space own level (codes "IF ") (branches_of (take i bs)) ++ branch_text space own level (branch_word i) (get_or bs i d)
  branches_grown [] i d lt = absurd (omega arith)
  branches_grown (b ∷ bs) zero d lt = branch_before (codes "IF ") b NoBranch ∙ append-nil _
  branches_grown (b ∷ bs) (suc i) d lt =
      branch_before (codes "IF ") b (branches_of (take (suc i) bs))
      ∙ ap (λ text. branch_text space own level (codes "IF ") b ++ text) (grown_behind bs i d (omega arith))
      ∙ sym (append_assoc (branch_text space own level (codes "IF ") b) _ _)
      ∙ ap (λ text. text ++ branch_text space own level (codes "ELSIF ") (get_or bs i d))
      (sym (branch_before (codes "IF ") b (branches_of (take i bs))))

  pub if_text : (v : Vec Branch Global)
      → statement_text space own level (statement.If v)
      ≡ branches_text space own level (codes "IF ") (branches_of v.items) ++ line level (codes "END_IF;")
  if_text v = ap (body_text space own level) (before-if v Nothing) ∙ append-nil _

  pub when_text : (word : List ℕ) (e : Expr) (v : Vec Statement Global)
      → branch_text space own level word (branch.When e v)
      ≡ line level (branch_head space own word (expression_of e)) ++ body_text space own (level + 1) (body_of v.items)
  when_text word e v = ap (branches_text space own level word) (tried_before-when e v NoBranch) ∙ append-nil _

  pub otherwise_text : (word : List ℕ) (v : Vec Statement Global)
      → branch_text space own level word (branch.Otherwise v)
      ≡ line level (codes "ELSE") ++ body_text space own (level + 1) (body_of v.items)
  otherwise_text word v = ap (branches_text space own level word) (tried_before-otherwise v NoBranch) ∙ append-nil _
