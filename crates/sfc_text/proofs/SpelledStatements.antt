-- The tokens of statements derive them.
use Rattle.std.proofs.Common.{◌≡◌, inl, inr, ℕ, zero, suc, ◌≤◌, [], ◌∷◌, ◌++◌, max, refl, sym, ap, subst, ◌∙◌, arith, append_assoc}
use Rattle.std.proofs.Math.Nat.{le-max_left, le-max_right}
use Rattle.sfc_base.specs.declared.delimiter.Delimiter.TheVariants as sign
use Rattle.sfc_base.specs.declared.keyword.Keyword.TheVariants as keyword
use Rattle.sfc_tokens.specs.declared.token.TokenKind.TheVariants as token
use Rattle.sfc_tokens.specs.Tokens.{Kinds}
use Rattle.sfc_text.specs.declared.expression.Variable.{Variable}
use Rattle.sfc_text.specs.Building as make
use Rattle.sfc_text.specs.Grammar.{variable, expression, assignment, conditional, statement, entry, body, branch, other_branch, other_branches, else_branch, branches}
use Rattle.sfc_text.specs.Limits.{Within}
use Rattle.sfc_text.specs.Rules.{Rule, Many, many, none, next, Inner, Derives}
use Rattle.sfc_text.specs.Terms.{else_given}
use Rattle.sfc_text.specs.Trees.{Tree, Block, Nothing, Assign, If, When, Otherwise, append, operators}
use Rattle.sfc_text.specs.Spelled.{variable_tokens, tree_tokens, nesting}
use Rattle.sfc_text.specs.SpelledStatements.{IsBody, AreBranches, AreOthers, body_tokens, branches_tokens, block_nesting, most_operators}
use Rattle.sfc_text.proofs.Appending.{folded_appends}
use Rattle.sfc_text.proofs.Spelled.{variable_derives, expression_derives}

pub three : (a b c rest : Kinds) → (a ++ b ++ c) ++ rest ≡ a ++ (b ++ (c ++ rest))
three a b c rest = append_assoc (a ++ b) c rest ∙ append_assoc a b (c ++ rest)

-- one, and then more of them
first_of_many : (n : ℕ) (In : Inner) (rule : Rule Block) (ts mid rest : Kinds) (c b : Block) → Derives n In rule ts c mid → Derives n In (many make.joined rule) mid b rest → Derives n In (many make.joined rule) ts (append c b) rest
first_of_many n In rule ts mid rest c b d e = (c ∷ e.0, next d e.1, ap (append c) e.2 ∙ sym (folded_appends c e.0))

-- ---- statements

assign_derives : (n : ℕ) (In : Inner) (ts mid rest : Kinds) (v : Variable) (e : Tree) → Derives n In variable ts v (token.Delimiter sign.Assign ∷ mid) → Derives n In expression mid e (token.Delimiter sign.Semicolon ∷ rest) → Derives n In entry ts (Assign v e Nothing) rest
unfolding entry statement assignment
assign_derives n In ts mid rest v e d g =
    let assign = token.Delimiter sign.Assign in
    let end = token.Delimiter sign.Semicolon in
    ((Assign v e Nothing, tt), (end ∷ rest, inl (inl ((v, e), ((v, e), (mid, ((v, tt), (assign ∷ mid, d, (assign, refl, refl, refl)), refl), g), refl), refl)), (end, refl, refl, refl)), refl)

assign_first : (n : ℕ) (In : Inner) (v : Variable) (e : Tree) (b : Block) (rest : Kinds) → ((behind : Kinds) → Derives n In expression (tree_tokens e ++ behind) e behind) → Derives n In body (body_tokens b ++ rest) b rest → Derives n In body (body_tokens (Assign v e b) ++ rest) (Assign v e b) rest
unfolding body
assign_first n In v e b rest d g =
    let assign = token.Delimiter sign.Assign in
    let behind = token.Delimiter sign.Semicolon ∷ (body_tokens b ++ rest) in
    let one = assign_derives n In (variable_tokens v ++ (assign ∷ (tree_tokens e ++ behind))) (tree_tokens e ++ behind) (body_tokens b ++ rest) v e (variable_derives n In v (assign ∷ (tree_tokens e ++ behind))) (d behind) in
    let all = first_of_many n In entry (variable_tokens v ++ (assign ∷ (tree_tokens e ++ behind))) (body_tokens b ++ rest) rest (Assign v e Nothing) b one g in
    subst (λ us. Derives n In (many make.joined entry) us (Assign v e b) rest) (sym (three (variable_tokens v) (assign ∷ tree_tokens e) (token.Delimiter sign.Semicolon ∷ body_tokens b) rest)) all

-- IF up to END_IF
Conditional : ℕ → ℕ → Block → Type 0
Conditional n depth bs = (rest : Kinds) → Derives n (Within n (suc depth)) conditional (branches_tokens keyword.If bs ++ (token.Keyword keyword.EndIf ∷ rest)) (If bs Nothing) rest

if_first : (n depth : ℕ) (bs b : Block) (rest : Kinds) → Conditional n depth bs → Derives n (Within n (suc depth)) body (body_tokens b ++ rest) b rest → Derives n (Within n (suc depth)) body (body_tokens (If bs b) ++ rest) (If bs b) rest
unfolding body entry statement Conditional
if_first n depth bs b rest d g =
    let end = token.Delimiter sign.Semicolon in
    let end_if = token.Keyword keyword.EndIf in
    let ts = branches_tokens keyword.If bs ++ (end_if ∷ (end ∷ (body_tokens b ++ rest))) in
    let one : Derives n (Within n (suc depth)) entry ts (If bs Nothing) (body_tokens b ++ rest) = ((If bs Nothing, tt), (end ∷ (body_tokens b ++ rest), inl (inr (d (end ∷ (body_tokens b ++ rest)))), (end, refl, refl, refl)), refl) in
    let all = first_of_many n (Within n (suc depth)) entry ts (body_tokens b ++ rest) rest (If bs Nothing) b one g in
    subst (λ us. Derives n (Within n (suc depth)) (many make.joined entry) us (If bs b) rest) (sym (append_assoc (branches_tokens keyword.If bs) (end_if ∷ (end ∷ body_tokens b)) rest)) all

-- ---- branches

branch_derives : (n : ℕ) (In : Inner) (e : Tree) (b : Block) (rest : Kinds) → ((behind : Kinds) → Derives n In expression (tree_tokens e ++ behind) e behind) → Derives n In body (body_tokens b ++ rest) b rest → Derives n In branch (tree_tokens e ++ (token.Keyword keyword.Then ∷ (body_tokens b ++ rest))) (When e b Nothing) rest
unfolding branch
branch_derives n In e b rest d g =
    let then = token.Keyword keyword.Then in
    let mid = body_tokens b ++ rest in
    ((e, b), ((e, b), (mid, ((e, tt), (then ∷ mid, d (then ∷ mid), (then, refl, refl, refl)), refl), g), refl), refl)

-- the branches behind the first: those with a condition, and an ELSE branch
Others : ℕ → ℕ → Block → Type 0
Others n depth b = (rest : Kinds) → (o : Block × Block) × (mid : Kinds) × Derives n (Within n depth) other_branches (branches_tokens keyword.Elsif b ++ (token.Keyword keyword.EndIf ∷ rest)) o.0 mid × Derives n (Within n depth) (else_given Nothing else_branch) mid o.1 (token.Keyword keyword.EndIf ∷ rest) × (b ≡ append o.0 o.1)

no_others : (n depth : ℕ) → Others n depth Nothing
unfolding Others other_branches
no_others n depth rest = ((Nothing, Nothing), token.Keyword keyword.EndIf ∷ rest, ([], none, refl), inr (refl, refl), refl)

else_last : (n depth : ℕ) (b : Block) → ((rest : Kinds) → Derives n (Within n depth) body (body_tokens b ++ rest) b rest) → Others n depth (Otherwise b Nothing)
unfolding Others other_branches else_branch
else_last n depth b d rest =
    let behind = token.Keyword keyword.EndIf ∷ rest in
    let else = token.Keyword keyword.Else in
    let same = append_assoc (else ∷ body_tokens b) [] behind in
    ((Nothing, Otherwise b Nothing), else ∷ (body_tokens b ++ behind), ([], subst (λ us. Many (Derives n (Within n depth) other_branch) us [] (else ∷ (body_tokens b ++ behind))) (sym same) none, refl), inl (b, ((tt, b), (body_tokens b ++ behind, (else, refl, refl, refl), d behind), refl), refl), refl)

when_next : (n depth : ℕ) (e : Tree) (b others : Block) → ((behind : Kinds) → Derives n (Within n depth) expression (tree_tokens e ++ behind) e behind) → ((rest : Kinds) → Derives n (Within n depth) body (body_tokens b ++ rest) b rest) → Others n depth others → Others n depth (When e b others)
unfolding Others other_branches other_branch
when_next n depth e b others d g h rest =
    let behind = token.Keyword keyword.EndIf ∷ rest in
    let elsif = token.Keyword keyword.Elsif in
    let then = token.Keyword keyword.Then in
    let last = branches_tokens keyword.Elsif others ++ behind in
    let o = h rest in
    let ts = tree_tokens e ++ (then ∷ (body_tokens b ++ last)) in
    let one : Derives n (Within n depth) other_branch (elsif ∷ ts) (When e b Nothing) last = ((tt, When e b Nothing), (ts, (elsif, refl, refl, refl), branch_derives n (Within n depth) e b last d (g last)), refl) in
    let all = first_of_many n (Within n depth) other_branch (elsif ∷ ts) last o.1 (When e b Nothing) o.0.0 one o.2 in
    let same = three (elsif ∷ tree_tokens e) (then ∷ body_tokens b) (branches_tokens keyword.Elsif others) behind in
    ((When e b o.0.0, o.0.1), o.1, subst (λ us. Derives n (Within n depth) (many make.joined other_branch) us (When e b o.0.0) o.1) (sym same) all, o.3, ap (When e b) o.4)

when_first : (n depth : ℕ) (e : Tree) (b others : Block) → ((behind : Kinds) → Derives n (Within n depth) expression (tree_tokens e ++ behind) e behind) → ((rest : Kinds) → Derives n (Within n depth) body (body_tokens b ++ rest) b rest) → Others n depth others → Conditional n depth (When e b others)
unfolding Others Conditional conditional branches Within
when_first n depth e b others d g h rest =
    let end_if = token.Keyword keyword.EndIf in
    let if = token.Keyword keyword.If in
    let then = token.Keyword keyword.Then in
    let behind = end_if ∷ rest in
    let last = branches_tokens keyword.Elsif others ++ behind in
    let o = h rest in
    let ts = tree_tokens e ++ (then ∷ (body_tokens b ++ last)) in
    let one = branch_derives n (Within n depth) e b last d (g last) in
    let bs = When e b others in
    let all : Derives n (Within n depth) branches ts bs rest = ((bs, tt), (behind, ((When e b o.0.0, o.0.1), (o.1, ((When e b Nothing, o.0.0), (last, one, o.2), refl), o.3), ap (When e b) o.4), (end_if, refl, refl, refl)), refl) in
    let same = three (if ∷ tree_tokens e) (then ∷ body_tokens b) (branches_tokens keyword.Elsif others) behind in
    subst (λ us. Derives n (Within n (suc depth)) conditional us (If bs Nothing) rest) (sym same) ((tt, If bs Nothing), (ts, (if, refl, refl, refl), (bs, all, refl)), refl)

-- ---- blocks

both_below : (a b most : ℕ) → max a b ≤ most → (a ≤ most) × (b ≤ most)
both_below a b most le =
    let first = le-max_left a b in
    let second = le-max_right a b in
    (omega (arith, le, first), omega (arith, le, second))

nothing_derives : (n : ℕ) (In : Inner) (rest : Kinds) → Derives n In body rest Nothing rest
unfolding body
nothing_derives n In rest = ([], none, refl)

mutual
  pub body_derives : (n : ℕ) (b : Block) → IsBody b → (depth : ℕ) → block_nesting b ≤ depth → most_operators b ≤ n → (rest : Kinds) → Derives n (Within n depth) body (body_tokens b ++ rest) b rest
  body_derives n Nothing h depth deep few rest = nothing_derives n (Within n depth) rest
  body_derives n (Assign v e b) h depth deep few rest =
      let d = both_below (nesting e) (block_nesting b) depth deep in
      let m = both_below (operators e) (most_operators b) n few in
      assign_first n (Within n depth) v e b rest (λ behind. expression_derives n depth e behind d.0 m.0) (body_derives n b h depth d.1 m.1 rest)
  body_derives n (If bs b) h zero deep few rest = let d = both_below (suc (block_nesting bs)) (block_nesting b) 0 deep in let less = d.0 in absurd (omega (arith, less))
  body_derives n (If bs b) h (suc depth) deep few rest =
      let d = both_below (suc (block_nesting bs)) (block_nesting b) (suc depth) deep in
      let m = both_below (most_operators bs) (most_operators b) n few in
      let less = d.0 in
      if_first n depth bs b rest (conditional_derives n bs h.0 depth (omega (arith, less)) m.0) (body_derives n b h.1 (suc depth) d.1 m.1 rest)
  body_derives n (When e b c) h depth deep few rest = absurd h
  body_derives n (Otherwise b c) h depth deep few rest = absurd h

  conditional_derives : (n : ℕ) (b : Block) → AreBranches b → (depth : ℕ) → block_nesting b ≤ depth → most_operators b ≤ n → Conditional n depth b
  conditional_derives n (When e b c) h depth deep few =
      let d = both_below (nesting e) (max (block_nesting b) (block_nesting c)) depth deep in
      let m = both_below (operators e) (max (most_operators b) (most_operators c)) n few in
      let d2 = both_below (block_nesting b) (block_nesting c) depth d.1 in
      let m2 = both_below (most_operators b) (most_operators c) n m.1 in
      when_first n depth e b c (λ behind. expression_derives n depth e behind d.0 m.0) (λ rest. body_derives n b h.0 depth d2.0 m2.0 rest) (others_derive n c h.1 depth d2.1 m2.1)
  conditional_derives n Nothing h depth deep few = absurd h
  conditional_derives n (Assign v e b) h depth deep few = absurd h
  conditional_derives n (If bs b) h depth deep few = absurd h
  conditional_derives n (Otherwise b c) h depth deep few = absurd h

  others_derive : (n : ℕ) (b : Block) → AreOthers b → (depth : ℕ) → block_nesting b ≤ depth → most_operators b ≤ n → Others n depth b
  others_derive n Nothing h depth deep few = no_others n depth
  others_derive n (When e b c) h depth deep few =
      let d = both_below (nesting e) (max (block_nesting b) (block_nesting c)) depth deep in
      let m = both_below (operators e) (max (most_operators b) (most_operators c)) n few in
      let d2 = both_below (block_nesting b) (block_nesting c) depth d.1 in
      let m2 = both_below (most_operators b) (most_operators c) n m.1 in
      when_next n depth e b c (λ behind. expression_derives n depth e behind d.0 m.0) (λ rest. body_derives n b h.0 depth d2.0 m2.0 rest) (others_derive n c h.1 depth d2.1 m2.1)
  others_derive n (Otherwise b c) h depth deep few =
      let d = both_below (block_nesting b) (block_nesting c) depth deep in
      let m = both_below (most_operators b) (most_operators c) n few in
      subst (λ x. Others n depth (Otherwise b x)) (sym h.1) (else_last n depth b (λ rest. body_derives n b h.0 depth d.0 m.0 rest))
  others_derive n (Assign v e b) h depth deep few = absurd h
  others_derive n (If bs b) h depth deep few = absurd h
