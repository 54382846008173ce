-- Statements that derive are nested no deeper than they may be.
use Rattle.std.proofs.Common.{◌≡◌, inl, inr, ℕ, zero, suc, ◌≤◌, List, refl, sym, ap, subst, ◌∙◌, arith}
use Rattle.std.proofs.Math.Nat.{max-le}
use Rattle.sfc_tokens.specs.Tokens.{Kinds}
use Rattle.sfc_text.specs.Building as make
use Rattle.sfc_text.specs.Grammar.{assignment, conditional, statement, entry, body, branch, other_branch, other_branches, else_branch, branches}
use Rattle.sfc_text.specs.Limits.{Within}
use Rattle.sfc_text.specs.Rules.{Many, none, next, Derives}
use Rattle.sfc_text.specs.Sorts.{Branches}
use Rattle.sfc_text.specs.Terms.{else_given}
use Rattle.sfc_text.specs.Trees.{Tree, Block, Nothing, When, append, operators}
use Rattle.sfc_text.specs.Spelled.{nesting}
use Rattle.sfc_text.specs.SpelledStatements.{IsBody, AreBranches, AreOthers, block_nesting, most_operators}
use Rattle.sfc_text.proofs.Appending.{folded_appends}
use Rattle.sfc_text.proofs.Nesting.{expression_needs}

abbrev BodyFits : ℕ → ℕ → Block → Type 0
BodyFits n depth b = IsBody b × block_nesting b ≤ depth × most_operators b ≤ n

abbrev OthersFit : ℕ → ℕ → Block → Type 0
OthersFit n depth b = AreOthers b × block_nesting b ≤ depth × most_operators b ≤ n

abbrev BranchesFit : ℕ → ℕ → Block → Type 0
BranchesFit n depth b = AreBranches b × block_nesting b ≤ depth × most_operators b ≤ n

-- what stands between IF and END_IF
abbrev Conditionals : ℕ → ℕ → Type 0
Conditionals n depth = (ts : Kinds) (b : Block) (rest : Kinds) → Within n depth Branches ts b rest → AreBranches b × suc (block_nesting b) ≤ depth × most_operators b ≤ n

-- ---- statements

-- the statement of an entry stands before others
entry_fits : (n depth : ℕ) → Conditionals n depth → (ts : Kinds) (c : Block) (rest : Kinds) → Derives n (Within n depth) entry ts c rest → (b : Block) → BodyFits n depth b → BodyFits n depth (append c b)
unfolding entry statement assignment conditional
entry_fits n depth h ts c rest (y, (mid, inl (inl d), end), same) b f =
    let e = expression_needs n depth d.1.1.0 d.1.0.1 mid d.1.1.2 in
    subst (λ a. BodyFits n depth (append a b)) (sym (same ∙ d.2 ∙ ap make.an_assignment d.1.2)) (f.0, max-le e.0 f.1, max-le e.1 f.2)
entry_fits n depth h ts c rest (y, (mid, inl (inr d), end), same) b f =
    let i = d.1.2 in
    let g = h d.1.0 i.0 mid i.1 in
    subst (λ a. BodyFits n depth (append a b)) (sym (same ∙ d.2 ∙ i.2)) ((g.0, f.0), max-le g.1 f.1, max-le g.2 f.2)
entry_fits n depth h ts c rest (y, (mid, inr d, end), same) b f = subst (λ a. BodyFits n depth (append a b)) (sym (same ∙ d.1)) f

entries_fit : (n depth : ℕ) → Conditionals n depth → {ts rest : Kinds} {bs : List Block} → Many (Derives n (Within n depth) entry) ts bs rest → BodyFits n depth (make.joined bs)
entries_fit n depth h none = (tt, omega arith, omega arith)
entries_fit n depth h (next {ts = ts} {mid = mid} {x = x} {xs = xs} i m) =
    subst (BodyFits n depth) (sym (folded_appends x xs)) (entry_fits n depth h ts x mid i (make.joined xs) (entries_fit n depth h m))

body_fits : (n depth : ℕ) → Conditionals n depth → (ts : Kinds) (b : Block) (rest : Kinds) → Derives n (Within n depth) body ts b rest → BodyFits n depth b
unfolding body
body_fits n depth h ts b rest d = subst (BodyFits n depth) (sym d.2) (entries_fit n depth h d.1)

-- ---- branches

-- a branch with a condition
abbrev WhenFits : ℕ → ℕ → Block → Type 0
WhenFits n depth c = (e : Tree) × (b : Block) × (c ≡ When e b Nothing) × (nesting e ≤ depth × operators e ≤ n) × BodyFits n depth b

branch_fits : (n depth : ℕ) → Conditionals n depth → (ts : Kinds) (c : Block) (rest : Kinds) → Derives n (Within n depth) branch ts c rest → WhenFits n depth c
unfolding branch
branch_fits n depth h ts c rest d =
    let both = d.1 in
    let head = both.1.1 in
    let first = head.1 in
    let e = expression_needs n depth ts head.0.0 first.0 first.1 in
    (head.0.0, both.0.1, d.2 ∙ ap make.a_branch both.2 ∙ ap (λ t. When t both.0.1 Nothing) head.2, e, body_fits n depth h both.1.0 both.0.1 rest both.1.2)

other_fits : (n depth : ℕ) → Conditionals n depth → (ts : Kinds) (c : Block) (rest : Kinds) → Derives n (Within n depth) other_branch ts c rest → WhenFits n depth c
unfolding other_branch
other_fits n depth h ts c rest d = subst (WhenFits n depth) (sym d.2) (branch_fits n depth h d.1.0 d.0.1 rest d.1.2)

else_fits : (n depth : ℕ) → Conditionals n depth → (ts : Kinds) (c : Block) (rest : Kinds) → Derives n (Within n depth) (else_given Nothing else_branch) ts c rest → OthersFit n depth c
unfolding else_branch
else_fits n depth h ts c rest (inl d) =
    let f = body_fits n depth h d.1.1.0 d.1.0.1 rest d.1.1.2 in
    subst (OthersFit n depth) (sym (d.2 ∙ ap make.an_else d.1.2)) ((f.0, refl), max-le f.1 (omega arith), max-le f.2 (omega arith))
else_fits n depth h ts c rest (inr d) = subst (OthersFit n depth) (sym d.1) (tt, omega arith, omega arith)

others_fit : (n depth : ℕ) → Conditionals n depth → (last : Block) → OthersFit n depth last → {ts rest : Kinds} {bs : List Block} → Many (Derives n (Within n depth) other_branch) ts bs rest → OthersFit n depth (append (make.joined bs) last)
others_fit n depth h last f none = f
others_fit n depth h last f (next {ts = ts} {mid = mid} {x = x} {xs = xs} i m) =
    let o = other_fits n depth h ts x mid i in
    let g = others_fit n depth h last f m in
    subst (λ b. OthersFit n depth (append b last)) (sym (folded_appends x xs)) (subst (λ b. OthersFit n depth (append (append b (make.joined xs)) last)) (sym o.2) ((o.4.0, g.0), max-le o.3.0 (max-le o.4.1 g.1), max-le o.3.1 (max-le o.4.2 g.2)))

branches_fit : (n depth : ℕ) → Conditionals n depth → (ts : Kinds) (b : Block) (rest : Kinds) → Derives n (Within n depth) branches ts b rest → BranchesFit n depth b
unfolding branches other_branches
branches_fit n depth h ts b rest d =
    let outer = d.1.1 in
    let front = outer.1.1 in
    let first = branch_fits n depth h ts front.0.0 front.1.0 front.1.1 in
    let last = else_fits n depth h outer.1.0 outer.0.1 d.1.0 outer.1.2 in
    let some = front.1.2 in
    let g = others_fit n depth h outer.0.1 last some.1 in
    let same = d.2 ∙ outer.2 ∙ ap (λ a. append a outer.0.1) (front.2 ∙ ap (λ a. append a front.0.1) first.2 ∙ ap (When first.0 first.1) some.2) in
    subst (BranchesFit n depth) (sym same) ((first.4.0, g.0), max-le first.3.0 (max-le first.4.1 g.1), max-le first.3.1 (max-le first.4.2 g.2))

conditionals_fit : (n depth : ℕ) → Conditionals n depth
unfolding Within
conditionals_fit n zero ts b rest d = absurd d
conditionals_fit n (suc depth) ts b rest d =
    let f = branches_fit n depth (conditionals_fit n depth) ts b rest d in
    let le = f.1 in
    (f.0, omega (arith, le), f.2)

pub body_needs : (n depth : ℕ) (ts : Kinds) (b : Block) (rest : Kinds) → Derives n (Within n depth) body ts b rest → BodyFits n depth b
body_needs n depth = body_fits n depth (conditionals_fit n depth)
