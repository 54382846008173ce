-- Operators are counted while expressions are read.
use Rattle.std.proofs.Common.{◌≡◌, ℕ, zero, suc, ◌+◌, ◌<◌, ◌≤◌, true, false, List, [], ◌∷◌, length, Ok, Err, refl, sym, ap, subst, ◌∙◌, arith}
use Rattle.sfc_tokens.specs.declared.token.Token.{Token}
use Rattle.sfc_tokens.specs.Tokens.{Kinds, kinds}
use Rattle.sfc_text.specs.declared.expression.Operator.{Operator}
use Rattle.sfc_text.specs.declared.parse.fault.ParseFault.{ParseFault}
use Rattle.sfc_text.specs.declared.parse.fault.ParseFault.TheVariants as fault
use Rattle.sfc_text.specs.Building.{join}
use Rattle.sfc_text.specs.Grammar.{joined, operator, operators_at, unary, signed, opposite, negation, primary, parenthesized, literal, variable}
use Rattle.sfc_text.specs.Terms.{folded}
use Rattle.sfc_text.specs.Trees.{Tree, operators}
use Rattle.sfc_text.specs.Parsing.Counting.{Exceeds, Stops, StopsPair}
use Rattle.sfc_text.specs.Parsing.Depth.{at}
use Rattle.sfc_text.specs.Parsing.Lookahead.{begins, empty}
use Rattle.sfc_text.specs.Parsing.Reading.{Read, ◌>>=◌, IsTooDeep, all, found, pair}
use Rattle.sfc_text.proofs.Shorter.{Shorter, pair_shorter}
use Rattle.sfc_text.proofs.Loops.{Folds, Folding, Turn, turn, goes_on, ends, shortens, smaller}

abbrev Rests : Type 0
Rests = Read (List (Operator × Tree) × Kinds)

-- ---- joining adds operators

grows : (a : Tree) (xs : List (Operator × Tree)) → operators a ≤ operators (folded join a xs)
grows a [] = omega arith
grows a (x ∷ xs) = let i = grows (join a x) xs in omega (arith, i)

exceeds_folds : (n : ℕ) (a : Tree) (r : Rests) → n < operators a → Exceeds n (Folds join a r)
exceeds_folds n a (Ok y) h = let g = grows a y.0 in omega (arith, g, h)
exceeds_folds n a (Err e) h = tt

exceeds_more : (n : ℕ) (a : Tree) (x : Operator × Tree) (r : Rests) → n < 1 + (operators a + operators x.1) → Exceeds n (Folds join a (r >>= λ y. Ok (x ∷ y.0, y.1)))
exceeds_more n a x (Ok y) h = let g = grows (join a x) y.0 in omega (arith, g, h)
exceeds_more n a x (Err e) h = tt

-- ---- the items of a level

abbrev pub Item : ℕ → ℕ → ℕ → Kinds → Read ((Operator × Tree) × Kinds)
Item left level k ts = pair (at left (operator level)) (at left (joined k)) ts

abbrev pub Joining : ℕ → ℕ → ℕ → Tree → Kinds → Read (Tree × Kinds)
Joining left level k a ts = Folding (operators_at level) (Item left level k) join a ts

joined_takes : (k : ℕ) → empty (joined k) ≡ false
unfolding joined unary opposite negation signed primary parenthesized literal variable
joined_takes zero = refl
joined_takes (suc k) = joined_takes k

item_takes : (left level k : ℕ) → Shorter false (Item left level k)
item_takes left level k = pair_shorter false false (at left (operator level)) (at left (joined k)) (shortens left (operator level) refl) (shortens left (joined k) (joined_takes k))

joined_is : (left level k : ℕ) (ts : Kinds) → level ≡ suc k → at left (joined level) ts ≡ (at left (joined k) ts >>= λ y. Joining left level k y.0 y.1)
unfolding joined
joined_is left level k ts e = rw e refl

pub starts : (left level k : ℕ) (ts : Kinds) (x : Tree × Kinds) → level ≡ suc k → at left (joined k) ts ≡ Ok x → Joining left level k x.0 x.1 ≡ at left (joined level) ts
starts left level k ts x same e = sym (joined_is left level k ts same ∙ ap (λ (r : Read (Tree × Kinds)). r >>= λ y. Joining left level k y.0 y.1) e)

stops_by : (wrong : ParseFault) (n left level k : ℕ) (r : Read (Tree × Kinds)) → Stops n wrong r → Stops n wrong (r >>= λ y. Joining left level k y.0 y.1)
stops_by fault.Memory n left level k r h = tt
stops_by (fault.Syntax at_) n left level k (Ok y) h = absurd cc
stops_by (fault.Syntax at_) n left level k (Err e) h = cc
stops_by (fault.TooDeep at_) n left level k (Ok y) h = exceeds_folds n y.0 (all (found (operators_at level) (Item left level k)) y.1) h
stops_by (fault.TooDeep at_) n left level k (Err e) h = tt

pub first_stops : (wrong : ParseFault) (n left level k : ℕ) (ts : Kinds) → level ≡ suc k → Stops n wrong (at left (joined k) ts) → Stops n wrong (at left (joined level) ts)
first_stops wrong n left level k ts same h = subst (λ r. Stops n wrong r) (sym (joined_is left level k ts same)) (stops_by wrong n left level k (at left (joined k) ts) h)

pub goes_on_joining : (left level k : ℕ) (a : Tree) (ts : Kinds) (x : (Operator × Tree) × Kinds) (total : Read (Tree × Kinds)) → begins (operators_at level) ts ≡ true → Item left level k ts ≡ Ok x → Joining left level k a ts ≡ total → Joining left level k (join a x.0) x.1 ≡ total
goes_on_joining left level k a ts x total h is so_far = goes_on (operators_at level) (Item left level k) (item_takes left level k) join a ts x total h is so_far

pub ends_joining : (left level k : ℕ) (a : Tree) (ts : Kinds) (total : Read (Tree × Kinds)) → begins (operators_at level) ts ≡ false → Joining left level k a ts ≡ total → total ≡ Ok (a, ts)
ends_joining left level k a ts total h so_far = ends (operators_at level) (Item left level k) (item_takes left level k) join a ts total h so_far

pub item_smaller : (left level k : ℕ) (tokens rest : List Token) (x : Operator × Tree) → Item left level k (kinds tokens) ≡ Ok (x, kinds rest) → length rest < length tokens
item_smaller left level k tokens rest x is = smaller (Item left level k) (item_takes left level k) tokens rest x is

-- ---- an operator without budget, and an operand that stops

turns : (left level k : ℕ) (a : Tree) (ts : Kinds) → begins (operators_at level) ts ≡ true → Joining left level k a ts ≡ Folds join a (Item left level k ts >>= λ x. all (found (operators_at level) (Item left level k)) x.1 >>= λ y. Ok (x.0 ∷ y.0, y.1))
turns left level k a ts h =
    let one : Turn (operators_at level) (Item left level k) ts ≡ (Item left level k ts >>= λ x. all (found (operators_at level) (Item left level k)) x.1 >>= λ y. Ok (x.0 ∷ y.0, y.1)) = rw h refl in
    ap (Folds join a) (turn (operators_at level) (Item left level k) (item_takes left level k) ts ∙ one)

full_by : (n : ℕ) (a : Tree) (further : Kinds → Rests) (r : Read ((Operator × Tree) × Kinds)) → n ≤ operators a → Exceeds n (Folds join a (r >>= λ x. further x.1 >>= λ y. Ok (x.0 ∷ y.0, y.1)))
full_by n a further (Ok x) h = exceeds_more n a x.0 (further x.1) (omega (arith, h))
full_by n a further (Err e) h = tt

pub full : (n left level k : ℕ) (a : Tree) (ts : Kinds) (total : Read (Tree × Kinds)) → n ≤ operators a → begins (operators_at level) ts ≡ true → Joining left level k a ts ≡ total → Exceeds n total
full n left level k a ts total le h so_far = subst (λ r. Exceeds n r) (sym (turns left level k a ts h) ∙ so_far) (full_by n a (all (found (operators_at level) (Item left level k))) (Item left level k ts) le)

operand_by : (wrong : ParseFault) (n m : ℕ) (a : Tree) (further : Kinds → Rests) (r : Read ((Operator × Tree) × Kinds)) → n ≤ m + (operators a + 1) → StopsPair m wrong r → Stops n wrong (Folds join a (r >>= λ x. further x.1 >>= λ y. Ok (x.0 ∷ y.0, y.1)))
operand_by fault.Memory n m a further r le h = tt
operand_by (fault.Syntax at_) n m a further (Ok x) le h = absurd cc
operand_by (fault.Syntax at_) n m a further (Err e) le h = cc
operand_by (fault.TooDeep at_) n m a further (Ok x) le h = exceeds_more n a x.0 (further x.1) (omega (arith, le, h))
operand_by (fault.TooDeep at_) n m a further (Err e) le h = tt

pub operand_stops : (wrong : ParseFault) (n m left level k : ℕ) (a : Tree) (ts : Kinds) (total : Read (Tree × Kinds)) → n ≤ m + (operators a + 1) → begins (operators_at level) ts ≡ true → StopsPair m wrong (Item left level k ts) → Joining left level k a ts ≡ total → Stops n wrong total
operand_stops wrong n m left level k a ts total le h stops so_far = subst (λ r. Stops n wrong r) (sym (turns left level k a ts h) ∙ so_far) (operand_by wrong n m a (all (found (operators_at level) (Item left level k))) (Item left level k ts) le stops)

-- what a function says that has no budget
pub full_stops : (wrong : ParseFault) (n : ℕ) (r : Read (Tree × Kinds)) → IsTooDeep wrong → Exceeds n r → Stops n wrong r
full_stops fault.Memory n r h g = tt
full_stops (fault.Syntax at_) n r h g = absurd h
full_stops (fault.TooDeep at_) n r h g = g

-- the operand's depth is that of its operator
pub same_depth : (wrong : ParseFault) (n left left' level k : ℕ) (ts : Kinds) → left' ≡ left → StopsPair n wrong (Item left' level k ts) → StopsPair n wrong (Item left level k ts)
same_depth wrong n left left' level k ts e h = subst (λ d. StopsPair n wrong (Item d level k ts)) e h

pub same_item : (left left' level k : ℕ) (ts : Kinds) (x : (Operator × Tree) × Kinds) → left' ≡ left → Item left' level k ts ≡ Ok x → Item left level k ts ≡ Ok x
same_item left left' level k ts x e h = subst (λ d. Item d level k ts ≡ Ok x) e h
