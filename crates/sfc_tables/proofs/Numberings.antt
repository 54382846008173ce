-- The associations in text order by number.
use Rattle.std.proofs.Common.{◌≡◌, ℕ, zero, suc, ◌+◌, ◌<◌, ◌≤◌, List, [], ◌∷◌, ◌++◌, length, get_or, drop, refl, sym, ◌∙◌, ap, subst, arith}
use Rattle.std.specs.Prelude.{map, All, sum_by}
use Rattle.std.specs.List.Sorted.{IsNonDecreasing, IsNonDecreasingBy}
use Rattle.std.proofs.lemmas.List.{append_assoc, length-append, length-map, get_or-map, drop_more}
use Rattle.std.proofs.lemmas.List.Sums.{sum_by-cons}
use Rattle.std.proofs.lemmas.List.Elements.{All-nil, All-cons}
use Rattle.sfc_base.specs.declared.references.StepId.{StepId}
use Rattle.sfc_plant.specs.declared.association.Association.{Association}
use Rattle.sfc_plant.specs.declared.association.Target.{Target}
use Rattle.sfc_plant.specs.declared.chart.Step.{Step}
use Rattle.sfc_tables.specs.declared.step_action.StepAction.{StepAction}
use Rattle.sfc_tables.specs.Actions.{number_of}
use Rattle.sfc_tables.specs.Tables.{in_text, numbered}

-- ---- numbering in pieces

abbrev Pair : Type 0
Pair = StepId × Association

abbrev with_step : StepId → Association → Pair
with_step s association = (s, association)

pub numbered-append : (actions : List Target) (n : ℕ) (xs ys : List Pair)
    → numbered actions n (xs ++ ys) ≡ numbered actions n xs ++ numbered actions (n + length xs) ys
numbered-append actions n [] ys = let e : n ≡ n + 0 = omega arith in ap (λ k. numbered actions k ys) e
numbered-append actions n (x ∷ xs) ys =
    let e : suc n + length xs ≡ n + suc (length xs) = omega arith in
    let h = numbered-append actions (suc n) xs ys ∙ ap (λ k. numbered actions (suc n) xs ++ numbered actions k ys) e in
    λ i. record { number = record { 0 = n }; step = x.0; action = number_of actions x.1.target; qualifier = x.1.qualifier } ∷ h i

pub length-numbered : (actions : List Target) (n : ℕ) (xs : List Pair) → length (numbered actions n xs) ≡ length xs
length-numbered actions n [] = refl
length-numbered actions n (x ∷ xs) = ap suc (length-numbered actions (suc n) xs)

pub length-in_text : (s : ℕ) (steps : List Step) → length (in_text s steps) ≡ sum_by (λ step. length step.associations) steps
length-in_text s [] = refl
length-in_text s (step ∷ steps) =
    let id : StepId = record { 0 = s } in
    length-append (map (with_step id) step.associations) (in_text (suc s) steps)
    ∙ (λ i. length-map step.associations (with_step id) i + length-in_text (suc s) steps i)
    ∙ sym (sum_by-cons (λ (step : Step). length step.associations) step steps)

pub numbers_rise : (actions : List Target) (n : ℕ) (xs : List Pair) (k : ℕ) (d : StepAction) → k < length (numbered actions n xs)
    → (get_or (numbered actions n xs) k d).number.0 ≡ n + k
numbers_rise actions n [] k d lt = absurd (omega arith)
numbers_rise actions n (x ∷ xs) zero d lt = omega arith
numbers_rise actions n (x ∷ xs) (suc k) d lt = let rest = numbers_rise actions (suc n) xs k d (omega arith) in omega arith

-- one step more
pub next_step : (actions : List Target) (done : List StepAction) (s : ℕ) (steps : List Step) (step : Step) → s < length steps
    → step ≡ get_or steps s step
    → (done ++ numbered actions (length done)
    (map (λ association. let id : StepId = record { 0 = s } in (id, association)) step.associations))
    ++ numbered actions (length
    (done ++ numbered actions (length done)
    (map (λ association. let id : StepId = record { 0 = s } in (id, association)) step.associations)))
    (in_text (s + 1) (drop (s + 1) steps))
    ≡ done ++ numbered actions (length done) (in_text s (drop s steps))
next_step actions done s steps step lt is =
    let id : StepId = record { 0 = s } in
    let block : List Pair = map (with_step id) step.associations in
    let made = numbered actions (length done) block in
    let next : drop s steps ≡ step ∷ drop (s + 1) steps = rw (← is) at (drop_more steps s step lt) in
    let one : s + 1 ≡ suc s = omega arith in
    let long : length (done ++ made) ≡ length done + length block = length-append done made
    ∙ ap (λ k. length done + k) (length-numbered actions (length done) block) in
    let both = numbered-append actions (length done) block (in_text (suc s) (drop (s + 1) steps)) in
    append_assoc done made (numbered actions (length (done ++ made)) (in_text (s + 1) (drop (s + 1) steps)))
    ∙ (λ i. done ++ (made ++ numbered actions (long i) (in_text (one i) (drop (s + 1) steps))))
    ∙ ap (λ r. done ++ r) (sym both)
    ∙ ap (λ l. done ++ numbered actions (length done) (in_text s l)) (sym next)

-- ---- steps rise

rising_cons : (x : ℕ) (xs : List ℕ) → All (λ y. x ≤ y) xs → IsNonDecreasing xs → IsNonDecreasing (x ∷ xs)
rising_cons x xs all up zero zero d le lt = omega arith
rising_cons x xs all up zero (suc j) d le lt = all j d (omega arith)
rising_cons x xs all up (suc i) zero d le lt = absurd (omega arith)
rising_cons x xs all up (suc i) (suc j) d le lt = up i j d (omega arith) (omega arith)

abbrev step_of : Pair → ℕ
step_of pair = pair.0.0

block_from : (s : ℕ) (block : List Association) (more : List Pair) → All (λ y. s ≤ y) (map step_of more)
    → All (λ y. s ≤ y) (map step_of (map (with_step record { 0 = s }) block ++ more))
block_from s [] more all = all
block_from s (a ∷ block) more all =
    All-cons (λ y. s ≤ y) s (map step_of (map (with_step record { 0 = s }) block ++ more)) (omega arith) (block_from s block more all)

block_rises : (s : ℕ) (block : List Association) (more : List Pair) → All (λ y. s ≤ y) (map step_of more)
    → IsNonDecreasing (map step_of more)
    → IsNonDecreasing (map step_of (map (with_step record { 0 = s }) block ++ more))
block_rises s [] more all up = up
block_rises s (a ∷ block) more all up =
    rising_cons s (map step_of (map (with_step record { 0 = s }) block ++ more)) (block_from s block more all)
    (block_rises s block more all up)

weaker : (s : ℕ) (xs : List ℕ) → All (λ y. suc s ≤ y) xs → All (λ y. s ≤ y) xs
weaker s xs all k d lt = let h = all k d lt in omega arith

text_from : (s : ℕ) (steps : List Step) → All (λ y. s ≤ y) (map step_of (in_text s steps))
text_from s [] = All-nil (λ y. s ≤ y)
text_from s (step ∷ steps) =
    block_from s step.associations (in_text (suc s) steps) (weaker s (map step_of (in_text (suc s) steps)) (text_from (suc s) steps))

nothing_rises : IsNonDecreasing []
nothing_rises i j d le lt = absurd (omega arith)

text_rises : (s : ℕ) (steps : List Step) → IsNonDecreasing (map step_of (in_text s steps))
text_rises s [] = nothing_rises
text_rises s (step ∷ steps) =
    block_rises s step.associations (in_text (suc s) steps) (weaker s (map step_of (in_text (suc s) steps)) (text_from (suc s) steps))
    (text_rises (suc s) steps)

steps_numbered : (actions : List Target) (n : ℕ) (xs : List Pair) → map (λ m. m.step.0) (numbered actions n xs) ≡ map step_of xs
steps_numbered actions n [] = refl
steps_numbered actions n (x ∷ xs) = ap (λ r. x.0.0 ∷ r) (steps_numbered actions (suc n) xs)

from_mapped : (key : StepAction → ℕ) (xs : List StepAction) → IsNonDecreasing (map key xs) → IsNonDecreasingBy key xs
from_mapped key xs up i j d le lt =
    let long : length (map key xs) ≡ length xs = length-map xs key in
    let h = up i j 0 le (omega arith) in
    let a = get_or-map key xs i d 0 (omega arith) in
    let b = get_or-map key xs j d 0 lt in
    omega arith

pub mapped : (key : StepAction → ℕ) (xs : List StepAction) → IsNonDecreasingBy key xs → IsNonDecreasing (map key xs)
mapped key [] up i j d le lt = absurd (omega arith)
mapped key (x ∷ xs) up i j d le lt =
    let long : length (map key (x ∷ xs)) ≡ length (x ∷ xs) = length-map (x ∷ xs) key in
    let a = get_or-map key (x ∷ xs) i x d (omega arith) in
    let b = get_or-map key (x ∷ xs) j x d (omega arith) in
    let h = up i j x le (omega arith) in
    omega arith

pub steps_rise : (actions : List Target) (steps : List Step) → IsNonDecreasingBy (λ m. m.step.0) (numbered actions 0 (in_text 0 steps))
steps_rise actions steps =
    from_mapped (λ m. m.step.0) (numbered actions 0 (in_text 0 steps))
    (subst (λ (xs : List ℕ). IsNonDecreasing xs) (sym (steps_numbered actions 0 (in_text 0 steps))) (text_rises 0 steps))

-- ---- how many are left

pub steps_left : (steps : List Step) (s : ℕ) (step : Step) → s < length steps → step ≡ get_or steps s step
    → length step.associations + sum_by (λ (x : Step). length x.associations) (drop (s + 1) steps)
    ≡ sum_by (λ (x : Step). length x.associations) (drop s steps)
steps_left steps s step lt is =
    let next : drop s steps ≡ step ∷ drop (s + 1) steps = rw (← is) at (drop_more steps s step lt) in
    sym (ap (sum_by (λ (x : Step). length x.associations)) next
    ∙ sum_by-cons (λ (x : Step). length x.associations) step (drop (s + 1) steps))
