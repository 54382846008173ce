-- The cleared set by its members in rank order.
use Rattle.std.proofs.Common.{◌≡◌, ℕ, zero, suc, ◌+◌, ◌<◌, ◌≤◌, ◌==◌, ◌||◌, ◌&&◌, Bool, true}
use Rattle.std.proofs.Common.{false, cond, List, [], ◌∷◌, length, get_or, refl, sym, subst, ◌∙◌, ap, arith}
use Rattle.std.specs.Prelude.{map, replicate, slice_set, All, nat_eq}
use Rattle.std.specs.List.{list_any, range_with_len, IsDistinct, AllByRecursion}
use Rattle.std.specs.List.Sorted.{IsPermutation}
use Rattle.std.proofs.lemmas.Bool.{ne_eqb}
use Rattle.std.proofs.lemmas.Bool.Decides.{nat_tests}
use Rattle.std.proofs.lemmas.List.{length-map, get_or-map, length-set, length-replicate, ext_get_or}
use Rattle.std.proofs.lemmas.List.Elements.{All-head, All-tail, All-map}
use Rattle.std.proofs.lemmas.List.FromFn.{length-map-range_with_len}
use Rattle.std.proofs.lemmas.List.Sorted.{IsPermutation-map, length_permutation, list_any-IsPermutation}
use Rattle.std.proofs.lemmas.Map.Keys.{IsDistinct-IsPermutation, IsDistinct-head, IsDistinct-tail, apart_from_distinct}
use Rattle.sfc_base.specs.declared.references.StepId.{StepId}
use Rattle.sfc_flags.specs.Flags.{flag}
use Rattle.sfc_base.specs.declared.ids.TransitionId.{TransitionId}
use Rattle.sfc_tables.specs.Ranks.{transitions_to}
use Rattle.sfc_tables.specs.Tables.{Sides, Tabled, AreTables, sides_at}
use Rattle.sfc_evolve.specs.Private.Keeping.{AllBelow}
use Rattle.sfc_evolve.specs.Marks.{marked}
use Rattle.sfc_evolve.specs.Clearing.{step_count, transition_count, preceding_of, is_enabled, cleared_in, cleared_set, of_rank, shares, MayClear, IsClearedSet}
use Rattle.sfc_evolve.proofs.Cleared.{Entry, before, condition_at, cleared_from, clears, is_used, AreWithin, Reason, Chosen, chosen, only}
use Rattle.sfc_evolve.proofs.FirstScan.{length-cleared_set}
use Rattle.sfc_evolve.proofs.Flagged.{one_set}
use Rattle.sfc_evolve.proofs.Next.{none_set}
use Rattle.sfc_evolve.proofs.TableFacts.{ranked_below, all_preceding_below}

abbrev entry : List Sides → List Bool → TransitionId → Entry
entry sides conditions tr = record { preceding = (sides_at sides tr).preceding; condition = flag conditions tr.0 }

-- these flags at the places of these transitions
abbrev placed : List TransitionId → List Bool → List Bool → List Bool
placed [] bits flags = flags
placed (tr ∷ ranked) [] flags = flags
placed (tr ∷ ranked) (b ∷ bits) flags = placed ranked bits (slice_set flags tr.0 b)

pass_is : (sides : List Sides) (x : ℕ → Bool) (conditions : List Bool) (ranked : List TransitionId) (used flags : List Bool)
    → cleared_in sides x conditions ranked used flags ≡ placed ranked (cleared_from x (map (entry sides conditions) ranked) used) flags
pass_is sides x conditions [] used flags = refl
pass_is sides x conditions (tr ∷ ranked) used flags =
    let go = clears x (entry sides conditions tr) used in
    pass_is sides x conditions ranked (cond go (marked (sides_at sides tr).preceding used) used) (slice_set flags tr.0 go)

abbrev is_at : ℕ → TransitionId → Bool
is_at s tr = tr.0 == s

-- flags that are read where they are placed stay
placed_back : (m : ℕ) (set : List Bool) (ranked : List TransitionId) (flags : List Bool) (s : ℕ) → length flags ≡ m
    → All (λ (tr : TransitionId). tr.0 < m) ranked
    → flag (placed ranked (map (λ tr. flag set tr.0) ranked) flags) s ≡ cond (list_any (is_at s) ranked) (flag set s) (flag flags s)
placed_back m set [] flags s long below = refl
placed_back m set (tr ∷ ranked) flags s long below =
    let here = All-head (λ (tr : TransitionId). tr.0 < m) tr ranked below in
    placed_back m set ranked (slice_set flags tr.0 (flag set tr.0)) s (length-set _ _ _ ∙ long)
    (All-tail (λ (tr : TransitionId). tr.0 < m) tr ranked below)
    ∙ ap (λ b. cond (list_any (is_at s) ranked) (flag set s) b) (one_set flags (flag set tr.0) tr.0 s (omega arith))
    ∙ both (list_any (is_at s) ranked) (tr.0 == s) (flag set s) (flag set tr.0) (flag flags s)
    (λ e. let same : tr.0 ≡ s = grind (arith, nat_tests) in ap (flag set) same)
  where
    both : (h e x y k : Bool) → (e ≡ true → y ≡ x) → cond h x (cond e y k) ≡ cond (e || h) x k
    both true true x y k same = refl
    both true false x y k same = refl
    both false true x y k same = same refl
    both false false x y k same = refl

length-placed : (ranked : List TransitionId) (bits flags : List Bool) → length (placed ranked bits flags) ≡ length flags
length-placed [] bits flags = refl
length-placed (tr ∷ ranked) [] flags = refl
length-placed (tr ∷ ranked) (b ∷ bits) flags = length-placed ranked bits (slice_set flags tr.0 b) ∙ length-set _ _ _

-- ---- each transition has one rank

abbrev number : TransitionId → ℕ
number tr = tr.0

far : (j i n : ℕ) → j < i → AllByRecursion (λ y. (j == y) ≡ false) (range_with_len i n)
far j i zero lt = tt
far j i (suc n) lt = (ne_eqb j i (λ same. omega arith), far j (i + 1) n (omega arith))

distinct : (i n : ℕ) → IsDistinct nat_eq (range_with_len i n)
unfolding IsDistinct
distinct i zero = tt
distinct i (suc n) = (far i (i + 1) n (omega arith), distinct (i + 1) n)

flips : (x y : ℕ) → nat_eq x y ≡ nat_eq y x
flips x y = grind (arith, nat_tests)

abbrev id_of : ℕ → TransitionId
id_of i = record { 0 = i }

numbers_back : (xs : List ℕ) → map number (map id_of xs) ≡ xs
numbers_back [] = refl
numbers_back (x ∷ xs) = ap (λ r. x ∷ r) (numbers_back xs)

module _ (tables : Tabled) (sound : AreTables tables) where
  numbers : IsPermutation (range_with_len 0 (transition_count tables)) (map number tables.ranked)
  numbers = rw (numbers_back (range_with_len 0 (transition_count tables))) at
      (IsPermutation-map number (transitions_to (transition_count tables)) tables.ranked sound.ranked)

  ranks_distinct : IsDistinct nat_eq (map number tables.ranked)
  ranks_distinct = IsDistinct-IsPermutation nat_eq flips (range_with_len 0 (transition_count tables)) (map number tables.ranked) numbers
      (distinct 0 (transition_count tables))

  pub ranks_long : length tables.ranked ≡ transition_count tables
  ranks_long =
      length_permutation (transitions_to (transition_count tables)) tables.ranked sound.ranked
      ∙ length-map-range_with_len id_of 0 (transition_count tables)

-- a place that none of these has stays
untouched : (ranked : List TransitionId) (bits flags : List Bool) (s : ℕ) → AllByRecursion (λ y. nat_eq s y ≡ false) (map number ranked)
    → flag (placed ranked bits flags) s ≡ flag flags s
untouched [] bits flags s none = refl
untouched (tr ∷ ranked) [] flags s none = refl
untouched (tr ∷ ranked) (b ∷ bits) flags s none = untouched ranked bits (slice_set flags tr.0 b) s none.1
    ∙ other_place flags b tr.0 s none.0
  where
    other_place : (flags : List Bool) (b : Bool) (p s : ℕ) → (s == p) ≡ false → flag (slice_set flags p b) s ≡ flag flags s
    other_place [] b p s e = refl
    other_place (f ∷ flags) b zero zero e = absurd (let bad : true ≡ false = e in cc)
    other_place (f ∷ flags) b zero (suc s) e = refl
    other_place (f ∷ flags) b (suc p) zero e = refl
    other_place (f ∷ flags) b (suc p) (suc s) e = let t : (s == p) ≡ false = grind (arith, nat_tests) in other_place flags b p s t

-- what was placed is read back
bits_back : (m : ℕ) (ranked : List TransitionId) (bits flags : List Bool) → length bits ≡ length ranked → length flags ≡ m
    → All (λ (tr : TransitionId). tr.0 < m) ranked
    → IsDistinct nat_eq (map number ranked) → map (λ tr. flag (placed ranked bits flags) tr.0) ranked ≡ bits
bits_back m [] [] flags same long below apart = refl
bits_back m [] (b ∷ bits) flags same long below apart = absurd (omega arith)
bits_back m (tr ∷ ranked) [] flags same long below apart = absurd (omega arith)
bits_back m (tr ∷ ranked) (b ∷ bits) flags same long below apart =
    let here = All-head (λ (tr : TransitionId). tr.0 < m) tr ranked below in
    let first : flag (placed ranked bits (slice_set flags tr.0 b)) tr.0 ≡ b =
    untouched ranked bits (slice_set flags tr.0 b) tr.0 (IsDistinct-head nat_eq tr.0 (map number ranked) apart)
    ∙ one_set flags b tr.0 tr.0 (omega arith)
    ∙ (let t : (tr.0 == tr.0) ≡ true = grind (arith, nat_tests) in rw t refl) in
    let rest = bits_back m ranked bits (slice_set flags tr.0 b) (omega arith) (length-set _ _ _ ∙ long)
    (All-tail (λ (tr : TransitionId). tr.0 < m) tr ranked below)
    (IsDistinct-tail nat_eq tr.0 (map number ranked) apart) in
    λ i. first i ∷ rest i

-- ---- the set and its members in rank order

named : (a n s : ℕ) → a ≤ s → s < a + n → list_any (is_at s) (map id_of (range_with_len a n)) ≡ true
named a zero s le lt = absurd (omega arith)
named a (suc n) s le lt = by (a == s) refl (λ more. named (a + 1) n s more (omega arith))
  where
    by : (b : Bool) → (a == s) ≡ b → (a + 1 ≤ s → list_any (is_at s) (map id_of (range_with_len (a + 1) n)) ≡ true)
        → (b || list_any (is_at s) (map id_of (range_with_len (a + 1) n))) ≡ true
    by true e rest = refl
    by false e rest = rest (grind (arith, nat_tests))

abbrev first_id : TransitionId
first_id = record { 0 = 0 }

-- no transition has two ranks
pub one_rank : (tables : Tabled) → AreTables tables → (i j : ℕ) → i < j → j < transition_count tables
    → (of_rank tables i == of_rank tables j) ≡ false
one_rank tables sound i j less lt =
    let long = ranks_long tables sound in
    let first : get_or (map number tables.ranked) i 0 ≡ of_rank tables i = get_or-map number tables.ranked i first_id 0 (omega arith) in
    let second : get_or (map number tables.ranked) j 0 ≡ of_rank tables j = get_or-map number tables.ranked j first_id 0 (omega arith) in
    (λ k. nat_eq (sym first k) (sym second k))
    ∙ apart_from_distinct nat_eq (map number tables.ranked) i j 0 (ranks_distinct tables sound) less
    (omega (arith, long, length-map tables.ranked number))

abbrev members : List Bool → List TransitionId → List Bool
members set ranked = map (λ tr. flag set tr.0) ranked

entry_before : (sides : List Sides) (conditions : List Bool) (ranked : List TransitionId) (j : ℕ) → j < length ranked
    → before (map (entry sides conditions) ranked) j ≡ preceding_of sides (get_or ranked j first_id).0
entry_before sides conditions [] j lt = absurd (omega arith)
entry_before sides conditions (tr ∷ ranked) zero lt = refl
entry_before sides conditions (tr ∷ ranked) (suc j) lt = entry_before sides conditions ranked j (omega arith)

entry_condition : (sides : List Sides) (conditions : List Bool) (ranked : List TransitionId) (j : ℕ) → j < length ranked
    → condition_at (map (entry sides conditions) ranked) j ≡ flag conditions (get_or ranked j first_id).0
entry_condition sides conditions [] j lt = absurd (omega arith)
entry_condition sides conditions (tr ∷ ranked) zero lt = refl
entry_condition sides conditions (tr ∷ ranked) (suc j) lt = entry_condition sides conditions ranked j (omega arith)

entries_within : (n : ℕ) (sides : List Sides) (conditions : List Bool) → ((tr : TransitionId) → AllBelow n (sides_at sides tr).preceding)
    → (ranked : List TransitionId)
    → AreWithin n (map (entry sides conditions) ranked)
entries_within n sides conditions within ranked =
    All-map (λ (e : Entry). AllBelow n e.preceding) (entry sides conditions) ranked (λ k d lt. within (get_or ranked k d))

none_used : (n : ℕ) (q : List StepId) → list_any (is_used (replicate n false)) q ≡ false
none_used n [] = refl
none_used n (s ∷ q) = let here : flag (replicate n false) s.0 ≡ false = none_set n s.0 in rw (here, none_used n q) refl

module _ (tables : Tabled) (sound : AreTables tables) (x : ℕ → Bool) (conditions : List Bool) where
  abbrev trs : List Entry
  trs = map (entry tables.sides conditions) tables.ranked

  abbrev unused : List Bool
  unused = replicate (step_count tables) false

  abbrev uncleared : List Bool
  uncleared = replicate (transition_count tables) false

  abbrev pre : ℕ → List StepId
  pre j = preceding_of tables.sides (of_rank tables j)

  -- the pass places what it clears in rank order
  set_is : cleared_set tables x conditions ≡ placed tables.ranked (cleared_from x trs unused) uncleared
  set_is = pass_is tables.sides x conditions tables.ranked unused uncleared

  all_within : AreWithin (step_count tables) trs
  all_within = entries_within (step_count tables) tables.sides conditions (all_preceding_below tables sound) tables.ranked

  entries_long : length trs ≡ transition_count tables
  entries_long = length-map tables.ranked (entry tables.sides conditions) ∙ ranks_long tables sound

  module _ (set : List Bool) where
    bit_at : (j : ℕ) → j < transition_count tables → flag (members set tables.ranked) j ≡ flag set (of_rank tables j)
    bit_at j lt = get_or-map (λ (tr : TransitionId). flag set tr.0) tables.ranked j first_id false
        (let e = ranks_long tables sound in omega arith)

    before_at : (j : ℕ) → j < transition_count tables → before trs j ≡ pre j
    before_at j lt = entry_before tables.sides conditions tables.ranked j (let e = ranks_long tables sound in omega arith)

    condition_of : (j : ℕ) → j < transition_count tables → condition_at trs j ≡ flag conditions (of_rank tables j)
    condition_of j lt = entry_condition tables.sides conditions tables.ranked j (let e = ranks_long tables sound in omega arith)

    to_reason : (j : ℕ) → j < transition_count tables → MayClear tables x conditions set j
        → Reason x trs unused (members set tables.ranked) j
    to_reason j lt m = record {
      enabled = ap (is_enabled x) (before_at j lt) ∙ m.enabled;
      condition = condition_of j lt ∙ m.condition;
      unused = none_used (step_count tables) (before trs j);
      first = λ u less on. (λ i. shares (before_at u (omega arith) i) (before_at j lt i))
          ∙ m.first u less (sym (bit_at u (omega arith)) ∙ on);
    }

    from_reason : (j : ℕ) → j < transition_count tables → Reason x trs unused (members set tables.ranked) j
        → MayClear tables x conditions set j
    from_reason j lt r = record {
      enabled = ap (is_enabled x) (sym (before_at j lt)) ∙ r.enabled;
      condition = sym (condition_of j lt) ∙ r.condition;
      first = λ i less on. (λ k. shares (sym (before_at i (omega arith)) k) (sym (before_at j lt) k))
          ∙ r.first i less (bit_at i (omega arith) ∙ on);
    }

    to_chosen : IsClearedSet tables x conditions set → Chosen x trs unused (members set tables.ranked)
    to_chosen k = record {
      sized = length-map tables.ranked (λ (tr : TransitionId). flag set tr.0) ∙ ranks_long tables sound ∙ sym entries_long;
      each = λ j less.
          let lt : j < transition_count tables = let e = entries_long in omega arith in (
            (λ on. to_reason j lt ((k.each j lt).0 (sym (bit_at j lt) ∙ on))),
            λ r. bit_at j lt ∙ (k.each j lt).1 (from_reason j lt r),
          );
    }

    from_chosen : length set ≡ transition_count tables → Chosen x trs unused (members set tables.ranked)
        → IsClearedSet tables x conditions set
    from_chosen sized k = record {
      sized = sized;
      each = λ j lt.
          let less : j < length trs = let e = entries_long in omega arith in (
            (λ on. from_reason j lt ((k.each j less).0 (bit_at j lt ∙ on))),
            λ m. sym (bit_at j lt) ∙ (k.each j less).1 (to_reason j lt m),
          );
    }

    pub chosen_set : set ≡ cleared_set tables x conditions → IsClearedSet tables x conditions set
    chosen_set e =
        let bits = cleared_from x trs unused in
        let k = chosen (step_count tables) x trs unused all_within (length-replicate (step_count tables) false) in
        let long : length set ≡ transition_count tables = ap length e ∙ length-cleared_set tables x conditions in
        let back : members (placed tables.ranked bits uncleared) tables.ranked ≡ bits =
        bits_back (transition_count tables) tables.ranked bits uncleared
        (k.sized ∙ length-map tables.ranked (entry tables.sides conditions))
        (length-replicate (transition_count tables) false) (ranked_below tables sound) (ranks_distinct tables sound) in
        let same : members set tables.ranked ≡ bits = ap (λ s. members s tables.ranked) (e ∙ set_is) ∙ back in
        from_chosen long (subst (λ (b : List Bool). Chosen x trs unused b) (sym same) k)

    pub only_set : IsClearedSet tables x conditions set → set ≡ cleared_set tables x conditions
    only_set k =
        let m = transition_count tables in
        let bits : members set tables.ranked ≡ cleared_from x trs unused =
        only (step_count tables) x trs unused (members set tables.ranked) all_within (length-replicate (step_count tables) false)
        (to_chosen k) in
        let whole : placed tables.ranked (members set tables.ranked) uncleared ≡ cleared_set tables x conditions =
        ap (λ b. placed tables.ranked b uncleared) bits ∙ sym set_is in
        let long : length set ≡ length (placed tables.ranked (members set tables.ranked) uncleared) =
        k.sized ∙ sym (length-placed tables.ranked (members set tables.ranked) uncleared ∙ length-replicate m false) in
        ext_get_or false set (placed tables.ranked (members set tables.ranked) uncleared) long (λ s lt.
        let ranked : list_any (is_at s) tables.ranked ≡ true =
        sym (list_any-IsPermutation (is_at s) (transitions_to m) tables.ranked sound.ranked)
        ∙ named 0 m s (omega arith) (let e = k.sized in omega arith) in
        sym (placed_back m set tables.ranked uncleared s (length-replicate m false) (ranked_below tables sound)
        ∙ ap (λ b. cond b (flag set s) (flag uncleared s)) ranked))
        ∙ whole

-- a transition that shares no preceding step with another is cleared as if it were alone
module _ (tables : Tabled) (sound : AreTables tables) (x : ℕ → Bool) (conditions : List Bool) (j : ℕ)
    (lt : j < transition_count tables) where
  pub alone : ((i : ℕ) → i < j
      → shares (preceding_of tables.sides (of_rank tables i)) (preceding_of tables.sides (of_rank tables j)) ≡ false)
      → flag (cleared_set tables x conditions) (of_rank tables j)
      ≡ (is_enabled x (preceding_of tables.sides (of_rank tables j)) && flag conditions (of_rank tables j))
  alone apart =
      let set = cleared_set tables x conditions in
      let k = chosen_set tables sound x conditions set refl in
      both (flag set (of_rank tables j)) (is_enabled x (preceding_of tables.sides (of_rank tables j))) (flag conditions (of_rank tables j))
      (λ on. let m = (k.each j lt).0 on in (m.enabled, m.condition))
      (λ e c. (k.each j lt).1 record { enabled = e; condition = c; first = λ i less on. apart i less })
    where
      both : (f e c : Bool) → (f ≡ true → (e ≡ true) × (c ≡ true)) → (e ≡ true → c ≡ true → f ≡ true) → f ≡ (e && c)
      both true e c to from = let p = to refl in rw (p.0, p.1) refl
      both false true true to from = from refl refl
      both false true false to from = refl
      both false false c to from = refl
