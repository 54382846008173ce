-- The next multiple of an interval, which a slot keeps.
use Rattle.std.proofs.Common.{◌≡◌, ℕ, zero, suc, ◌+◌, ◌-◌, ◌*◌, ◌/◌, ◌<◌, ◌≤◌, ◌^◌, arith, List, [], ◌∷◌, ◌++◌, length, ℤ, pos, negsuc, ◌≤ℤ◌, ◌<ℤ◌, Some, None, Bool, true, false, refl, sym, ◌∙◌, ap, subst, unsigned_abs, to_z, w64}
use Rattle.std.proofs.Math.Nat.{mul-add-div_right}
use Rattle.std.proofs.lemmas.Bool.Decides.{nat_tests}
use Rattle.std.proofs.lemmas.Int.{ints, to_z_pos}
use Rattle.sfc_tasks.specs.declared.task_slot.TaskSlot.{TaskSlot}
use Rattle.sfc_tasks.specs.Multiples.{multiple, multiples_to, multiples_from, multiples_between}
use Rattle.sfc_tasks.specs.Releases.{first_of}
use Rattle.sfc_tasks.specs.Private.Keeping.{HoldsReleases, IsAhead, elapsed_releases, upcoming_after}
use Rattle.sfc_tasks.proofs.MultipleLemmas.{after_t, count_is}
use Rattle.sfc_tasks.proofs.Gained.{length-multiples_from, first_of_multiples}

-- ---- the next multiple

upcoming_is : (i : ℕ) (t : ℤ) → upcoming_after (pos (suc i)) t ≡ multiples_to (pos (suc i)) t * suc i
upcoming_is i t = grind (arith, nat_tests)

-- where it is an instant there is an interval
pub some_interval : (interval last : ℤ) (next n : ℕ) → next ≡ upcoming_after interval last → next ≤ n → n ≤ 2 ^ 62 → pos 0 <ℤ interval
some_interval (pos zero) last next n e le high = absurd (omega (arith, e, le, high))
some_interval (negsuc i) last next n e le high = absurd (omega (arith, e, le, high))
some_interval (pos (suc i)) last next n e le high = omega (arith, ints)

-- before it no multiple comes
pub none_until : (interval last t : ℤ) (next : ℕ) → next ≡ upcoming_after interval last → t <ℤ pos next
    → multiples_to interval t - multiples_to interval last ≡ 0
none_until (pos zero) last t next e lt = refl
none_until (negsuc i) last t next e lt = refl
none_until (pos (suc i)) last t next e lt =
    let some : pos 0 <ℤ pos (suc i) = omega (arith, ints) in
    let n : ℕ = multiples_to (pos (suc i)) last in
    let is : next ≡ n * suc i = e ∙ upcoming_is i last in
    let before : t <ℤ multiple (pos (suc i)) n = subst (λ (x : ℕ). t <ℤ pos x) is lt in
    let le = (after_t (pos (suc i)) t n some).0 before in
    omega (arith, le)

-- until then it stays the next one
pub still_ahead : (interval last t : ℤ) (next : ℕ) → next ≡ upcoming_after interval last → last ≤ℤ t → t <ℤ pos next
    → next ≡ upcoming_after interval t
still_ahead (pos zero) last t next e on lt = e
still_ahead (negsuc i) last t next e on lt = e
still_ahead (pos (suc i)) last t next e on lt =
    let some : pos 0 <ℤ pos (suc i) = omega (arith, ints) in
    let n : ℕ = multiples_to (pos (suc i)) last in
    let m : ℕ = multiples_to (pos (suc i)) t in
    let is : next ≡ n * suc i = e ∙ upcoming_is i last in
    let before : t <ℤ multiple (pos (suc i)) n = subst (λ (x : ℕ). t <ℤ pos x) is lt in
    let le : m ≤ n = (after_t (pos (suc i)) t n some).0 before in
    let reflexive : m ≤ m = omega arith in
    let over : t <ℤ multiple (pos (suc i)) m = (after_t (pos (suc i)) t m some).1 reflexive in
    let back : n ≤ m = (after_t (pos (suc i)) last m some).0 (omega (arith, ints, on, over)) in
    let same : n ≡ m = omega (arith, le, back) in
    is ∙ ap (λ (x : ℕ). x * suc i) same ∙ sym (upcoming_is i t)

-- ---- where it is reached

-- so many multiples there are then
reached : (n t i : ℕ) → n * suc i ≤ t → t / suc i + 1 ≡ n + (t - n * suc i) / suc i + 1
reached n t i le =
    let some : 0 < suc i = omega arith in
    let whole : n * suc i + (t - n * suc i) ≡ t = omega (arith, le) in
    ap (λ (x : ℕ). x / suc i + 1) (sym whole) ∙ ap (λ (x : ℕ). x + 1) (mul-add-div_right some n (t - n * suc i))

rows : (n k i : ℕ) → n * suc i + (k * suc i + suc i) ≡ (n + k + 1) * suc i
rows n k i = grind arith

-- how many come from it on
counted_from : (interval last : ℤ) (next t : ℕ) → pos 0 <ℤ interval → next ≡ upcoming_after interval last → next ≤ t
    → multiples_to interval (pos t) - multiples_to interval last ≡ (t - next) / unsigned_abs interval + 1
counted_from (pos zero) last next t some e le = absurd (omega (arith, ints, some))
counted_from (negsuc i) last next t some e le = absurd (omega (arith, ints, some))
counted_from (pos (suc i)) last next t some e le =
    let n : ℕ = multiples_to (pos (suc i)) last in
    let is : next ≡ n * suc i = e ∙ upcoming_is i last in
    let at : n * suc i ≤ t = omega (arith, is, le) in
    let count : multiples_to (pos (suc i)) (pos t) ≡ n + (t - n * suc i) / suc i + 1 = count_is i t ∙ reached n t i at in
    let behind : (t - next) / suc i ≡ (t - n * suc i) / suc i = ap (λ (x : ℕ). (t - x) / suc i) is in
    omega (arith, count, behind)

-- which one is the next then
next_at : (interval last : ℤ) (next t : ℕ) → pos 0 <ℤ interval → next ≡ upcoming_after interval last → next ≤ t
    → next + ((t - next) / unsigned_abs interval * unsigned_abs interval + unsigned_abs interval) ≡ upcoming_after interval (pos t)
next_at (pos zero) last next t some e le = absurd (omega (arith, ints, some))
next_at (negsuc i) last next t some e le = absurd (omega (arith, ints, some))
next_at (pos (suc i)) last next t some e le =
    let n : ℕ = multiples_to (pos (suc i)) last in
    let is : next ≡ n * suc i = e ∙ upcoming_is i last in
    let at : n * suc i ≤ t = omega (arith, is, le) in
    let count : multiples_to (pos (suc i)) (pos t) ≡ n + (t - n * suc i) / suc i + 1 = count_is i t ∙ reached n t i at in
    ap (λ (x : ℕ). x + ((t - x) / suc i * suc i + suc i)) is
    ∙ rows n ((t - n * suc i) / suc i) i
    ∙ ap (λ (x : ℕ). x * suc i) (sym count)
    ∙ sym (upcoming_is i (pos t))

next_from : (interval last t : ℤ) (next : ℕ) → pos 0 ≤ℤ t → pos 0 <ℤ interval → next ≡ upcoming_after interval last
    → next ≤ unsigned_abs t
    → next + ((unsigned_abs t - next) / unsigned_abs interval * unsigned_abs interval + unsigned_abs interval) ≡ upcoming_after interval t
next_from interval last (pos t) next low some e le = next_at interval last next t some e le
next_from interval last (negsuc t) next low some e le = absurd (omega (arith, ints, low))

-- the same where each part is known by another name
pub next_is : (interval last t : ℤ) (next until size beyond : ℕ) → until ≡ unsigned_abs t → size ≡ unsigned_abs interval
    → beyond ≡ (until - next) / size → pos 0 ≤ℤ t → pos 0 <ℤ interval → next ≡ upcoming_after interval last → next ≤ unsigned_abs t
    → next + (beyond * size + size) ≡ upcoming_after interval t
next_is interval last t next until size beyond u s b low some e le =
    ap (λ (x : ℕ). next + (x * size + size)) (b ∙ ap (λ (x : ℕ). (x - next) / size) u)
    ∙ ap (λ (x : ℕ). next + ((unsigned_abs t - next) / x * x + x)) s
    ∙ next_from interval last t next low some e le

-- ---- what is gained

first_at : (interval last : ℤ) (next n : ℕ) → pos 0 <ℤ interval → next ≡ upcoming_after interval last → 0 < n
    → first_of (multiples_from interval (multiples_to interval last) n) ≡ Some (pos next)
first_at (pos zero) last next n some e lt = absurd (omega (arith, ints, some))
first_at (negsuc i) last next n some e lt = absurd (omega (arith, ints, some))
first_at (pos (suc i)) last next n some e lt =
    first_of_multiples (pos (suc i)) (multiples_to (pos (suc i)) last) n lt ∙ ap (λ (x : ℕ). Some (pos x)) (sym (e ∙ upcoming_is i last))

single_off : (interval last t : ℤ) (single : Bool) → single ≡ false
    → elapsed_releases interval last t single ≡ multiples_between interval last t
single_off interval last t single e = ap (λ (b : Bool). elapsed_releases interval last t b) e

-- the first of them is the next multiple
pub first_elapsed : (interval last t : ℤ) (single : Bool) (next : ℕ) → single ≡ false → pos 0 ≤ℤ t → pos 0 <ℤ interval
    → next ≡ upcoming_after interval last → next ≤ unsigned_abs t
    → first_of (elapsed_releases interval last t single) ≡ Some (pos next)
first_elapsed interval last (pos t) single next off low some e le =
    let count = counted_from interval last next t some e le in
    ap first_of (single_off interval last (pos t) single off)
    ∙ first_at interval last next (multiples_to interval (pos t) - multiples_to interval last) some e (omega (arith, count))
first_elapsed interval last (negsuc t) single next off low some e le = absurd (omega (arith, ints, low))

-- and so many are beyond it
pub count_elapsed : (interval last t : ℤ) (single : Bool) (next : ℕ) → single ≡ false → pos 0 ≤ℤ t → pos 0 <ℤ interval
    → next ≡ upcoming_after interval last → next ≤ unsigned_abs t
    → length (elapsed_releases interval last t single) ≡ (unsigned_abs t - next) / unsigned_abs interval + 1
count_elapsed interval last (pos t) single next off low some e le =
    ap length (single_off interval last (pos t) single off)
    ∙ length-multiples_from interval (multiples_to interval last) (multiples_to interval (pos t) - multiples_to interval last)
    ∙ counted_from interval last next t some e le
count_elapsed interval last (negsuc t) single next off low some e le = absurd (omega (arith, ints, low))

-- the instant is before it
pub is_before : (t : ℤ) (next : ℕ) → pos 0 ≤ℤ t → unsigned_abs t < next → t <ℤ pos next
is_before (pos t) next low lt = omega (arith, ints, lt)
is_before (negsuc t) next low lt = absurd (omega (arith, ints, low))

pub abs_high : (t : ℤ) → pos 0 ≤ℤ t → t ≤ℤ pos (2 ^ 62) → unsigned_abs t ≤ 2 ^ 62
abs_high (pos t) low high = omega (arith, ints, high)
abs_high (negsuc t) low high = absurd (omega (arith, ints, low))

-- none comes before it, and none while SINGLE reads TRUE
pub none_elapsed : (interval last t : ℤ) (single : Bool) (next : ℕ) → next ≡ upcoming_after interval last → t <ℤ pos next
    → elapsed_releases interval last t single ≡ []
none_elapsed interval last t true next e lt = refl
none_elapsed interval last t false next e lt =
    ap (λ (x : ℕ). multiples_from interval (multiples_to interval last) x) (none_until interval last t next e lt)

-- ---- since when a task waits

pub since_before : (slot : TaskSlot) (waited us : List ℤ) (s : ℤ) → slot.since ≡ Some s → HoldsReleases slot waited
    → Some s ≡ first_of (waited ++ us)
since_before slot [] us s e h = absurd (let f = h.since in cc)
since_before slot (x ∷ xs) us s e h = sym e ∙ h.since

since_first : (slot : TaskSlot) (waited us : List ℤ) → slot.since ≡ None → HoldsReleases slot waited
    → first_of us ≡ first_of (waited ++ us)
since_first slot [] us e h = refl
since_first slot (x ∷ xs) us e h = absurd (let f = h.since in cc)

pub since_none : (slot : TaskSlot) (waited us : List ℤ) → slot.since ≡ None → us ≡ [] → HoldsReleases slot waited
    → None ≡ first_of (waited ++ us)
since_none slot waited us e none h = sym (ap first_of none) ∙ since_first slot waited us e h

pub since_next : (slot : TaskSlot) (waited : List ℤ) (last t : ℤ) (single : Bool) → slot.since ≡ None → single ≡ false
    → pos 0 ≤ℤ t → t ≤ℤ pos (2 ^ 62) → slot.next ≤ unsigned_abs t → IsAhead slot last → HoldsReleases slot waited
    → Some (to_z w64 slot.next) ≡ first_of (waited ++ elapsed_releases slot.interval last t single)
since_next slot waited last t single e off low high le ahead h =
    let top : unsigned_abs t ≤ 2 ^ 62 = abs_high t low high in
    let some = some_interval slot.interval last slot.next (unsigned_abs t) ahead le top in
    ap Some (to_z_pos w64 slot.next (omega (arith, le, top)))
    ∙ sym (first_elapsed slot.interval last t single slot.next off low some ahead le)
    ∙ since_first slot waited (elapsed_releases slot.interval last t single) e h
