-- Conditions that are watched, gone through one after the other.
use Rattle.std.proofs.Common.{◌≡◌, ◌∙◌, ◌<◌, ◌≤◌, ◌+◌, refl, sym, ap, arith, ℕ, suc, add-one, Bool, true, false, ◌&&◌, ◌||◌, List, [], ◌∷◌, ◌++◌, length, take, drop, get_or, drop-cons, ℤ}
use Rattle.std.proofs.Math.ListN.{set}
use Rattle.std.proofs.Math.Seq.{take-append_seam, take-suc-set}
use Rattle.std.proofs.lemmas.List.{drop-set-lt, drop_all, map-append, take_all}
use Rattle.std.specs.Prelude.{map, not, Option}
use Rattle.sfc_judge.specs.declared.pending.Watched.{Watched}
use Rattle.sfc_replay.specs.sfc_debug.Steered.{Steered}
use Rattle.sfc_cases.specs.declared.watch.Response.{Response}
use Rattle.sfc_cases.specs.declared.watch.Steady.{Steady}
use Rattle.sfc_cases.specs.declared.watch.Watch.{Watch}
use Rattle.sfc_cases.specs.declared.watch.Watch.TheVariants.{Stays, Responds}
use Rattle.sfc_judge.specs.Holding.{due_behind, held, is_late, is_over, responds, stays}
use Rattle.sfc_judge.specs.Moments.{Moment, reads}
use Rattle.sfc_judge.specs.Running.Watching.{Held, LooksAt, all_held, as_held, first_held, still_by, still_held}

and_assoc : (a b c : Bool) → (a && (b && c)) ≡ ((a && b) && c)
and_assoc true b c = refl
and_assoc false b c = refl

and_true : (a : Bool) → (a && true) ≡ a
and_true true = refl
and_true false = refl

pub and_false : (a : Bool) → (a && false) ≡ false
and_false true = refl
and_false false = refl

pub all_appended : (st : Steered) (ms : List Moment) (hs ks : List Held) → all_held st (hs ++ ks) ms ≡ (all_held st hs ms && all_held st ks ms)
all_appended st ms [] ks = refl
all_appended st ms (h ∷ hs) ks = ap (λ t. still_held st ms h && t) (all_appended st ms hs ks) ∙ and_assoc (still_held st ms h) (all_held st hs ms) (all_held st ks ms)

pub all_with : (st : Steered) (ms : List Moment) (hs : List Held) (h : Held) → all_held st (hs ++ h ∷ []) ms ≡ (all_held st hs ms && still_held st ms h)
all_with st ms hs h = all_appended st ms hs (h ∷ []) ∙ ap (λ t. all_held st hs ms && t) (and_true (still_held st ms h))

-- ---- one that is looked at

-- a: over before, b: over now, r: it reads as it has to, s: it holds from here on
steady_on : (a b r s over : Bool) → over ≡ (a || b) → (over || r) ≡ true → (a || (b || (r && s))) ≡ (over || s)
steady_on true b r s over e t = sym (ap (λ o. o || s) e)
steady_on false true r s over e t = sym (ap (λ o. o || s) e)
steady_on false false true s over e t = sym (ap (λ o. o || s) e)
steady_on false false false s over e t = let bad : false ≡ true = sym (ap (λ o. o || false) e) ∙ t in absurd cc

steady_off : (a b r s over : Bool) → over ≡ (a || b) → (over || r) ≡ false → (a || (b || (r && s))) ≡ false
steady_off true b r s over e t = let bad : true ≡ false = sym (ap (λ o. o || r) e) ∙ t in absurd cc
steady_off false true r s over e t = let bad : true ≡ false = sym (ap (λ o. o || r) e) ∙ t in absurd cc
steady_off false false true s over e t = let bad : true ≡ false = sym (ap (λ o. o || true) e) ∙ t in absurd cc
steady_off false false false s over e t = refl

module _ (st : Steered) (m : Moment) (old : Held) where
  module _ (steady : Steady) (e : old.watch ≡ Stays steady) (over : Bool) (ends : over ≡ (old.over || is_over st old.from steady.end m)) where
    abbrev pub steady_new : Held
    steady_new = record { watch = old.watch; from = old.from; over = over; was = old.was; due = old.due }

    pub looks_steady : (t : Bool) → t ≡ (over || reads st m steady.wanted steady.condition) → LooksAt st m old steady_new t
    looks_steady true is = λ ms.
        ap (still_by st (m ∷ ms) old) e
        ∙ steady_on old.over (is_over st old.from steady.end m) (reads st m steady.wanted steady.condition) (stays st old.from steady ms) over ends (sym is)
        ∙ sym (ap (still_by st ms steady_new) e)
    looks_steady false is = λ ms.
        ap (still_by st (m ∷ ms) old) e
        ∙ steady_off old.over (is_over st old.from steady.end m) (reads st m steady.wanted steady.condition) (stays st old.from steady ms) over ends (sym is)

  module _ (r : Response) (e : old.watch ≡ Responds r) (was : Bool) (due : Option ℤ) (caused : was ≡ reads st m true r.cause)
      (wanted : due ≡ due_behind st r old.was old.due m) where
    abbrev pub response_new : Held
    response_new = record { watch = old.watch; from = old.from; over = old.over; was = was; due = due }

    goes_on : (ms : List Moment) → responds st r (reads st m true r.cause) (due_behind st r old.was old.due m) ms ≡ still_held st ms response_new
    goes_on ms = ap (λ w. responds st r w (due_behind st r old.was old.due m) ms) (sym caused) ∙ ap (λ d. responds st r was d ms) (sym wanted)
        ∙ sym (ap (still_by st ms response_new) e)

    pub looks_response : (t : Bool) → t ≡ not (is_late old.due m.clock) → LooksAt st m old response_new t
    looks_response true is = λ ms.
        ap (still_by st (m ∷ ms) old) e
        ∙ ap (λ t. t && responds st r (reads st m true r.cause) (due_behind st r old.was old.due m) ms) (sym is) ∙ goes_on ms
    looks_response false is = λ ms.
        ap (still_by st (m ∷ ms) old) e
        ∙ ap (λ t. t && responds st r (reads st m true r.cause) (due_behind st r old.was old.due m) ms) (sym is)

-- one that begins
pub first_is : (st : Steered) (m : Moment) (watch : Watch) (ms : List Moment) → still_held st ms (first_held m watch) ≡ held st m.clock watch ms
first_is st m (Stays steady) ms = refl
first_is st m (Responds response) ms = refl

-- ---- those that are gone through, of which the first have been looked at

module _ (st : Steered) (m : Moment) (items : List Watched) (i : ℕ) (d new : Watched) (less : i < length items) where
  abbrev pub item : Watched
  item = get_or items i d

  abbrev pub looked : List Moment → Bool
  looked ms = all_held st (map as_held (take i items)) ms

  abbrev pub left : List Moment → Bool
  left ms = all_held st (map as_held (drop (suc i) items)) (m ∷ ms)

  here : (ms : List Moment) → (looked ms && all_held st (map as_held (drop i items)) (m ∷ ms))
      ≡ (looked ms && (still_held st (m ∷ ms) (as_held item) && left ms))
  here ms = ap (λ (ws : List Watched). looked ms && all_held st (map as_held ws) (m ∷ ms)) (drop-cons items i d less)

  -- it goes on
  pub look_more : LooksAt st m (as_held item) (as_held new) true → (ms : List Moment)
      → (looked ms && all_held st (map as_held (drop i items)) (m ∷ ms))
      ≡ (all_held st (map as_held (take (i + 1) (set items i new))) ms && all_held st (map as_held (drop (i + 1) (set items i new))) (m ∷ ms))
  look_more on ms =
      here ms ∙ ap (λ t. looked ms && (t && left ms)) (on ms)
      ∙ and_assoc (looked ms) (still_held st ms (as_held new)) (left ms)
      ∙ ap (λ t. t && left ms) (sym (all_with st ms (map as_held (take i items)) (as_held new)))
      ∙ ap (λ hs. all_held st hs ms && left ms) (sym (map-append as_held (take i items) (new ∷ [])))
      ∙ ap (λ ws. all_held st (map as_held ws) ms && left ms) (sym (ap (λ n. take n (set items i new)) (add-one i) ∙ take-suc-set items i new less))
      ∙ ap (λ ws. all_held st (map as_held (take (i + 1) (set items i new))) ms && all_held st (map as_held ws) (m ∷ ms))
      (sym (ap (λ n. drop n (set items i new)) (add-one i) ∙ drop-set-lt (suc i) items i new (omega arith)))

  -- it doesn't hold
  pub look_broken : LooksAt st m (as_held item) (as_held new) false → (ms : List Moment)
      → (looked ms && all_held st (map as_held (drop i items)) (m ∷ ms)) ≡ false
  look_broken broken ms = here ms ∙ ap (λ t. looked ms && (t && left ms)) (broken ms) ∙ and_false (looked ms)

pub refilled : (n : ℕ) (ws old : List Watched) → n ≡ length ws → take n (ws ++ drop (length ws) old) ≡ ws
refilled n ws old e = ap (λ k. take k (ws ++ drop (length ws) old)) e ∙ take-append_seam ws (drop (length ws) old)

-- all of them
pub look_all : (st : Steered) (m : Moment) (items : List Watched) (i : ℕ) → length items ≤ i → (ms : List Moment)
    → (all_held st (map as_held (take i items)) ms && all_held st (map as_held (drop i items)) (m ∷ ms)) ≡ all_held st (map as_held items) ms
look_all st m items i all ms =
    ap (λ ws. all_held st (map as_held (take i items)) ms && all_held st (map as_held ws) (m ∷ ms)) (drop_all i items all)
    ∙ and_true (all_held st (map as_held (take i items)) ms)
    ∙ ap (λ ws. all_held st (map as_held ws) ms) (take_all i items all)
