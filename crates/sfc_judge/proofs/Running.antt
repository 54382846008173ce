-- Commands of a run, one after the other.
use Rattle.std.proofs.Common.{◌≡◌, ◌∙◌, inl, inr, refl, sym, ap, subst, ℕ, zero, suc, ◌+◌, ◌-◌, ◌<◌, nat_lt, arith, Bool, true, false, ◌&&◌, List, [], ◌∷◌, ◌++◌, length, ℤ, Option, Some, None}
use Rattle.std.specs.Prelude.{is_none, if◌then◌else◌, IfNone}
use Rattle.std.proofs.lemmas.Bool.{lt-ltb}
use Rattle.sfc_replay.specs.sfc_debug.Steered.{Steered}
use Rattle.sfc_cases.specs.declared.joined.Condition.{Condition}
use Rattle.sfc_judge.specs.declared.bench.Bench.{Bench}
use Rattle.sfc_judge.specs.declared.given.Given.{Given}
use Rattle.sfc_cases.specs.declared.line.Line.{Line}
use Rattle.sfc_judge.specs.Holding.{are_fine, is_fine}
use Rattle.sfc_judge.specs.Moments.{Moment, Step, behind_step, last_moment, moments}
use Rattle.sfc_judge.specs.Running.Benches.{GivesStep, IsGiven, Stands}
use Rattle.sfc_judge.specs.Running.Watching.{ChecksStep, GoOver, Held, Runs, all_held, end_of, run_end, steps_from}
use Rattle.sfc_judge.specs.Scans.{is_met, is_met_if, is_reached, most, next_step, run_steps, step_then, step_wanted}
use Rattle.sfc_judge.specs.Dues.{later}
use Rattle.sfc_judge.proofs.Watched.{and_false}

-- ---- what was given

pub none_given : (st : Steered) (m : Moment) (o : Option Step) (new : Bench) → GivesStep st m o None new → (o ≡ None) × Stands new m
none_given st m None new stands = (refl, stands)
none_given st m (Some step) new bad = absurd bad

pub some_given : (st : Steered) (m : Moment) (o : Option Step) (given : Given) (new : Bench) → GivesStep st m o (Some given) new
    → (step : Step) × (o ≡ Some step) × (IsGiven st m step.timed given × Stands new (behind_step st m step))
some_given st m None given new bad = absurd bad
some_given st m (Some step) given new gives = (step, refl, gives)

module _ (st : Steered) (until : Option Condition) (limit : ℤ) where
  -- ---- commands

  abbrev pub further : ℕ → Moment → List Step
  further n m = run_steps st until limit n m

  -- none is wanted
  no_more : (n : ℕ) (m : Moment) → step_wanted st until limit m ≡ None → further n m ≡ []
  unfolding run_steps
  no_more zero m e = refl
  no_more (suc n) m e = ap (λ o. step_then o (λ step. run_steps st until limit n (behind_step st m step))) e

  one_more : (n : ℕ) (m : Moment) (step : Step) → step_wanted st until limit m ≡ Some step
      → further (suc n) m ≡ step ∷ further n (behind_step st m step)
  unfolding run_steps
  one_more n m step e = ap (λ o. step_then o (λ step. run_steps st until limit n (behind_step st m step))) e

  none_at_all : (m : Moment) → further 0 m ≡ []
  unfolding run_steps
  none_at_all m = refl

  pub wanted : (m : Moment) → is_met st until m ≡ false → step_wanted st until limit m ≡ next_step st limit m
  wanted m e = ap (λ t. if t then None else next_step st limit m) e

  pub unwanted : (m : Moment) → is_met st until m ≡ true → step_wanted st until limit m ≡ None
  unwanted m e = ap (λ t. if t then None else next_step st limit m) e

  -- ---- where a run is that began at m, behind so many scans

  module _ (m : Moment) (lines : List Line) (old : List Held) where
    abbrev pub rights : ℕ → Moment → List Step → Bool
    rights k at cs = are_fine st lines at cs && (nat_lt (k + length cs) most && is_met_if st until (last_moment at (moments st at cs)))

    abbrev pub total : Bool
    total = are_fine st lines m (steps_from st until limit m) && is_reached st until (steps_from st until limit m) (end_of st until limit m)

    pub record IsRunning (now : List Held) (k : ℕ) (at : Moment) : Type 0 where
      pub right : total ≡ rights k at (further (most - k) at)
      pub over : (ms : List Moment) → all_held st old (moments st m (steps_from st until limit m) ++ ms)
          ≡ all_held st now (moments st at (further (most - k) at) ++ ms)
      pub ends : end_of st until limit m ≡ last_moment at (moments st at (further (most - k) at))

    pub begins : IsRunning old 0 m
    begins =
        let e : length (steps_from st until limit m) ≡ 0 + length (steps_from st until limit m) = omega arith in
        record {
          right = ap (λ n. are_fine st lines m (steps_from st until limit m) && (nat_lt n most && is_met_if st until (end_of st until limit m))) e;
          over = λ ms. refl;
          ends = refl;
        }

    module _ (now : List Held) (k : ℕ) (at : Moment) (running : IsRunning now k at) where
      -- it ends here
      rights_here : further (most - k) at ≡ [] → total ≡ (nat_lt k most && is_met_if st until at)
      rights_here e =
          let n : k + 0 ≡ k = omega arith in
          running.right ∙ ap (rights k at) e ∙ ap (λ n. nat_lt n most && is_met_if st until at) n

      over_here : further (most - k) at ≡ [] → GoOver st old (moments st m (steps_from st until limit m)) now
      over_here e = λ ms. running.over ms ∙ ap (λ cs. all_held st now (moments st at cs ++ ms)) e

      pub ends_here : step_wanted st until limit at ≡ None → end_of st until limit m ≡ at
      ends_here none = running.ends ∙ ap (λ cs. last_moment at (moments st at cs)) (no_more (most - k) at none)

      pub stops : step_wanted st until limit at ≡ None → k < most → is_met_if st until at ≡ true
          → (total ≡ true) × GoOver st old (moments st m (steps_from st until limit m)) now
      stops none less met =
          let e : further (most - k) at ≡ [] = no_more (most - k) at none in
          (rights_here e ∙ ap (λ t. t && is_met_if st until at) (lt-ltb k most less) ∙ met, over_here e)

      pub fails : {X : Type 0} (x : X) → step_wanted st until limit at ≡ None → is_met_if st until at ≡ false
          → Runs st until limit m lines old now (Some x)
      fails x none unmet =
          let e : further (most - k) at ≡ [] = no_more (most - k) at none in
          inl (rights_here e ∙ ap (λ t. nat_lt k most && t) unmet ∙ and_false (nat_lt k most))

      pub too_many : {X : Type 0} (x : X) → k ≡ most → Runs st until limit m lines old now (Some x)
      too_many x e =
          let zero_left : most - k ≡ 0 = omega (arith, e) in
          let none : further (most - k) at ≡ [] = ap (λ n. further n at) zero_left ∙ none_at_all at in
          let not_less : nat_lt k most ≡ false = ap (λ n. nat_lt n most) e in
          inl (rights_here none ∙ ap (λ t. t && is_met_if st until at) not_less)

      -- one step more
      module _ (step : Step) (new : List Held) (less : k < most) (is : step_wanted st until limit at ≡ Some step) where
        abbrev next : Moment
        next = behind_step st at step

        abbrev rest : List Step
        rest = further (most - (k + 1)) next

        unrolled : further (most - k) at ≡ step ∷ rest
        unrolled =
            let e : most - k ≡ suc (most - (k + 1)) = omega arith in
            ap (λ n. further n at) e ∙ one_more (most - (k + 1)) at step is

        right_by : Bool → Bool
        right_by t = (t && are_fine st lines next rest) && (nat_lt ((k + 1) + length rest) most && is_met_if st until (last_moment next (moments st next rest)))

        right_more : total ≡ right_by (is_fine st lines at.history step.timed)
        unfolding right_by
        right_more =
            let n : k + suc (length rest) ≡ (k + 1) + length rest = omega arith in
            running.right ∙ ap (rights k at) unrolled
            ∙ ap (λ n. (is_fine st lines at.history step.timed && are_fine st lines next rest)
            && (nat_lt n most && is_met_if st until (last_moment next (moments st next rest)))) n

        over_more : (ms : List Moment) → all_held st old (moments st m (steps_from st until limit m) ++ ms)
            ≡ all_held st now (next ∷ (moments st next rest ++ ms))
        over_more ms = running.over ms ∙ ap (λ cs. all_held st now (moments st at cs ++ ms)) unrolled

        pub goes_on : is_fine st lines at.history step.timed ≡ true → GoOver st now (behind_step st at step ∷ []) new
            → IsRunning new (k + 1) (behind_step st at step)
        unfolding right_by
        goes_on fine over = record {
          right = right_more ∙ ap right_by fine;
          over = λ ms. over_more ms ∙ over (moments st next rest ++ ms);
          ends = running.ends ∙ ap (λ cs. last_moment at (moments st at cs)) unrolled;
        }

        pub breaks : {X : Type 0} (x : X) → ChecksStep st at step lines now new (Some x) → Runs st until limit m lines old new (Some x)
        unfolding right_by
        breaks x (inl wrong) = inl (right_more ∙ ap right_by wrong)
        breaks x (inr broken) = inr (λ ms. over_more ms ∙ broken (moments st next rest ++ ms))

-- ---- how a run ends

pub met_if : (st : Steered) (until : Option Condition) (m : Moment) → is_met st until m ≡ true → is_met_if st until m ≡ true
met_if st None m met = let bad : false ≡ true = met in absurd cc
met_if st (Some until) m met = met

pub met_end : (st : Steered) (until : Option Condition) (limit : ℤ) (m at : Moment) → is_met st until at ≡ true → end_of st until limit m ≡ at
    → run_end st until limit m ≡ at
met_end st None limit m at met e = let bad : false ≡ true = met in absurd cc
met_end st (Some until) limit m at met e = e

-- no step comes any more
pub ends_by : (st : Steered) (until : Option Condition) (limit : ℤ) (m : Moment) (lines : List Line) (old now : List Held) (k : ℕ) (at : Moment)
    → IsRunning st until limit m lines old now k at → step_wanted st until limit at ≡ None → k < most → is_met st until at ≡ false
    → {X : Type 0} (wrong : Option X) → is_none wrong ≡ is_none until → Runs st until limit m lines old now wrong
ends_by st None limit m lines old now k at running none less unmet None e = stops st None limit m lines old now k at running none less refl
ends_by st None limit m lines old now k at running none less unmet (Some x) e = let bad : false ≡ true = e in absurd cc
ends_by st (Some until) limit m lines old now k at running none less unmet None e = let bad : true ≡ false = e in absurd cc
ends_by st (Some until) limit m lines old now k at running none less unmet (Some x) e = fails st (Some until) limit m lines old now k at running x none unmet

pub stands_by : (st : Steered) (until : Option Condition) (limit : ℤ) (m at : Moment) (bench : Bench) → end_of st until limit m ≡ at
    → {X : Type 0} (wrong : Option X) → is_none wrong ≡ is_none until
    → IfNone wrong (Stands bench (record { history = at.history; clock = later at.clock limit; stimuli = at.stimuli })) → IfNone wrong (Stands bench (run_end st until limit m))
stands_by st None limit m at bench e None is stands =
    subst (λ (x : Moment). Stands bench (record { history = x.history; clock = later x.clock limit; stimuli = x.stimuli })) (sym e) stands
stands_by st (Some until) limit m at bench e None is stands = let bad : true ≡ false = is in absurd cc
stands_by st until limit m at bench e (Some x) is stands = tt
