-- What is told of cases, one after the other.
use Rattle.std.proofs.Common.{◌≡◌, ℕ, List, [], ◌∷◌, ◌++◌, map, true, false, Option, refl, sym, ap, subst, ◌∙◌, append_assoc}
use Rattle.std.proofs.lemmas.List.{append-nil, map-append}
use Rattle.std.proofs.lemmas.List.Elements.{filter-append}
use Rattle.std.specs.Io.KnownBytes.{Appends}
use Rattle.sfc_base.specs.Writing.{AppendsFront}
use Rattle.sfc_base.proofs.Written.{Appends-more, Appends-none, front_first, front_second}
use Rattle.sfc_replay.specs.sfc_debug.Steered.{Steered}
use Rattle.sfc_test.specs.declared.asked.Asked.{Asked}
use Rattle.sfc_test.specs.declared.asked.Asked.TheVariants.{Names, Results, Tap}
use Rattle.sfc_test.specs.Answers.{TellsCases, Wish}
use Rattle.sfc_test.specs.Cases.{TitledCase, has_word, wanted}
use Rattle.sfc_test.specs.Results.{AreResults, CaseResult, outcome_in, outcome_of}
use Rattle.sfc_test.specs.Running.{Runs}
use Rattle.sfc_test.specs.Taking.{BreaksOff, IsUnderWay, TellsWanted}
use Rattle.sfc_test.specs.Tallies.{Tally, behind_one, behind_results, results_text, total}
use Rattle.sfc_test.specs.Texts.{ended, text_of, titles_text}

-- ---- lists of results

behind_joined : (file : List ℕ) (t : Tally) (rs qs : List CaseResult)
    → behind_results file t (rs ++ qs) ≡ behind_results file (behind_results file t rs) qs
behind_joined file t [] qs = refl
behind_joined file t (r ∷ rs) qs = behind_joined file (behind_one file t r) rs qs

texts_joined : (asked : Asked) (file : List ℕ) (t : Tally) (rs qs : List CaseResult)
    → results_text asked file t (rs ++ qs) ≡ results_text asked file t rs ++ results_text asked file (behind_results file t rs) qs
texts_joined asked file t [] qs = refl
texts_joined asked file t (r ∷ rs) qs =
    let first = text_of asked (total (behind_one file t r)) r in
    ap (λ (x : List ℕ). first ++ x) (texts_joined asked file (behind_one file t r) rs qs)
    ∙ sym (append_assoc first (results_text asked file (behind_one file t r) rs)
    (results_text asked file (behind_results file (behind_one file t r) rs) qs))

titles_joined : (cs ds : List TitledCase) → titles_text (cs ++ ds) ≡ titles_text cs ++ titles_text ds
titles_joined [] ds = refl
titles_joined (c ∷ cs) ds =
    ap (λ (x : List ℕ). ended c.title ++ x) (titles_joined cs ds) ∙ sym (append_assoc (ended c.title) (titles_text cs) (titles_text ds))

module _ (steered : Steered) where
  results_joined : (cs ds : List TitledCase) (rs qs : List CaseResult) → AreResults steered cs rs → AreResults steered ds qs
      → AreResults steered (cs ++ ds) (rs ++ qs)
  results_joined cs ds rs qs e f =
      map-append outcome_in rs qs ∙ ap (λ x. x ++ map outcome_in qs) e ∙ ap (λ x. map (outcome_of steered) cs ++ x) f
      ∙ sym (map-append (outcome_of steered) cs ds)

  module _ (file : List ℕ) where
    -- no case
    pub none_told : (asked : Asked) (t : Tally) → TellsCases steered file asked [] t t []
    none_told Names t = (refl, refl)
    none_told Results t = ([], refl, refl, refl)
    none_told Tap t = ([], refl, refl, refl)

    run_joined : (asked : Asked) (cs ds : List TitledCase) (old mid new : Tally) (first later : List ℕ) (rs qs : List CaseResult)
        → AreResults steered cs rs → first ≡ results_text asked file old rs → mid ≡ behind_results file old rs
        → AreResults steered ds qs → later ≡ results_text asked file mid qs → new ≡ behind_results file mid qs
        → (results : List CaseResult) × AreResults steered (cs ++ ds) results
        × (first ++ later ≡ results_text asked file old results) × (new ≡ behind_results file old results)
    run_joined asked cs ds old mid new first later rs qs are text counted are' text' counted' = (
      rs ++ qs,
      results_joined cs ds rs qs are are',
      ap (λ x. x ++ later) text ∙ ap (λ x. results_text asked file old rs ++ x) (text' ∙ ap (λ t. results_text asked file t qs) counted)
          ∙ sym (texts_joined asked file old rs qs),
      counted' ∙ ap (λ t. behind_results file t qs) counted ∙ sym (behind_joined file old rs qs),
    )

    -- cases, and then others
    pub told_on : (asked : Asked) (cs ds : List TitledCase) (old mid new : Tally) (first later : List ℕ)
        → TellsCases steered file asked cs old mid first → TellsCases steered file asked ds mid new later
        → TellsCases steered file asked (cs ++ ds) old new (first ++ later)
    told_on Names cs ds old mid new first later h g =
        (ap (λ x. x ++ later) h.0 ∙ ap (λ x. titles_text cs ++ x) g.0 ∙ sym (titles_joined cs ds), g.1 ∙ h.1)
    told_on Results cs ds old mid new first later h g =
        run_joined Results cs ds old mid new first later h.0 g.0 h.1 h.2 h.3 g.1 g.2 g.3
    told_on Tap cs ds old mid new first later h g =
        run_joined Tap cs ds old mid new first later h.0 g.0 h.1 h.2 h.3 g.1 g.2 g.3

    -- ---- what would come

    some_result : TitledCase → CaseResult
    some_result c = record { title = c.title; passed = (outcome_of steered c).passed; told = [] }

    some_results : (cs : List TitledCase) → (rs : List CaseResult) × AreResults steered cs rs
    some_results [] = ([], refl)
    some_results (c ∷ cs) = (
      record { title = c.title; passed = (outcome_of steered c).passed; told = [] } ∷ (some_results cs).0,
      ap (λ x. outcome_of steered c ∷ x) (some_results cs).1,
    )

    pub would_tell : (asked : Asked) (cs : List TitledCase) (old : Tally)
        → (text : List ℕ) × (new : Tally) × TellsCases steered file asked cs old new text
    would_tell Names cs old = (titles_text cs, old, (refl, refl))
    would_tell Results cs old =
        let rs = some_results cs in (results_text Results file old rs.0, behind_results file old rs.0, (rs.0, rs.1, refl, refl))
    would_tell Tap cs old =
        let rs = some_results cs in (results_text Tap file old rs.0, behind_results file old rs.0, (rs.0, rs.1, refl, refl))

    -- ---- one case

    one_run : (asked : Asked) (c : TitledCase) (old new : Tally) (text : List ℕ) → Runs steered file asked c old new text
        → (results : List CaseResult) × AreResults steered (c ∷ []) results
        × (text ≡ results_text asked file old results) × (new ≡ behind_results file old results)
    one_run asked c old new text h = (
      h.came ∷ [],
      ap (λ o. o ∷ []) h.outcome,
      h.told ∙ ap (λ t. text_of asked (total t) h.came) h.counted
          ∙ sym (append-nil (text_of asked (total (behind_one file old h.came)) h.came)),
      h.counted,
    )

    pub one_told : (asked : Asked) (c : TitledCase) (old new : Tally) (text : List ℕ) → (asked ≡ Names → ⊥) → Runs steered file asked c old new text
        → TellsCases steered file asked (c ∷ []) old new text
    one_told Names c old new text ne h = absurd (ne refl)
    one_told Results c old new text ne h = one_run Results c old new text h
    one_told Tap c old new text ne h = one_run Tap c old new text h

    pub one_titled : (c : TitledCase) (t : Tally) (text : List ℕ) → text ≡ ended c.title → TellsCases steered file Names (c ∷ []) t t text
    one_titled c t text e = (e ∙ sym (append-nil (ended c.title)), refl)

-- ---- those that are wanted

module _ (wish : Wish) (steered : Steered) where
  wanted_on : (cs ds : List TitledCase) (old mid new : Tally) (first later : List ℕ) → TellsWanted wish steered cs old mid first
      → TellsWanted wish steered ds mid new later → TellsWanted wish steered (cs ++ ds) old new (first ++ later)
  wanted_on cs ds old mid new first later h g =
      subst (λ x. TellsCases steered wish.file wish.asked x old new (first ++ later))
      (sym (filter-append (λ one. has_word wish.word one.title) cs ds))
      (told_on steered wish.file wish.asked (wanted wish.word cs) (wanted wish.word ds) old mid new first later h g)

  pub one_unwanted : (c : TitledCase) (t : Tally) (text : List ℕ) → has_word wish.word c.title ≡ false → text ≡ []
      → TellsWanted wish steered (c ∷ []) t t text
  one_unwanted c t text e none = rw (e, none) (none_told steered wish.file wish.asked t)

  pub one_wanted : (c : TitledCase) (old new : Tally) (text : List ℕ) → has_word wish.word c.title ≡ true
      → TellsCases steered wish.file wish.asked (c ∷ []) old new text → TellsWanted wish steered (c ∷ []) old new text
  one_wanted c old new text e h = rw e h

  -- ---- under way

  module _ (all : List TitledCase) (old : Tally) (before : Option (List ℕ)) where
    pub begun : IsUnderWay wish steered all all old old before before
    begun = record {
      done = [];
      text = [];
      split = refl;
      told = none_told steered wish.file wish.asked old;
      written = Appends-none before;
    }

    pub gone_on : (left others : List TitledCase) (c : TitledCase) (now new : Tally) (mid behind : Option (List ℕ)) (text : List ℕ)
        → IsUnderWay wish steered all left old now before mid → left ≡ c ∷ others → TellsWanted wish steered (c ∷ []) now new text
        → Appends mid behind text → IsUnderWay wish steered all others old new before behind
    gone_on left others c now new mid behind text h e told written = record {
      done = h.done ++ c ∷ [];
      text = h.text ++ text;
      split = h.split ∙ ap (λ x. h.done ++ x) e ∙ sym (append_assoc h.done (c ∷ []) others);
      told = wanted_on h.done (c ∷ []) old now new h.text text h.told told;
      written = Appends-more before mid behind h.text text h.written written;
    }

    pub all_told : (left : List TitledCase) (now : Tally) (behind : Option (List ℕ)) → IsUnderWay wish steered all left old now before behind
        → left ≡ [] → (text : List ℕ) × TellsWanted wish steered all old now text × Appends before behind text
    all_told left now behind h e = (
      h.text,
      subst (λ x. TellsWanted wish steered x old now h.text) (sym (h.split ∙ ap (λ x. h.done ++ x) e ∙ append-nil h.done)) h.told,
      h.written,
    )

    -- memory was refused before the next is told
    pub broken_off : (left : List TitledCase) (now : Tally) (behind : Option (List ℕ))
        → IsUnderWay wish steered all left old now before behind → BreaksOff wish steered all old (before, behind)
    broken_off left now behind h =
        let more = would_tell steered wish.file wish.asked (wanted wish.word left) now in (
          h.text ++ more.0,
          more.1,
          subst (λ x. TellsWanted wish steered x old more.1 (h.text ++ more.0)) (sym h.split)
              (wanted_on h.done left old now more.1 h.text more.0 h.told more.2),
          (h.text, more.0, refl, h.written),
        )

    -- the writer failed at the text of the next
    pub broken_within : (left others : List TitledCase) (c : TitledCase) (now new : Tally) (mid behind : Option (List ℕ)) (text : List ℕ)
        → IsUnderWay wish steered all left old now before mid → left ≡ c ∷ others → TellsWanted wish steered (c ∷ []) now new text
        → AppendsFront mid behind text → BreaksOff wish steered all old (before, behind)
    broken_within left others c now new mid behind text h e told front =
        let more = would_tell steered wish.file wish.asked (wanted wish.word others) new in
        let rest : TellsWanted wish steered (c ∷ others) now more.1 (text ++ more.0) =
        wanted_on (c ∷ []) others now new more.1 text more.0 told more.2 in (
          h.text ++ (text ++ more.0),
          more.1,
          subst (λ x. TellsWanted wish steered x old more.1 (h.text ++ (text ++ more.0))) (sym (h.split ∙ ap (λ x. h.done ++ x) e))
              (wanted_on h.done (c ∷ others) old now more.1 h.text (text ++ more.0) h.told rest),
          front_second before mid behind h.text (text ++ more.0) h.written (front_first mid behind text more.0 front),
        )
