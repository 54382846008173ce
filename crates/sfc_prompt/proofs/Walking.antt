-- Lines that are taken one after the other, and what is put for them.
use Rattle.std.proofs.Common.{◌≡◌, ◌∙◌, refl, sym, ap, subst, ℕ, zero, suc, ◌+◌, arith, Bool, true, false, List, [], ◌∷◌, ◌++◌, append_assoc, inl, inr, None, codes}
use Rattle.std.proofs.lemmas.List.{append-nil}
use Rattle.sfc_prompt.specs.declared.prompt.Flow.{Flow}
use Rattle.sfc_prompt.specs.declared.prompt.Flow.TheVariants.{GoesOn, Ends}
use Rattle.sfc_prompt.specs.declared.prompt.Prompt.{Prompt}
use Rattle.sfc_prompt.specs.Prompts.{course_in}
use Rattle.sfc_prompt.specs.Walks.{AnswersInto, BreaksAt, BreaksLine, IfOn, Invites, IsAnswered, IsNext, StepsInto, TakesAll, TakesLine, TakesSome, TakesSteps}
use Rattle.sfc_prompt.specs.Walks.{Walks, WalksInto, flow_after, flow_behind, flow_line, invitations, is_long}

-- ---- steps

pub steps_none : (prompt : Prompt) → TakesSome prompt prompt []
steps_none prompt = (0, (refl, refl))

pub steps_more : (a b c : Prompt) (s u : List ℕ) → TakesSome a b s → IsNext b c u → TakesSome a c (s ++ u)
steps_more a b c s u some next = (suc some.0, (b, s, u, some.1, next, refl))

steps_on : (n : ℕ) (a b c : Prompt) (s u : List ℕ) → TakesSome a b s → TakesSteps n b c u → TakesSome a c (s ++ u)
steps_on zero a b c s u some last =
    subst (λ (p : Prompt). TakesSome a p (s ++ u)) (sym last.0)
    (subst (λ (t : List ℕ). TakesSome a b t) (sym (append-nil s) ∙ ap (λ t. s ++ t) (sym last.1)) some)
steps_on (suc n) a b c s u some last =
    let front = steps_on n a b last.0 s last.1 some last.3 in
    subst (λ (t : List ℕ). TakesSome a c t) (append_assoc s last.1 last.2 ∙ ap (λ t. s ++ t) (sym last.5))
    (steps_more a last.0 c (s ++ last.1) last.2 front last.4)

pub steps_then : (a b : Prompt) (s u : List ℕ) → TakesSome a b s → StepsInto b u → StepsInto a (s ++ u)
steps_then a b s u some into = (into.0, steps_on into.1.0 a b into.0 s u some into.1.1)

pub steps_one : (a b : Prompt) (u : List ℕ) → IsNext a b u → StepsInto a u
steps_one a b u next = (b, steps_more a a b [] u (steps_none a) next)

-- ---- a line that is obeyed

pub answers_break : (a : Prompt) (line text : List ℕ) → AnswersInto a line text → BreaksLine false a line text
answers_break a line text (inl none) = inl none
answers_break a line text (inr answered) =
    inr (answered.0, answered.0, text, [], answered.1, steps_none answered.0, sym (append-nil text))

pub part_then : (a b : Prompt) (line first rest : List ℕ) → IsAnswered a b line first → StepsInto b rest
    → BreaksLine false a line (first ++ rest)
part_then a b line first rest answered into = inr (b, into.0, first, rest, answered, into.1, refl)

pub all_taken : (a b c : Prompt) (line first rest : List ℕ) → IsAnswered a b line first → TakesSome b c rest → course_in c ≡ None
    → TakesAll a c line (first ++ rest)
all_taken a b c line first rest answered some none = (b, first, rest, answered, some, none, refl)

-- ---- invitations

pub invites_none : (terminal : Bool) → Invites terminal []
invites_none true = (0, refl)
invites_none false = refl

pub invites_once : Invites true (codes "sfc> ")
invites_once = (1, refl)

sum_of : (n m : ℕ) → invitations (n + m) ≡ invitations n ++ invitations m
sum_of zero m = let none : 0 + m ≡ m = omega arith in ap invitations none
sum_of (suc n) m =
    let one : suc n + m ≡ suc (n + m) = omega arith in
    ap invitations one ∙ ap (λ t. codes "sfc> " ++ t) (sum_of n m) ∙ sym (append_assoc (codes "sfc> ") (invitations n) (invitations m))

pub invites_more : (terminal : Bool) (s u : List ℕ) → Invites terminal s → Invites terminal u → Invites terminal (s ++ u)
invites_more true s u one two = (one.0 + two.0, (λ i. one.1 i ++ two.1 i) ∙ sym (sum_of one.0 two.0))
invites_more false s u one two = (λ i. one i ++ two i)

-- ---- one line

-- a line that stands here as it is, or is too long
module _ (line held : List ℕ) (old : Prompt) (text : List ℕ) where
  by_whole : (long : Bool) → (long ≡ false → held ≡ line) → (new : Prompt) → TakesLine long old new held text → TakesLine long old new line text
  by_whole true same new takes = takes
  by_whole false same new takes = subst (λ (l : List ℕ). TakesAll old new l text) (same refl) takes

  breaks_by : (long : Bool) → (long ≡ false → held ≡ line) → BreaksLine long old held text → BreaksLine long old line text
  breaks_by true same breaks = breaks
  breaks_by false same breaks = subst (λ (l : List ℕ). BreaksLine false old l text) (same refl) breaks

  pub line_taken : (new : Prompt) (long : Bool) → long ≡ is_long line → (long ≡ false → held ≡ line) → TakesLine long old new held text
      → TakesLine (is_long line) old new line text
  line_taken new long is same takes = subst (λ (b : Bool). TakesLine b old new line text) is (by_whole long same new takes)

  pub line_broken : (long : Bool) → long ≡ is_long line → (long ≡ false → held ≡ line) → BreaksLine long old held text
      → BreaksLine (is_long line) old line text
  line_broken long is same breaks = subst (λ (b : Bool). BreaksLine b old line text) is (breaks_by long same breaks)

flow_by : (line held : List ℕ) (long : Bool) → (long ≡ false → held ≡ line) → flow_line long held ≡ flow_line long line
flow_by line held true same = refl
flow_by line held false same = ap (flow_line false) (same refl)

pub flow_same : (line held : List ℕ) (long : Bool) → long ≡ is_long line → (long ≡ false → held ≡ line)
    → flow_line long held ≡ flow_line (is_long line) line
flow_same line held long is same = flow_by line held long same ∙ ap (λ (b : Bool). flow_line b line) is

-- ---- lines

behind_none : (flow : Flow) → flow_behind flow GoesOn ≡ flow
behind_none GoesOn = refl
behind_none Ends = refl

pub flow_one : (line : List ℕ) → flow_after (line ∷ []) ≡ flow_line (is_long line) line
flow_one line = behind_none (flow_line (is_long line) line)

on_first : (flow later : Flow) → flow_behind flow later ≡ GoesOn → (flow ≡ GoesOn) × (later ≡ GoesOn)
on_first GoesOn later e = (refl, e)
on_first Ends later e = absurd (cc)

pub flow_more : (xs ys : List (List ℕ)) → flow_after xs ≡ GoesOn → flow_after (xs ++ ys) ≡ flow_after ys
flow_more [] ys e = refl
flow_more (line ∷ xs) ys e =
    let both = on_first (flow_line (is_long line) line) (flow_after xs) e in
    ap (λ (f : Flow). flow_behind f (flow_after (xs ++ ys))) both.0 ∙ flow_more xs ys both.1

-- once they end, they end
ends_more : (flow a b : Flow) → flow_behind flow a ≡ Ends → (a ≡ Ends → b ≡ Ends) → flow_behind flow b ≡ Ends
ends_more GoesOn a b e more = more e
ends_more Ends a b e more = refl

pub flow_ended : (xs ys : List (List ℕ)) → flow_after xs ≡ Ends → flow_after (xs ++ ys) ≡ Ends
flow_ended [] ys e = absurd (cc)
flow_ended (line ∷ xs) ys e =
    ends_more (flow_line (is_long line) line) (flow_after xs) (flow_after (xs ++ ys)) e (flow_ended xs ys)

module _ (terminal : Bool) where
  ends_or : (flow : Flow) (a : Prompt) → IfOn flow ((a ≡ a) × Invites terminal []) ((a ≡ a) × (◌≡◌ {A = List ℕ} [] []))
  ends_or GoesOn a = (refl, invites_none terminal)
  ends_or Ends a = (refl, refl)

  pub walk_one : (line : List ℕ) (a b : Prompt) (s : List ℕ) → TakesLine (is_long line) a b line s → Walks terminal (line ∷ []) a b s
  walk_one line a b s takes =
      (b, [], s, [], invites_none terminal, takes, ends_or (flow_line (is_long line) line) b, sym (append-nil s))

  invited : (ys : List (List ℕ)) (a c : Prompt) (s u : List ℕ) → Invites terminal s → Walks terminal ys a c u → Walks terminal ys a c (s ++ u)
  invited [] a c s u asked walks = (walks.0, invites_more terminal s u asked walks.1)
  invited (line ∷ ys) a c s u asked walks = (
    walks.0,
    s ++ walks.1,
    walks.2,
    walks.3,
    invites_more terminal s walks.1 asked walks.4,
    walks.5,
    walks.6,
    ap (λ t. s ++ t) walks.7 ∙ sym (append_assoc s (walks.1 ++ walks.2) walks.3)
        ∙ ap (λ t. t ++ walks.3) (sym (append_assoc s walks.1 walks.2)),
  )

  -- lines behind others, where the session went on
  pub walk_then : (xs ys : List (List ℕ)) (a b c : Prompt) (s u : List ℕ) → Walks terminal xs a b s → flow_after xs ≡ GoesOn
      → Walks terminal ys b c u → Walks terminal (xs ++ ys) a c (s ++ u)
  walk_then [] ys a b c s u walks e more =
      invited ys a c s u walks.1 (subst (λ (p : Prompt). Walks terminal ys p c u) walks.0 more)
  walk_then (line ∷ xs) ys a b c s u walks e more =
      let flow : Flow = flow_line (is_long line) line in
      let both = on_first flow (flow_after xs) e in
      let on : Walks terminal xs walks.0 b walks.3 =
      subst (λ (f : Flow). IfOn f (Walks terminal xs walks.0 b walks.3) ((b ≡ walks.0) × (walks.3 ≡ []))) both.0 walks.6 in (
        walks.0,
        walks.1,
        walks.2,
        walks.3 ++ u,
        walks.4,
        walks.5,
        subst (λ (f : Flow). IfOn f (Walks terminal (xs ++ ys) walks.0 c (walks.3 ++ u)) ((c ≡ walks.0) × (walks.3 ++ u ≡ []))) (sym both.0)
            (walk_then xs ys walks.0 b c walks.3 u on both.1 more),
        ap (λ t. t ++ u) walks.7 ∙ append_assoc (walks.1 ++ walks.2) walks.3 u,
      )

  pub walk_invited : (xs : List (List ℕ)) (a b : Prompt) (s u : List ℕ) → Walks terminal xs a b s → flow_after xs ≡ GoesOn
      → Invites terminal u → Walks terminal xs a b (s ++ u)
  walk_invited xs a b s u walks e asked =
      subst (λ (ls : List (List ℕ)). Walks terminal ls a b (s ++ u)) (append-nil xs) (walk_then xs [] a b b s u walks e (refl, asked))

  -- lines behind QUIT
  ended : (flow later : Flow) (xs ys : List (List ℕ)) (a b : Prompt) (s : List ℕ) → flow_behind flow later ≡ Ends
      → (later ≡ Ends → Walks terminal xs a b s → Walks terminal (xs ++ ys) a b s)
      → IfOn flow (Walks terminal xs a b s) ((b ≡ a) × (s ≡ [])) → IfOn flow (Walks terminal (xs ++ ys) a b s) ((b ≡ a) × (s ≡ []))
  ended GoesOn later xs ys a b s e more on = more e on
  ended Ends later xs ys a b s e more on = on

  pub walk_ended : (xs ys : List (List ℕ)) (a b : Prompt) (s : List ℕ) → Walks terminal xs a b s → flow_after xs ≡ Ends
      → Walks terminal (xs ++ ys) a b s
  walk_ended [] ys a b s walks e = absurd (cc)
  walk_ended (line ∷ xs) ys a b s walks e = (
    walks.0,
    walks.1,
    walks.2,
    walks.3,
    walks.4,
    walks.5,
    ended (flow_line (is_long line) line) (flow_after xs) xs ys walks.0 b walks.3 e
        (λ over on. walk_ended xs ys walks.0 b walks.3 on over) walks.6,
    walks.7,
  )

  -- ---- before an error

  pub breaks_between : (lines : List (List ℕ)) (a : Prompt) (s : List ℕ) → Invites terminal s → BreaksAt terminal lines a s
  breaks_between [] a s asked = asked
  breaks_between (line ∷ lines) a s asked = inl asked

  -- all of them, and no more
  pub into_all : (xs ys : List (List ℕ)) (a b : Prompt) (s u : List ℕ) → Walks terminal xs a b s → Invites terminal u
      → WalksInto terminal (xs ++ ys) a (s ++ u)
  into_all xs ys a b s u walks asked = record {
    done = xs;
    rest = ys;
    mid = b;
    first = s;
    last = u;
    parts = refl;
    walks = walks;
    breaks = breaks_between ys b u asked;
    whole = refl;
  }

  pub into_line : (line : List ℕ) (ys : List (List ℕ)) (a : Prompt) (u : List ℕ) → BreaksLine (is_long line) a line u
      → WalksInto terminal (line ∷ ys) a u
  into_line line ys a u breaks = record {
    done = [];
    rest = line ∷ ys;
    mid = a;
    first = [];
    last = u;
    parts = refl;
    walks = (refl, invites_none terminal);
    breaks = inr breaks;
    whole = refl;
  }

  pub into_then : (xs ys : List (List ℕ)) (a b : Prompt) (s u : List ℕ) → Walks terminal xs a b s → flow_after xs ≡ GoesOn
      → WalksInto terminal ys b u → WalksInto terminal (xs ++ ys) a (s ++ u)
  into_then xs ys a b s u walks e into = record {
    done = xs ++ into.done;
    rest = into.rest;
    mid = into.mid;
    first = s ++ into.first;
    last = into.last;
    parts = ap (λ (ls : List (List ℕ)). xs ++ ls) into.parts ∙ sym (append_assoc xs into.done into.rest);
    walks = walk_then xs into.done a b into.mid s into.first walks e into.walks;
    breaks = into.breaks;
    whole = ap (λ t. s ++ t) into.whole ∙ sym (append_assoc s into.first into.last);
  }
