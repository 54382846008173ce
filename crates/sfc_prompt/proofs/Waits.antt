-- Bytes that wait, and lines that are taken off them.
use Rattle.std.proofs.Common.{◌≡◌, ◌∙◌, refl, sym, ap, subst, ℕ, ◌+◌, ◌-◌, ◌<◌, ◌≤◌, nat_lt, arith, Bool, true, false, ◌||◌, List, [], ◌∷◌, ◌++◌, length, drop, append_assoc, Some, None}
use Rattle.std.proofs.lemmas.Bool.Decides.{nat_tests}
use Rattle.std.proofs.lemmas.List.{append-nil, length-append}
use Rattle.sfc_asking.specs.sfc_script.Arriving.{ended_line}
use Rattle.sfc_asking.specs.sfc_script.Lines.{lines_of, split_before}
use Rattle.sfc_asking.proofs.of_sfc_script.Splits.{stays}
use Rattle.sfc_prompt.specs.declared.arrived.Arrived.{Arrived}
use Rattle.sfc_prompt.specs.declared.prompt.Flow.{Flow}
use Rattle.sfc_prompt.specs.declared.prompt.Flow.TheVariants.{GoesOn, Ends}
use Rattle.sfc_prompt.specs.declared.prompt.Prompt.{Prompt}
use Rattle.sfc_prompt.specs.Private.Waiting.{IsFirst, IsOnly, IsPassed, TakesEnded, Waits}
use Rattle.sfc_prompt.specs.Walks.{BreaksLine, TakesLine, Walks, WalksInto, flow_after, flow_line, is_long}
use Rattle.sfc_prompt.proofs.Arriving.{only_line, passed_line, unended_more}
use Rattle.sfc_prompt.proofs.Walking.{flow_more, flow_one, flow_same, into_line, into_then, invites_none, line_broken, line_taken, walk_one, walk_then}

-- ---- what waits

pub nothing_ended : ended_line [] ≡ None
unfolding split_before
nothing_ended = refl

pub waits_new : (arrived : Arrived) → arrived.lines ≡ [] → arrived.is_cut ≡ false → Waits arrived []
waits_new arrived none whole = record {
  passed = [];
  front = subst (λ (cut : Bool). IsPassed cut []) (sym whole) refl;
  whole = sym none;
}

pub waits_piece : (a b : Arrived) (piece : List ℕ) → b.lines ≡ a.lines ++ piece → b.is_cut ≡ a.is_cut → (bytes : List ℕ) → Waits a bytes
    → Waits b (bytes ++ piece)
waits_piece a b piece lines cut bytes waits = record {
  passed = waits.passed;
  front = subst (λ (c : Bool). IsPassed c waits.passed) (sym cut) waits.front;
  whole = ap (λ t. t ++ piece) waits.whole ∙ append_assoc waits.passed a.lines piece ∙ ap (λ t. waits.passed ++ t) (sym lines);
}

waits_kept : (b : Arrived) (rest : List ℕ) → rest ≡ b.lines → b.is_cut ≡ false → Waits b rest
waits_kept b rest lines whole = record {
  passed = [];
  front = subst (λ (cut : Bool). IsPassed cut []) (sym whole) refl;
  whole = lines;
}

pub waits_cut : (a b : Arrived) (bytes : List ℕ) → Waits a bytes → 1048577 < length a.lines → b.lines ≡ [] → b.is_cut ≡ true
    → ended_line bytes ≡ None → Waits b bytes
waits_cut a b bytes waits many none cut unended =
    let count : length bytes ≡ length waits.passed + length a.lines = ap length waits.whole ∙ length-append waits.passed a.lines in
    let more : 1048577 < length bytes = omega arith in
    record {
      passed = bytes;
      front = subst (λ (c : Bool). IsPassed c bytes) (sym cut) (more, unended);
      whole = sym (append-nil bytes) ∙ ap (λ t. bytes ++ t) (sym none);
    }

-- ---- the first line

module _ (a : Arrived) (bytes : List ℕ) (passed : List ℕ) (whole : bytes ≡ passed ++ a.lines) where
  none_by : (cut : Bool) → IsPassed cut passed → ended_line a.lines ≡ None → ended_line bytes ≡ None
  none_by false front none = ap ended_line (whole ∙ ap (λ t. t ++ a.lines) front) ∙ none
  none_by true front none = ap ended_line whole ∙ unended_more passed a.lines front.1 none

  first_by : (cut : Bool) → IsPassed cut passed → (line : List ℕ) (left : ℕ) (long : Bool)
      → ended_line a.lines ≡ Some (line, drop (length a.lines - left) a.lines) → long ≡ (cut || nat_lt 1048576 (length line))
      → IsFirst a bytes line long left
  first_by false front line left long ended is = record {
    first = line;
    rest = drop (length a.lines - left) a.lines;
    ended = ap ended_line (whole ∙ ap (λ t. t ++ a.lines) front) ∙ ended;
    length_is = is;
    line_is = λ _. refl;
    behind = refl;
  }
  first_by true front line left long ended is =
      let p = passed_line passed a.lines line (drop (length a.lines - left) a.lines) front.1 ended in
      let many : 1048577 < length passed = front.0 in
      let most : length passed ≤ length p.0 + 1 = p.2 in
      let more : nat_lt 1048576 (length p.0) ≡ true = grind (arith, nat_tests) in
      record {
        first = p.0;
        rest = drop (length a.lines - left) a.lines;
        ended = ap ended_line whole ∙ p.1;
        length_is = is ∙ sym more;
        line_is = λ not. absurd (let bad : true ≡ false = sym is ∙ not in cc);
        behind = refl;
      }

  only_by : (cut : Bool) → IsPassed cut passed → (line : List ℕ) (long : Bool) → line ≡ a.lines → long ≡ (cut || nat_lt 1048576 (length line))
      → ended_line bytes ≡ None → (cut ≡ false → a.lines ≡ [] → ⊥) → IsOnly bytes line long
  only_by false front line long same is unended some =
      let all : bytes ≡ a.lines = whole ∙ ap (λ t. t ++ a.lines) front in
      record {
        only = only_line bytes (λ none. some refl (sym all ∙ none)) unended;
        length_is = is ∙ ap is_long (same ∙ sym all);
        line_is = λ _. same ∙ sym all;
      }
  only_by true front line long same is unended some =
      let many : 1048577 < length passed = front.0 in
      let count : length bytes ≡ length passed + length a.lines = ap length whole ∙ length-append passed a.lines in
      let more : nat_lt 1048576 (length bytes) ≡ true = grind (arith, nat_tests) in
      record {
        only = only_line bytes (λ none. let zero : length bytes ≡ 0 = ap length none in absurd (omega arith)) unended;
        length_is = is ∙ sym more;
        line_is = λ not. absurd (let bad : true ≡ false = sym is ∙ not in cc);
      }

pub first_none : (a : Arrived) (bytes : List ℕ) → Waits a bytes → ended_line a.lines ≡ None → ended_line bytes ≡ None
first_none a bytes waits none = none_by a bytes waits.passed waits.whole a.is_cut waits.front none

pub first_ended : (a : Arrived) (bytes : List ℕ) → Waits a bytes → (line : List ℕ) (left : ℕ) (long : Bool)
    → ended_line a.lines ≡ Some (line, drop (length a.lines - left) a.lines) → long ≡ (a.is_cut || nat_lt 1048576 (length line))
    → IsFirst a bytes line long left
first_ended a bytes waits line left long ended is =
    first_by a bytes waits.passed waits.whole a.is_cut waits.front line left long ended is

pub last_some : (a : Arrived) (bytes : List ℕ) → Waits a bytes → (line : List ℕ) (long : Bool) → line ≡ a.lines
    → long ≡ (a.is_cut || nat_lt 1048576 (length line)) → ended_line bytes ≡ None → (a.is_cut ≡ false → a.lines ≡ [] → ⊥) → IsOnly bytes line long
last_some a bytes waits line long same is unended some =
    only_by a bytes waits.passed waits.whole a.is_cut waits.front line long same is unended some

pub last_none : (a : Arrived) (bytes : List ℕ) → Waits a bytes → a.lines ≡ [] → a.is_cut ≡ false → lines_of bytes ≡ []
last_none a bytes waits none whole =
    let front : waits.passed ≡ [] = subst (λ (cut : Bool). IsPassed cut waits.passed) whole waits.front in
    ap lines_of (waits.whole ∙ (λ i. front i ++ none i))

-- ---- lines that are taken

-- Of bytes that waited these lines were taken.
pub record Taking (terminal : Bool) (old new : Prompt) (bytes : List ℕ) (arrived : Arrived) (flow : Flow) (text : List ℕ) : Type 0 where
  pub done : List (List ℕ)
  pub left : List ℕ
  pub waits : Waits arrived left
  pub parts : (more : List ℕ) → lines_of (bytes ++ more) ≡ done ++ lines_of (left ++ more)
  pub walks : Walks terminal done old new text
  pub flows : flow ≡ flow_after done

module _ (terminal : Bool) (old : Prompt) (bytes : List ℕ) where
  pub taking_none : (arrived : Arrived) → Waits arrived bytes → Taking terminal old old bytes arrived GoesOn []
  taking_none arrived waits = record {
    done = [];
    left = bytes;
    waits = waits;
    parts = λ more. refl;
    walks = (refl, invites_none terminal);
    flows = refl;
  }

  pub taking_line : (mid new : Prompt) (a b : Arrived) (s u : List ℕ) (taking : Taking terminal old mid bytes a GoesOn s) (line : List ℕ)
      (long : Bool) (left : ℕ) (flow : Flow) → IsFirst a taking.left line long left → TakesLine long mid new line u → flow ≡ flow_line long line
      → b.lines ≡ drop (length a.lines - left) a.lines → b.is_cut ≡ false → Taking terminal old new bytes b flow (s ++ u)
  taking_line mid new a b s u taking line long left flow first takes flows lines whole =
      let one : List (List ℕ) = first.first ∷ [] in
      record {
        done = taking.done ++ one;
        left = first.rest;
        waits = waits_kept b first.rest (first.behind ∙ sym lines) whole;
        parts = λ more.
            taking.parts more ∙ ap (λ (ls : List (List ℕ)). taking.done ++ ls) (stays taking.left first.first first.rest more first.ended)
            ∙ sym (append_assoc taking.done one (lines_of (first.rest ++ more)));
        walks = walk_then terminal taking.done one old mid new s u taking.walks (sym taking.flows)
            (walk_one terminal first.first mid new u (line_taken first.first line mid u new long first.length_is first.line_is takes));
        flows = flows ∙ flow_same first.first line long first.length_is first.line_is
            ∙ sym (flow_more taking.done one (sym taking.flows) ∙ flow_one first.first);
      }

  -- before an error
  pub taking_broken : (mid : Prompt) (a : Arrived) (s u : List ℕ) (taking : Taking terminal old mid bytes a GoesOn s) (line : List ℕ)
      (long : Bool) (left : ℕ) → IsFirst a taking.left line long left → BreaksLine long mid line u
      → WalksInto terminal (lines_of bytes) old (s ++ u)
  taking_broken mid a s u taking line long left first breaks =
      let parts : lines_of bytes ≡ taking.done ++ (first.first ∷ lines_of (first.rest ++ [])) =
      ap lines_of (sym (append-nil bytes)) ∙ taking.parts []
      ∙ ap (λ (ls : List (List ℕ)). taking.done ++ ls) (stays taking.left first.first first.rest [] first.ended) in
      subst (λ (ls : List (List ℕ)). WalksInto terminal ls old (s ++ u)) (sym parts)
      (into_then terminal taking.done (first.first ∷ lines_of (first.rest ++ [])) old mid s u taking.walks (sym taking.flows)
      (into_line terminal first.first (lines_of (first.rest ++ [])) mid u
      (line_broken first.first line mid u long first.length_is first.line_is breaks)))

  pub taken_to_quit : (new : Prompt) (arrived : Arrived) (text : List ℕ) → Taking terminal old new bytes arrived Ends text
      → TakesEnded terminal old new bytes arrived Ends text
  taken_to_quit new arrived text taking = record {
    done = taking.done;
    left = taking.left;
    waits = taking.waits;
    parts = taking.parts;
    walks = taking.walks;
    flows = taking.flows;
    no_more = λ e. absurd (let bad : Ends ≡ GoesOn = e in cc);
  }

  pub taken_all : (new : Prompt) (arrived : Arrived) (text : List ℕ) (taking : Taking terminal old new bytes arrived GoesOn text)
      → ended_line taking.left ≡ None → TakesEnded terminal old new bytes arrived GoesOn text
  taken_all new arrived text taking none = record {
    done = taking.done;
    left = taking.left;
    waits = taking.waits;
    parts = taking.parts;
    walks = taking.walks;
    flows = taking.flows;
    no_more = λ e. none;
  }
