-- Lines that are taken as a reader gives them, and what is written for them.
use Rattle.std.proofs.Common.{◌≡◌, ◌∙◌, ◌<◌, ◌^◌, refl, sym, ap, subst, arith, ◌+◌, ℕ, length, length-append, Bool, true, false, List, [], ◌∷◌, ◌++◌, append_assoc, inl, Option, Some, None, Result, Ok, Err}
use Rattle.std.proofs.lemmas.List.{append-nil}
use Rattle.std.specs.Io.KnownBytes.{Appends, Consumes, IsAtEnd}
use Rattle.sfc_asking.specs.sfc_script.Arriving.{ended_line}
use Rattle.sfc_asking.specs.sfc_script.Lines.{lines_of}
use Rattle.sfc_base.specs.Writing.{AppendsFront, Writes}
use Rattle.sfc_base.proofs.Written.{Appends-more, Appends-none, front_second}
use Rattle.sfc_replay.specs.Reading.{Device}
use Rattle.sfc_replay.proofs.Taken.{consumes_more}
use Rattle.sfc_prompt.specs.declared.arrived.Arrived.{Arrived}
use Rattle.sfc_prompt.specs.declared.prompt.Flow.{Flow}
use Rattle.sfc_prompt.specs.declared.prompt.Flow.TheVariants.{GoesOn, Ends}
use Rattle.sfc_prompt.specs.declared.prompt.Prompt.{Prompt}
use Rattle.sfc_prompt.specs.Desks.{Leaves, ReadsOut, Serves, WalksOff, WalksOut, WritesBy}
use Rattle.sfc_prompt.specs.Private.Waiting.{TakesEnded}
use Rattle.sfc_prompt.specs.Walks.{Invites, Walks, WalksInto, flow_after}
use Rattle.sfc_prompt.proofs.Walking.{flow_ended, flow_more, into_all, into_then, invites_none, walk_ended, walk_invited, walk_then}

-- ---- what is written

-- a text that is written whole, or before an error in part
pub writes_text : {X E : Type 0} (before behind : Option (List ℕ)) (result : Result X E) (text : List ℕ) (Whole : X → List ℕ → Type 0)
    (Part : List ℕ → Type 0) → ((x : X) → result ≡ Ok x → Whole x text) → Part text → Writes before behind result text → WritesBy before behind result Whole Part
writes_text before behind (Ok x) text Whole Part whole part writes = (text, whole x refl, writes)
writes_text before behind (Err e) text Whole Part whole part writes = (text, part, writes)

-- nothing before an error
pub part_none : (known : Option (List ℕ)) → AppendsFront known known []
part_none known = ([], [], refl, Appends-none known)

-- one after the other
pub writes_then : {X E : Type 0} (before mid behind : Option (List ℕ)) (result : Result X E) (s : List ℕ) (Whole More : X → List ℕ → Type 0)
    (Part Into : List ℕ → Type 0) → Appends before mid s → ((x : X) (u : List ℕ) → Whole x u → More x (s ++ u))
    → ((u : List ℕ) → Part u → Into (s ++ u)) → WritesBy mid behind result Whole Part → WritesBy before behind result More Into
writes_then before mid behind (Ok x) s Whole More Part Into first whole part second =
    (s ++ second.0, whole x second.0 second.1, Appends-more before mid behind s second.0 first second.2)
writes_then before mid behind (Err e) s Whole More Part Into first whole part second =
    (s ++ second.0, part second.0 second.1, front_second before mid behind s second.0 first second.2)

pub writes_weaker : {X E : Type 0} (before behind : Option (List ℕ)) (result : Result X E) (Whole More : X → List ℕ → Type 0)
    (Part Into : List ℕ → Type 0) → ((x : X) (u : List ℕ) → Whole x u → More x u) → ((u : List ℕ) → Part u → Into u)
    → WritesBy before behind result Whole Part → WritesBy before behind result More Into
writes_weaker before behind (Ok x) Whole More Part Into whole part writes = (writes.0, whole x writes.0 writes.1, writes.2)
writes_weaker before behind (Err e) Whole More Part Into whole part writes = (writes.0, part writes.0 writes.1, writes.2)

-- ---- the end

pub leaves_none : (terminal : Bool) → Leaves terminal []
leaves_none true = inl refl
leaves_none false = refl

module _ (terminal : Bool) (lines : List (List ℕ)) (old : Prompt) where
  pub out_leaves : (new : Prompt) (s u : List ℕ) → Walks terminal lines old new s → Leaves terminal u → WalksOut terminal lines old new (s ++ u)
  out_leaves new s u walks leaves = (s, u, walks, leaves, refl)

  pub off_into : (s : List ℕ) → WalksInto terminal lines old s → WalksOff terminal lines old s
  off_into s into = (s, [], into, leaves_none terminal, sym (append-nil s))

  pub off_leaves : (new : Prompt) (s u : List ℕ) → Walks terminal lines old new s → Leaves terminal u → WalksOff terminal lines old (s ++ u)
  off_leaves new s u walks leaves =
      let all : WalksInto terminal lines old s = subst (λ (ls : List (List ℕ)). WalksInto terminal ls old s) (append-nil lines)
      (subst (λ (t : List ℕ). WalksInto terminal (lines ++ []) old t) (append-nil s)
      (into_all terminal lines [] old new s [] walks (invites_none terminal))) in
      (s, u, all, leaves, refl)

-- ---- what was taken so far

pub consumes_none : (known : Option (List ℕ)) → Consumes known known []
consumes_none None = tt
consumes_none (Some xs) = refl

left_of : (old new : Option (List ℕ)) (bytes : List ℕ) → Consumes old new bytes → (left : List ℕ) × Consumes old (Some left) bytes
left_of None new bytes consumes = ([], tt)
left_of (Some xs) None bytes consumes = absurd consumes
left_of (Some xs) (Some ys) bytes consumes = (ys, consumes)

-- no byte is a piece of none
pub no_bytes : (bytes piece : List ℕ) → length piece ≡ 0 → ended_line bytes ≡ None → ended_line (bytes ++ piece) ≡ None
no_bytes bytes [] e none = ap ended_line (append-nil bytes) ∙ none
no_bytes bytes (b ∷ piece) e none = absurd (omega arith)

-- whatever the lines say, the reader had no more
pub reads_out : (flow : Flow) (bytes : List ℕ) (left : Option (List ℕ)) → (length bytes < 2 ^ 63 → IsAtEnd left) → ReadsOut flow bytes left
reads_out GoesOn bytes left ended = ended
reads_out Ends bytes left ended = tt

-- they say QUIT
reads_quit : (flow : Flow) (bytes : List ℕ) (left : Option (List ℕ)) → flow ≡ Ends → ReadsOut flow bytes left
reads_quit GoesOn bytes left e = absurd (cc)
reads_quit Ends bytes left e = tt

-- The lines of so many bytes that a reader lost were taken but for these, and what was put for them was written.
pub record HasTaken (terminal : Bool) (reader writer : Device) (old new : Prompt) (left : List ℕ) (count : ℕ) : Type 0 where
  pub bytes : List ℕ
  pub counted : count ≡ length bytes
  pub consumes : Consumes reader.0 reader.1 bytes
  pub done : List (List ℕ)
  pub parts : (more : List ℕ) → lines_of (bytes ++ more) ≡ done ++ lines_of (left ++ more)
  pub text : List ℕ
  pub walks : Walks terminal done old new text
  pub flows : flow_after done ≡ GoesOn
  pub appends : Appends writer.0 writer.1 text

module _ (terminal : Bool) (r w : Option (List ℕ)) (old : Prompt) where
  pub taken_none : HasTaken terminal (r, r) (w, w) old old [] 0
  taken_none = record {
    bytes = [];
    counted = refl;
    consumes = consumes_none r;
    done = [];
    parts = λ more. refl;
    text = [];
    walks = (refl, invites_none terminal);
    flows = refl;
    appends = Appends-none w;
  }

  module _ (s v : Option (List ℕ)) (mid : Prompt) (left : List ℕ) (count : ℕ) (taken : HasTaken terminal (r, s) (w, v) old mid left count) where
    abbrev all : List (List ℕ)
    all = taken.done ++ lines_of left

    lines_all : lines_of taken.bytes ≡ all
    lines_all =
        ap lines_of (sym (append-nil taken.bytes)) ∙ taken.parts []
        ∙ ap (λ (l : List ℕ). taken.done ++ lines_of l) (append-nil left)

    pub taken_invited : (x : Option (List ℕ)) (new : Prompt) (asked : List ℕ) → new ≡ mid → Invites terminal asked → Appends v x asked
        → HasTaken terminal (r, s) (w, x) old new left count
    taken_invited x new asked same invites appends = record {
      bytes = taken.bytes;
      counted = taken.counted;
      consumes = taken.consumes;
      done = taken.done;
      parts = taken.parts;
      text = taken.text ++ asked;
      walks = subst (λ (p : Prompt). Walks terminal taken.done old p (taken.text ++ asked)) (sym same)
          (walk_invited terminal taken.done old mid taken.text asked taken.walks taken.flows invites);
      flows = taken.flows;
      appends = Appends-more w v x taken.text asked taken.appends appends;
    }

    pub taken_piece : (t : Option (List ℕ)) (piece : List ℕ) (more : ℕ) → length piece ≡ more → Consumes s t piece
        → HasTaken terminal (r, t) (w, v) old mid (left ++ piece) (count + more)
    taken_piece t piece more is consumes = record {
      bytes = taken.bytes ++ piece;
      counted = omega (arith, taken.counted, is, length-append taken.bytes piece);
      consumes = consumes_more r s t taken.bytes piece taken.consumes consumes;
      done = taken.done;
      parts = λ more.
          ap lines_of (append_assoc taken.bytes piece more) ∙ taken.parts (piece ++ more)
          ∙ ap (λ (l : List ℕ). taken.done ++ lines_of l) (sym (append_assoc left piece more));
      text = taken.text;
      walks = taken.walks;
      flows = taken.flows;
      appends = taken.appends;
    }

    pub taken_lines : (x : Option (List ℕ)) (new : Prompt) (arrived : Arrived) (text : List ℕ)
        (ended : TakesEnded terminal mid new left arrived GoesOn text) → Appends v x text
        → HasTaken terminal (r, s) (w, x) old new ended.left count
    taken_lines x new arrived text ended appends = record {
      bytes = taken.bytes;
      counted = taken.counted;
      consumes = taken.consumes;
      done = taken.done ++ ended.done;
      parts = λ more.
          taken.parts more ∙ ap (λ (ls : List (List ℕ)). taken.done ++ ls) (ended.parts more)
          ∙ sym (append_assoc taken.done ended.done (lines_of (ended.left ++ more)));
      text = taken.text ++ text;
      walks = walk_then terminal taken.done ended.done old mid new taken.text text taken.walks taken.flows ended.walks;
      flows = flow_more taken.done ended.done taken.flows ∙ sym ended.flows;
      appends = Appends-more w v x taken.text text taken.appends appends;
    }

    -- ---- the end

    pub serves_quit : (x : Option (List ℕ)) (new : Prompt) (arrived : Arrived) (text : List ℕ)
        → TakesEnded terminal mid new left arrived Ends text → Appends v x text
        → (bytes : List ℕ) × Consumes r s bytes × ReadsOut (flow_after (lines_of bytes)) bytes s × (whole : List ℕ) × WalksOut terminal (lines_of bytes) old new whole × Appends w x whole
    serves_quit x new arrived text ended appends =
        let done : List (List ℕ) = taken.done ++ ended.done in
        let parts : lines_of taken.bytes ≡ done ++ lines_of (ended.left ++ []) =
        lines_all ∙ ap (λ (l : List ℕ). taken.done ++ lines_of l) (sym (append-nil left))
        ∙ ap (λ (ls : List (List ℕ)). taken.done ++ ls) (ended.parts [])
        ∙ sym (append_assoc taken.done ended.done (lines_of (ended.left ++ []))) in
        let walks : Walks terminal done old new (taken.text ++ text) =
        walk_then terminal taken.done ended.done old mid new taken.text text taken.walks taken.flows ended.walks in
        let over : flow_after done ≡ Ends = flow_more taken.done ended.done taken.flows ∙ sym ended.flows in
        let whole : Walks terminal (lines_of taken.bytes) old new (taken.text ++ text) =
        subst (λ (ls : List (List ℕ)). Walks terminal ls old new (taken.text ++ text)) (sym parts)
        (walk_ended terminal done (lines_of (ended.left ++ [])) old new (taken.text ++ text) walks over) in
        let quits : flow_after (lines_of taken.bytes) ≡ Ends =
        ap flow_after parts ∙ flow_ended done (lines_of (ended.left ++ [])) over in (
          taken.bytes,
          taken.consumes,
          reads_quit (flow_after (lines_of taken.bytes)) taken.bytes s quits,
          taken.text ++ text,
          (taken.text ++ text, [], whole, leaves_none terminal, sym (append-nil (taken.text ++ text))),
          Appends-more w v x taken.text text taken.appends appends,
        )

    into_rest : (u : List ℕ) → WalksInto terminal (lines_of left) mid u → WalksInto terminal (lines_of taken.bytes) old (taken.text ++ u)
    into_rest u into =
        subst (λ (ls : List (List ℕ)). WalksInto terminal ls old (taken.text ++ u)) (sym lines_all)
        (into_then terminal taken.done (lines_of left) old mid taken.text u taken.walks taken.flows into)

    pub serves_last : {X E : Type 0} (result : Result X E) (x : Option (List ℕ)) (new : Prompt)
        → (count < 2 ^ 63 → IsAtEnd s) → WritesBy v x result (λ _ text. WalksOut terminal (lines_of left) mid new text) (WalksOff terminal (lines_of left) mid)
        → Serves terminal (r, s) (w, x) old new result
    serves_last (Ok value) x new at_end writes =
        let out = writes.1 in
        let walks : Walks terminal (lines_of taken.bytes) old new (taken.text ++ out.0) =
        subst (λ (ls : List (List ℕ)). Walks terminal ls old new (taken.text ++ out.0)) (sym lines_all)
        (walk_then terminal taken.done (lines_of left) old mid new taken.text out.0 taken.walks taken.flows out.2) in (
          taken.bytes,
          taken.consumes,
          reads_out (flow_after (lines_of taken.bytes)) taken.bytes s (λ few. at_end (subst (λ (n : ℕ). n < 2 ^ 63) (sym taken.counted) few)),
          taken.text ++ writes.0,
          (
            taken.text ++ out.0,
            out.1,
            walks,
            out.3,
            ap (λ t. taken.text ++ t) out.4 ∙ sym (append_assoc taken.text out.0 out.1),
          ),
          Appends-more w v x taken.text writes.0 taken.appends writes.2,
        )
    serves_last (Err error) x new at_end writes =
        let off = writes.1 in
        let front = left_of r s taken.bytes taken.consumes in (
          taken.bytes,
          front.0,
          front.1,
          taken.text ++ writes.0,
          (
            taken.text ++ off.0,
            off.1,
            into_rest off.0 off.2,
            off.3,
            ap (λ t. taken.text ++ t) off.4 ∙ sym (append_assoc taken.text off.0 off.1),
          ),
          front_second w v x taken.text writes.0 taken.appends writes.2,
        )

    -- before an error in these lines
    pub serves_into : {X E : Type 0} (result : Result X E) (error : E) → result ≡ Err error → (x y : Option (List ℕ)) (new : Prompt)
        (u : List ℕ) → WalksInto terminal (lines_of left) mid u → AppendsFront v x u → Serves terminal (r, y) (w, x) old new result
    serves_into {X} {E} result error is x y new u into appends =
        let front = left_of r s taken.bytes taken.consumes in
        subst (λ (o : Result X E). Serves terminal (r, y) (w, x) old new o) (sym is) (
          taken.bytes,
          front.0,
          front.1,
          taken.text ++ u,
          (taken.text ++ u, [], into_rest u into, leaves_none terminal, sym (append-nil (taken.text ++ u))),
          front_second w v x taken.text u taken.appends appends,
        )

    -- before an error between them
    pub serves_between : {X E : Type 0} (result : Result X E) (error : E) → result ≡ Err error → (x y : Option (List ℕ)) (new : Prompt)
        (u : List ℕ) → Invites terminal u → AppendsFront v x u → Serves terminal (r, y) (w, x) old new result
    serves_between result error is x y new u invites appends =
        serves_into result error is x y new u (into_all terminal [] (lines_of left) mid mid [] u (refl, invites_none terminal) invites) appends
