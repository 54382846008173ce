-- Lines that came in pieces.
use Rattle.std.proofs.Common.{◌≡◌, ℕ, ◌+◌, ◌<◌, ◌≤◌, ◌==◌, ◌&&◌, Bool, true, false, ◌||◌, List, [], ◌∷◌, ◌++◌, length, ℤ, Option, Some, None, Result, Ok, Err, if◌then◌else◌, refl, sym, ap, subst, ◌∙◌, arith, append_assoc, append-nil, length-append, inl, inr}
use Rattle.std.proofs.KnownBytes.{Consumes-kept}
use Rattle.std.proofs.Math.Bool.{and-false}
use Rattle.std.specs.Io.KnownBytes.{Consumes, IsAtEnd}
use Rattle.std.specs.declared.alloc.AllocError.{AllocError}
use Rattle.sfc_plant.specs.Plants.{PlantData}
use Rattle.sfc_control.specs.sfc_debug.declared.break_condition.BreakCondition.{BreakCondition}
use Rattle.sfc_replay.specs.Reading.{LosesFor}
use Rattle.sfc_replay.specs.Working.Faults.{IsInputFault}
use Rattle.sfc_replay.specs.declared.replay_error.ReplayError.{ReplayError}
use Rattle.sfc_replay.specs.declared.replay_error.ReplayError.TheVariants.{Chart, Script, Read, Write, Memory}
use Rattle.sfc_replay.proofs.Taken.{all_taken, consumes_more}
use Rattle.sfc_replay.specs.sfc_script.Arriving.{ended_by, ended_line, is_lf}
use Rattle.sfc_replay.specs.sfc_script.Lines.{begins_with_lf, in_line, lines_of, split_before}
use Rattle.sfc_run.specs.Asks.{run_line}
use Rattle.sfc_run.specs.declared.session.Waiting.{Waiting}
use Rattle.sfc_run.specs.Faults.{both}
use Rattle.sfc_run.specs.Holding.{Obeys, ObeysAll, ObeysFront, ObeysLines, Scene, Stops, TakesFor}
use Rattle.sfc_run.specs.Working.Walking.{Begins, ObeysAllOr, PiecesOr, Walks, WalksOn, WalksTo, faults_by, nothing}
use Rattle.sfc_run.proofs.Obeying.{obeys_front, obeys_one, obeys_then, or_assoc, or_false}

-- ---- lines of bytes

-- what is left of an only line
abbrev pub only_line : List ℕ → List (List ℕ)
only_line [] = []
only_line (b ∷ bytes) = (b ∷ bytes) ∷ []

ends_later : (b : ℕ) (bytes : List ℕ) → ended_line (b ∷ bytes) ≡ None → ((b == 10) ≡ false) × (ended_line bytes ≡ None)
unfolding split_before
ends_later b bytes none = by (b == 10) none
  where
    behind : (s : List ℕ × List ℕ) → ended_by (b ∷ s.0, s.1) ≡ None → ended_by s ≡ None
    behind (front, []) e = refl
    behind (front, m ∷ rest) e = absurd cc

    by : (t : Bool) → ended_by (if t then ([], b ∷ bytes) else (b ∷ (split_before is_lf bytes).0, (split_before is_lf bytes).1)) ≡ None
        → (t ≡ false) × (ended_line bytes ≡ None)
    by true e = absurd cc
    by false e = (refl, behind (split_before is_lf bytes) e)

not_lf_first : (bytes : List ℕ) → ended_line bytes ≡ None → begins_with_lf bytes ≡ false
not_lf_first [] none = refl
not_lf_first (b ∷ bytes) none = (ends_later b bytes none).0

in_only : (b : ℕ) (bytes : List ℕ) → in_line b (only_line bytes) ≡ (b ∷ bytes) ∷ []
in_only b [] = refl
in_only b (c ∷ bytes) = refl

-- bytes in which no line has its end are one line, or none
pub last_line : (bytes : List ℕ) → ended_line bytes ≡ None → lines_of bytes ≡ only_line bytes
last_line [] none = refl
last_line (b ∷ bytes) none =
    let later = ends_later b bytes none in
    ap (λ t. if t then [] ∷ lines_of bytes else if b == 13 && begins_with_lf bytes then lines_of bytes else in_line b (lines_of bytes)) later.0
    ∙ ap (λ t. if b == 13 && t then lines_of bytes else in_line b (lines_of bytes)) (not_lf_first bytes later.1)
    ∙ ap (λ t. if t then lines_of bytes else in_line b (lines_of bytes)) (and-false (b == 13))
    ∙ ap (in_line b) (last_line bytes later.1) ∙ in_only b bytes

-- the same, of bytes that are some
pub last_alone : (bytes : List ℕ) → (length bytes ≡ 0 → ⊥) → ended_line bytes ≡ None → lines_of bytes ≡ bytes ∷ []
last_alone [] some none = absurd (some refl)
last_alone (b ∷ bytes) some none = last_line (b ∷ bytes) none

none_left : (bytes : List ℕ) → length bytes ≡ 0 → bytes ≡ []
none_left [] e = refl
none_left (b ∷ bytes) e = absurd (omega arith)

pub nothing_ended : ended_line [] ≡ None
unfolding split_before
nothing_ended = refl

-- ---- lines that were obeyed

-- a line that has its end is the first line, whatever comes behind the bytes
abbrev pub FirstStays : Type 0
FirstStays = (bytes line rest more : List ℕ) → ended_line bytes ≡ Some (line, rest) → lines_of (bytes ++ more) ≡ line ∷ lines_of (rest ++ more)

begins_then : (a b c : List ℕ) (xs ys : List (List ℕ)) → Begins a xs b → Begins b ys c → Begins a (xs ++ ys) c
begins_then a b c xs ys one two more =
    one more ∙ ap (λ (ls : List (List ℕ)). xs ++ ls) (two more) ∙ sym (append_assoc xs ys (lines_of (c ++ more)))

begins_piece : (a b piece : List ℕ) (xs : List (List ℕ)) → Begins a xs b → Begins (a ++ piece) xs (b ++ piece)
begins_piece a b piece xs one more =
    ap lines_of (append_assoc a piece more) ∙ one (piece ++ more) ∙ ap (λ (t : List ℕ). xs ++ lines_of t) (sym (append_assoc b piece more))

-- and where nothing comes
pub begins_whole : (bytes rest : List ℕ) (lines : List (List ℕ)) → Begins bytes lines rest → lines_of bytes ≡ lines ++ lines_of rest
begins_whole bytes rest lines begins =
    ap lines_of (sym (append-nil bytes)) ∙ begins [] ∙ ap (λ (t : List ℕ). lines ++ lines_of t) (append-nil rest)

consumed : (early : Bool) (first last : Option (List ℕ)) (bytes : List ℕ) → TakesFor early (first, last) bytes → Consumes first last bytes
consumed false first last bytes taken = taken.1
consumed true first last bytes taken = taken

module _ {X C : Type 0} (names plant : PlantData) (table : List BreakCondition) (limit : ℕ) (reads : C → ℤ → C → Type 0) where
  -- nothing was obeyed yet
  pub walks_none : (bytes : List ℕ) (waiting : Waiting) (s : Scene X C) → bytes ≡ waiting.lines
      → Walks names plant table limit reads bytes waiting waiting s s
  walks_none bytes waiting s are = record {
    lines = [];
    untold = false;
    begins = λ more. ap (λ (t : List ℕ). lines_of (t ++ more)) are;
    obeyed = (refl, refl);
    count = omega arith;
    told = sym (or_false waiting.untold);
    room = omega (arith, ap length are);
  }

  -- one line
  pub walks_one : FirstStays → (before after : Waiting) (old new : Scene X C) (line rest : List ℕ) (number : ℕ) (untold : Bool)
      → ended_line before.lines ≡ Some (line, rest) → number ≡ before.obeyed + 1
      → Obeys names plant table limit reads number (run_line names line) old new untold
      → after.lines ≡ rest → after.obeyed ≡ before.obeyed + 1 → after.untold ≡ (before.untold || untold)
      → length rest < length before.lines → Walks names plant table limit reads before.lines before after old new
  walks_one stays before after old new line rest number untold first numbered obeyed lines count told fewer = record {
    lines = line ∷ [];
    untold = untold;
    begins = λ more. stays before.lines line rest more first ∙ ap (λ (t : List ℕ). line ∷ lines_of (t ++ more)) (sym lines);
    obeyed = subst (λ (k : ℕ). ObeysAll names plant table limit reads k (line ∷ []) old new untold) numbered
        (obeys_one names plant table limit reads number line old new untold obeyed);
    count = omega (arith, count);
    told = told;
    room = omega (arith, count, fewer, ap length lines);
  }

  -- lines, and behind them others
  pub walks_then : (bytes : List ℕ) (a b c : Waiting) (old mid new : Scene X C) → Walks names plant table limit reads bytes a b old mid
      → Walks names plant table limit reads b.lines b c mid new → Walks names plant table limit reads bytes a c old new
  walks_then bytes a b c old mid new one two =
      let next : a.obeyed + 1 + length one.lines ≡ b.obeyed + 1 = omega (arith, one.count) in
      record {
        lines = one.lines ++ two.lines;
        untold = one.untold || two.untold;
        begins = begins_then bytes b.lines c.lines one.lines two.lines one.begins two.begins;
        obeyed = obeys_then names plant table limit reads one.lines two.lines (a.obeyed + 1) old mid new one.untold two.untold one.obeyed
            (subst (λ (k : ℕ). ObeysAll names plant table limit reads k two.lines mid new two.untold) (sym next) two.obeyed);
        count = omega (arith, one.count, two.count, length-append one.lines two.lines);
        told = two.told ∙ ap (λ (w : Bool). w || two.untold) one.told ∙ sym (or_assoc a.untold one.untold two.untold);
        room = omega (arith, one.room, two.room);
      }

  -- a piece that came behind
  pub walks_piece : (bytes piece : List ℕ) (a b c : Waiting) (old new : Scene X C) → Walks names plant table limit reads bytes a b old new
      → c.lines ≡ b.lines ++ piece → c.obeyed ≡ b.obeyed → c.untold ≡ b.untold
      → Walks names plant table limit reads (bytes ++ piece) a c old new
  walks_piece bytes piece a b c old new one lines obeyed untold = record {
    lines = one.lines;
    untold = one.untold;
    begins = subst (λ (t : List ℕ). Begins (bytes ++ piece) one.lines t) (sym lines) (begins_piece bytes b.lines piece one.lines one.begins);
    obeyed = one.obeyed;
    count = obeyed ∙ one.count;
    told = untold ∙ one.told;
    room = omega (arith, obeyed, one.room, ap length lines, length-append b.lines piece, length-append bytes piece);
  }

  -- lines, and behind them others until memory was refused
  pub walks_to : (bytes : List ℕ) (a b c : Waiting) (old mid new : Scene X C) → Walks names plant table limit reads bytes a b old mid
      → WalksTo names plant table limit reads b.lines b c mid new → WalksTo names plant table limit reads bytes a c old new
  walks_to bytes a b c old mid new one two = record {
    mid = two.mid;
    walked = walks_then bytes a b c old mid two.mid one two.walked;
    line = two.line;
    behind = two.behind;
    next = two.next;
    stopped = two.stopped;
  }

  -- a front of the lines of all bytes was obeyed, and then memory was refused at the next line
  front_to : (bytes : List ℕ) (after : Waiting) (old new : Scene X C) → WalksTo names plant table limit reads bytes nothing after old new
      → ObeysFront names plant table limit reads 1 (lines_of bytes) old new after.untold
  front_to bytes after old new walked =
      let w = walked.walked in
      obeys_front names plant table limit reads w.lines (walked.line ∷ lines_of walked.behind) (lines_of bytes) 1 old walked.mid new after.untold
      (begins_whole bytes after.lines w.lines w.begins
      ∙ ap (λ (ls : List (List ℕ)). w.lines ++ ls) (begins_whole after.lines walked.behind (walked.line ∷ []) walked.next))
      (subst (λ (u : Bool). ObeysAll names plant table limit reads 1 w.lines old walked.mid u) (sym w.told) w.obeyed)
      (inr walked.stopped)

  pub stops_here : (s : Scene X C) (lines : List (List ℕ)) → Stops names plant table limit reads lines s s
  stops_here s [] = ((refl, refl, refl), refl)
  stops_here s (line ∷ lines) = inl ((refl, refl, refl), refl)

  -- ---- pieces

  -- the reader failed, or memory was refused and bytes were lost
  pub pieces_failed : (first mid last : Option (List ℕ)) (bytes : List ℕ) (most : ℕ) (after : Waiting) (old new : Scene X C)
      → length bytes + most ≤ 4611686018427387904 → Consumes first mid bytes → WalksOn names plant table limit reads bytes nothing after old new
      → (error : ReplayError) → IsInputFault error → LosesFor error most (mid, last)
      → PiecesOr names plant table limit reads {A = Unit {0}} (first, last) after old new (Err error)
  pieces_failed first mid last bytes most after old new few taken w (Chart error) fault lost = absurd fault
  pieces_failed first mid last bytes most after old new few taken w (Script line) fault lost = absurd fault
  pieces_failed first mid last bytes most after old new few taken w Write fault lost = absurd fault
  pieces_failed first mid last bytes most after old new few taken w Read fault lost =
      (bytes, omega arith, Consumes-kept first mid last bytes taken lost, w)
  pieces_failed first mid last bytes most after old new few taken w Memory fault lost =
      let walked = w.walked in
      let piece = lost.0 in (
        bytes ++ piece,
        omega (arith, few, lost.1, length-append bytes piece),
        consumes_more first mid last bytes piece taken lost.2,
        obeys_front names plant table limit reads walked.lines (lines_of (after.lines ++ piece)) (lines_of (bytes ++ piece)) 1 old new new
            after.untold (walked.begins piece)
            (subst (λ (u : Bool). ObeysAll names plant table limit reads 1 walked.lines old new u) (sym walked.told) walked.obeyed)
            (stops_here new (lines_of (after.lines ++ piece))),
      )

  -- no byte came
  pub pieces_ended : (first mid last : Option (List ℕ)) (bytes piece : List ℕ) (before after : Waiting) (old new : Scene X C)
      → length bytes ≤ 4611686018427387904 → Consumes first mid bytes → WalksOn names plant table limit reads bytes nothing before old new
      → length piece ≡ 0 → Consumes mid last piece → IsAtEnd last
      → after.lines ≡ before.lines ++ piece → after.obeyed ≡ before.obeyed → after.untold ≡ before.untold
      → (all : List ℕ) × (length all ≤ 4611686018427387904) × TakesFor false (first, last) all × WalksOn names plant table limit reads all nothing after old new
  pieces_ended first mid last bytes piece before after old new few taken w count more end lines obeyed untold =
      let none : piece ≡ [] = none_left piece count in
      let same : bytes ++ piece ≡ bytes = ap (λ (p : List ℕ). bytes ++ p) none ∙ append-nil bytes in
      let left : after.lines ≡ before.lines = lines ∙ ap (λ (p : List ℕ). before.lines ++ p) none ∙ append-nil before.lines in
      let all = all_taken 4611686018427387904 first mid last bytes few taken (subst (λ (p : List ℕ). Consumes mid last p) none more) end in (
        bytes,
        few,
        (inl all.0, all.1),
        record {
          walked = subst (λ (b : List ℕ). Walks names plant table limit reads b nothing after old new) same
              (walks_piece bytes piece nothing before after old new w.walked lines obeyed untold);
          left = ap ended_line left ∙ w.left;
        },
      )

  -- the line that waits is too long
  pub pieces_long : (first last : Option (List ℕ)) (bytes : List ℕ) (after : Waiting) (old new : Scene X C)
      → length bytes ≤ 4611686018427387904 → Consumes first last bytes → WalksOn names plant table limit reads bytes nothing after old new
      → 1048576 < length after.lines
      → (all : List ℕ) × (length all ≤ 4611686018427387904) × TakesFor false (first, last) all
      × WalksOn names plant table limit reads all nothing after old new
  pieces_long first last bytes after old new few taken on long =
      let w = on.walked in
      let alone : lines_of after.lines ≡ after.lines ∷ [] = last_alone after.lines (λ none. absurd (omega (arith, none, long))) on.left in
      let last_one : lines_of bytes ≡ w.lines ++ after.lines ∷ [] =
      begins_whole bytes after.lines w.lines w.begins ∙ ap (λ (ls : List (List ℕ)). w.lines ++ ls) alone in
      (bytes, few, (inr (w.lines, after.lines, last_one, long), taken), on)

  -- the lines of a piece were obeyed
  pub pieces_more : (bytes piece : List ℕ) (before came after : Waiting) (old mid new : Scene X C)
      → WalksOn names plant table limit reads bytes nothing before old mid
      → came.lines ≡ before.lines ++ piece → came.obeyed ≡ before.obeyed → came.untold ≡ before.untold
      → WalksOn names plant table limit reads came.lines came after mid new
      → WalksOn names plant table limit reads (bytes ++ piece) nothing after old new
  pieces_more bytes piece before came after old mid new w lines obeyed untold more = record {
    walked = walks_then (bytes ++ piece) nothing came after old mid new
        (walks_piece bytes piece nothing before came old mid w.walked lines obeyed untold) more.walked;
    left = more.left;
  }

  -- or memory was refused at one of them
  pub pieces_stopped : (bytes piece : List ℕ) (before came after : Waiting) (old mid new : Scene X C)
      → WalksOn names plant table limit reads bytes nothing before old mid
      → came.lines ≡ before.lines ++ piece → came.obeyed ≡ before.obeyed → came.untold ≡ before.untold
      → WalksTo names plant table limit reads came.lines came after mid new
      → ObeysFront names plant table limit reads 1 (lines_of (bytes ++ piece)) old new after.untold
  pieces_stopped bytes piece before came after old mid new w lines obeyed untold more =
      front_to (bytes ++ piece) after old new
      (walks_to (bytes ++ piece) nothing came after old mid new
      (walks_piece bytes piece nothing before came old mid w.walked lines obeyed untold) more)

  -- the reader failed
  pub pieces_read : (first last : Option (List ℕ)) (after : Waiting) (old new : Scene X C) (error : ReplayError) → (error ≡ Memory → ⊥)
      → PiecesOr names plant table limit reads {A = Unit {0}} (first, last) after old new (Err error)
      → (bytes : List ℕ) × (length bytes ≤ 4611686018427387904) × TakesFor true (first, last) bytes
      × WalksOn names plant table limit reads bytes nothing after old new
  pieces_read first last after old new (Chart e) other pieces = pieces
  pieces_read first last after old new (Script line) other pieces = pieces
  pieces_read first last after old new Read other pieces = pieces
  pieces_read first last after old new Write other pieces = pieces
  pieces_read first last after old new Memory other pieces = absurd (other refl)

  -- ---- the last line

  -- there is room for the number of the last line
  pub last_room : (bytes : List ℕ) (after : Waiting) (old new : Scene X C) → length bytes ≤ 4611686018427387904
      → WalksOn names plant table limit reads bytes nothing after old new → after.obeyed + length after.lines < 18446744073709551616
  last_room bytes after old new few w = omega (arith, w.walked.room, few)

  -- what came of all lines
  pub lines_all : (early : Bool) (first last : Option (List ℕ)) (bytes : List ℕ) (after : Waiting) (old mid new : Scene X C)
      → length bytes ≤ 4611686018427387904 → TakesFor early (first, last) bytes → WalksOn names plant table limit reads bytes nothing after old mid
      → (r : Result Bool AllocError)
      → ObeysAllOr names plant table limit reads (after.obeyed + 1) (lines_of after.lines) mid new r
      → ObeysLines names plant table limit reads (first, last) old new
      (both (record {
        memory = false;
        read = early;
        write = false;
        mismatch = false;
        untold = false;
        faulted = false;
        ended = false;
      }) (faults_by after.untold r))
  lines_all early first last bytes after old mid new few taken on (Ok untold) obeyed =
      let w = on.walked in
      let next : after.obeyed + 1 ≡ 1 + length w.lines = omega (arith, w.count) in
      record {
        bytes = bytes;
        few = few;
        taken = subst (λ (b : Bool). TakesFor b (first, last) bytes) (sym (or_false early)) taken;
        obeyed = subst (λ (ls : List (List ℕ)). ObeysAll names plant table limit reads 1 ls old new (after.untold || untold))
            (sym (begins_whole bytes after.lines w.lines w.begins))
            (subst (λ (u : Bool). ObeysAll names plant table limit reads 1 (w.lines ++ lines_of after.lines) old new (u || untold)) (sym w.told)
            (obeys_then names plant table limit reads w.lines (lines_of after.lines) 1 old mid new w.untold untold w.obeyed
            (subst (λ (k : ℕ). ObeysAll names plant table limit reads k (lines_of after.lines) mid new untold) next obeyed)));
        write = refl;
        mismatch = refl;
        faulted = refl;
        ended = refl;
      }
  lines_all early first last bytes after old mid new few taken on (Err e) stopped =
      let w = on.walked in
      record {
        bytes = bytes;
        few = few;
        taken = consumed early first last bytes taken;
        obeyed = obeys_front names plant table limit reads w.lines (lines_of after.lines) (lines_of bytes) 1 old mid new after.untold
            (begins_whole bytes after.lines w.lines w.begins)
            (subst (λ (u : Bool). ObeysAll names plant table limit reads 1 w.lines old mid u) (sym w.told) w.obeyed) stopped;
        write = refl;
        mismatch = refl;
        faulted = refl;
        ended = refl;
      }

  -- where memory was refused
  pub lines_front : (first last : Option (List ℕ)) (bytes : List ℕ) (untold : Bool) (old new : Scene X C) → length bytes ≤ 4611686018427387904
      → TakesFor true (first, last) bytes → ObeysFront names plant table limit reads 1 (lines_of bytes) old new untold
      → ObeysLines names plant table limit reads (first, last) old new
      (record { memory = true; read = false; write = false; mismatch = false; untold = untold; faulted = false; ended = false })
  lines_front first last bytes untold old new few taken front =
      record { bytes = bytes; few = few; taken = taken; obeyed = front; write = refl; mismatch = refl; faulted = refl; ended = refl }
