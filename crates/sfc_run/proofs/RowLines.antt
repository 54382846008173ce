-- Rows that were taken one after the other, their lines, and what was told of them.
use Rattle.std.proofs.Common.{◌≡◌, ℕ, ◌<◌, List, [], ◌∷◌, ◌++◌, Bool, true, false, Option, Some, None, ◌||◌, is_some, refl, sym, ap, subst, ◌∙◌, append_assoc, append-nil, length, arith}
use mathlib.Core.List.{IsPrefix}
use Rattle.std.specs.Io.KnownBytes.{Appends}
use Rattle.std.proofs.KnownBytes.{Appends-nil, Appends-trans}
use Rattle.sfc_base.specs.Writing.{AppendsFront}
use Rattle.sfc_events.specs.declared.command.TraceRow.{TraceRow}
use Rattle.sfc_control.specs.declared.tail.Tail.{Tail}
use Rattle.sfc_control.specs.Tails.{taken, coming}
use Rattle.sfc_control.specs.sfc_debug.Agreement.{Agrees}
use Rattle.sfc_control.specs.sfc_debug.Histories.{CommandHistory}
use Rattle.sfc_control.specs.sfc_debug.Steered.{Steered}
use Rattle.sfc_control.specs.sfc_debug.declared.trace_mask.TraceMask.{TraceMask}
use Rattle.sfc_run.specs.Alarms.{AreTold, Hears, IsHeard, IsSet, IsTold, rows_heard, with_heard}
use Rattle.sfc_run.specs.Following.{debugger_in}
use Rattle.sfc_run.specs.Printing.{line_if, rows_text, IsEndTold, Notes, Takes, Reaches, ReadsAlike, Passes, Puts, Tells, steered_of}
use Rattle.sfc_run.specs.Recording.{IsNote, end_note, told_note}
use Rattle.sfc_run.specs.declared.alarms.Alarms.{Alarms}
use Rattle.sfc_run.specs.declared.alarms.Told.{Told}
use Rattle.sfc_run.specs.declared.printing.Printing.{Printing}
use Rattle.sfc_run.specs.declared.recording.Recorder.{Recorder}
use Rattle.sfc_run.specs.declared.recording.Recording.{Recording}
use Rattle.sfc_run.specs.declared.watch.Texts.{Texts}
use Rattle.sfc_run.specs.declared.watch.Watch.{Watch}

-- ---- what is told of rows, and then of more

-- the debugger that follows stands behind those commands then
heard_agrees : (old new : Alarms) (one : Option TraceRow) (h behind : CommandHistory) (text shown recorded : List ℕ)
    → IsHeard old new one h behind text shown recorded → Agrees (debugger_in new.follower) behind
heard_agrees old new None h behind text shown recorded heard = heard.0.agrees
heard_agrees old new (Some row) h behind text shown recorded heard = heard.alarmed.follows.agrees

told_agrees : (old new : Alarms) (heard : List (Option TraceRow)) (h behind : CommandHistory) (text shown recorded : List ℕ)
    → AreTold old new heard h behind text shown recorded → Agrees (debugger_in old.follower) h → Agrees (debugger_in new.follower) behind
told_agrees old new [] h behind text shown recorded (same, now, none, empty, nothing) agrees =
    subst (λ (a : Alarms). Agrees (debugger_in a.follower) behind) (sym same)
    (subst (λ (x : CommandHistory). Agrees (debugger_in old.follower) x) (sym now) agrees)
told_agrees old new (one ∷ heard) h behind text shown recorded (mid, between, some, rest, seen, others, put, puts, same, also, too, is_heard, more) agrees =
    told_agrees mid new heard between behind rest others puts more (heard_agrees old mid one h between some seen put is_heard)

told_then : (old mid new : Alarms) (a b : List (Option TraceRow)) (h between behind : CommandHistory) (some rest seen others put puts : List ℕ)
    → AreTold old mid a h between some seen put → AreTold mid new b between behind rest others puts
    → AreTold old new (a ++ b) h behind (some ++ rest) (seen ++ others) (put ++ puts)
told_then old mid new [] b h between behind some rest seen others put puts (same, now, none, empty, nothing) more =
    subst (λ (t : List ℕ). AreTold old new b h behind (t ++ rest) (seen ++ others) (put ++ puts)) (sym none)
    (subst (λ (t : List ℕ). AreTold old new b h behind rest (t ++ others) (put ++ puts)) (sym empty)
    (subst (λ (t : List ℕ). AreTold old new b h behind rest others (t ++ puts)) (sym nothing)
    (subst (λ (x : CommandHistory). AreTold old new b x behind rest others puts) now
    (subst (λ (m : Alarms). AreTold m new b between behind rest others puts) same more))))
told_then old mid new (one ∷ a) b h between behind some rest seen others put puts
    (first, after, one_text, more, look, looks, line, lines, same, also, too, is_heard, told) then = (
      first,
      after,
      one_text,
      more ++ rest,
      look,
      looks ++ others,
      line,
      lines ++ puts,
      ap (λ (t : List ℕ). t ++ rest) same ∙ append_assoc one_text more rest,
      ap (λ (t : List ℕ). t ++ others) also ∙ append_assoc look looks others,
      ap (λ (t : List ℕ). t ++ puts) too ∙ append_assoc line lines puts,
      is_heard,
      told_then first mid new a b after between behind more rest looks others lines puts told then,
    )

-- a row by itself, and all that was set again
told_one : (old new : Alarms) (one : Option TraceRow) (h behind : CommandHistory) (text shown recorded : List ℕ)
    → IsHeard old new one h behind text shown recorded → AreTold old new (one ∷ []) h behind text shown recorded
told_one old new one h behind text shown recorded heard = (
  new,
  behind,
  text,
  [],
  shown,
  [],
  recorded,
  [],
  sym (append-nil text),
  sym (append-nil shown),
  sym (append-nil recorded),
  heard,
  (refl, refl, refl, refl, refl),
)

with_more : (one : Option TraceRow) (rows more : List TraceRow) → with_heard one (rows ++ more) ≡ with_heard one rows ++ more
with_more None rows more = refl
with_more (Some row) rows more = refl

heard_more : (a b : List (Option TraceRow)) → rows_heard (a ++ b) ≡ rows_heard a ++ rows_heard b
heard_more [] b = refl
heard_more (one ∷ a) b = ap (λ (rows : List TraceRow). with_heard one rows) (heard_more a b) ∙ with_more one (rows_heard a) (rows_heard b)

-- the rows of both
heard_then : (a b : List (Option TraceRow)) (rows more : List TraceRow) → rows_heard a ≡ rows → rows_heard b ≡ more
    → rows_heard (a ++ b) ≡ rows ++ more
heard_then a b rows more one two = heard_more a b ∙ (λ i. one i ++ two i)

pub hears_none : (alarms : Alarms) (told : Told) → Hears alarms alarms [] told told
hears_none alarms told h agrees = (
  [],
  refl,
  h,
  [],
  [],
  [],
  sym (append-nil told.alarms.items),
  sym (append-nil told.changes.items),
  sym (append-nil told.record.items),
  (refl, refl, refl, refl, refl),
)

pub hears_then : (old mid new : Alarms) (a b : List TraceRow) (before text after : Told)
    → Hears old mid a before text → Hears mid new b text after → Hears old new (a ++ b) before after
hears_then old mid new a b before text after one two h agrees =
    let first = one h agrees in
    let then = two first.2 (told_agrees old mid first.0 h first.2 first.3 first.4 first.5 first.9 agrees) in (
      first.0 ++ then.0,
      heard_then first.0 then.0 a b first.1 then.1,
      then.2,
      first.3 ++ then.3,
      first.4 ++ then.4,
      first.5 ++ then.5,
      then.6 ∙ ap (λ (t : List ℕ). t ++ then.3) first.6 ∙ append_assoc before.alarms.items first.3 then.3,
      then.7 ∙ ap (λ (t : List ℕ). t ++ then.4) first.7 ∙ append_assoc before.changes.items first.4 then.4,
      then.8 ∙ ap (λ (t : List ℕ). t ++ then.5) first.8 ∙ append_assoc before.record.items first.5 then.5,
      told_then old mid new first.0 then.0 h first.2 then.2 first.3 then.3 first.4 then.4 first.5 then.5 first.9 then.9,
    )

-- a row by itself
pub hears_row : (old new : Alarms) (row : TraceRow) (before after : Told)
    → ((h : CommandHistory) → Agrees (debugger_in old.follower) h
    → (behind : CommandHistory) × (some : List ℕ) × (seen : List ℕ) × (put : List ℕ)
    × (after.alarms.items ≡ before.alarms.items ++ some) × (after.changes.items ≡ before.changes.items ++ seen)
    × (after.record.items ≡ before.record.items ++ put) × IsTold old new row h behind some seen put)
    → Hears old new (row ∷ []) before after
hears_row old new row before after told h agrees =
    let t = told h agrees in
    (Some row ∷ [], refl, t.0, t.1, t.2, t.3, t.4, t.5, t.6, told_one old new (Some row) h t.0 t.1 t.2 t.3 t.7)

-- all was set again
pub hears_set : (old new : Alarms) (before after : Told) (behind : CommandHistory) (text shown : List ℕ)
    → after.alarms.items ≡ before.alarms.items ++ text → after.changes.items ≡ before.changes.items ++ shown
    → after.record.items ≡ before.record.items → IsSet old new behind text shown → Hears old new [] before after
hears_set old new before after behind text shown told changes same set h agrees = (
  None ∷ [],
  refl,
  behind,
  text,
  shown,
  [],
  told,
  changes,
  same ∙ sym (append-nil before.record.items),
  told_one old new None h behind text shown [] (set, refl),
)

-- ---- rows and their lines

pub rows_more : (wanted : TraceMask) (steered : Steered) (a b : List TraceRow)
    → rows_text wanted steered (a ++ b) ≡ rows_text wanted steered a ++ rows_text wanted steered b
rows_more wanted steered [] b = refl
rows_more wanted steered (row ∷ a) b =
    ap (λ t. line_if wanted steered row ++ t) (rows_more wanted steered a b)
    ∙ sym (append_assoc (line_if wanted steered row) (rows_text wanted steered a) (rows_text wanted steered b))

-- behind some rows others were taken
pub takes_more : (old mid new : Tail) (a b : List TraceRow) → Takes old mid a → Takes mid new b → Takes old new (a ++ b)
takes_more old mid new a b first then = then ∙ ap (λ t. t ++ b) first ∙ append_assoc (taken old) a b

-- their lines, by the names of the one that was read first
rows_then : (old mid : Watch) (a b : List TraceRow) → ReadsAlike old mid
    → rows_text old.wanted (steered_of old) a ++ rows_text mid.wanted (steered_of mid) b ≡ rows_text old.wanted (steered_of old) (a ++ b)
rows_then old mid a b alike =
    ap (λ (w : TraceMask). rows_text old.wanted (steered_of old) a ++ rows_text w (steered_of mid) b) alike.0
    ∙ ap (λ (s : Steered). rows_text old.wanted (steered_of old) a ++ rows_text old.wanted s b) alike.1
    ∙ sym (rows_more old.wanted (steered_of old) a b)

alike_then : (old mid new : Watch) → ReadsAlike old mid → ReadsAlike mid new → ReadsAlike old new
alike_then old mid new one two = (two.0 ∙ one.0, two.1 ∙ one.1)

pub puts_then : (old mid new : Watch) (a b : List TraceRow) (before text after : Texts)
    → Puts old mid a before text → Puts mid new b text after → Puts old new (a ++ b) before after
puts_then old mid new a b before text after one two = record {
  alike = alike_then old mid new one.alike two.alike;
  lines = two.lines ∙ ap (λ (t : List ℕ). t ++ rows_text mid.wanted (steered_of mid) b) one.lines
      ∙ append_assoc before.lines.items (rows_text old.wanted (steered_of old) a) (rows_text mid.wanted (steered_of mid) b)
      ∙ ap (λ (t : List ℕ). before.lines.items ++ t) (rows_then old mid a b one.alike);
  alarms = hears_then old.alarms mid.alarms new.alarms a b before.told text.told after.told one.alarms two.alarms;
}

-- some rows were taken, and their lines and alarms stand behind the texts
abbrev pub Along : Watch → Watch → Texts → Texts → Type 0
Along old new before after = (rows : List TraceRow) × Takes old.tail new.tail rows × Puts old new rows before after

pub none_yet : (watch : Watch) (texts : Texts) → Along watch watch texts texts
none_yet watch texts = (
  [],
  sym (append-nil (taken watch.tail)),
  record {
    alike = (refl, refl);
    lines = sym (append-nil texts.lines.items);
    alarms = hears_none watch.alarms texts.told;
  },
)

-- where all was set again, if it was, behind what was taken
pub set_then : (old mid new : Watch) (before text after : Texts) → Along old mid before text → taken new.tail ≡ taken mid.tail
    → ReadsAlike mid new → after.lines.items ≡ text.lines.items → Hears mid.alarms new.alarms [] text.told after.told
    → Along old new before after
set_then old mid new before text after was same alike lines hears = (
  was.0 ++ [],
  takes_more old.tail mid.tail new.tail was.0 [] was.1 (same ∙ sym (append-nil (taken mid.tail))),
  puts_then old mid new was.0 [] before text after was.2
      (record { alike = alike; lines = lines ∙ sym (append-nil text.lines.items); alarms = hears }),
)

-- one row more: it was taken, its line was put, and it was told of
pub one_more : (old mid new : Watch) (before text after : Texts) (row : TraceRow) → Along old mid before text
    → Takes mid.tail new.tail (row ∷ []) → ReadsAlike mid new
    → after.lines.items ≡ text.lines.items ++ line_if mid.wanted (steered_of mid) row
    → Hears mid.alarms new.alarms (row ∷ []) text.told after.told → Along old new before after
one_more old mid new before text after row was takes alike line hears = (
  was.0 ++ row ∷ [],
  takes_more old.tail mid.tail new.tail was.0 (row ∷ []) was.1 takes,
  puts_then old mid new was.0 (row ∷ []) before text after was.2 (record {
    alike = alike;
    lines = line ∙ ap (λ (t : List ℕ). text.lines.items ++ t) (sym (append-nil (line_if mid.wanted (steered_of mid) row)));
    alarms = hears;
  }),
)

-- ---- what was written

passes_then : (had mid has : Bool) (a b c : Option (List ℕ)) (some rest : List ℕ)
    → Passes mid had a b some → Passes has mid b c rest → Passes has had a c (some ++ rest)
passes_then had false false a b c some rest one two = (one.0, Appends-trans a b c some rest one.1 two.1)
passes_then had true false a b c some rest one two = absurd (let bad : true ≡ false = two.0 in cc)
passes_then false false true a b c some rest one two = (
  some ++ two.0,
  two.1,
  ap (λ (t : List ℕ). some ++ t) two.2 ∙ sym (append_assoc some two.0 two.1),
  Appends-trans a b c some two.0 one.1 two.3,
)
passes_then true false true a b c some rest one two = absurd (let bad : true ≡ false = one.0 in cc)
passes_then false true true a b c some rest one two = (
  one.0,
  one.1 ++ rest,
  ap (λ (t : List ℕ). t ++ rest) one.2 ∙ append_assoc one.0 one.1 rest,
  subst (λ (t : List ℕ). Appends a c t) (append-nil one.0) (Appends-trans a b c one.0 [] one.3 two),
)
passes_then true true true a b c some rest one two = Appends-trans a b c [] [] one two

nothing_passed : (had : Bool) (written : Option (List ℕ)) → Passes had had written written []
nothing_passed false written = (refl, Appends-nil written)
nothing_passed true written = Appends-nil written

-- a note, and then another one: no other, where there was one
note_then : (was mid is : Bool) (some rest : List ℕ) → IsNote was mid some → IsNote mid is rest → IsNote was is (some ++ rest)
note_then false false is some rest one two = subst (λ (t : List ℕ). IsNote false is (t ++ rest)) (sym one) two
note_then false true true some rest one two =
    (one.0, one.1, one.2 ∙ ap (λ (t : List ℕ). Some t) (sym (ap (λ (t : List ℕ). some ++ t) two ∙ append-nil some)))
note_then false true false some rest one two = absurd two
note_then true false is some rest one two = absurd one
note_then true true is some rest one two = subst (λ (t : List ℕ). IsNote true is (t ++ rest)) (sym one) two

no_note : (was : Bool) → IsNote was was []
no_note false = refl
no_note true = refl

module _ {W T F : Type 0} (wc : W → Option (List ℕ)) (tc : T → Option (List ℕ)) (fc : F → Option (List ℕ)) where
  tells_then : (old mid new : Printing W T F) (a b : List TraceRow)
      → Tells wc tc fc old mid a → Tells wc tc fc mid new b → Tells wc tc fc old new (a ++ b)
  tells_then old mid new a b one two h agrees =
      let first = one h agrees in
      let then = two first.2
      (told_agrees old.watch.alarms mid.watch.alarms first.0 h first.2 first.3 first.4 first.5 first.6 agrees) in (
        first.0 ++ then.0,
        heard_then first.0 then.0 a b first.1 then.1,
        then.2,
        first.3 ++ then.3,
        first.4 ++ then.4,
        first.5 ++ then.5,
        told_then old.watch.alarms mid.watch.alarms new.watch.alarms first.0 then.0 h first.2 then.2 first.3 then.3 first.4 then.4 first.5 then.5
            first.6 then.6,
        passes_then old.teller.has_failed mid.teller.has_failed new.teller.has_failed (tc old.teller.w) (tc mid.teller.w) (tc new.teller.w)
            first.3 then.3 first.7 then.7,
        passes_then old.shower.has_failed mid.shower.has_failed new.shower.has_failed (wc old.shower.w) (wc mid.shower.w) (wc new.shower.w)
            first.4 then.4 first.8 then.8,
        passes_then old.recorder.file.has_failed mid.recorder.file.has_failed new.recorder.file.has_failed
            (fc old.recorder.file.w) (fc mid.recorder.file.w) (fc new.recorder.file.w) first.5 then.5 first.9 then.9,
      )

  notes_then : (old mid new : Printing W T F) → Notes wc tc fc old mid → Notes wc tc fc mid new → Notes wc tc fc old new
  notes_then old mid new one two = (
    one.0 ++ two.0,
    note_then old.recorder.is_told mid.recorder.is_told new.recorder.is_told one.0 two.0 one.1 two.1,
    passes_then old.recorder.notes.has_failed mid.recorder.notes.has_failed new.recorder.notes.has_failed
        (tc old.recorder.notes.w) (tc mid.recorder.notes.w) (tc new.recorder.notes.w) one.0 two.0 one.2 two.2,
    λ was. two.3 (one.3 was),
  )

  -- some rows were taken, their lines written, their alarms told, and they were recorded
  abbrev pub HasTold : Printing W T F → Printing W T F → Type 0
  HasTold old new =
      (rows : List TraceRow) × Takes old.watch.tail new.watch.tail rows
      × Appends (wc old.w) (wc new.w) (rows_text old.watch.wanted (steered_of old.watch) rows)
      × (ReadsAlike old.watch new.watch × Tells wc tc fc old new rows × Notes wc tc fc old new)

  pub told_none : (printing : Printing W T F) → HasTold printing printing
  told_none printing = (
    [],
    sym (append-nil (taken printing.watch.tail)),
    Appends-nil (wc printing.w),
    (
      (refl, refl),
      λ h agrees. (
        [],
        refl,
        h,
        [],
        [],
        [],
        (refl, refl, refl, refl, refl),
        nothing_passed printing.teller.has_failed (tc printing.teller.w),
        nothing_passed printing.shower.has_failed (wc printing.shower.w),
        nothing_passed printing.recorder.file.has_failed (fc printing.recorder.file.w),
      ),
      (
        [],
        no_note printing.recorder.is_told,
        nothing_passed printing.recorder.notes.has_failed (tc printing.recorder.notes.w),
        λ was. was,
      ),
    ),
  )

  pub told_more : (old mid new : Printing W T F) → HasTold old mid → HasTold mid new → HasTold old new
  told_more old mid new was more = (
    was.0 ++ more.0,
    takes_more old.watch.tail mid.watch.tail new.watch.tail was.0 more.0 was.1 more.1,
    subst (λ (t : List ℕ). Appends (wc old.w) (wc new.w) t) (rows_then old.watch mid.watch was.0 more.0 was.3.0)
        (Appends-trans (wc old.w) (wc mid.w) (wc new.w) (rows_text old.watch.wanted (steered_of old.watch) was.0)
        (rows_text mid.watch.wanted (steered_of mid.watch) more.0) was.2 more.2),
    (
      alike_then old.watch mid.watch new.watch was.3.0 more.3.0,
      tells_then old mid new was.0 more.0 was.3.1 more.3.1,
      notes_then old mid new was.3.2 more.3.2,
    ),
  )

  -- behind lines that were written, a front of others before a fault
  pub told_front : (old mid new : Printing W T F) → HasTold old mid → (rows : List TraceRow) → Takes mid.watch.tail new.watch.tail rows
      → AppendsFront (wc mid.w) (wc new.w) (rows_text mid.watch.wanted (steered_of mid.watch) rows)
      → (all : List TraceRow) × Takes old.watch.tail new.watch.tail all
      × AppendsFront (wc old.w) (wc new.w) (rows_text old.watch.wanted (steered_of old.watch) all)
  told_front old mid new was rows takes front =
      let first = rows_text old.watch.wanted (steered_of old.watch) was.0 in (
        was.0 ++ rows,
        takes_more old.watch.tail mid.watch.tail new.watch.tail was.0 rows was.1 takes,
        (
          first ++ front.0,
          front.1,
          sym (rows_then old.watch mid.watch was.0 rows was.3.0) ∙ ap (λ (t : List ℕ). first ++ t) front.2 ∙ sym (append_assoc first front.0 front.1),
          Appends-trans (wc old.w) (wc mid.w) (wc new.w) first front.0 was.2 front.3,
        ),
      )

-- ---- rows that were known to come

pub reaches_same : (tail : Tail) → Reaches tail tail
reaches_same tail = ([], append-nil (taken tail ++ coming tail))

pub reaches_on : (old mid new : Tail) → Reaches old mid → Reaches mid new → Reaches old new
reaches_on old mid new a b =
    (a.0 ++ b.0, sym (append_assoc (taken old ++ coming old) a.0 b.0) ∙ ap (λ t. t ++ b.0) a.1 ∙ b.1)

pub reaches_row : (old new : Tail) (row : TraceRow) → Takes old new (row ∷ []) → IsPrefix (coming old) (row ∷ coming new) → Reaches old new
reaches_row old new row takes front = (
  front.0,
  append_assoc (taken old) (coming old) front.0 ∙ ap (λ t. taken old ++ t) front.1
      ∙ sym (append_assoc (taken old) (row ∷ []) (coming new)) ∙ ap (λ t. t ++ coming new) (sym takes),
)

none_of : (rows : List TraceRow) → (0 < length rows → ⊥) → rows ≡ []
none_of [] none = refl
none_of (row ∷ rows) none = absurd (none (omega arith))

-- where none is taken, none was known
pub reaches_end : (old new : Tail) → (0 < length (coming old) → ⊥) → taken new ≡ taken old → coming new ≡ [] → Reaches old new
reaches_end old new none same rest =
    let known : coming old ≡ [] = none_of (coming old) none in
    ([], append-nil (taken old ++ coming old) ∙ ap (λ t. taken old ++ t) (known ∙ sym rest) ∙ ap (λ t. t ++ coming new) (sym same))

-- and then all that was known has been taken
pub reached : (old new : Tail) → Reaches old new → coming new ≡ [] → IsPrefix (taken old ++ coming old) (taken new)
reached old new all rest = (all.0, all.1 ∙ ap (λ t. taken new ++ t) rest ∙ append-nil (taken new))

-- ---- the end of a record

noted_by : (was is : Bool) (note : Option (List ℕ)) → is ≡ (was || is_some note)
    → ((text : List ℕ) → note ≡ Some text → (failed : Bool) × (recording : Recording) × (end_note failed recording ≡ Some text))
    → IsNote was is (told_note was note)
noted_by true is _ e by = subst (λ (b : Bool). IsNote true b []) (sym e) refl
noted_by false is None e by = subst (λ (b : Bool). IsNote false b []) (sym e) refl
noted_by false is (Some text) e by = subst (λ (b : Bool). IsNote false b text) (sym e) (by text refl)

-- it is told once
pub noted : (was is failed : Bool) (recording : Recording) → is ≡ (was || is_some (end_note failed recording))
    → IsNote was is (told_note was (end_note failed recording))
noted was is failed recording e = noted_by was is (end_note failed recording) e (λ text same. (failed, recording, same))

either_true : (was more : Bool) → more ≡ true → (was || more) ≡ true
either_true false more e = e
either_true true more e = refl

pub end_told : {F T : Type 0} (was : Bool) (recorder : Recorder F T) (recording : Recording)
    → recorder.is_told ≡ (was || is_some (end_note recorder.file.has_failed recording)) → IsEndTold recorder recording
end_told was recorder recording e is = e ∙ either_true was (is_some (end_note recorder.file.has_failed recording)) is
