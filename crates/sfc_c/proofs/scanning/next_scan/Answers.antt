use Rattle.std.proofs.Common.{rules, ◌≡◌, ◌∙◌, sym, ap, subst, true, false, ℤ, int_le, int_lt, Option, Some, None, w64, SFits, to_z, of_z, to_z-of_z}
use Rattle.sfc_replay.specs.sfc_debug.Histories.{TimedCommand}
use Rattle.sfc_replay.specs.sfc_debug.Steered.{Steered}
use Rattle.sfc_replay.specs.sfc_output.Output.{debugger_of}
use Rattle.sfc_session.specs.Scanning.{raw_of, scan_at}
use Rattle.sfc_session.specs.Sessions.{last_instant}
use Rattle.sfc_c.specs.declared.plc.Plc.{Plc}
use Rattle.sfc_c.specs.declared.scanning.Turn.{Turn}
use Rattle.sfc_c.specs.declared.scanning.Turn.TheVariants.{NoTurn}
use Rattle.sfc_c.specs.Advancing.{IsMade, MakesScan, TakesTurn, next_scan}
use Rattle.sfc_c.specs.Resources.{steered_in}
use Rattle.sfc_c.proofs.NextScan.{scan_beyond, scan_later}
use Rattle.sfc_c.proofs.scanning.next_scan.Goals as goal

pub returns-then-raw-until-clause-makes : goal.returns-then-raw-until-clause-makes
returns-then-raw-until-clause-makes c = λ h stands.
    let st : Steered = steered_in c.args.plc.now in
    let fits : SFits w64 c.args.until = search rules in
    let fits_now : SFits w64 c.instant-now.result = search rules in
    let fits_next : SFits w64 c.in-NoTurn-Some.next = search rules in
    let fits_raw : SFits w64 c.raw_of-raw.result = search rules in
    let until : ℤ = to_z w64 (of_z w64 c.args.until) in
    let new : Plc = c.take_turn.new.plc in
    let same = c.take_turn.ensures.steered in
    let now : to_z w64 (of_z w64 c.instant-now.result) ≡ last_instant h = to_z-of_z fits_now ∙ c.instant-now.ensures h stands in
    let turn : c.take_turn.result ≡ NoTurn (Some c.in-NoTurn-Some.next) = c.in-NoTurn-Some.is ∙ ap (λ o. NoTurn o) c.in-NoTurn-Some.field-0-is in
    let tries : TakesTurn st h (last_instant h) (NoTurn (Some c.in-NoTurn-Some.next)) new =
    subst (λ (t : ℤ). TakesTurn st h t (NoTurn (Some c.in-NoTurn-Some.next)) new) now
    (subst (λ (t : Turn). TakesTurn st h (to_z w64 (of_z w64 c.instant-now.result)) t new) turn (c.take_turn.ensures.takes h stands)) in
    let in_time : int_lt until (last_instant h) ≡ false = subst (λ (t : ℤ). int_lt until t ≡ false) now c.if-now-until.false in
    let next : ℤ = c.in-NoTurn-Some.next in
    let at : to_z w64 (of_z w64 c.raw_of-raw.result) ≡ raw_of (last_instant h) ((debugger_of st).state h).clock.instant next =
    to_z-of_z fits_raw ∙ c.raw_of-raw.ensures h tries.2
    ∙ ap (λ (n : ℤ). raw_of (last_instant h) ((debugger_of (steered_in new)).state h).clock.instant n) (to_z-of_z fits_next)
    ∙ ap (λ (s : Steered). raw_of (last_instant h) ((debugger_of s).state h).clock.instant next) same in
    let made : IsMade st h (scan_at st h (to_z w64 (of_z w64 c.raw_of-raw.result))) c.scan_at.result c.scan_at.new.plc =
    subst (λ (s : Steered). IsMade s h (scan_at s h (to_z w64 (of_z w64 c.raw_of-raw.result))) c.scan_at.result c.scan_at.new.plc) same
    (c.scan_at.ensures.made h tries.2) in
    let scan : next_scan st until h ≡ Some (scan_at st h (raw_of (last_instant h) ((debugger_of st).state h).clock.instant next)) =
    scan_later st until h next in_time tries.0 tries.1 (subst (λ (t : ℤ). int_le t until ≡ true) at c.if-raw-until.true) in
    subst (λ (l : ℤ). MakesScan st h (next_scan st l h) (Some c.scan_at.result) c.scan_at.new.plc) (to_z-of_z fits)
    (subst (λ (o : Option TimedCommand). MakesScan st h o (Some c.scan_at.result) c.scan_at.new.plc) (sym scan)
    (subst (λ (t : ℤ). IsMade st h (scan_at st h t) c.scan_at.result c.scan_at.new.plc) at made))

pub returns-else-raw-until-clause-makes : goal.returns-else-raw-until-clause-makes
returns-else-raw-until-clause-makes c = λ h stands.
    let st : Steered = steered_in c.args.plc.now in
    let fits : SFits w64 c.args.until = search rules in
    let fits_now : SFits w64 c.instant-now.result = search rules in
    let fits_next : SFits w64 c.in-NoTurn-Some.next = search rules in
    let fits_raw : SFits w64 c.raw_of-raw.result = search rules in
    let until : ℤ = to_z w64 (of_z w64 c.args.until) in
    let new : Plc = c.take_turn.new.plc in
    let same = c.take_turn.ensures.steered in
    let now : to_z w64 (of_z w64 c.instant-now.result) ≡ last_instant h = to_z-of_z fits_now ∙ c.instant-now.ensures h stands in
    let turn : c.take_turn.result ≡ NoTurn (Some c.in-NoTurn-Some.next) = c.in-NoTurn-Some.is ∙ ap (λ o. NoTurn o) c.in-NoTurn-Some.field-0-is in
    let tries : TakesTurn st h (last_instant h) (NoTurn (Some c.in-NoTurn-Some.next)) new =
    subst (λ (t : ℤ). TakesTurn st h t (NoTurn (Some c.in-NoTurn-Some.next)) new) now
    (subst (λ (t : Turn). TakesTurn st h (to_z w64 (of_z w64 c.instant-now.result)) t new) turn (c.take_turn.ensures.takes h stands)) in
    let in_time : int_lt until (last_instant h) ≡ false = subst (λ (t : ℤ). int_lt until t ≡ false) now c.if-now-until.false in
    let next : ℤ = c.in-NoTurn-Some.next in
    let at : to_z w64 (of_z w64 c.raw_of-raw.result) ≡ raw_of (last_instant h) ((debugger_of st).state h).clock.instant next =
    to_z-of_z fits_raw ∙ c.raw_of-raw.ensures h tries.2
    ∙ ap (λ (n : ℤ). raw_of (last_instant h) ((debugger_of (steered_in new)).state h).clock.instant n) (to_z-of_z fits_next)
    ∙ ap (λ (s : Steered). raw_of (last_instant h) ((debugger_of s).state h).clock.instant next) same in
    let scan : next_scan st until h ≡ None =
    scan_beyond st until h next in_time tries.0 tries.1 (subst (λ (t : ℤ). int_le t until ≡ false) at c.if-raw-until.false) in
    subst (λ (l : ℤ). MakesScan st h (next_scan st l h) None new) (to_z-of_z fits)
    (subst (λ (o : Option TimedCommand). MakesScan st h o None new) (sym scan) tries.2)
