use Rattle.std.proofs.Common.{rules, ◌≡◌, ◌∙◌, sym, ap, subst, true, false, ℕ, ℤ, int_le, int_lt, Option, Some, None, w64, SFits, to_z, of_z, to_z-of_z}
use Rattle.sfc_replay.specs.sfc_debug.Histories.{TimedCommand}
use Rattle.sfc_replay.specs.sfc_debug.Steered.{Steered}
use Rattle.sfc_replay.specs.sfc_output.Output.{debugger_of}
use Rattle.sfc_session.specs.Scanning.{raw_of, scan_at}
use Rattle.sfc_session.specs.Sessions.{last_instant}
use Rattle.sfc_judge.specs.declared.bench.Bench.{Bench}
use Rattle.sfc_judge.specs.declared.turn.Turn.{Turn}
use Rattle.sfc_judge.specs.declared.turn.Turn.TheVariants.{NoTurn}
use Rattle.sfc_judge.specs.Moments.{Moment}
use Rattle.sfc_judge.specs.Running.Benches.{GivesAt, GivesScan, Stands, TakesTurn, steered_in}
use Rattle.sfc_judge.specs.Scans.{next_scan}
use Rattle.sfc_judge.proofs.Scanning.{scan_beyond, scan_later}
use Rattle.sfc_judge.proofs.bench.Bench.next_scan.Goals as goal

pub returns-then-raw-limit-clause-gives : goal.returns-then-raw-limit-clause-gives
unfolding Stands
returns-then-raw-limit-clause-gives c = λ m stands.
    let st : Steered = steered_in c.args.self.now in
    let fits : SFits w64 c.args.limit = search rules in
    let fits_clock : SFits w64 c.args.self.now.clock = search rules in
    let fits_next : SFits w64 c.in-NoTurn-Some.next = search rules in
    let fits_raw : SFits w64 c.raw_of-raw.result = search rules in
    let limit : ℤ = to_z w64 (of_z w64 c.args.limit) in
    let new : Bench = c.take_turn.new.self in
    let same = c.take_turn.ensures.steered in
    let clock : to_z w64 (of_z w64 c.args.self.now.clock) ≡ m.clock = to_z-of_z fits_clock ∙ stands.clock in
    let turn : c.take_turn.result ≡ NoTurn (Some c.in-NoTurn-Some.next) = c.in-NoTurn-Some.is ∙ ap (λ o. NoTurn o) c.in-NoTurn-Some.field-0-is in
    let tries : TakesTurn st m m.clock (NoTurn (Some c.in-NoTurn-Some.next)) new =
    subst (λ (t : ℤ). TakesTurn st m t (NoTurn (Some c.in-NoTurn-Some.next)) new) clock
    (subst (λ (t : Turn). TakesTurn st m (to_z w64 (of_z w64 c.args.self.now.clock)) t new) turn (c.take_turn.ensures.takes m stands)) in
    let in_time : int_lt limit m.clock ≡ false = subst (λ (t : ℤ). int_lt limit t ≡ false) clock c.if-self-limit.false in
    let next : ℤ = c.in-NoTurn-Some.next in
    let at : to_z w64 (of_z w64 c.raw_of-raw.result) ≡ raw_of (last_instant m.history) ((debugger_of st).state m.history).clock.instant next =
    to_z-of_z fits_raw ∙ c.raw_of-raw.ensures m tries.2
    ∙ ap (λ (n : ℤ). raw_of (last_instant m.history) ((debugger_of (steered_in new)).state m.history).clock.instant n) (to_z-of_z fits_next)
    ∙ ap (λ (s : Steered). raw_of (last_instant m.history) ((debugger_of s).state m.history).clock.instant next) same in
    let given : GivesAt st m (scan_at st m.history (to_z w64 (of_z w64 c.raw_of-raw.result))) c.scan_at.result c.scan_at.new.self =
    subst (λ (s : Steered). GivesAt s m (scan_at s m.history (to_z w64 (of_z w64 c.raw_of-raw.result))) c.scan_at.result c.scan_at.new.self) same
    (c.scan_at.ensures.gives m tries.2) in
    let scan : next_scan st limit m ≡ Some (scan_at st m.history (raw_of (last_instant m.history) ((debugger_of st).state m.history).clock.instant next)) =
    scan_later st limit m next in_time tries.0 tries.1 (subst (λ (t : ℤ). int_le t limit ≡ true) at c.if-raw-limit.true) in
    subst (λ (l : ℤ). GivesScan st m (next_scan st l m) (Some c.scan_at.result) c.scan_at.new.self) (to_z-of_z fits)
    (subst (λ (o : Option TimedCommand). GivesScan st m o (Some c.scan_at.result) c.scan_at.new.self) (sym scan)
    (subst (λ (t : ℤ). GivesAt st m (scan_at st m.history t) c.scan_at.result c.scan_at.new.self) at given))

pub returns-else-raw-limit-clause-gives : goal.returns-else-raw-limit-clause-gives
unfolding Stands
returns-else-raw-limit-clause-gives c = λ m stands.
    let st : Steered = steered_in c.args.self.now in
    let fits : SFits w64 c.args.limit = search rules in
    let fits_clock : SFits w64 c.args.self.now.clock = search rules in
    let fits_next : SFits w64 c.in-NoTurn-Some.next = search rules in
    let fits_raw : SFits w64 c.raw_of-raw.result = search rules in
    let limit : ℤ = to_z w64 (of_z w64 c.args.limit) in
    let new : Bench = c.take_turn.new.self in
    let same = c.take_turn.ensures.steered in
    let clock : to_z w64 (of_z w64 c.args.self.now.clock) ≡ m.clock = to_z-of_z fits_clock ∙ stands.clock in
    let turn : c.take_turn.result ≡ NoTurn (Some c.in-NoTurn-Some.next) = c.in-NoTurn-Some.is ∙ ap (λ o. NoTurn o) c.in-NoTurn-Some.field-0-is in
    let tries : TakesTurn st m m.clock (NoTurn (Some c.in-NoTurn-Some.next)) new =
    subst (λ (t : ℤ). TakesTurn st m t (NoTurn (Some c.in-NoTurn-Some.next)) new) clock
    (subst (λ (t : Turn). TakesTurn st m (to_z w64 (of_z w64 c.args.self.now.clock)) t new) turn (c.take_turn.ensures.takes m stands)) in
    let in_time : int_lt limit m.clock ≡ false = subst (λ (t : ℤ). int_lt limit t ≡ false) clock c.if-self-limit.false in
    let next : ℤ = c.in-NoTurn-Some.next in
    let at : to_z w64 (of_z w64 c.raw_of-raw.result) ≡ raw_of (last_instant m.history) ((debugger_of st).state m.history).clock.instant next =
    to_z-of_z fits_raw ∙ c.raw_of-raw.ensures m tries.2
    ∙ ap (λ (n : ℤ). raw_of (last_instant m.history) ((debugger_of (steered_in new)).state m.history).clock.instant n) (to_z-of_z fits_next)
    ∙ ap (λ (s : Steered). raw_of (last_instant m.history) ((debugger_of s).state m.history).clock.instant next) same in
    let scan : next_scan st limit m ≡ None =
    scan_beyond st limit m next in_time tries.0 tries.1 (subst (λ (t : ℤ). int_le t limit ≡ false) at c.if-raw-limit.false) in
    subst (λ (l : ℤ). GivesScan st m (next_scan st l m) None new) (to_z-of_z fits)
    (subst (λ (o : Option TimedCommand). GivesScan st m o None new) (sym scan) tries.2)
