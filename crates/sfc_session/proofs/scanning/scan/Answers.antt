use Rattle.std.proofs.Common.{rules, ◌≡◌, ◌∙◌, refl, sym, ap, ℕ, ℤ, List, Some, w64, SFits, to_z, of_z, to_z-of_z, take, length}
use Rattle.sfc_events.specs.declared.command.Command.TheVariants.{Scan}
use Rattle.sfc_output.specs.sfc_debug.Steered.{Steered}
use Rattle.sfc_output.specs.Output.{Verdict, command_lines, debugger_of, text_of}
use Rattle.sfc_session.specs.declared.session.Session.{Session}
use Rattle.sfc_session.specs.Scanning.{raw_of, scan_after}
use Rattle.sfc_session.specs.Scanning as scanning
use Rattle.sfc_session.specs.Sessions.{Stays, last_instant, steered_in, words_of}
use Rattle.sfc_session.proofs.Given.{not_due, ok_behind, taken_from}
use Rattle.sfc_session.proofs.Scans.{here, there, none_if, front}
use Rattle.sfc_session.proofs.scanning.scan.Goals as goal

pub returns-in_default-clause-taken : goal.returns-in_default-clause-taken
returns-in_default-clause-taken c h lines said =
    let old = c.args.session.now in
    let st : Steered = steered_in old in
    let task = c.args.task in
    let fits : SFits w64 c.instant-raw.result = search rules in
    let at : ℤ = to_z w64 (of_z w64 c.instant-raw.result) in
    let v : Verdict = c.in_ok-answer.answer in
    let taken = c.in_ok-answer.ensures.taken h lines said in
    let last : at ≡ last_instant h = to_z-of_z fits ∙ c.instant-raw.ensures.said h lines said in
    let none = sym c.release_in.ensures ∙ none_if c.release_in.result c.in_default.not-Some in
    taken_from old c.scan_then.new.session c.args.out.now.items c.args.out.now.items c.scan_then.new.out.items v h lines (Scan task, at)
    (scan_after st h task) refl (here st h task at v last taken.answer none) taken

pub returns-clause-taken : goal.returns-clause-taken
returns-clause-taken c h lines said =
    let old : Session = c.args.session.now in
    let one : Session = c.scan_then.new.session in
    let st : Steered = steered_in old in
    let task = c.args.task in
    let fits : SFits w64 c.instant-raw.result = search rules in
    let at : ℤ = to_z w64 (of_z w64 c.instant-raw.result) in
    let v : Verdict = c.in_ok-answer.answer in
    let taken = c.in_ok-answer.ensures.taken h lines said in
    let last : at ≡ last_instant h = to_z-of_z fits ∙ c.instant-raw.ensures.said h lines said in
    let next : ℤ = c.in-Some.next in
    let some : scanning.release_in v ≡ Some next = sym c.release_in.ensures ∙ c.in-Some.is in
    let start : List ℕ = c.args.out.now.items in
    let stays : Stays old one h lines =
    not_due old one start c.scan_then.new.out.items h lines (Scan task, at) (words_of st (Scan task)) v next some taken in
    let fits_raw : SFits w64 c.raw_of-later.result = search rules in
    let fits_next : SFits w64 next = search rules in
    let raw : ℤ = to_z w64 (of_z w64 c.raw_of-later.result) in
    let goes : (Scan task, raw) ≡ scan_after st h task =
    ap (λ (r : ℤ). (Scan task, r)) (to_z-of_z fits_raw ∙ c.raw_of-later.ensures h lines stays.said
    ∙ ap (λ (n : ℤ). raw_of (last_instant h) ((debugger_of (steered_in one)).state h).clock.instant n) (to_z-of_z fits_next)
    ∙ ap (λ (s : Steered). raw_of (last_instant h) ((debugger_of s).state h).clock.instant next) stays.steered)
    ∙ there st h task at v last taken.answer next some in
    let more : List ℕ = command_lines (debugger_of st) (text_of st) h (Scan task, at) in
    let long : c.len-begin.result ≡ length start = search rules in
    let cut : c.truncate.new.self.items ≡ start =
    c.truncate.ensures.items ∙ ap (take c.len-begin.result) taken.written ∙ front c.len-begin.result start more long in
    ok_behind c.scan_then-2.result old one c.scan_then-2.new.session start c.truncate.new.self.items c.scan_then-2.new.out.items h lines
    (Scan task, raw) (scan_after st h task) stays cut goes (c.scan_then-2.ensures.taken h lines stays.said)
