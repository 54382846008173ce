use Rattle.std.proofs.Common.{rules, ◌≡◌, ◌∙◌, refl, ap, subst, ℤ, ℕ, List, Option, w64, SFits, to_z, of_z, to_z-of_z}
use Rattle.sfc_events.specs.declared.command.Command.TheVariants.{Scan}
use Rattle.sfc_output.specs.Output.{debugger_of}
use Rattle.sfc_output.specs.sfc_debug.Steered.{Steered}
use Rattle.sfc_session.specs.declared.scanning.Tried.{Tried}
use Rattle.sfc_session.specs.declared.scanning.Tried.TheVariants.{Answered, NoTurn}
use Rattle.sfc_session.specs.declared.session.Session.{Session}
use Rattle.sfc_session.specs.Scanning.{first_scan_after, goes_on, scan_at}
use Rattle.sfc_session.specs.Sessions.{last_instant, steered_in}
use Rattle.sfc_session.specs.Trying.{TriesAll}
use Rattle.sfc_session.proofs.Given.{ok_behind, taken_from}
use Rattle.sfc_session.proofs.Scans.{first_here, first_later}
use Rattle.sfc_session.proofs.scanning.scan_first.Goals as goal

pub returns-in-Answered-clause-taken : goal.returns-in-Answered-clause-taken
returns-in-Answered-clause-taken c h lines said =
    let a : Session = c.args.session.now in
    let d : Session = c.try_tasks.new.session in
    let x : List ℕ = c.args.out.now.items in
    let z : List ℕ = c.try_tasks.new.out.items in
    let st : Steered = steered_in a in
    let fits : SFits w64 c.instant-raw.result = search rules in
    let raw : ℤ = to_z w64 (of_z w64 c.instant-raw.result) in
    let last : raw ≡ last_instant h = to_z-of_z fits ∙ c.instant-raw.ensures.said h lines said in
    let tries : TriesAll a d x z h lines raw (Answered c.in-Answered.answer) =
    subst (λ (t : Tried). TriesAll a d x z h lines raw t) c.in-Answered.is (c.in_ok-answer.ensures.tried h lines said) in
    taken_from a d x x z c.in-Answered.answer h lines (Scan (record { 0 = tries.0 }), raw) (first_scan_after st h) refl
    (first_here st h raw last tries.0 tries.1) tries.2

pub returns-in-NoTurn-clause-taken : goal.returns-in-NoTurn-clause-taken
returns-in-NoTurn-clause-taken c h lines said =
    let a : Session = c.args.session.now in
    let d : Session = c.try_tasks.new.session in
    let x : List ℕ = c.args.out.now.items in
    let z : List ℕ = c.try_tasks.new.out.items in
    let st : Steered = steered_in a in
    let next : Option ℤ = c.in-NoTurn.next in
    let fits : SFits w64 c.instant-raw.result = search rules in
    let raw : ℤ = to_z w64 (of_z w64 c.instant-raw.result) in
    let last : raw ≡ last_instant h = to_z-of_z fits ∙ c.instant-raw.ensures.said h lines said in
    let tries : TriesAll a d x z h lines raw (NoTurn next) =
    subst (λ (t : Tried). TriesAll a d x z h lines raw t) c.in-NoTurn.is (c.in_ok-answer.ensures.tried h lines said) in
    let fits_later : SFits w64 c.instant_of-later.result = search rules in
    let later : ℤ = to_z w64 (of_z w64 c.instant_of-later.result) in
    let at : later ≡ goes_on next (last_instant h) ((debugger_of st).state h).clock.instant =
    to_z-of_z fits_later ∙ c.instant_of-later.ensures h lines tries.2.said
    ∙ ap (λ (s : Steered). goes_on next (last_instant h) ((debugger_of s).state h).clock.instant) tries.2.steered in
    ok_behind c.scan_at.result a d c.scan_at.new.session x z c.scan_at.new.out.items h lines
    (scan_at (steered_in d) h later) (first_scan_after st h) tries.2 tries.3
    (ap (λ (s : Steered). scan_at s h later) tries.2.steered ∙ ap (scan_at st h) at ∙ first_later st h raw last next tries.0 tries.1)
    (c.scan_at.ensures.taken h lines tries.2.said)
