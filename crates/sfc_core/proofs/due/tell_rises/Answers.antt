use Rattle.std.proofs.Common.{◌≡◌, ◌∙◌, List, false, sym, subst}
use Rattle.sfc_tasks.specs.Calls.{Call}
use Rattle.sfc_tasks.specs.Agreement.{TasksAgree}
use Rattle.sfc_core.specs.Private.Ready.{flags_of}
use Rattle.sfc_core.proofs.Rises.{none_rises, none_of_first}
use Rattle.sfc_core.proofs.Singled.{none_read_all}
use Rattle.sfc_core.proofs.due.tell_rises.Goals as goal

pub returns-then-not-maybe-clause-value : goal.returns-then-not-maybe-clause-value
returns-then-not-maybe-clause-value c state agrees =
    let singles = c.args.singles.now in
    let off : singles.maybe ≡ false = sym c.maybe_some-maybe.ensures ∙ c.if-not-maybe.true in
    none_read_all c.args.plant.now state.changes c.args.plant.now.tasks (flags_of singles)
    (none_of_first singles.count singles.flags (singles.none off)) c.requires.len (c.requires.none off)

pub returns-then-not-maybe-clause-agrees : goal.returns-then-not-maybe-clause-agrees
returns-then-not-maybe-clause-agrees c all calls agrees =
    let singles = c.args.singles.now in
    let off : singles.maybe ≡ false = sym c.maybe_some-maybe.ensures ∙ c.if-not-maybe.true in
    subst (λ (told : List Call). TasksAgree all c.args.tasks.now told)
    (sym (none_rises c.args.t 0 (flags_of singles) (flags_of singles) calls (none_of_first singles.count singles.flags (singles.none off))))
    agrees
