use Rattle.std.proofs.Common.{◌≡◌, ◌∙◌, [], ◌∷◌, ◌++◌, append-nil, refl, sym, subst}
use Rattle.std.proofs.lemmas.Result.{err_from_is_err_and}
use mathlib.Core.List.{IsPrefix}
use Rattle.sfc_control.specs.declared.tail.Tail.{Tail}
use Rattle.sfc_control.specs.Tails.{taken, coming}
use Rattle.sfc_run.specs.declared.watch.Texts.{Texts}
use Rattle.sfc_run.specs.declared.watch.Watch.{Watch}
use Rattle.sfc_run.proofs.RowLines.{none_yet, one_more, set_then, reaches_same, reaches_on, reaches_row}
use Rattle.sfc_run.proofs.watch.Watch.append_rows.Goals as goal

pub rows-init : goal.rows-init
rows-init c =
    let old = c.args.self.now in
    let new : Watch = record { tail = old.tail; wanted = old.wanted; alarms = c.resume.new.alarms; resumption = c.resume.new.self } in
    let texts : Texts = record { lines = c.args.texts.now.lines; told = c.resume.new.told } in
    record {
      rows = set_then old old new c.args.texts.now c.args.texts.now texts (none_yet old c.args.texts.now) refl (refl, c.resume.ensures.steered) refl
          c.in_ok-resume.ensures.hears;
      known = reaches_same old.tail;
      ready = record { ready = c.resume.ensures.ready; alike = c.resume.ensures.alike };
      steered = c.resume.ensures.steered;
    }

pub returns-in_err-resume-clause-rows : goal.returns-in_err-resume-clause-rows
returns-in_err-resume-clause-rows c =
    let p = err_from_is_err_and c.from_residual.result c.from_residual.ensures.1 in
    ([], sym (append-nil (taken c.args.self.now.tail)), rw p.1 tt)

pub rows-preserved : goal.rows-preserved
rows-preserved c =
    let row = c.in-Row.row in
    let mid = c.rows.self in
    let new = c.append_both.new.self in
    let takes : taken new.tail ≡ taken mid.tail ++ row ∷ [] =
    subst (λ (t : Tail). taken t ≡ taken mid.tail ++ row ∷ []) (sym c.append_both.ensures.tail) c.in-Row.ensures.row.0 in
    let front : IsPrefix (coming mid.tail) (row ∷ coming new.tail) =
    subst (λ (t : Tail). IsPrefix (coming mid.tail) (row ∷ coming t)) (sym c.append_both.ensures.tail) c.in-Row.ensures.coming in
    record {
      rows = one_more c.args.self.now mid new c.args.texts.now c.rows.texts c.append_both.new.texts row c.rows.invariant.rows takes
          (c.append_both.ensures.wanted, c.append_both.ensures.steered) c.in_ok-append_both-in-Row.ensures.line c.in_ok-append_both-in-Row.ensures.hears;
      ready = c.append_both.ensures.ready;
      steered = c.append_both.ensures.steered ∙ c.rows.invariant.steered;
      known = reaches_on c.args.self.now.tail mid.tail new.tail c.rows.invariant.known (reaches_row mid.tail new.tail row takes front);
    }
