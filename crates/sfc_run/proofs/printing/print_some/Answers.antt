use Rattle.std.proofs.Common.{◌≡◌, ◌∙◌, [], ◌++◌, List, ℕ, refl, ap, subst}
use Rattle.std.proofs.lemmas.Result.{err_from_is_err_and}
use Rattle.std.specs.Io.KnownBytes.{Appends}
use Rattle.std.proofs.KnownBytes.{Appends-nil}
use Rattle.sfc_run.specs.Printing.{Passes, rows_text, steered_of}
use Rattle.sfc_run.specs.Recording.{end_note, told_note}
use Rattle.sfc_run.proofs.RowLines.{end_told, noted}
use Rattle.sfc_run.proofs.printing.print_some.Goals as goal

pub returns-in_err-some-clause-lines : goal.returns-in_err-some-clause-lines
returns-in_err-some-clause-lines g c =
    let was = c.in_err-some.ensures.rows in
    let p = err_from_is_err_and c.from_residual.result c.from_residual.ensures.1 in
    let watch = c.args.printing.now.watch in (
      was.0,
      was.1,
      rw p.1 ([], rows_text watch.wanted (steered_of watch) was.0, refl, Appends-nil (g.W.Write.contents c.args.printing.now.w)),
      rw p.1 tt,
    )

pub returns-clause-lines : goal.returns-clause-lines
returns-clause-lines g c =
    let was = c.in_ok-some.ensures.rows in
    let printing = c.args.printing.now in
    let recorder = c.write.new.self in
    let recording = c.append_rows.new.self.alarms.recording in
    let note = end_note recorder.file.has_failed recording in
    let watch = printing.watch in
    let text = rows_text watch.wanted (steered_of watch) was.0 in
    let lines : c.deref-3.result.now ≡ text =
    c.deref-3.ensures.value ∙ was.2.lines ∙ ap (λ (t : List ℕ). t ++ text) c.new.ensures.items in (
      was.0,
      was.1,
      subst (λ (t : List ℕ). Appends (g.W.Write.contents printing.w) (g.W.Write.contents c.put_all.new.writer) t) lines
          c.in_ok-put_all.ensures,
      (
        was.2.alike,
        λ h agrees.
            let a = was.2.alarms h agrees in
            let recorded : c.deref.result.now ≡ a.5 =
            c.deref.ensures.value ∙ a.8 ∙ ap (λ (t : List ℕ). t ++ a.5) c.new-4.ensures.items in
            let told : c.deref-2.result.now ≡ a.3 =
            c.deref-2.ensures.value ∙ a.6 ∙ ap (λ (t : List ℕ). t ++ a.3) c.new-2.ensures.items in
            let shown : c.deref-4.result.now ≡ a.4 =
            c.deref-4.ensures.value ∙ a.7 ∙ ap (λ (t : List ℕ). t ++ a.4) c.new-3.ensures.items in (
              a.0,
              a.1,
              a.2,
              a.3,
              a.4,
              a.5,
              a.9,
              subst (λ (t : List ℕ). Passes c.tell.new.self.has_failed printing.teller.has_failed
                  (g.T.Write.contents printing.teller.w) (g.T.Write.contents c.tell.new.self.w) t) told c.tell.ensures,
              subst (λ (t : List ℕ). Passes c.tell-2.new.self.has_failed printing.shower.has_failed
                  (g.W.Write.contents printing.shower.w) (g.W.Write.contents c.tell-2.new.self.w) t) shown c.tell-2.ensures,
              subst (λ (t : List ℕ). Passes recorder.file.has_failed printing.recorder.file.has_failed
                  (g.F.Write.contents printing.recorder.file.w) (g.F.Write.contents recorder.file.w) t) recorded c.write.ensures.file,
            ),
        (
          told_note printing.recorder.is_told note,
          noted printing.recorder.is_told recorder.is_told recorder.file.has_failed recording c.write.ensures.told,
          c.write.ensures.notes,
          λ was. end_told printing.recorder.is_told recorder recording c.write.ensures.told,
        ),
      ),
    )
