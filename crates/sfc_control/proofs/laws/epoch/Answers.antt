use Rattle.std.proofs.Common.{◌≡◌, ◌∙◌, sym, subst, ◌-◌, List}
use Rattle.sfc_control.specs.declared.entry.Entry.{Entry}
use Rattle.sfc_control.specs.LegalHistory.{commands_of, told, IsLegalAfter}
use Rattle.sfc_debug.specs.Verdict.{verdict}
use Rattle.sfc_control.specs.Books.{plant, table, accepted, first}
use Rattle.sfc_control.proofs.Overlapping.{held_legal, held_verdict}
use Rattle.sfc_control.proofs.laws.epoch.Goals as goal

pub returns-clause-held : goal.returns-clause-held
returns-clause-held c book h sound e =
    subst (λ (es : List Entry). IsLegalAfter (plant book) (table book) h es) (sym book.history.held)
    (held_legal (plant book) (table book)
    (λ a b command raw p. c.past_answers.ensures.verdict (plant book) (table book) a b command raw sound p)
    (λ a b command raw p. c.next_past.ensures (plant book) (table book) a b command raw sound p)
    (accepted book) (first book - 1) h (sym book.opened ∙ e) book.legal)

pub returns-clause-verdict : goal.returns-clause-verdict
returns-clause-verdict c book h command raw sound e =
    subst (λ (es : List Entry). verdict (plant book) (table book) (told h es) command raw ≡ verdict (plant book) (table book) (commands_of (accepted book)) command raw) (sym book.history.held)
    (held_verdict (plant book) (table book)
    (λ a b asked r p. c.past_answers.ensures.verdict (plant book) (table book) a b asked r sound p)
    (λ a b asked r p. c.next_past.ensures (plant book) (table book) a b asked r sound p)
    (accepted book) (first book - 1) h (sym book.opened ∙ e) command raw)
