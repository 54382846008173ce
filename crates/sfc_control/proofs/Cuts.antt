-- Where a history is cut, and what the seats have called, with one entry more.
use Rattle.std.proofs.Common.{◌≡◌, ℕ, ◌+◌, List, [], ◌∷◌, ◌++◌, refl, ◌∙◌, ap, length}
use Rattle.std.proofs.lemmas.List.{reverse-append, length-reverse}
use Rattle.std.proofs.lemmas.List.Sums.{sum_by_push}
use Rattle.std.specs.Prelude.{◌==◌, cond, reverse}
use Rattle.sfc_events.specs.declared.command.Command.{Command}
use Rattle.sfc_events.specs.declared.command.Command.TheVariants as commands
use Rattle.sfc_control.specs.declared.entry.Entry.{Entry}
use Rattle.sfc_control.specs.Holding.{first_after, first_newest, first_in, calls_in}

pub first_in_none : first_in [] ≡ 1
unfolding first_in
first_in_none = refl

pub first_in_push : (es : List Entry) (e : Entry) → first_in (es ++ e ∷ []) ≡ first_after e.command (first_in es) (length es + 1)
unfolding first_in
first_in_push es e =
    ap first_newest (reverse-append es (e ∷ []))
    ∙ ap (λ n. first_after e.command (first_newest (reverse es)) (n + 1)) (length-reverse es)

-- a command that is no epoch drops nothing
first_stays : (command : Command) (first index : ℕ) → (command ≡ commands.Epoch → ⊥) → first_after command first index ≡ first
first_stays commands.Epoch first index other = absurd (other refl)
first_stays (commands.Scan task) first index other = refl
first_stays (commands.Single task delta) first index other = refl
first_stays (commands.Input id v) first index other = refl
first_stays (commands.Force id v) first index other = refl
first_stays (commands.Release id) first index other = refl
first_stays (commands.Reset p) first index other = refl
first_stays (commands.Read id) first index other = refl
first_stays (commands.Break p point) first index other = refl
first_stays (commands.BreakIf p point id) first index other = refl
first_stays (commands.Unbreak p point) first index other = refl
first_stays commands.Stop first index other = refl
first_stays commands.Go first index other = refl
first_stays commands.End first index other = refl

pub cut_stays : (es : List Entry) (e : Entry) → (e.command ≡ commands.Epoch → ⊥) → first_in (es ++ e ∷ []) ≡ first_in es
cut_stays es e other = first_in_push es e ∙ first_stays e.command (first_in es) (length es + 1) other

pub cut_moves : (es : List Entry) (e : Entry) → e.command ≡ commands.Epoch → first_in (es ++ e ∷ []) ≡ length es + 1
cut_moves es e epoch = first_in_push es e ∙ ap (λ (c : Command). first_after c (first_in es) (length es + 1)) epoch

-- how many entries stand under a seat's number then
pub calls_push : (es : List Entry) (e : Entry) (k : ℕ) → calls_in (es ++ e ∷ []) k ≡ calls_in es k + cond (e.seat == k) 1 0
calls_push es e k = sum_by_push (λ (x : Entry). cond (x.seat == k) 1 0) es e
