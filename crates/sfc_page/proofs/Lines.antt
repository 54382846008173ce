-- A text whose end stands in a line.
use Rattle.std.proofs.Common.{◌≡◌, ◌≤◌, ℕ, List, length, drop, [], ◌++◌, append_assoc, sym, refl, ◌∙◌, ap, arith}
use Rattle.std.proofs.Transfers.{drop-appended}
use Rattle.std.proofs.lemmas.List.{append-nil, length-append}
use Rattle.sfc_page.specs.Lines.{written}

pub written_none : (items : List ℕ) → written items [] ≡ items
unfolding written
written_none items = append-nil items

pub written_more : (items line text : List ℕ) → written items (line ++ text) ≡ written items line ++ text
unfolding written
written_more items line text = sym (append_assoc items line text)

-- where nothing was passed on, what was put stands in the line
pub put_behind : (items line new_items new_line text : List ℕ) → written new_items new_line ≡ written items line ++ text
    → length new_items ≡ length items → (length line ≤ length new_line) × (drop (length line) new_line ≡ text)
unfolding written
put_behind items line new_items new_line text e same =
    let put : new_line ≡ line ++ text =
    sym (drop-appended new_items (new_items ++ new_line) new_line refl)
    ∙ ap (λ n. drop n (new_items ++ new_line)) same
    ∙ ap (drop (length items)) (e ∙ append_assoc items line text)
    ∙ drop-appended items (items ++ (line ++ text)) (line ++ text) refl in
    (omega (arith, ap length put, length-append line text), drop-appended line new_line text put)

-- what was pushed piece by piece
pub ruleset written_pieces = (written_more, append_assoc)
