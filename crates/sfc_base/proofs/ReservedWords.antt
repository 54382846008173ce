-- The parts of the table of reserved words, one after the other, are the table.
use Rattle.std.proofs.Common.{◌≡◌, ℕ, Bool, true, false, cond, List, [], ◌∷◌, ◌++◌, Option, Some, refl, sym, ap, ◌∙◌}
use Rattle.sfc_base.specs.declared.keyword.Keyword.{Keyword}
use Rattle.sfc_base.specs.Case.{same_word}
use Rattle.sfc_base.specs.Words.{look_up, keyword_of}
use Rattle.sfc_base.specs.Private.ReservedWords.{action_to_else, elsif_to_end_step, end_transition_to_int, mod_to_step, task_to_var, var_external_to_xor, or_else, in_parts}

chosen : (t : Bool) (k : Keyword) (o p : Option Keyword) → cond t (Some k) (or_else o p) ≡ or_else (cond t (Some k) o) p
chosen true k o p = refl
chosen false k o p = refl

look_up-append : (xs ys : List (List ℕ × Keyword)) (w : List ℕ) → look_up (xs ++ ys) w ≡ or_else (look_up xs w) (look_up ys w)
look_up-append [] ys w = refl
look_up-append (x ∷ xs) ys w =
    ap (λ o. cond (same_word w x.0) (Some x.1) o) (look_up-append xs ys w) ∙ chosen (same_word w x.0) x.1 (look_up xs w) (look_up ys w)

six : (a b c d e f : List (List ℕ × Keyword)) (w : List ℕ)
    → look_up (a ++ (b ++ (c ++ (d ++ (e ++ f))))) w ≡ or_else (look_up a w) (or_else (look_up b w) (or_else (look_up c w) (or_else (look_up d w) (or_else (look_up e w) (look_up f w)))))
six a b c d e f w =
    look_up-append a (b ++ (c ++ (d ++ (e ++ f)))) w ∙ ap (or_else (look_up a w))
    (look_up-append b (c ++ (d ++ (e ++ f))) w ∙ ap (or_else (look_up b w))
    (look_up-append c (d ++ (e ++ f)) w ∙ ap (or_else (look_up c w))
    (look_up-append d (e ++ f) w ∙ ap (or_else (look_up d w)) (look_up-append e f w))))

pub parts_table : (w : List ℕ) → in_parts w ≡ keyword_of w
unfolding in_parts keyword_of action_to_else elsif_to_end_step end_transition_to_int mod_to_step task_to_var var_external_to_xor
parts_table w = sym (six action_to_else elsif_to_end_step end_transition_to_int mod_to_step task_to_var var_external_to_xor w)
