-- Lists that pass their checks, and lists of what is spelled of them.
use Rattle.std.proofs.Common.{◌≡◌, ℕ, Bool, true, false, ◌||◌, List, [], ◌∷◌, ◌++◌, map, All, None, refl, sym, ap, ◌∙◌}
use Rattle.std.specs.List.{list_any}
use Rattle.std.proofs.lemmas.List.Elements.{All-nil, All-cons, All-head, All-tail}
use Rattle.std.proofs.lemmas.List.Folds.{list_any-append}
use Rattle.sfc_base.specs.Case.{same_word}
use Rattle.sfc_base.proofs.SameWords.{same_word_equiv}
use Rattle.sfc_base.specs.NameLists.{has}
use Rattle.sfc_events.specs.declared.load_error.LoadError.TheVariants as fault
use Rattle.sfc_load.specs.sfc_variables.Checks.{Check, ◌then◌, when, each, in_turn}
use Rattle.sfc_load.proofs.of_sfc_variables.Checks.{passes}
use Rattle.sfc_load.specs.sfc_program.Loading.{name_check, distinct_check}
use Rattle.sfc_load.proofs.of_sfc_program.Soundness.{then_first, then_second, when_none}
use Rattle.sfc_read_back.proofs.WrittenNames.{alike}

-- ---- checks

pub both_pass : (a b : Check) → a ≡ None → b ≡ None → (a then b) ≡ None
both_pass a b e k = passes a b e ∙ k

pub each_all : {A : Type 0} (check : A → Check) (xs : List A) → each check xs ≡ None → All (λ x. check x ≡ None) xs
each_all check [] e = All-nil (λ x. check x ≡ None)
each_all check (x ∷ xs) e =
    All-cons (λ x. check x ≡ None) x xs (then_first (check x) (each check xs) e)
    (each_all check xs (then_second (check x) (each check xs) e))

pub each_again : {A B : Type 0} (check : B → Check) (f : A → B) (xs : List A) → All (λ x. check (f x) ≡ None) xs
    → each check (map f xs) ≡ None
each_again check f [] h = refl
each_again check f (x ∷ xs) h =
    both_pass (check (f x)) (each check (map f xs)) (All-head (λ x. check (f x) ≡ None) x xs h)
    (each_again check f xs (All-tail (λ x. check (f x) ≡ None) x xs h))

-- what is built of what is spelled
pub map_again : {A B C : Type 0} (f : A → B) (g : B → C) (h : A → C) (xs : List A) → All (λ x. g (f x) ≡ h x) xs
    → map g (map f xs) ≡ map h xs
map_again f g h [] a = refl
map_again f g h (x ∷ xs) a =
    let first : g (f x) ≡ h x = All-head (λ x. g (f x) ≡ h x) x xs a in
    let rest : map g (map f xs) ≡ map h xs = map_again f g h xs (All-tail (λ x. g (f x) ≡ h x) x xs a) in
    λ i. first i ∷ rest i

pub kept_again : {A B : Type 0} (f : A → B) (g : B → A) (xs : List A) → All (λ x. g (f x) ≡ x) xs → map g (map f xs) ≡ xs
kept_again f g [] a = refl
kept_again f g (x ∷ xs) a =
    let first : g (f x) ≡ x = All-head (λ x. g (f x) ≡ x) x xs a in
    let rest : map g (map f xs) ≡ xs = kept_again f g xs (All-tail (λ x. g (f x) ≡ x) x xs a) in
    λ i. first i ∷ rest i

-- ---- names

-- the same names, each but for case
abbrev pub AreSame : List (List ℕ) → List (List ℕ) → Type 0
AreSame [] [] = Unit {0}
AreSame (x ∷ xs) (y ∷ ys) = (same_word x y ≡ true) × AreSame xs ys
AreSame _ _ = ⊥

-- the same names are among them
abbrev pub AreAlike : List (List ℕ) → List (List ℕ) → Type 0
AreAlike one other = (name : List ℕ) → has one name ≡ has other name

pub same_refl : (names : List (List ℕ)) → AreSame names names
same_refl [] = tt
same_refl (x ∷ xs) = (same_word_equiv.refl x, same_refl xs)

pub same_more : (a b c d : List (List ℕ)) → AreSame a b → AreSame c d → AreSame (a ++ c) (b ++ d)
same_more [] [] c d h k = k
same_more [] (y ∷ b) c d h k = absurd h
same_more (x ∷ a) [] c d h k = absurd h
same_more (x ∷ a) (y ∷ b) c d h k = (h.0, same_more a b c d h.1 k)

pub has_both : (a b : List (List ℕ)) (name : List ℕ) → has (a ++ b) name ≡ (has a name || has b name)
has_both a b name = list_any-append (same_word name) a b

pub alike_more : (a b c d : List (List ℕ)) → AreAlike a b → AreAlike c d → AreAlike (a ++ c) (b ++ d)
alike_more a b c d h k = λ name. has_both a c name ∙ (λ i. h name i || k name i) ∙ sym (has_both b d name)

same_behind : (x y name : List ℕ) → same_word x y ≡ true → same_word name x ≡ same_word name y
same_behind x y name same = same_word_equiv.symm name x ∙ same_word_equiv.congr x y name same ∙ same_word_equiv.symm y name

pub same_alike : (a b : List (List ℕ)) → AreSame a b → AreAlike a b
same_alike [] [] h = λ name. refl
same_alike [] (y ∷ b) h = absurd h
same_alike (x ∷ a) [] h = absurd h
same_alike (x ∷ a) (y ∷ b) h = λ name i. same_behind x y name h.0 i || same_alike a b h.1 name i

has_same : (names : List (List ℕ)) (x y : List ℕ) → same_word x y ≡ true → has names x ≡ has names y
has_same names x y same = ap (λ (p : List ℕ → Bool). list_any p names) (alike x y same)

-- ---- distinct names

pub distinct_same : (one other a b : List (List ℕ)) → AreAlike one other → AreSame a b → distinct_check one a ≡ None
    → distinct_check other b ≡ None
distinct_same one other [] [] h k e = refl
distinct_same one other [] (y ∷ b) h k e = absurd k
distinct_same one other (x ∷ a) [] h k e = absurd k
distinct_same one other (x ∷ a) (y ∷ b) h k e =
    let first : has one x ≡ false = when_none (has one x) fault.Duplicate (then_first (name_check one x) _ e) in
    let new : has other y ≡ false = sym (has_same other x y k.0) ∙ sym (h x) ∙ first in
    both_pass (name_check other y) (distinct_check (other ++ y ∷ []) b) (ap (λ t. when t fault.Duplicate) new)
    (distinct_same (one ++ x ∷ []) (other ++ y ∷ []) a b
    (alike_more one other (x ∷ []) (y ∷ []) h (same_alike (x ∷ []) (y ∷ []) (k.0, tt))) k.1
    (then_second (name_check one x) (distinct_check (one ++ x ∷ []) a) e))

-- ---- names and what else is checked

-- no name stands twice, and then each passes by itself
abbrev pub named_check : {A : Type 0} → (A → List ℕ) → (A → Check) → List (List ℕ) → A → Check
named_check name kind before x = when (has before (name x)) fault.Duplicate then kind x

pub names_pass : {A : Type 0} (name : A → List ℕ) (kind : A → Check) (before : List (List ℕ)) (xs : List A)
    → in_turn name (named_check name kind) before xs ≡ None → distinct_check before (map name xs) ≡ None
names_pass name kind before [] e = refl
names_pass name kind before (x ∷ xs) e =
    let rest = in_turn name (named_check name kind) (before ++ name x ∷ []) xs in
    both_pass (name_check before (name x)) (distinct_check (before ++ name x ∷ []) (map name xs))
    (then_first (name_check before (name x)) (kind x) (then_first (named_check name kind before x) rest e))
    (names_pass name kind (before ++ name x ∷ []) xs (then_second (named_check name kind before x) rest e))

pub kinds_pass : {A : Type 0} (name : A → List ℕ) (kind : A → Check) (before : List (List ℕ)) (xs : List A)
    → in_turn name (named_check name kind) before xs ≡ None → All (λ x. kind x ≡ None) xs
kinds_pass name kind before [] e = All-nil (λ x. kind x ≡ None)
kinds_pass name kind before (x ∷ xs) e =
    let rest = in_turn name (named_check name kind) (before ++ name x ∷ []) xs in
    All-cons (λ x. kind x ≡ None) x xs
    (then_second (name_check before (name x)) (kind x) (then_first (named_check name kind before x) rest e))
    (kinds_pass name kind (before ++ name x ∷ []) xs (then_second (named_check name kind before x) rest e))

pub named_pass : {A : Type 0} (name : A → List ℕ) (kind : A → Check) (before : List (List ℕ)) (xs : List A)
    → distinct_check before (map name xs) ≡ None → All (λ x. kind x ≡ None) xs → in_turn name (named_check name kind) before xs ≡ None
named_pass name kind before [] e h = refl
named_pass name kind before (x ∷ xs) e h =
    let rest = distinct_check (before ++ name x ∷ []) (map name xs) in
    both_pass (named_check name kind before x) (in_turn name (named_check name kind) (before ++ name x ∷ []) xs)
    (both_pass (name_check before (name x)) (kind x) (then_first (name_check before (name x)) rest e)
    (All-head (λ x. kind x ≡ None) x xs h))
    (named_pass name kind (before ++ name x ∷ []) xs (then_second (name_check before (name x)) rest e)
    (All-tail (λ x. kind x ≡ None) x xs h))
