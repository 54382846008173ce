-- Texts of lists, an element at a time.
use Rattle.std.proofs.Common.{◌≡◌, ℕ, ◌+◌, ◌<◌, List, [], ◌∷◌, ◌++◌, length, take, get_or, flat_map, map, codes, Option, Some, refl, sym, ap, arith}
use Rattle.std.proofs.lemmas.List.{append-nil}
use Rattle.std.proofs.lemmas.Grind.{common_steps}
use Rattle.std.specs.Fmt.{decimal}
use Rattle.sfc_base.specs.declared.references.StepId.{StepId}
use Rattle.sfc_base.specs.declared.references.Variable.{Variable}
use Rattle.sfc_plant.specs.Spaces.{Space}
use Rattle.sfc_list.specs.Layout.{after_commas, with_commas}
use Rattle.sfc_plant.specs.Names.{variable_name, step_name}
use Rattle.sfc_list.specs.Charts.{indicators_text, side_text, priority_text}
use Rattle.sfc_list.specs.Private.Parts.{indicator_text, steps_text}

pub grown : {A : Type 0} (f : A → List ℕ) (xs : List A) (i : ℕ) (d : A) → i < length xs
    → flat_map f (take (i + 1) xs) ≡ flat_map f (take i xs) ++ f (get_or xs i d)
grown f xs i d lt = grind (arith, common_steps)

-- ---- lists with commas

each_named : {A : Type 0} (f : A → List ℕ) (xs : List A) → after_commas (map f xs) ≡ flat_map (λ x. codes ", " ++ f x) xs
each_named f [] = refl
each_named f (x ∷ xs) = ap (λ text. (codes ", " ++ f x) ++ text) (each_named f xs)

pub indicators_each : (space : Space) (vs : List Variable) → indicators_text space vs ≡ flat_map (indicator_text space) vs
indicators_each space vs = each_named (variable_name space) vs

-- ---- sides

with_steps : (space : Space) (ss : List StepId) → with_commas (map (step_name space) ss) ≡ steps_text space ss
with_steps space [] = refl
with_steps space (s ∷ ss) = ap (λ text. step_name space s ++ text) (each_named (step_name space) ss)

pub one_step : (space : Space) (ss : List StepId) → length ss ≡ 1 → side_text (map (step_name space) ss) ≡ steps_text space ss
one_step space [] e = cc
one_step space (s ∷ []) e = sym (append-nil (step_name space s))
one_step space (s ∷ t ∷ ss) e = absurd (omega arith)

pub several_steps : (space : Space) (ss : List StepId) → (length ss ≡ 1 → ⊥)
    → side_text (map (step_name space) ss) ≡ codes "(" ++ steps_text space ss ++ codes ")"
several_steps space [] ne = refl
several_steps space (s ∷ []) ne = absurd (ne refl)
several_steps space (s ∷ t ∷ ss) ne = ap (λ text. codes "(" ++ text ++ codes ")") (with_steps space (s ∷ t ∷ ss))

pub some_priority : (p : Option ℕ) (n : ℕ) → p ≡ Some n → priority_text p ≡ codes "(PRIORITY := " ++ decimal n ++ codes ") "
some_priority p n e = ap priority_text e
