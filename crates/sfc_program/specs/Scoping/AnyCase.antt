-- The case of letters is not significant in the names of a program type (2.1.2).
use Rattle.std.specs.Prelude.{◌≡◌, ℕ, Bool, true, List, Option, Some, None, position}
use Rattle.std.specs.Option.{option_map}
use Rattle.std.proofs.Common.{refl, ap, ◌∙◌}
use Rattle.sfc_base.specs.Case.{same_word}
use Rattle.sfc_base.proofs.SameWords.{same_word_equiv}
use Rattle.sfc_base.specs.NameLists.{place_of}
use Rattle.sfc_check.specs.Scopes.{IgnoresCase}
use Rattle.sfc_base.specs.declared.references.Variable.TheVariants.{Global, Local}
use Rattle.sfc_plant.specs.VariableNames.{names_of, typed_at, or_else}
use Rattle.sfc_plant.specs.Spaces.{Space}
use Rattle.sfc_program.specs.Names.{is_name_of, names_in}

-- words that are one but for case are found alike
alike : (one other : List ℕ) → same_word one other ≡ true → same_word one ≡ same_word other
alike one other same = λ i word. same_word_equiv.congr one other word same i

place_alike : (names : List (List ℕ)) (one other : List ℕ) → same_word one other ≡ true →
    place_of one names ≡ place_of other names
place_alike names one other same = ap (λ (p : List ℕ → Bool). position p names) (alike one other same)

own_alike : (own : Option (List ℕ)) (one other : List ℕ) → same_word one other ≡ true →
    is_name_of own one ≡ is_name_of own other
own_alike None one other same = refl
own_alike (Some own) one other same =
    same_word_equiv.symm own one ∙ same_word_equiv.congr one other own same ∙ same_word_equiv.symm other own

pub ignoring_case : (own : Option (List ℕ)) (space : Space) → IgnoresCase (names_in space own)
ignoring_case own space = record {
  variable = λ one other same i. or_else
      (typed_at (λ place. Local (record { 0 = place })) space.locals (place_alike (names_of space.locals) one other same i))
      (typed_at (λ place. Global (record { 0 = place })) space.globals (place_alike (names_of space.globals) one other same i));
  step = λ one other same. ap (option_map (λ place. record { 0 = place })) (place_alike space.steps one other same);
  is_own_action = own_alike own;
}
