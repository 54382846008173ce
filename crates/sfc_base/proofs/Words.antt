-- The longest run of letters, digits and underscores at a letter or an underscore is a word, if it is spaced.
use Rattle.std.proofs.Common.{◌≡◌, ℕ, true, List, [], ◌∷◌, refl, ap}
use Rattle.std.specs.List.{list_all}
use Rattle.sfc_base.specs.declared.class.Class.{Class}
use Rattle.sfc_base.specs.declared.class.Class.TheVariants as class
use Rattle.sfc_base.specs.declared.run.Alphabet.{Alphabet}
use Rattle.sfc_base.specs.declared.run.Alphabet.TheVariants.{Word}
use Rattle.sfc_base.specs.Classes.{class_of, first_class}
use Rattle.sfc_base.specs.Runs.{has, is_in, AllIn}
use Rattle.sfc_base.specs.Private.Runs.{run}
use Rattle.sfc_base.specs.Names.{StartsWord, is_spaced, IsWord}
use Rattle.sfc_base.proofs.Runs.{run_in, run_cuts}

all_listed : (a : Alphabet) (w : List ℕ) → AllIn a w → list_all (has a) w ≡ true
all_listed a [] h = refl
all_listed a (b ∷ w) h = let e = h.0 in rw e (all_listed a w h.1)

starts_in : (k : Class) → StartsWord k → is_in Word k ≡ true
starts_in class.Letter e = refl
starts_in class.Underscore e = refl
starts_in _ e = absurd cc

run_starts : (bytes : List ℕ) → StartsWord (first_class bytes) → StartsWord (first_class (run Word bytes).0)
run_starts [] e = absurd cc
run_starts (b ∷ bs) e = let r = run_in Word b bs (starts_in (class_of b) e) in rw r e

pub run_is_word : (bytes w rest : List ℕ) → StartsWord (first_class bytes) → (w, rest) ≡ run Word bytes → is_spaced w ≡ true → IsWord w
run_is_word bytes w rest start e spaced =
    let same : w ≡ (run Word bytes).0 = ap (λ (r : List ℕ × List ℕ). r.0) e in
    let s = run_starts bytes start in
    let l = all_listed Word (run Word bytes).0 (run_cuts Word bytes).is_run.all in
    let g : is_spaced (run Word bytes).0 ≡ true = rw (← same) spaced in
    rw same (rw (s, l, g) refl)
