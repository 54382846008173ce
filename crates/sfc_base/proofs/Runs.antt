-- The longest runs.
use Rattle.std.proofs.Common.{◌≡◌, ℕ, Bool, true, false, List, [], ◌∷◌, ◌++◌, refl, sym, ap, subst, ◌∙◌}
use Rattle.sfc_base.specs.declared.class.Class.{Class}
use Rattle.sfc_base.specs.declared.run.Alphabet.{Alphabet}
use Rattle.sfc_base.specs.Classes.{class_of}
use Rattle.sfc_base.specs.Runs.{is_in, has, AllIn, Ends, IsRun}
use Rattle.sfc_base.specs.Private.Runs.{run}

pub run_in : (a : Alphabet) (b : ℕ) (bs : List ℕ) → has a b ≡ true → run a (b ∷ bs) ≡ (b ∷ (run a bs).0, (run a bs).1)
unfolding run
run_in a b bs e = rw e refl

pub run_out : (a : Alphabet) (b : ℕ) (bs : List ℕ) → has a b ≡ false → run a (b ∷ bs) ≡ ([], b ∷ bs)
unfolding run
run_out a b bs e = rw e refl

pub run_none : (a : Alphabet) → run a [] ≡ ([], [])
unfolding run
run_none a = refl

pub record Cuts (a : Alphabet) (bs : List ℕ) (r : List ℕ × List ℕ) : Type 0 where
  pub parts : bs ≡ r.0 ++ r.1
  pub is_run : IsRun a r.0 r.1

cuts_at : (t : Bool) (a : Alphabet) (b : ℕ) (bs : List ℕ) → has a b ≡ t → Cuts a bs (run a bs) → Cuts a (b ∷ bs) (run a (b ∷ bs))
cuts_at true a b bs e c = subst (λ r. Cuts a (b ∷ bs) r) (sym (run_in a b bs e)) (record { parts = ap (λ (x : List ℕ). b ∷ x) c.parts; is_run = record { all = (e, c.is_run.all); longest = c.is_run.longest } })
cuts_at false a b bs e c = subst (λ r. Cuts a (b ∷ bs) r) (sym (run_out a b bs e)) (record { parts = refl; is_run = record { all = tt; longest = e } })

pub run_cuts : (a : Alphabet) (bs : List ℕ) → Cuts a bs (run a bs)
run_cuts a [] = subst (λ r. Cuts a [] r) (sym (run_none a)) (record { parts = refl; is_run = record { all = tt; longest = tt } })
run_cuts a (b ∷ bs) = cuts_at (has a b) a b bs refl (run_cuts a bs)

run_again_at : (a : Alphabet) (w rest : List ℕ) → AllIn a w → Ends a rest → run a (w ++ rest) ≡ (w, rest)
run_again_at a [] [] all ends = run_none a
run_again_at a [] (b ∷ rest) all ends = run_out a b rest ends
run_again_at a (b ∷ w) rest all ends = run_in a b (w ++ rest) all.0 ∙ ap (λ (r : List ℕ × List ℕ). (b ∷ r.0, r.1)) (run_again_at a w rest all.1 ends)

pub run_again : (a : Alphabet) (w rest : List ℕ) → IsRun a w rest → run a (w ++ rest) ≡ (w, rest)
run_again a w rest r = run_again_at a w rest r.all r.longest

-- what is in one alphabet is in a wider one
pub wider : (a b : Alphabet) → ((k : Class) → is_in a k ≡ true → is_in b k ≡ true) → (w : List ℕ) → AllIn a w → AllIn b w
wider a b more [] h = tt
wider a b more (c ∷ w) h = (more (class_of c) h.0, wider a b more w h.1)
