-- One more event at the end of a list.
use Rattle.std.proofs.Common.{◌≡◌, ℕ, ◌+◌, ◌<◌, cond, List, [], ◌∷◌, ◌++◌, refl, arith, is_ok, length, take, get_or}
use Rattle.std.proofs.lemmas.List.{take_more}
use Rattle.sfc_plant.specs.Plants.{PlantData}
use Rattle.sfc_events.specs.History.{TimedEvent, History}
use Rattle.sfc_core.specs.Verdict.{verdict, after, after_all, accepted}

after_all-push : (plant : PlantData) (xs : List TimedEvent) (x : TimedEvent) (h : History)
    → after_all plant h (xs ++ x ∷ []) ≡ after plant (after_all plant h xs) x
after_all-push plant [] x h = refl
after_all-push plant (y ∷ xs) x h = after_all-push plant xs x (after plant h y)

accepted-push : (plant : PlantData) (xs : List TimedEvent) (x : TimedEvent) (h : History)
    → accepted plant h (xs ++ x ∷ []) ≡ accepted plant h xs + cond (is_ok (verdict plant (after_all plant h xs) x.0 x.1)) 1 0
accepted-push plant [] x h = omega arith
accepted-push plant (y ∷ xs) x h = omega (arith, accepted-push plant xs x (after plant h y))

pub after_all_more : (plant : PlantData) (xs : List TimedEvent) (i : ℕ) (d : TimedEvent) (h : History) → i < length xs
    → after_all plant h (take (i + 1) xs) ≡ after plant (after_all plant h (take i xs)) (get_or xs i d)
after_all_more plant xs i d h lt = rw (take_more xs i d lt) (after_all-push plant (take i xs) (get_or xs i d) h)

pub accepted_more : (plant : PlantData) (xs : List TimedEvent) (i : ℕ) (d : TimedEvent) (h : History) → i < length xs
    → accepted plant h (take (i + 1) xs)
    ≡ accepted plant h (take i xs) + cond (is_ok (verdict plant (after_all plant h (take i xs)) (get_or xs i d).0 (get_or xs i d).1)) 1 0
accepted_more plant xs i d h lt = rw (take_more xs i d lt) (accepted-push plant (take i xs) (get_or xs i d) h)
