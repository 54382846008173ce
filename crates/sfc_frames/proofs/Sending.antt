-- Messages one after the other.
use Rattle.std.proofs.Common.{◌≡◌, ℕ, List, [], ◌∷◌, ◌++◌, Option, refl, sym, ap, subst, ◌∙◌, append_assoc}
use Rattle.std.specs.List.{flat_map}
use Rattle.sfc_base.specs.Writing.{AppendsFront}
use Rattle.sfc_base.proofs.Written.{UpTo, front_second, front_first}
use Rattle.sfc_frames.specs.Frames.{frame}

-- a fault within the next part of the text
pub UpTo-fault : (old mid new : Option (List ℕ)) (text rest some others : List ℕ) → UpTo old mid text rest → rest ≡ some ++ others → AppendsFront mid new some
    → AppendsFront old new text
UpTo-fault old mid new text rest some others u e f =
    let all : text ≡ u.done ++ (some ++ others) = u.parts ∙ ap (λ (x : List ℕ). u.done ++ x) e in
    subst (λ (x : List ℕ). AppendsFront old new x) (sym all) (front_second old mid new u.done (some ++ others) u.appends (front_first mid new some others f))

pub flat_map-frames : (xs ys : List (List ℕ)) → flat_map frame (xs ++ ys) ≡ flat_map frame xs ++ flat_map frame ys
flat_map-frames [] ys = refl
flat_map-frames (x ∷ xs) ys = ap (λ (z : List ℕ). frame x ++ z) (flat_map-frames xs ys) ∙ sym (append_assoc (frame x) (flat_map frame xs) (flat_map frame ys))
