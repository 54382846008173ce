use Rattle.std.proofs.Common.{◌≡◌, ◌⊎◌, ℕ, ℤ, List, Result, Ok, Err, inl, inr, refl, subst, sym, w32}
use Rattle.std.specs.Prelude.{IfOk, IfErr}
use Rattle.std.proofs.lemmas.Int.{to_z-of_z}
use Rattle.sfc_c.specs.Codes.{no_memory, unknown}
use Rattle.sfc_c.specs.Explanations.{IsPage}
use Rattle.sfc_c.specs.Texts.{GivesOr, GivesText, IsNone}
use Rattle.sfc_c.proofs.explaining.sfc_explain.Goals as goal

-- the page that was made, or why there is none
given : {X : Type 0} (items : X → List ℕ) (number : ℕ) (r : Result X ℤ) (old new : List ℕ) (needed : ℕ) (result : ℤ)
    → IfOk r (λ x. IsPage number (Ok (items x))) → IfErr r (λ code. (code ≡ unknown) ⊎ (code ≡ no_memory))
    → IfOk r (λ x. GivesText (items x) old new needed result) → IfErr r (λ code. IsNone code old new needed result)
    → (told : Result (List ℕ) ℤ) × IsPage number told × GivesOr told old new needed result
given items number (Ok x) old new needed result page none text nothing = (Ok (items x), page, inl text)
given items number (Err code) old new needed result page (inl e) text nothing =
    (Err unknown, refl, inl (subst (λ k. IsNone k old new needed result) e nothing))
given items number (Err code) old new needed result page (inr e) text nothing =
    (Err unknown, refl, inr (subst (λ k. IsNone k old new needed result) e nothing))

pub returns : goal.returns
returns c =
    subst (λ (z : ℤ). (told : Result (List ℕ) ℤ) × IsPage c.args.number told × GivesOr told c.args.into.now c.give_or.new.into c.give_or.new.needed z)
    (sym (to_z-of_z w32 c.give_or.result (record { sfits = c.give_or.type_inv })))
    (given (λ page. page.items) c.args.number c.explained.result c.args.into.now c.give_or.new.into c.give_or.new.needed c.give_or.result
    c.explained.ensures.page c.explained.ensures.none c.give_or.ensures.given c.give_or.ensures.none)
