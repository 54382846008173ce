-- Writes one after the other.
use Rattle.std.proofs.Common.{◌≡◌, ℕ, List, [], ◌++◌, Option, Some, None, Result, Ok, Err, refl, sym, ap, subst, ◌∙◌, append_assoc}
use Rattle.std.proofs.lemmas.List.{append-nil}
use Rattle.std.specs.Io.KnownBytes.{Appends, Keeps}
use Rattle.sfc_base.specs.Writing.{AppendsFront, Writes}

pub Appends-none : (o : Option (List ℕ)) → Appends o o []
Appends-none None = tt
Appends-none (Some xs) = sym (append-nil xs)

pub Appends-more : (old mid new : Option (List ℕ)) (a b : List ℕ) → Appends old mid a → Appends mid new b → Appends old new (a ++ b)
Appends-more None mid new a b h g = tt
Appends-more (Some xs) None new a b h g = absurd h
Appends-more (Some xs) (Some ys) None a b h g = absurd g
Appends-more (Some xs) (Some ys) (Some zs) a b h g = g ∙ ap (λ (x : List ℕ). x ++ b) h ∙ append_assoc xs a b

pub Appends-kept : (old mid new : Option (List ℕ)) (a : List ℕ) → Appends old mid a → Keeps mid new → Appends old new a
Appends-kept None mid new a h g = tt
Appends-kept (Some xs) None new a h g = absurd h
Appends-kept (Some xs) (Some ys) None a h g = absurd g
Appends-kept (Some xs) (Some ys) (Some zs) a h g = g ∙ h

-- what was written of the text, and what is left of it
pub record UpTo (old new : Option (List ℕ)) (text rest : List ℕ) : Type 0 where
  pub done : List ℕ
  pub parts : text ≡ done ++ rest
  pub appends : Appends old new done

pub UpTo-none : (o : Option (List ℕ)) (text : List ℕ) → UpTo o o text text
UpTo-none o text = record { done = []; parts = refl; appends = Appends-none o }

pub UpTo-more : (old mid new : Option (List ℕ)) (text rest some others : List ℕ) → UpTo old mid text rest → rest ≡ some ++ others → Appends mid new some → UpTo old new text others
UpTo-more old mid new text rest some others u e a =
    record { done = u.done ++ some; parts = u.parts ∙ ap (λ (x : List ℕ). u.done ++ x) e ∙ sym (append_assoc u.done some others); appends = Appends-more old mid new u.done some u.appends a }

pub UpTo-kept : (old mid new : Option (List ℕ)) (text rest : List ℕ) → UpTo old mid text rest → Keeps mid new → AppendsFront old new text
UpTo-kept old mid new text rest u k = (u.done, rest, u.parts, Appends-kept old mid new u.done u.appends k)

pub UpTo-front : (old new : Option (List ℕ)) (text rest : List ℕ) → UpTo old new text rest → AppendsFront old new text
UpTo-front old new text rest u = (u.done, rest, u.parts, u.appends)

pub UpTo-all : (old new : Option (List ℕ)) (text : List ℕ) → UpTo old new text [] → Appends old new text
UpTo-all old new text u = subst (λ x. Appends old new x) (sym (u.parts ∙ append-nil u.done)) u.appends

-- ---- two texts

pub front_first : (old new : Option (List ℕ)) (a b : List ℕ) → AppendsFront old new a → AppendsFront old new (a ++ b)
front_first old new a b h = (h.0, h.1 ++ b, ap (λ (x : List ℕ). x ++ b) h.2 ∙ append_assoc h.0 h.1 b, h.3)

pub front_second : (old mid new : Option (List ℕ)) (a b : List ℕ) → Appends old mid a → AppendsFront mid new b → AppendsFront old new (a ++ b)
front_second old mid new a b h g = (a ++ g.0, g.1, ap (λ (x : List ℕ). a ++ x) g.2 ∙ sym (append_assoc a g.0 g.1), Appends-more old mid new a g.0 h g.3)

pub then_writes : {X E : Type 0} (old mid new : Option (List ℕ)) (a b : List ℕ) (r : Result X E) → Appends old mid a → Writes mid new r b → Writes old new r (a ++ b)
then_writes old mid new a b (Ok x) h g = Appends-more old mid new a b h g
then_writes old mid new a b (Err e) h g = front_second old mid new a b h g
