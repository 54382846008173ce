-- Texts written one after the other.
use Rattle.std.proofs.Common.{◌≡◌, ℕ, ◌≤◌, List, [], ◌++◌, Option, Bool, true, false, ◌∷◌, Bor, ◌+◌, ◌<◌, length, take, get_or, flat_map, refl, sym, ap, subst, ◌∙◌}
use Rattle.std.proofs.lemmas.List.{append-nil, take_more, take_all}
use Rattle.std.specs.Io.KnownBytes.{Appends}
use Rattle.sfc_base.specs.Writing.{AppendsFront}
use Rattle.sfc_base.proofs.Written.{Appends-none, Appends-more, front_first, front_second}
use Rattle.sfc_list.specs.declared.sink.Sink.{Sink}
use Rattle.sfc_list.specs.Private.Sinking.{Written, Puts, joined}
use Rattle.sfc_list.proofs.Texts.{grown}

written_nothing : (broken : Bool) (o : Option (List ℕ)) → Written broken broken o o []
written_nothing true o = (refl, Appends-none o)
written_nothing false o = Appends-none o

-- nothing was written behind a front
front_kept : (old mid new : Option (List ℕ)) (a : List ℕ) → AppendsFront old mid a → Appends mid new [] → AppendsFront old new a
front_kept old mid new a f n = (f.0, f.1, f.2, subst (λ text. Appends old new text) (append-nil f.0) (Appends-more old mid new f.0 [] f.3 n))

written_then : (b c d : Bool) (old mid new : Option (List ℕ)) (x y : List ℕ) → Written b c old mid x → Written c d mid new y
    → Written b d old new (x ++ y)
written_then true true d old mid new x y p q = (q.0, Appends-more old mid new [] [] p.1 q.1)
written_then true false d old mid new x y p q = cc
written_then false true true old mid new x y p q = front_kept old mid new (x ++ y) (front_first old mid x y p) q.1
written_then false true false old mid new x y p q = cc
written_then false false true old mid new x y p q = front_second old mid new x y p q
written_then false false false old mid new x y p q = Appends-more old mid new x y p q

pub written_stopped : (broken : Bool) (o : Option (List ℕ)) (text : List ℕ) → Written broken true o o text
written_stopped true o text = (refl, Appends-none o)
written_stopped false o text = ([], text, refl, Appends-none o)

pub puts_nothing : {W : Type 0} (contents : W → Option (List ℕ)) (s : Sink W) (text : List ℕ) → text ≡ [] → Puts contents s s text
unfolding Puts
puts_nothing contents s text e = record {
  same = refl;
  written = subst (λ t. Written s.is_broken s.is_broken (contents s.writer.now) (contents s.writer.now) t) (sym e)
      (written_nothing s.is_broken (contents s.writer.now));
}

pub puts_then : {W : Type 0} (contents : W → Option (List ℕ)) (a b c : Sink W) (x y : List ℕ) → Puts contents a b x → Puts contents b c y
    → Puts contents a c (x ++ y)
unfolding Puts
puts_then contents a b c x y p q = record {
  same = q.same ∙ p.same;
  written = written_then a.is_broken b.is_broken c.is_broken (contents a.writer.now) (contents b.writer.now) (contents c.writer.now)
      x y p.written q.written;
}

-- ---- lists

-- one element more
pub puts_next : {W A : Type 0} (contents : W → Option (List ℕ)) (a b c : Sink W) (f : A → List ℕ) (xs : List A) (i : ℕ) (d : A)
    → i < length xs → Puts contents a b (flat_map f (take i xs)) → Puts contents b c (f (get_or xs i d))
    → Puts contents a c (flat_map f (take (i + 1) xs))
puts_next contents a b c f xs i d lt p q =
    subst (λ text. Puts contents a c text) (sym (grown f xs i d lt))
    (puts_then contents a b c (flat_map f (take i xs)) (f (get_or xs i d)) p q)

-- an item more
pub puts_item : {W A : Type 0} (contents : W → Option (List ℕ)) (a b c : Sink W) (f : A → List ℕ) (xs : List A) (i : ℕ) (x : A)
    → i < length xs → x ≡ get_or xs i x → Puts contents a b (flat_map f (take i xs)) → Puts contents b c (f x)
    → Puts contents a c (flat_map f (take (i + 1) xs))
puts_item contents a b c f xs i x lt is p q =
    puts_next contents a b c f xs i x lt p (subst (λ y. Puts contents b c (f y)) is q)

-- all elements
pub puts_all : {W A : Type 0} (contents : W → Option (List ℕ)) (a b : Sink W) (f : A → List ℕ) (xs : List A) (i : ℕ)
    → length xs ≤ i → Puts contents a b (flat_map f (take i xs)) → Puts contents a b (flat_map f xs)
puts_all contents a b f xs i le p = subst (λ ys. Puts contents a b (flat_map f ys)) (take_all i xs le) p

joined_more : (text : List ℕ) (front back : List (Bor (List ℕ))) → joined text (front ++ back) ≡ joined (joined text front) back
joined_more text [] back = refl
joined_more text (p ∷ front) back = joined_more (text ++ p.now) front back

-- one part more
pub puts_part : {W : Type 0} (contents : W → Option (List ℕ)) (a b c : Sink W) (parts : List (Bor (List ℕ))) (i : ℕ) (d : Bor (List ℕ))
    → i < length parts → Puts contents a b (joined [] (take i parts)) → Puts contents b c (get_or parts i d).now
    → Puts contents a c (joined [] (take (i + 1) parts))
puts_part contents a b c parts i d lt p q =
    subst (λ text. Puts contents a c text)
    (sym (ap (joined []) (take_more parts i d lt) ∙ joined_more [] (take i parts) (get_or parts i d ∷ [])))
    (puts_then contents a b c (joined [] (take i parts)) (get_or parts i d).now p q)
