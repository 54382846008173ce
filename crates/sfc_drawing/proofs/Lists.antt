-- Lists of what is drawn, an element at a time.
use Rattle.std.proofs.Common.{◌≡◌, ℕ, ◌+◌, ◌<◌, ◌≤◌, List, [], ◌∷◌, ◌++◌, length, take, drop, get_or, map, Option, refl, sym, ap, ◌∙◌, arith, append_assoc, length-drop, subst}
use Rattle.std.proofs.lemmas.List.{append-nil, map-append, take_more, take_all, take-append-drop, get_or-drop}
use Rattle.std.proofs.lemmas.Grind.{common_steps}
use Rattle.sfc_layout.specs.declared.node_box.NodeBox.{NodeBox}
use Rattle.sfc_layout.specs.Apart.{AreApart}
use Rattle.sfc_plant.specs.declared.program_type.ProgramType.{ProgramType}
use Rattle.sfc_plant.specs.declared.variable.Variable.{Variable}
use Rattle.sfc_drawing.specs.declared.drawn.DrawnChart.{DrawnChart}
use Rattle.sfc_drawing.specs.declared.marks.Marked.{Marked}
use Rattle.sfc_drawing.specs.declared.marks.Marks.{Marks}
use Rattle.sfc_drawing.specs.Drawings.{AreOf, IsOf, AreOfInstances, IsOfInstance, if_some, nothing}
use Rattle.sfc_plant.specs.Plants.{PlantData}
use Rattle.sfc_plant.specs.ProgramTypes.{type_of}
use Rattle.sfc_drawing.specs.Said.{counted}

-- an element that is drawn of one more
pub map_more : {A B C : Type 0} (f : A → C) (g : B → C) (before after : List A) (xs : List B) (i : ℕ) (a : A) (x : B) → i < length xs
    → x ≡ get_or xs i x → map f before ≡ map g (take i xs) → f a ≡ g x → after ≡ before ++ a ∷ [] → map f after ≡ map g (take (i + 1) xs)
map_more f g before after xs i a x lt is p e q =
    ap (map f) q ∙ map-append f before (a ∷ []) ∙ ap (λ ys. ys ++ f a ∷ []) p ∙ ap (λ y. map g (take i xs) ++ y ∷ []) (e ∙ ap g is)
    ∙ sym (map-append g (take i xs) (get_or xs i x ∷ [])) ∙ ap (map g) (sym (take_more xs i x lt))

-- one that stands where another box is
pub place_more : {A B : Type 0} (f : A → B) (before after : List A) (ys : List B) (i : ℕ) (a : A) → i < length ys
    → f a ≡ get_or ys i (f a) → map f before ≡ take i ys → after ≡ before ++ a ∷ [] → map f after ≡ take (i + 1) ys
place_more f before after ys i a lt is p q =
    ap (map f) q ∙ map-append f before (a ∷ []) ∙ ap (λ zs. zs ++ f a ∷ []) p ∙ ap (λ y. take i ys ++ y ∷ []) is
    ∙ sym (take_more ys i (f a) lt)

-- a box that stands where it is among all
pub moved : {B : Type 0} (ys : List B) (i : ℕ) (a b : B) → a ≡ b → b ≡ get_or ys i b → a ≡ get_or ys i a
moved ys i a b e is = e ∙ is ∙ ap (get_or ys i) (sym e)

pub moved_behind : {B : Type 0} (ys : List B) (n i : ℕ) (a b : B) → a ≡ b → b ≡ get_or ys (n + i) b → a ≡ get_or (drop n ys) i a
moved_behind ys n i a b e is = e ∙ is ∙ ap (get_or ys (n + i)) (sym e) ∙ sym (get_or-drop n ys i a)

-- the first boxes and those behind them are all
pub both_parts : {B : Type 0} (ys front back : List B) (n m k : ℕ) → length ys ≡ k + m → k ≡ n → front ≡ take n ys
    → back ≡ take m (drop k ys) → front ++ back ≡ ys
both_parts ys front back n m k e f p q =
    let enough : length (drop k ys) ≤ m = omega (arith, length-drop k ys, e) in
    ap (λ zs. zs ++ back) (p ∙ ap (λ x. take x ys) (sym f)) ∙ ap (λ zs. take k ys ++ zs) (q ∙ take_all m (drop k ys) enough)
    ∙ take-append-drop k ys

pub apart_along : (boxes drawn : List NodeBox) → drawn ≡ boxes → AreApart boxes → AreApart drawn
apart_along boxes drawn e h = subst (λ bs. AreApart bs) (sym e) h

-- ---- charts of types

of_behind : (globals : List Variable) (types : List ProgramType) (charts : List DrawnChart) (p : ProgramType) (c : DrawnChart)
    → AreOf globals types charts → IsOf globals p.name [] nothing p c → AreOf globals (types ++ p ∷ []) (charts ++ c ∷ [])
of_behind globals [] [] p c a h = (h, tt)
of_behind globals [] (d ∷ charts) p c a h = absurd a
of_behind globals (t ∷ types) [] p c a h = absurd a
of_behind globals (t ∷ types) (d ∷ charts) p c a h = (a.0, of_behind globals types charts p c a.1 h)

pub of_more : (globals : List Variable) (types : List ProgramType) (before after : List DrawnChart) (i : ℕ) (p : ProgramType)
    (c : DrawnChart) → i < length types → p ≡ get_or types i p → AreOf globals (take i types) before → IsOf globals p.name [] nothing p c
    → after ≡ before ++ c ∷ []
    → AreOf globals (take (i + 1) types) after
of_more globals types before after i p c lt is a h q =
    subst (λ cs. AreOf globals (take (i + 1) types) cs) (sym q)
    (subst (λ ts. AreOf globals ts (before ++ c ∷ [])) (ap (λ x. take i types ++ x ∷ []) is ∙ sym (take_more types i p lt))
    (of_behind globals (take i types) before p c a h))

pub of_all : (globals : List Variable) (types : List ProgramType) (charts : List DrawnChart) (i : ℕ) → length types ≤ i
    → AreOf globals (take i types) charts → AreOf globals types charts
of_all globals types charts i le a = subst (λ ts. AreOf globals ts charts) (take_all i types le) a

pub of_along : (c : DrawnChart) (globals globals' : List Variable) (name name' note note' : List ℕ) (told told' : Marks) (p p' : ProgramType)
    → globals ≡ globals' → name ≡ name' → note ≡ note' → told ≡ told' → p ≡ p' → IsOf globals name note told p c
    → IsOf globals' name' note' told' p' c
of_along c globals globals' name name' note note' told told' p p' g n m t e h =
    subst (λ x. IsOf x name' note' told' p' c) g (subst (λ x. IsOf globals x note' told' p' c) n
    (subst (λ x. IsOf globals name x told' p' c) m (subst (λ x. IsOf globals name note x p' c) t
    (subst (λ x. IsOf globals name note told x c) e h))))

-- ---- charts of instances

instance_behind : (plant : PlantData) (instances : List Marked) (charts : List DrawnChart) (m : Marked) (drawn : Option DrawnChart)
    → AreOfInstances plant instances charts → IsOfInstance plant m (type_of plant m.instance) drawn
    → AreOfInstances plant (instances ++ m ∷ []) (charts ++ if_some drawn)
instance_behind plant [] charts m drawn a h =
    (drawn, [], ap (λ cs. cs ++ if_some drawn) a ∙ sym (append-nil (if_some drawn)), h, refl)
instance_behind plant (x ∷ instances) charts m drawn a h = (
  a.0,
  a.1 ++ if_some drawn,
  ap (λ cs. cs ++ if_some drawn) a.2 ∙ append_assoc (if_some a.0) a.1 (if_some drawn),
  a.3,
  instance_behind plant instances a.1 m drawn a.4 h,
)

pub instance_more : (plant : PlantData) (instances : List Marked) (before after : List DrawnChart) (i : ℕ) (m : Marked)
    (drawn : Option DrawnChart) → i < length instances → m ≡ get_or instances i m → AreOfInstances plant (take i instances) before
    → IsOfInstance plant m (type_of plant m.instance) drawn → after ≡ before ++ if_some drawn
    → AreOfInstances plant (take (i + 1) instances) after
instance_more plant instances before after i m drawn lt is a h q =
    subst (λ cs. AreOfInstances plant (take (i + 1) instances) cs) (sym q)
    (subst (λ ms. AreOfInstances plant ms (before ++ if_some drawn)) (ap (λ x. take i instances ++ x ∷ []) is ∙ sym (take_more instances i m lt))
    (instance_behind plant (take i instances) before m drawn a h))

-- ---- links

-- one more behind those that were there
pub map_behind : {A B C : Type 0} (f : A → C) (g : B → C) (old before after : List A) (xs : List B) (i : ℕ) (a : A) (d : B) → i < length xs
    → map f before ≡ map f old ++ map g (take i xs) → f a ≡ g (get_or xs i d) → after ≡ before ++ a ∷ []
    → map f after ≡ map f old ++ map g (take (i + 1) xs)
map_behind f g old before after xs i a d lt p e q =
    ap (map f) q ∙ map-append f before (a ∷ []) ∙ ap (λ ys. ys ++ f a ∷ []) p ∙ append_assoc (map f old) (map g (take i xs)) (f a ∷ [])
    ∙ ap (λ y. map f old ++ (map g (take i xs) ++ y ∷ [])) e
    ∙ ap (λ ys. map f old ++ ys) (sym (map-append g (take i xs) (get_or xs i d ∷ [])) ∙ ap (map g) (sym (take_more xs i d lt)))

-- ---- elements behind their numbers

counted_behind : {A B : Type 0} (f : ℕ → A → B) (n : ℕ) (front back : List A)
    → counted f n (front ++ back) ≡ counted f n front ++ counted f (n + length front) back
counted_behind f n [] back = let e : n ≡ n + 0 = omega arith in ap (λ k. counted f k back) e
counted_behind f n (x ∷ front) back =
    let e : n + 1 + length front ≡ n + length (x ∷ front) = omega arith in
    ap (λ ys. f n x ∷ ys) (counted_behind f (n + 1) front back ∙ ap (λ k. counted f (n + 1) front ++ counted f k back) e)

front_length : {A : Type 0} (xs : List A) (i : ℕ) → i < length xs → 0 + length (take i xs) ≡ i
front_length xs i lt = grind (arith, common_steps)

counted_grown : {A B : Type 0} (f : ℕ → A → B) (xs : List A) (i : ℕ) (x : A) → i < length xs
    → counted f 0 (take (i + 1) xs) ≡ counted f 0 (take i xs) ++ f i (get_or xs i x) ∷ []
counted_grown f xs i x lt =
    ap (counted f 0) (take_more xs i x lt) ∙ counted_behind f 0 (take i xs) (get_or xs i x ∷ [])
    ∙ ap (λ k. counted f 0 (take i xs) ++ f k (get_or xs i x) ∷ []) (front_length xs i lt)

-- an element that is drawn of one more and of its number
pub counted_more : {A B C : Type 0} (f : A → C) (g : ℕ → B → C) (before after : List A) (xs : List B) (i : ℕ) (a : A) (x : B) → i < length xs
    → x ≡ get_or xs i x → map f before ≡ counted g 0 (take i xs) → f a ≡ g i x → after ≡ before ++ a ∷ []
    → map f after ≡ counted g 0 (take (i + 1) xs)
counted_more f g before after xs i a x lt is p e q =
    ap (map f) q ∙ map-append f before (a ∷ []) ∙ ap (λ ys. ys ++ f a ∷ []) p
    ∙ ap (λ y. counted g 0 (take i xs) ++ y ∷ []) (e ∙ ap (g i) is) ∙ sym (counted_grown g xs i x lt)
