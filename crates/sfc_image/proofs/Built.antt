-- The slots of a plant's variables.
use Rattle.std.proofs.Common.{◌≡◌, inl, inr, ℕ, zero, suc, ◌+◌, ◌<◌, ◌≤◌, arith, false, List, [], ◌∷◌, ◌++◌, length, map, flat_map, take, slice_get, get_or, Option, Some, refl, sym, ◌∙◌, ap, subst, append-nil}
use Rattle.std.proofs.lemmas.List.{append_assoc, length-append, length-map, map-append, get_or_push, get_or_append_left}
use Rattle.std.proofs.lemmas.Grind.{flat_map-append}
use Rattle.std.proofs.lemmas.Option.{slice_get_read, slice_get_cases}
use Rattle.std.proofs.Math.Seq.{take-suc}
use borrow.Author.Count.{below_more}
use Rattle.sfc_plant.specs.declared.variable.Variable.{Variable}
use Rattle.sfc_plant.specs.declared.program_type.ProgramType.{ProgramType}
use Rattle.sfc_plant.specs.declared.instance.Instance.{Instance}
use Rattle.sfc_plant.specs.Plants.{PlantData}
use Rattle.sfc_plant.specs.Image.{locals_of, image_of, image_variables}
use Rattle.sfc_plant.specs.Finding.{locals_at as locals_at_instance}
use Rattle.sfc_plant.proofs.Images.{starts_at}
use Rattle.sfc_image.specs.declared.slot.Slot.{Slot}
use Rattle.sfc_image.specs.declared.slot.Locals.{Locals}
use Rattle.sfc_image.specs.Changes.{settled}
use Rattle.sfc_image.specs.Values.{initial_in, type_in, initial_of, type_of_variable}
use Rattle.sfc_image.specs.Private.Keeping.{fresh_slot, no_slot, slot_at, locals_at, AreTracked, AreWithin, SlotAgrees, SlotsAgree}
use Rattle.sfc_image.proofs.Counting.{count_none}

-- the locals of this instance
locals_here : (types : List ProgramType) (instances : List Instance) (k : ℕ) (instance : Instance)
    → k < length instances → instance ≡ get_or instances k instance
    → locals_at_instance types (slice_get instances k) ≡ locals_of types instance
locals_here types instances k instance lt is =
    let found : slice_get instances k ≡ Some instance = slice_get_read instances (length instances) k instance refl lt is in
    ap (λ (o : Option Instance). locals_at_instance types o) found

-- the variables of one instance more
image_more : (globals : List Variable) (types : List ProgramType) (instances : List Instance) (k : ℕ) (instance : Instance)
    → k < length instances → instance ≡ get_or instances k instance
    → image_of globals types (take (k + 1) instances)
    ≡ image_of globals types (take k instances) ++ locals_at_instance types (slice_get instances k)
image_more globals types instances k instance lt is =
    let found : slice_get instances k ≡ Some instance = slice_get_read instances (length instances) k instance refl lt is in
    let more : k + 1 ≡ suc k = omega arith in
    let front : take (k + 1) instances ≡ take k instances ++ instance ∷ [] =
    ap (λ (n : ℕ). take n instances) more ∙ take-suc instances k instance lt
    ∙ ap (λ (x : Instance). take k instances ++ x ∷ []) (sym is) in
    let locals : locals_at_instance types (slice_get instances k) ≡ locals_of types instance =
    ap (λ (o : Option Instance). locals_at_instance types o) found in
    let all : flat_map (locals_of types) (take (k + 1) instances)
    ≡ flat_map (locals_of types) (take k instances) ++ locals_at_instance types (slice_get instances k) =
    ap (flat_map (locals_of types)) front ∙ flat_map-append (locals_of types) (take k instances) (instance ∷ [])
    ∙ ap (λ (xs : List Variable). flat_map (locals_of types) (take k instances) ++ xs)
    (append-nil (locals_of types instance) ∙ sym locals) in
    ap (λ (xs : List Variable). globals ++ xs) all
    ∙ sym (append_assoc globals (flat_map (locals_of types) (take k instances)) (locals_at_instance types (slice_get instances k)))

pub slots_more : (globals : List Variable) (types : List ProgramType) (instances : List Instance) (k : ℕ) (instance : Instance)
    (variables : List Variable) (slots new : List Slot)
    → k < length instances → instance ≡ get_or instances k instance → variables ≡ locals_of types instance
    → slots ≡ map fresh_slot (image_of globals types (take k instances)) → new ≡ slots ++ map fresh_slot variables
    → new ≡ map fresh_slot (image_of globals types (take (k + 1) instances))
slots_more globals types instances k instance variables slots new lt is of_instance before added =
    let locals = locals_here types instances k instance lt is in
    added ∙ ap (λ (xs : List Slot). xs ++ map fresh_slot variables) before
    ∙ sym (map-append fresh_slot (image_of globals types (take k instances)) variables)
    ∙ ap (λ (xs : List Variable). map fresh_slot (image_of globals types (take k instances) ++ xs)) (of_instance ∙ sym locals)
    ∙ ap (map fresh_slot) (sym (image_more globals types instances k instance lt is))

-- where the locals of instance k are
abbrev pub places_of : List Variable → List ProgramType → List Instance → ℕ → Locals
places_of globals types instances k = record {
  first = length (image_of globals types (take k instances));
  count = length (locals_at_instance types (slice_get instances k));
}

pub locals_more : (globals : List Variable) (types : List ProgramType) (instances : List Instance) (k : ℕ) (instance : Instance)
    (variables : List Variable) (slots : List Slot) (locals new : List Locals) (x : Locals)
    → k < length instances → instance ≡ get_or instances k instance → variables ≡ locals_of types instance
    → slots ≡ map fresh_slot (image_of globals types (take k instances))
    → length locals ≡ k → new ≡ locals ++ x ∷ [] → x.first ≡ length slots → x.count ≡ length variables
    → ((j : ℕ) → j < k → locals_at locals j ≡ places_of globals types instances j)
    → (j : ℕ) → j < k + 1 → locals_at new j ≡ places_of globals types instances j
locals_more globals types instances k instance variables slots locals new x lt is of_instance before long pushed first count done =
    let none : Locals = record { first = 0; count = 0 } in
    let first_is : x.first ≡ length (image_of globals types (take k instances)) =
    first ∙ ap length before ∙ length-map (image_of globals types (take k instances)) fresh_slot in
    let count_is : x.count ≡ length (locals_at_instance types (slice_get instances k)) =
    count ∙ ap length (of_instance ∙ sym (locals_here types instances k instance lt is)) in
    let here : x ≡ places_of globals types instances k =
    ap (λ (n : ℕ). record { first = n; count = x.count }) first_is
    ∙ ap (λ (n : ℕ). record { first = length (image_of globals types (take k instances)); count = n }) count_is in
    below_more (λ (j : ℕ). locals_at new j ≡ places_of globals types instances j) k
    (λ j jlt.
    ap (λ (xs : List Locals). locals_at xs j) pushed
    ∙ get_or_append_left locals (x ∷ []) none j (omega (arith, jlt, long)) ∙ done j jlt)
    (ap (λ (xs : List Locals). locals_at xs k) pushed ∙ get_or_push locals x none k long ∙ here)

-- ---- slots with which nothing was done

fresh_untried : (variables : List Variable) (i : ℕ) → (slot_at (map fresh_slot variables) i).is_tried ≡ false
fresh_untried [] i = refl
fresh_untried (v ∷ vs) zero = refl
fresh_untried (v ∷ vs) (suc i) = fresh_untried vs i

pub fresh_tracked : (variables : List Variable) (slots : List Slot) (written : List ℕ) → slots ≡ map fresh_slot variables
    → length written ≡ length slots → AreTracked slots written 0
fresh_tracked variables slots written is capacity =
    let untried : (i : ℕ) → (slot_at slots i).is_tried ≡ false =
    λ i. ap (λ (xs : List Slot). (slot_at xs i).is_tried) is ∙ fresh_untried variables i in
    record {
      capacity = capacity;
      counted = count_none (λ (slot : Slot). slot.is_tried) slots no_slot (λ i lt. untried i);
      numbers = λ j lt. absurd (omega arith);
      listed = λ i on. absurd (let off = untried i in cc);
    }

fresh_at : (variables : List Variable) (i : ℕ) → i < length variables
    → (v : Variable) × (slice_get variables i ≡ Some v) × (slot_at (map fresh_slot variables) i ≡ fresh_slot v)
fresh_at [] i lt = absurd (omega arith)
fresh_at (v ∷ vs) zero lt = (v, refl, refl)
fresh_at (v ∷ vs) (suc i) lt = fresh_at vs i (omega arith)

fresh_slot_agrees : (plant : PlantData) (i : ℕ) (v : Variable) (slot : Slot) → slice_get (image_variables plant) i ≡ Some v
    → slot ≡ fresh_slot v → SlotAgrees plant (settled []) i slot
fresh_slot_agrees plant i v slot found is =
    let initial : v.initial ≡ initial_of plant i = ap initial_in (sym found) in
    let of_type : v.var_type ≡ type_of_variable plant i = ap type_in (sym found) in
    subst (λ (x : Slot). SlotAgrees plant (settled []) i x) (sym is)
    (record {
      var_type = of_type;
      initial = initial;
      committed = initial;
      stored = initial;
      forced = refl;
      held = refl;
      untried = λ off. refl;
    })

pub fresh_agrees : (plant : PlantData) (slots : List Slot) (locals : List Locals) → slots ≡ map fresh_slot (image_variables plant)
    → length locals ≡ length plant.instances
    → ((k : ℕ) → k < length plant.instances → locals_at locals k ≡ places_of plant.globals plant.types plant.instances k)
    → SlotsAgree plant slots locals 0 false (settled [])
fresh_agrees plant slots locals is long places =
    let size : length slots ≡ length (image_variables plant) = ap length is ∙ length-map (image_variables plant) fresh_slot in
    record {
      variables = size;
      instances = long;
      locals_are = λ p lt. places p.0 (omega (arith, lt, long));
      opened = refl;
      each = λ i lt.
          let fresh = fresh_at (image_variables plant) i (omega (arith, lt, size)) in
          fresh_slot_agrees plant i fresh.0 (slot_at slots i) fresh.1 (ap (λ (xs : List Slot). slot_at xs i) is ∙ fresh.2);
    }

-- the locals of each instance are among the variables, behind the globals
pub fresh_within : (plant : PlantData) (slots : List Slot) (locals : List Locals) → slots ≡ map fresh_slot (image_variables plant)
    → length locals ≡ length plant.instances
    → ((k : ℕ) → k < length plant.instances → locals_at locals k ≡ places_of plant.globals plant.types plant.instances k)
    → AreWithin (length slots) locals
fresh_within plant slots locals is long places k lt =
    let size : length slots ≡ length (image_variables plant) = ap length is ∙ length-map (image_variables plant) fresh_slot in
    let below : k < length plant.instances = omega (arith, lt, long) in
    let some : 0 < length plant.instances = omega (arith, below) in
    let at : locals_at locals k ≡ places_of plant.globals plant.types plant.instances k = places k below in
    let first = ap (λ (l : Locals). l.first) at in
    let front = length-append plant.globals (flat_map (locals_of plant.types) (take k plant.instances)) in
    let zeroth : (locals_at locals 0).first ≡ length plant.globals =
    ap (λ (l : Locals). l.first) (places 0 some) ∙ ap length (append-nil plant.globals) in
    elim ((slice_get_cases plant.instances k).1)
    as (λ _. ((locals_at locals 0).first ≤ (locals_at locals k).first)
    × ((locals_at locals k).first + (locals_at locals k).count ≤ length slots)) [
      | inl found ↦
          let starts = starts_at (length plant.globals) plant.types plant.instances k found.0 found.2 in
          let all = length-append plant.globals (flat_map (locals_of plant.types) plant.instances) in
          let count : (locals_at locals k).count ≡ length (locals_of plant.types found.0) =
          ap (λ (l : Locals). l.count) at
          ∙ ap (λ (o : Option Instance). length (locals_at_instance plant.types o)) found.2 in
          (omega (arith, front, first, zeroth), omega (arith, starts.within, all, front, first, count, size))
      | inr past ↦ absurd (omega (arith, past, below))
    ]

-- ---- what was built of the parts of a plant

pub built_slots : (plant : PlantData) (globals : List Variable) (types : List ProgramType) (instances : List Instance)
    (slots : List Slot) → globals ≡ plant.globals → types ≡ plant.types → instances ≡ plant.instances
    → slots ≡ map fresh_slot (image_of globals types instances) → slots ≡ map fresh_slot (image_variables plant)
built_slots plant globals types instances slots g t i is =
    is ∙ ap (λ (xs : List Variable). map fresh_slot (image_of xs types instances)) g
    ∙ ap (λ (xs : List ProgramType). map fresh_slot (image_of plant.globals xs instances)) t
    ∙ ap (λ (xs : List Instance). map fresh_slot (image_of plant.globals plant.types xs)) i

pub built_locals : (plant : PlantData) (globals : List Variable) (types : List ProgramType) (instances : List Instance)
    (locals : List Locals) → globals ≡ plant.globals → types ≡ plant.types → instances ≡ plant.instances
    → ((k : ℕ) → k < length instances → locals_at locals k ≡ places_of globals types instances k)
    → (k : ℕ) → k < length plant.instances → locals_at locals k ≡ places_of plant.globals plant.types plant.instances k
built_locals plant globals types instances locals g t i at k lt =
    let long = ap length i in
    at k (omega (arith, lt, long)) ∙ ap (λ (xs : List Variable). places_of xs types instances k) g
    ∙ ap (λ (xs : List ProgramType). places_of plant.globals xs instances k) t
    ∙ ap (λ (xs : List Instance). places_of plant.globals plant.types xs k) i
