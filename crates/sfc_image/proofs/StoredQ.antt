-- The Q of one action more is stored in its variable.
use Rattle.std.proofs.Common.{◌≡◌, ◌≢◌, ℕ, ◌+◌, ◌<◌, ◌≤◌, arith, Bool, true, false, List, length, slice_set, Option, Some, None, refl, sym, ap, subst, ◌∙◌}
use Rattle.std.specs.Prelude.{IfSome}
use Rattle.std.specs.Option.{option_map}
use Rattle.sfc_base.specs.declared.references.Variable.{Variable}
use Rattle.sfc_base.specs.declared.value.Value.{Value}
use Rattle.sfc_base.specs.declared.value.Value.TheVariants as value
use Rattle.sfc_base.specs.declared.ids.ProgId.{ProgId}
use Rattle.sfc_base.specs.declared.ids.VarId.{VarId}
use Rattle.sfc_plant.specs.declared.association.Target.{Target}
use Rattle.sfc_plant.specs.declared.association.Target.TheVariants.{Boolean, Declared}
use Rattle.sfc_plant.specs.Plants.{PlantData}
use Rattle.sfc_plant.specs.Finding.{first_local, instance_locals}
use Rattle.sfc_image.specs.declared.image.Image.{Image}
use Rattle.sfc_image.specs.declared.slot.Slot.{Slot}
use Rattle.sfc_image.specs.declared.slot.Locals.{Locals}
use Rattle.sfc_image.specs.Changes.{Changes, Stored, with_change}
use Rattle.sfc_image.specs.Environments.{number_of}
use Rattle.sfc_image.specs.Bodies.{changes_in, stored_to, with_changes}
use Rattle.sfc_image.specs.Outputs.{output}
use Rattle.sfc_image.specs.Agreement.{ImageAgrees}
use Rattle.sfc_image.specs.Private.Keeping.{slot_at, stored_where, with_value, locals_of, SlotsAgree}
use Rattle.sfc_image.specs.Private.OutputMemos.{IsAssigned, Stays, number_in, with_output}
use Rattle.sfc_image.proofs.Agreed.{stored_again, stored_for_good, stored_in_transaction}
use Rattle.sfc_image.proofs.Left.{no_change, one_change}
use Rattle.sfc_image.proofs.Numbers.{of_number}
use Rattle.sfc_image.proofs.Outputs.{StoresAgain}
use Rattle.sfc_image.proofs.Tracked.{slot_same, slot_other}
use Rattle.sfc_image.proofs.Viewed.{first_of_all}

-- the globals and the locals of an instance are among n slots
pub record AreBelow (plant : PlantData) (p : ProgId) (n : ℕ) : Type 0 where
  pub globals : length plant.globals ≤ n
  pub locals : first_local plant p + length (instance_locals plant p) ≤ n

-- so is each of its program's variables
number_below : (plant : PlantData) (p : ProgId) (n : ℕ) → AreBelow plant p n → (v : Variable) (i : ℕ) → number_of plant p v ≡ Some i → i < n
number_below plant p n below v i number =
    by_number (number_of plant p v) number
    (of_number (λ o. IfSome o (λ k. k < n)) n (length plant.globals) (first_local plant p) (length (instance_locals plant p))
    below.globals below.locals (λ k klt. klt) tt v)
  where
    by_number : (o : Option ℕ) → o ≡ Some i → IfSome o (λ k. k < n) → i < n
    by_number None is within = absurd cc
    by_number (Some k) is within = let same : k ≡ i = cc in subst (λ (m : ℕ). m < n) same within

-- ---- what a variable has already is stored again

pub image_stores : (plant : PlantData) (p : ProgId) (image : Image) → p.0 < length image.locals.items
    → StoresAgain plant p image.slots.items (λ t. ImageAgrees plant image t)
unfolding ImageAgrees
image_stores plant p image lt t v i x number stored h =
    let is = h.slots.locals_are p lt in
    let bounds = image.within p.0 lt in
    let first = ap (λ (l : Locals). l.first) is in
    let count = ap (λ (l : Locals). l.count) is in
    let zeroth = ap (λ (l : Locals). l.first) (h.slots.locals_are (record { 0 = 0 }) (omega (arith, lt))) in
    let globals = first_of_all plant in
    let below : AreBelow plant p (length image.slots.items) =
    record {
      globals = omega (arith, bounds.0, bounds.1, first, count, zeroth, globals);
      locals = omega (arith, bounds.1, first, count);
    } in
    record {
      slots =
          stored_again plant image.slots.items image.locals.items image.count image.is_trying t (record { 0 = i }) x
          (number_below plant p (length image.slots.items) below v i number) stored h.slots;
      memos = h.memos;
    }

pub slots_store : (plant : PlantData) (p : ProgId) (slots : List Slot) (locals : List Locals) (count : ℕ) (b : Bool)
    → AreBelow plant p (length slots) → StoresAgain plant p slots (λ t. SlotsAgree plant slots locals count b t)
slots_store plant p slots locals count b below t v i x number stored h =
    stored_again plant slots locals count b t (record { 0 = i }) x (number_below plant p (length slots) below v i number) stored h

-- ---- and another value is stored

recounted : (plant : PlantData) (slots : List Slot) (locals : List Locals) (count more : ℕ) (b : Bool) (t : Changes)
    → SlotsAgree plant slots locals count b t → SlotsAgree plant slots locals more b t
recounted plant slots locals count more b t h =
    record { variables = h.variables; instances = h.instances; locals_are = h.locals_are; opened = h.opened; each = h.each }

-- in a transaction where one is open
stored_agrees : (plant : PlantData) (slots : List Slot) (locals : List Locals) (count more : ℕ) (b : Bool) (t : Changes) (id : VarId) (v : Value)
    → id.0 < length slots → SlotsAgree plant slots locals count b t
    → SlotsAgree plant (slice_set slots id.0 (stored_where b v (slot_at slots id.0))) locals more b (with_change (Stored id v) t)
stored_agrees plant slots locals count more true t id v lt h = stored_in_transaction plant slots locals count more true t id v refl lt h
stored_agrees plant slots locals count more false t id v lt h =
    recounted plant (slice_set slots id.0 (with_value v (slot_at slots id.0))) locals count more false (with_change (Stored id v) t)
    (stored_for_good plant slots locals count false t id v refl lt h)

-- the value, and that the variable is an output
has_value : (b : Bool) (v : Value) (slot : Slot) → (stored_where b v slot).stored ≡ v
has_value true v slot = refl
has_value false v slot = refl

keeps_output : (b : Bool) (v : Value) (slot : Slot) → (stored_where b v slot).is_output ≡ slot.is_output
keeps_output true v slot = refl
keeps_output false v slot = refl

unchanged_stays : (old new : List Slot) (i : ℕ) → new ≡ old → Stays (slot_at old i) (slot_at new i)
unchanged_stays old new i same = record {
  stored = ap (λ (xs : List Slot). (slot_at xs i).stored) same;
  output = λ on. ap (λ (xs : List Slot). (slot_at xs i).is_output) same ∙ on;
}

module _ (plant : PlantData) (p : ProgId) (g : ℕ) (l : Locals) (globals : g ≡ length plant.globals) (is : l ≡ locals_of plant p)
    (b : Bool) (slots new : List Slot) (below : AreBelow plant p (length slots)) where
  number_is : (v : Variable) → number_in g l (Boolean v) ≡ number_of plant p v
  number_is v =
      ap (λ (n : ℕ). number_in n l (Boolean v)) globals ∙ ap (λ (x : Locals). number_in (length plant.globals) x (Boolean v)) is

  pub gave_agrees : (locals : List Locals) (count more : ℕ) (target : Target) (x : Bool) → new ≡ with_output b (number_in g l target) x slots
      → (t : Changes) → SlotsAgree plant slots locals count b t
      → SlotsAgree plant new locals more b (with_changes (output plant p target x) t)
  gave_agrees locals count more (Declared id) x made t h =
      subst (λ (xs : List Slot). SlotsAgree plant xs locals more b (with_changes (output plant p (Declared id) x) t)) (sym made)
      (subst (λ (u : Changes). SlotsAgree plant slots locals more b u) (sym (no_change t)) (recounted plant slots locals count more b t h))
  gave_agrees locals count more (Boolean v) x made t h =
      by_number (number_of plant p v) refl (made ∙ ap (λ (o : Option ℕ). with_output b o x slots) (number_is v))
    where
      by_number : (o : Option ℕ) → number_of plant p v ≡ o → new ≡ with_output b o x slots
          → SlotsAgree plant new locals more b (with_changes (changes_in (option_map (stored_to (value.Bool x)) o)) t)
      by_number None e m =
          subst (λ (xs : List Slot). SlotsAgree plant xs locals more b (with_changes (changes_in (option_map (stored_to (value.Bool x)) None)) t)) (sym m)
          (subst (λ (u : Changes). SlotsAgree plant slots locals more b u) (sym (no_change t)) (recounted plant slots locals count more b t h))
      by_number (Some i) e m =
          subst (λ (xs : List Slot). SlotsAgree plant xs locals more b (with_changes (changes_in (option_map (stored_to (value.Bool x)) (Some i))) t)) (sym m)
          (subst (λ (u : Changes). SlotsAgree plant (slice_set slots i (stored_where b (value.Bool x) (slot_at slots i))) locals more b u)
          (one_change (stored_to (value.Bool x) i) t)
          (stored_agrees plant slots locals count more b t (record { 0 = i }) (value.Bool x)
          (number_below plant p (length slots) below v i e) h))

  pub gave_here : (target : Target) (x : Bool) → new ≡ with_output b (number_in g l target) x slots → (v : Variable) (i : ℕ) → target ≡ Boolean v
      → number_of plant p v ≡ Some i → (slot_at slots i).is_output ≡ true → IsAssigned (slot_at new i) x
  gave_here target x made v i same number output =
      let here : number_in g l target ≡ Some i = ap (λ (w : Target). number_in g l w) same ∙ number_is v ∙ number in
      let y : Slot = stored_where b (value.Bool x) (slot_at slots i) in
      let at : slot_at new i ≡ y =
      ap (λ (xs : List Slot). slot_at xs i) (made ∙ ap (λ (o : Option ℕ). with_output b o x slots) here)
      ∙ slot_same slots i y (number_below plant p (length slots) below v i number) in
      record {
        stored = ap (λ (slot : Slot). slot.stored) at ∙ has_value b (value.Bool x) (slot_at slots i);
        output = ap (λ (slot : Slot). slot.is_output) at ∙ keeps_output b (value.Bool x) (slot_at slots i) ∙ output;
      }

  pub gave_others : (target : Target) (x : Bool) → new ≡ with_output b (number_in g l target) x slots → (i : ℕ)
      → ((v : Variable) → target ≡ Boolean v → number_of plant p v ≢ Some i) → Stays (slot_at slots i) (slot_at new i)
  gave_others (Declared id) x made i none = unchanged_stays slots new i made
  gave_others (Boolean v) x made i none =
      by_number (number_of plant p v) refl (made ∙ ap (λ (o : Option ℕ). with_output b o x slots) (number_is v))
    where
      by_number : (o : Option ℕ) → number_of plant p v ≡ o → new ≡ with_output b o x slots → Stays (slot_at slots i) (slot_at new i)
      by_number None e m = unchanged_stays slots new i m
      by_number (Some k) e m =
          let y : Slot = stored_where b (value.Bool x) (slot_at slots k) in
          let ne : i ≢ k = λ same. none v refl (e ∙ ap (λ (j : ℕ). Some j) (sym same)) in
          let at : slot_at new i ≡ slot_at slots i = ap (λ (xs : List Slot). slot_at xs i) m ∙ slot_other slots k i y ne in
          record {
            stored = ap (λ (slot : Slot). slot.stored) at;
            output = λ on. ap (λ (slot : Slot). slot.is_output) at ∙ on;
          }

-- ---- where the variables are

pub are_below : (plant : PlantData) (p : ProgId) (g : ℕ) (l : Locals) (n : ℕ) → g ≡ length plant.globals → l ≡ locals_of plant p
    → g ≤ l.first → l.first + l.count ≤ n → AreBelow plant p n
are_below plant p g l n globals is apart within =
    let first = ap (λ (x : Locals). x.first) is in
    let count = ap (λ (x : Locals). x.count) is in
    record { globals = omega (arith, globals, apart, within); locals = omega (arith, first, count, within) }
