-- What is kept of a variable in place of the changes.
use Rattle.std.specs.Prelude.{ℕ, ◌≡◌, ◌≢◌, ◌<◌, ◌≤◌, ◌+◌, ◌⊎◌, Bool, true, false, List, length, Option}
use Rattle.std.specs.Prelude.{Some, None, cond, nat_lt, slice_index_or, count_by, take, is_some, ◌==◌, unwrap_or, pos}
use Rattle.std.specs.List.{list_any}
use Rattle.sfc_base.specs.declared.ids.ProgId.{ProgId}
use Rattle.sfc_plant.specs.Plants.{PlantData}
use Rattle.sfc_plant.specs.Finding.{first_local, instance_locals}
use Rattle.sfc_image.specs.Changes.{Changes, all_of}
use Rattle.sfc_flags.specs.Flags.{flag}
use Rattle.sfc_expr.specs.Environment.{Environment}
use Rattle.sfc_image.specs.Environments.{number_among, read_at, force_at, Moment}
use Rattle.sfc_image.specs.Values.{variable_count, initial_of, type_of_variable, stored_value, forced_value}
use Rattle.sfc_base.specs.declared.ids.VarId.{VarId}
use Rattle.sfc_base.specs.declared.var_type.VarType.TheVariants as types
use Rattle.sfc_plant.specs.declared.variable.Variable.{Variable}
use Rattle.sfc_base.specs.declared.value.Value.{Value}
use Rattle.sfc_base.specs.declared.value.Value.TheVariants as value
use Rattle.sfc_base.specs.Values.{type_of}
use Rattle.sfc_base.specs.Values.{is_same_type}
use Rattle.sfc_image.specs.declared.image_error.ImageError.{ImageError}
use Rattle.sfc_image.specs.declared.image_error.ImageError.TheVariants.{UnknownVar, ValueType}
use Rattle.sfc_image.specs.declared.slot.Slot.{Slot}
use Rattle.sfc_image.specs.declared.slot.Locals.{Locals}

-- of a variable with which nothing was done yet
abbrev pub fresh_slot : Variable → Slot
fresh_slot variable = record {
  var_type = variable.var_type;
  initial = variable.initial;
  committed = variable.initial;
  stored = variable.initial;
  forced = None;
  is_tried = false;
  is_output = false;
}

abbrev pub no_slot : Slot
no_slot = record {
  var_type = types.Bool;
  initial = value.Bool false;
  committed = value.Bool false;
  stored = value.Bool false;
  forced = None;
  is_tried = false;
  is_output = false;
}

abbrev pub slot_at : List Slot → ℕ → Slot
slot_at slots i = slice_index_or slots i no_slot

abbrev pub number_at : List ℕ → ℕ → ℕ
number_at numbers j = slice_index_or numbers j 0

abbrev pub locals_at : List Locals → ℕ → Locals
locals_at locals k = slice_index_or locals k (record { first = 0; count = 0 })

-- how many variables were written since the transaction was opened
abbrev pub tried_count : List Slot → ℕ
tried_count slots = count_by (λ (slot : Slot). slot.is_tried) slots

-- i is among the first n of these numbers
abbrev pub is_listed : List ℕ → ℕ → ℕ → Bool
is_listed numbers n i = list_any (λ number. number == i) (take n numbers)

-- the first n of these numbers are numbers of slots
abbrev pub AreNumbers : ℕ → List ℕ → ℕ → Type 0
AreNumbers slots numbers n = (j : ℕ) → j < n → number_at numbers j < slots

-- the numbers of the slots that were written since a transaction was opened, each once, with capacity for all of them
pub record AreTracked (slots : List Slot) (written : List ℕ) (count : ℕ) : Type 0 where
  pub capacity : length written ≡ length slots
  pub counted : tried_count slots ≡ count
  pub numbers : AreNumbers (length slots) written count
  pub listed : (i : ℕ) → (slot_at slots i).is_tried ≡ true → is_listed written count i ≡ true

-- the locals of each instance are among n slots, behind the globals, which end where the locals of the first instance begin
abbrev pub AreWithin : ℕ → List Locals → Type 0
AreWithin n locals = (k : ℕ) → k < length locals →
    ((locals_at locals 0).first ≤ (locals_at locals k).first)
    × ((locals_at locals k).first + (locals_at locals k).count ≤ n)

-- what was tried becomes what is committed, or is given up
abbrev pub closed : Bool → Slot → Slot
closed true slot = record slot { committed = slot.stored; is_tried = false }
closed false slot = record slot { stored = slot.committed; is_tried = false }

-- a slot was closed, or is as before
pub record MayClose (keep : Bool) (old new : Slot) : Type 0 where
  pub either : (new ≡ old) ⊎ (new ≡ closed keep old)

-- the first n listed slots are closed, and no other was changed
pub record AreClosed (keep : Bool) (numbers : List ℕ) (n : ℕ) (old new : List Slot) : Type 0 where
  pub each : (i : ℕ) → MayClose keep (slot_at old i) (slot_at new i)
  pub listed : (i : ℕ) → is_listed numbers n i ≡ true → (slot_at new i).is_tried ≡ false

-- a value is stored: for good, or in a transaction
abbrev pub with_value : Value → Slot → Slot
with_value v slot = record slot { committed = v; stored = v }

abbrev pub tried : Value → Slot → Slot
tried v slot = record slot { stored = v; is_tried = true }

-- in a transaction where one is open, else for good
abbrev pub stored_where : Bool → Value → Slot → Slot
stored_where true v slot = tried v slot
stored_where false v slot = with_value v slot

abbrev pub with_force : Option Value → Slot → Slot
with_force v slot = record slot { forced = v }

-- the variable is an output
abbrev pub as_output : Slot → Slot
as_output slot = record slot { is_output = true }

-- a value is stored in the variable of number i, and all else is as before
pub record IsPut (i : ℕ) (v : Value) (old new : List Slot) : Type 0 where
  pub here : (slot_at new i).stored ≡ v
  pub others : (j : ℕ) → j ≢ i → (slot_at new j).stored ≡ (slot_at old j).stored
  pub forces : (j : ℕ) → (slot_at new j).forced ≡ (slot_at old j).forced
  pub outputs : (j : ℕ) → (slot_at new j).is_output ≡ (slot_at old j).is_output

-- what is wrong with giving the variable of one of these slots a value
abbrev pub fault_at : List Slot → VarId → Value → Option ImageError
fault_at slots id v =
    cond (nat_lt id.0 (length slots))
    (cond (is_same_type (type_of v) (slot_at slots id.0).var_type) None (Some ValueType))
    (Some UnknownVar)

-- the slot of a variable that begins anew
abbrev pub begun : Slot → Slot
begun slot = record slot { committed = slot.initial; stored = slot.initial }

-- those from `first` on begin anew, n of them
pub record AreBegun (first n : ℕ) (old new : List Slot) : Type 0 where
  pub inside : (i : ℕ) → first ≤ i → i < first + n → slot_at new i ≡ begun (slot_at old i)
  pub before : (i : ℕ) → i < first → slot_at new i ≡ slot_at old i
  pub behind : (i : ℕ) → first + n ≤ i → slot_at new i ≡ slot_at old i
  pub flags : (i : ℕ) → (slot_at new i).is_tried ≡ (slot_at old i).is_tried
  pub count : tried_count new ≡ tried_count old

-- ---- and the changes that it agrees with

-- what is kept of variable i is what the changes give
pub record SlotAgrees (plant : PlantData) (changes : Changes) (i : ℕ) (slot : Slot) : Type 0 where
  pub var_type : slot.var_type ≡ type_of_variable plant i
  pub initial : slot.initial ≡ initial_of plant i
  pub committed : slot.committed ≡ stored_value plant changes.committed i
  pub stored : slot.stored ≡ stored_value plant (all_of changes) i
  pub forced : slot.forced ≡ forced_value (all_of changes) i
  pub held : slot.forced ≡ forced_value changes.committed i
  pub untried : slot.is_tried ≡ false → slot.stored ≡ slot.committed

abbrev pub locals_of : PlantData → ProgId → Locals
locals_of plant p = record { first = first_local plant p; count = length (instance_locals plant p) }

pub record SlotsAgree (plant : PlantData) (slots : List Slot) (locals : List Locals) (count : ℕ) (is_trying : Bool)
    (changes : Changes) : Type 0 where
  pub variables : length slots ≡ variable_count plant
  pub instances : length locals ≡ length plant.instances
  pub locals_are : (p : ProgId) → p.0 < length locals → locals_at locals p.0 ≡ locals_of plant p
  pub opened : is_trying ≡ is_some changes.tried
  pub each : (i : ℕ) → i < length slots → SlotAgrees plant changes i (slot_at slots i)

-- ---- and what it reads

abbrev pub stored_in : List Slot → ℕ → Value
stored_in slots i = (slot_at slots i).stored

abbrev pub forced_in : List Slot → ℕ → Option Value
forced_in slots i = (slot_at slots i).forced

-- what the variable of this number reads by its slot
abbrev pub shown : List Slot → Option ℕ → Value
shown slots number = unwrap_or (force_at (forced_in slots) number) (read_at (stored_in slots) number)

abbrev pub shown_by : List Slot → ℕ → Locals → Moment → Environment
shown_by slots globals locals moment = record {
  has = λ v. is_some (number_among globals locals.first locals.count v);
  stored_at = λ v. read_at (stored_in slots) (number_among globals locals.first locals.count v);
  forced_at = λ v. force_at (forced_in slots) (number_among globals locals.first locals.count v);
  is_active = λ step. flag moment.active step.0;
  time_of = λ step. slice_index_or moment.times step.0 (pos 0);
  q = moment.q;
}
