-- What slots keep of one change more.
use Rattle.std.proofs.Common.{◌≡◌, ◌≢◌, ◌⊎◌, inl, inr, ℕ, ◌+◌, ◌<◌, ◌≤◌, ◌==◌, ◌&&◌, nat_le, nat_lt, arith, Bool, true, false, List, ◌∷◌, ◌++◌, length, slice_set, Option, Some, None, refl, sym, ◌∙◌, ap, subst}
use Rattle.std.proofs.lemmas.Bool.Decides.{nat_tests}
use Rattle.std.proofs.lemmas.List.{length-set}
use Rattle.sfc_base.specs.declared.ids.VarId.{VarId}
use Rattle.sfc_base.specs.declared.ids.ProgId.{ProgId}
use Rattle.sfc_plant.specs.Plants.{PlantData}
use Rattle.sfc_plant.specs.Finding.{first_local, instance_locals}
use Rattle.sfc_base.specs.declared.value.Value.{Value}
use Rattle.sfc_image.specs.declared.slot.Slot.{Slot}
use Rattle.sfc_image.specs.declared.slot.Locals.{Locals}
use Rattle.sfc_image.specs.Changes.{Change, Stored, Forced, Released, Reset, Changes, settled, trying, tried_more, with_change}
use Rattle.sfc_image.specs.Values.{is_local_of, stored_value}
use Rattle.sfc_image.specs.Private.Keeping.{slot_at, with_value, tried, with_force, as_output, closed, begun, locals_of, AreTracked, AreClosed, AreBegun, SlotAgrees, SlotsAgree}
use Rattle.sfc_image.proofs.Counting.{bool_cases, same_number, equal_numbers, other_numbers}
use Rattle.sfc_image.proofs.Tracked.{by_slot, all_closed}
use Rattle.sfc_image.proofs.Written.{stored_here, stored_there, reset_here, reset_there, forced_here, forced_there, released_here, released_there}

-- ---- one slot is changed

slot_with_value : (plant : PlantData) (committed : List Change) (id : VarId) (v : Value) (slot : Slot) → SlotAgrees plant (settled committed) id.0 slot
    → SlotAgrees plant (settled (Stored id v ∷ committed)) id.0 (with_value v slot)
slot_with_value plant committed id v slot h = record {
  var_type = h.var_type;
  initial = h.initial;
  committed = sym (stored_here plant committed id v id.0 (same_number id.0));
  stored = sym (stored_here plant committed id v id.0 (same_number id.0));
  forced = h.forced;
  held = h.held;
  untried = λ off. refl;
}

slot_beside : (plant : PlantData) (committed : List Change) (id : VarId) (v : Value) (i : ℕ) (slot : Slot) → i ≢ id.0
    → SlotAgrees plant (settled committed) i slot → SlotAgrees plant (settled (Stored id v ∷ committed)) i slot
slot_beside plant committed id v i slot ne h = record {
  var_type = h.var_type;
  initial = h.initial;
  committed = h.committed ∙ sym (stored_there plant committed id v i (other_numbers id.0 i ne));
  stored = h.stored ∙ sym (stored_there plant committed id v i (other_numbers id.0 i ne));
  forced = h.forced;
  held = h.held;
  untried = h.untried;
}

value_agrees : (plant : PlantData) (slots : List Slot) (locals : List Locals) (count : ℕ) (b : Bool) (committed : List Change)
    (id : VarId) (v : Value) → id.0 < length slots → SlotsAgree plant slots locals count b (settled committed)
    → SlotsAgree plant (slice_set slots id.0 (with_value v (slot_at slots id.0))) locals count b (settled (Stored id v ∷ committed))
value_agrees plant slots locals count b committed id v lt h =
    let y : Slot = with_value v (slot_at slots id.0) in
    let changes : Changes = settled (Stored id v ∷ committed) in
    let long : length (slice_set slots id.0 y) ≡ length slots = length-set slots id.0 y in
    record {
      variables = long ∙ h.variables;
      instances = h.instances;
      locals_are = h.locals_are;
      opened = h.opened;
      each = λ i ilt.
          let within : i < length slots = omega (arith, long, ilt) in
          by_slot (λ (slot : Slot). SlotAgrees plant changes i slot) slots id.0 i y lt
          (λ e. subst (λ (j : ℕ). SlotAgrees plant changes j y) (sym e) (slot_with_value plant committed id v (slot_at slots id.0) (h.each id.0 lt)))
          (λ ne. slot_beside plant committed id v i (slot_at slots i) ne (h.each i within));
    }

slot_tried : (plant : PlantData) (committed ts : List Change) (id : VarId) (v : Value) (slot : Slot)
    → SlotAgrees plant (trying committed ts) id.0 slot → SlotAgrees plant (trying committed (Stored id v ∷ ts)) id.0 (tried v slot)
slot_tried plant committed ts id v slot h = record {
  var_type = h.var_type;
  initial = h.initial;
  committed = h.committed;
  stored = sym (stored_here plant (ts ++ committed) id v id.0 (same_number id.0));
  forced = h.forced;
  held = h.held;
  untried = λ off. absurd cc;
}

tried_beside : (plant : PlantData) (committed ts : List Change) (id : VarId) (v : Value) (i : ℕ) (slot : Slot) → i ≢ id.0
    → SlotAgrees plant (trying committed ts) i slot → SlotAgrees plant (trying committed (Stored id v ∷ ts)) i slot
tried_beside plant committed ts id v i slot ne h = record {
  var_type = h.var_type;
  initial = h.initial;
  committed = h.committed;
  stored = h.stored ∙ sym (stored_there plant (ts ++ committed) id v i (other_numbers id.0 i ne));
  forced = h.forced;
  held = h.held;
  untried = h.untried;
}

tried_agrees : (plant : PlantData) (slots : List Slot) (locals : List Locals) (count more : ℕ) (b : Bool) (committed ts : List Change)
    (id : VarId) (v : Value) → id.0 < length slots → SlotsAgree plant slots locals count b (trying committed ts)
    → SlotsAgree plant (slice_set slots id.0 (tried v (slot_at slots id.0))) locals more b (trying committed (Stored id v ∷ ts))
tried_agrees plant slots locals count more b committed ts id v lt h =
    let y : Slot = tried v (slot_at slots id.0) in
    let changes : Changes = trying committed (Stored id v ∷ ts) in
    let long : length (slice_set slots id.0 y) ≡ length slots = length-set slots id.0 y in
    record {
      variables = long ∙ h.variables;
      instances = h.instances;
      locals_are = h.locals_are;
      opened = h.opened;
      each = λ i ilt.
          let within : i < length slots = omega (arith, long, ilt) in
          by_slot (λ (slot : Slot). SlotAgrees plant changes i slot) slots id.0 i y lt
          (λ e. subst (λ (j : ℕ). SlotAgrees plant changes j y) (sym e)
          (slot_tried plant committed ts id v (slot_at slots id.0) (h.each id.0 lt)))
          (λ ne. tried_beside plant committed ts id v i (slot_at slots i) ne (h.each i within));
    }

-- a store where no transaction is open
pub stored_for_good : (plant : PlantData) (slots : List Slot) (locals : List Locals) (count : ℕ) (b : Bool) (changes : Changes)
    (id : VarId) (v : Value) → b ≡ false → id.0 < length slots → SlotsAgree plant slots locals count b changes
    → SlotsAgree plant (slice_set slots id.0 (with_value v (slot_at slots id.0))) locals count b (with_change (Stored id v) changes)
stored_for_good plant slots locals count b changes id v e lt h = by_tried changes.tried h where
  by_tried : (o : Option (List Change)) → SlotsAgree plant slots locals count b (record { committed = changes.committed; tried = o })
      → SlotsAgree plant (slice_set slots id.0 (with_value v (slot_at slots id.0))) locals count b (tried_more (Stored id v) o changes.committed)
  by_tried None k = value_agrees plant slots locals count b changes.committed id v lt k
  by_tried (Some ts) k = absurd (let f = k.opened in cc)

-- a store in a transaction
pub stored_in_transaction : (plant : PlantData) (slots : List Slot) (locals : List Locals) (count more : ℕ) (b : Bool) (changes : Changes)
    (id : VarId) (v : Value) → b ≡ true → id.0 < length slots → SlotsAgree plant slots locals count b changes
    → SlotsAgree plant (slice_set slots id.0 (tried v (slot_at slots id.0))) locals more b (with_change (Stored id v) changes)
stored_in_transaction plant slots locals count more b changes id v e lt h = by_tried changes.tried h where
  by_tried : (o : Option (List Change)) → SlotsAgree plant slots locals count b (record { committed = changes.committed; tried = o })
      → SlotsAgree plant (slice_set slots id.0 (tried v (slot_at slots id.0))) locals more b (tried_more (Stored id v) o changes.committed)
  by_tried None k = absurd (let f = k.opened in cc)
  by_tried (Some ts) k = tried_agrees plant slots locals count more b changes.committed ts id v lt k

-- a store of what is stored already
pub stored_again : (plant : PlantData) (slots : List Slot) (locals : List Locals) (count : ℕ) (b : Bool) (changes : Changes)
    (id : VarId) (v : Value) → id.0 < length slots → (slot_at slots id.0).stored ≡ v
    → SlotsAgree plant slots locals count b changes → SlotsAgree plant slots locals count b (with_change (Stored id v) changes)
stored_again plant slots locals count b changes id v lt same h = by_tried changes.tried h where
  again : (log : List Change) (i : ℕ) → (slot_at slots i).stored ≡ stored_value plant log i
      → (slot_at slots i).stored ≡ stored_value plant (Stored id v ∷ log) i
  again log i at =
      elim (bool_cases (id.0 == i)) as (λ _. (slot_at slots i).stored ≡ stored_value plant (Stored id v ∷ log) i) [
        | inl on ↦
            ap (λ (j : ℕ). (slot_at slots j).stored) (sym (equal_numbers id.0 i on)) ∙ same
            ∙ sym (stored_here plant log id v i on)
        | inr off ↦ at ∙ sym (stored_there plant log id v i off)
      ]

  by_tried : (o : Option (List Change)) → SlotsAgree plant slots locals count b (record { committed = changes.committed; tried = o })
      → SlotsAgree plant slots locals count b (tried_more (Stored id v) o changes.committed)
  by_tried None k = record {
    variables = k.variables;
    instances = k.instances;
    locals_are = k.locals_are;
    opened = k.opened;
    each = λ i ilt.
        let at = k.each i ilt in
        let stored = again changes.committed i at.stored in
        record {
          var_type = at.var_type;
          initial = at.initial;
          committed = at.committed ∙ sym at.stored ∙ stored;
          stored = stored;
          forced = at.forced;
          held = at.held;
          untried = at.untried;
        };
  }
  by_tried (Some ts) k = record {
    variables = k.variables;
    instances = k.instances;
    locals_are = k.locals_are;
    opened = k.opened;
    each = λ i ilt.
        let at = k.each i ilt in
        record {
          var_type = at.var_type;
          initial = at.initial;
          committed = at.committed;
          stored = again (ts ++ changes.committed) i at.stored;
          forced = at.forced;
          held = at.held;
          untried = at.untried;
        };
  }

-- a variable is an output
pub marked_agrees : (plant : PlantData) (slots : List Slot) (locals : List Locals) (count : ℕ) (b : Bool) (changes : Changes) (i : ℕ)
    → i < length slots → SlotsAgree plant slots locals count b changes
    → SlotsAgree plant (slice_set slots i (as_output (slot_at slots i))) locals count b changes
marked_agrees plant slots locals count b changes i lt h =
    let y : Slot = as_output (slot_at slots i) in
    let long : length (slice_set slots i y) ≡ length slots = length-set slots i y in
    record {
      variables = long ∙ h.variables;
      instances = h.instances;
      locals_are = h.locals_are;
      opened = h.opened;
      each = λ j jlt.
          let within : j < length slots = omega (arith, long, jlt) in
          by_slot (λ (slot : Slot). SlotAgrees plant changes j slot) slots i j y lt
          (λ e. subst (λ (k : ℕ). SlotAgrees plant changes k y) (sym e) (same i (h.each i lt))) (λ ne. h.each j within);
    }
  where
    same : (j : ℕ) → SlotAgrees plant changes j (slot_at slots i) → SlotAgrees plant changes j (as_output (slot_at slots i))
    same j k = record {
      var_type = k.var_type;
      initial = k.initial;
      committed = k.committed;
      stored = k.stored;
      forced = k.forced;
      held = k.held;
      untried = k.untried;
    }

-- a force
pub force_agrees : (plant : PlantData) (slots : List Slot) (locals : List Locals) (count : ℕ) (b : Bool) (committed : List Change)
    (id : VarId) (v : Value) → id.0 < length slots → SlotsAgree plant slots locals count b (settled committed)
    → SlotsAgree plant (slice_set slots id.0 (with_force (Some v) (slot_at slots id.0))) locals count b (settled (Forced id v ∷ committed))
force_agrees plant slots locals count b committed id v lt h =
    let y : Slot = with_force (Some v) (slot_at slots id.0) in
    let changes : Changes = settled (Forced id v ∷ committed) in
    let long : length (slice_set slots id.0 y) ≡ length slots = length-set slots id.0 y in
    let at = h.each id.0 lt in
    let here = forced_here committed id v id.0 (same_number id.0) in
    record {
      variables = long ∙ h.variables;
      instances = h.instances;
      locals_are = h.locals_are;
      opened = h.opened;
      each = λ i ilt.
          let within : i < length slots = omega (arith, long, ilt) in
          by_slot (λ (slot : Slot). SlotAgrees plant changes i slot) slots id.0 i y lt
          (λ e. subst (λ (j : ℕ). SlotAgrees plant changes j y) (sym e) (record {
            var_type = at.var_type;
            initial = at.initial;
            committed = at.committed;
            stored = at.stored;
            forced = sym here;
            held = sym here;
            untried = at.untried;
          }))
          (λ ne.
          let other = h.each i within in
          let there = forced_there committed id v i (other_numbers id.0 i ne) in
          record {
            var_type = other.var_type;
            initial = other.initial;
            committed = other.committed;
            stored = other.stored;
            forced = other.forced ∙ sym there;
            held = other.held ∙ sym there;
            untried = other.untried;
          });
    }

-- a release
pub release_agrees : (plant : PlantData) (slots : List Slot) (locals : List Locals) (count : ℕ) (b : Bool) (committed : List Change)
    (id : VarId) → id.0 < length slots → SlotsAgree plant slots locals count b (settled committed)
    → SlotsAgree plant (slice_set slots id.0 (with_force None (slot_at slots id.0))) locals count b (settled (Released id ∷ committed))
release_agrees plant slots locals count b committed id lt h =
    let y : Slot = with_force None (slot_at slots id.0) in
    let changes : Changes = settled (Released id ∷ committed) in
    let long : length (slice_set slots id.0 y) ≡ length slots = length-set slots id.0 y in
    let at = h.each id.0 lt in
    let here = released_here committed id id.0 (same_number id.0) in
    record {
      variables = long ∙ h.variables;
      instances = h.instances;
      locals_are = h.locals_are;
      opened = h.opened;
      each = λ i ilt.
          let within : i < length slots = omega (arith, long, ilt) in
          by_slot (λ (slot : Slot). SlotAgrees plant changes i slot) slots id.0 i y lt
          (λ e. subst (λ (j : ℕ). SlotAgrees plant changes j y) (sym e) (record {
            var_type = at.var_type;
            initial = at.initial;
            committed = at.committed;
            stored = at.stored;
            forced = sym here;
            held = sym here;
            untried = at.untried;
          }))
          (λ ne.
          let other = h.each i within in
          let there = released_there committed id i (other_numbers id.0 i ne) in
          record {
            var_type = other.var_type;
            initial = other.initial;
            committed = other.committed;
            stored = other.stored;
            forced = other.forced ∙ sym there;
            held = other.held ∙ sym there;
            untried = other.untried;
          });
    }

-- ---- many slots are changed

-- a transaction is undone
pub undo_agrees : (plant : PlantData) (old new : List Slot) (locals : List Locals) (written : List ℕ) (count : ℕ) (b : Bool)
    (committed ts : List Change) → length new ≡ length old → AreTracked old written count → AreClosed false written count old new
    → SlotsAgree plant old locals count b (trying committed ts) → SlotsAgree plant new locals 0 false (settled committed)
undo_agrees plant old new locals written count b committed ts long tracked c h = record {
  variables = long ∙ h.variables;
  instances = h.instances;
  locals_are = h.locals_are;
  opened = refl;
  each = λ i lt. slot_agrees i (h.each i (omega (arith, long, lt)));
} where
  closed_slot : (i : ℕ) → SlotAgrees plant (trying committed ts) i (slot_at old i) → SlotAgrees plant (settled committed) i (closed false (slot_at old i))
  closed_slot i k = record {
    var_type = k.var_type;
    initial = k.initial;
    committed = k.committed;
    stored = k.committed;
    forced = k.held;
    held = k.held;
    untried = λ off. refl;
  }

  same_slot : (i : ℕ) → (slot_at old i).is_tried ≡ false → SlotAgrees plant (trying committed ts) i (slot_at old i)
      → SlotAgrees plant (settled committed) i (slot_at old i)
  same_slot i off k = record {
    var_type = k.var_type;
    initial = k.initial;
    committed = k.committed;
    stored = k.untried off ∙ k.committed;
    forced = k.held;
    held = k.held;
    untried = k.untried;
  }

  slot_agrees : (i : ℕ) → SlotAgrees plant (trying committed ts) i (slot_at old i) → SlotAgrees plant (settled committed) i (slot_at new i)
  slot_agrees i k =
      let off : (slot_at new i).is_tried ≡ false = all_closed false written count old new tracked c i in
      elim (c.each i).either as (λ _. SlotAgrees plant (settled committed) i (slot_at new i)) [
        | inl e ↦
            subst (λ (slot : Slot). SlotAgrees plant (settled committed) i slot) (sym e)
            (same_slot i (ap (λ (slot : Slot). slot.is_tried) (sym e) ∙ off) k)
        | inr e ↦ subst (λ (slot : Slot). SlotAgrees plant (settled committed) i slot) (sym e) (closed_slot i k)
      ]

-- a transaction is committed
pub commit_agrees : (plant : PlantData) (old new : List Slot) (locals : List Locals) (written : List ℕ) (count : ℕ) (b : Bool)
    (committed ts : List Change) → length new ≡ length old → AreTracked old written count → AreClosed true written count old new
    → SlotsAgree plant old locals count b (trying committed ts) → SlotsAgree plant new locals 0 false (settled (ts ++ committed))
commit_agrees plant old new locals written count b committed ts long tracked c h = record {
  variables = long ∙ h.variables;
  instances = h.instances;
  locals_are = h.locals_are;
  opened = refl;
  each = λ i lt. slot_agrees i (h.each i (omega (arith, long, lt)));
} where
  changes : Changes
  changes = settled (ts ++ committed)

  closed_slot : (i : ℕ) → SlotAgrees plant (trying committed ts) i (slot_at old i)
      → SlotAgrees plant (settled (ts ++ committed)) i (closed true (slot_at old i))
  closed_slot i k = record {
    var_type = k.var_type;
    initial = k.initial;
    committed = k.stored;
    stored = k.stored;
    forced = k.forced;
    held = k.forced;
    untried = λ off. refl;
  }

  same_slot : (i : ℕ) → (slot_at old i).is_tried ≡ false → SlotAgrees plant (trying committed ts) i (slot_at old i)
      → SlotAgrees plant (settled (ts ++ committed)) i (slot_at old i)
  same_slot i off k = record {
    var_type = k.var_type;
    initial = k.initial;
    committed = sym (k.untried off) ∙ k.stored;
    stored = k.stored;
    forced = k.forced;
    held = k.forced;
    untried = k.untried;
  }

  slot_agrees : (i : ℕ) → SlotAgrees plant (trying committed ts) i (slot_at old i) → SlotAgrees plant (settled (ts ++ committed)) i (slot_at new i)
  slot_agrees i k =
      let off : (slot_at new i).is_tried ≡ false = all_closed true written count old new tracked c i in
      elim (c.each i).either as (λ _. SlotAgrees plant (settled (ts ++ committed)) i (slot_at new i)) [
        | inl e ↦
            subst (λ (slot : Slot). SlotAgrees plant (settled (ts ++ committed)) i slot) (sym e)
            (same_slot i (ap (λ (slot : Slot). slot.is_tried) (sym e) ∙ off) k)
        | inr e ↦ subst (λ (slot : Slot). SlotAgrees plant (settled (ts ++ committed)) i slot) (sym e) (closed_slot i k)
      ]

-- i is between these numbers
between : (a n i : ℕ) → (nat_le a i && nat_lt i (a + n)) ≡ true → (a ≤ i) × (i < a + n)
between a n i e = grind (arith, nat_tests)

outside : (a n i : ℕ) → (nat_le a i && nat_lt i (a + n)) ≡ false → (i < a) ⊎ (a + n ≤ i)
outside a n i e = grind (arith, nat_tests)

-- the locals of an instance begin anew
pub reset_agrees : (plant : PlantData) (old new : List Slot) (locals : List Locals) (count : ℕ) (b : Bool) (committed : List Change)
    (p : ProgId) (l : Locals) → length new ≡ length old → l ≡ locals_of plant p → AreBegun l.first l.count old new
    → SlotsAgree plant old locals count b (settled committed) → SlotsAgree plant new locals count b (settled (Reset p ∷ committed))
reset_agrees plant old new locals count b committed p l long is begins h = record {
  variables = long ∙ h.variables;
  instances = h.instances;
  locals_are = h.locals_are;
  opened = h.opened;
  each = λ i lt. slot_agrees i (h.each i (omega (arith, long, lt)));
} where
  changes : Changes
  changes = settled (Reset p ∷ committed)

  first : ℕ
  first = first_local plant p

  n : ℕ
  n = length (instance_locals plant p)

  anew : AreBegun (first_local plant p) (length (instance_locals plant p)) old new
  anew = subst (λ (x : Locals). AreBegun x.first x.count old new) is begins

  begun_slot : (i : ℕ) → is_local_of plant p i ≡ true → SlotAgrees plant (settled committed) i (slot_at old i)
      → SlotAgrees plant (settled (Reset p ∷ committed)) i (begun (slot_at old i))
  begun_slot i e k = record {
    var_type = k.var_type;
    initial = k.initial;
    committed = k.initial ∙ sym (reset_here plant committed p i e);
    stored = k.initial ∙ sym (reset_here plant committed p i e);
    forced = k.forced;
    held = k.held;
    untried = λ off. refl;
  }

  same_slot : (i : ℕ) → is_local_of plant p i ≡ false → SlotAgrees plant (settled committed) i (slot_at old i)
      → SlotAgrees plant (settled (Reset p ∷ committed)) i (slot_at old i)
  same_slot i e k = record {
    var_type = k.var_type;
    initial = k.initial;
    committed = k.committed ∙ sym (reset_there plant committed p i e);
    stored = k.stored ∙ sym (reset_there plant committed p i e);
    forced = k.forced;
    held = k.held;
    untried = k.untried;
  }

  slot_agrees : (i : ℕ) → SlotAgrees plant (settled committed) i (slot_at old i) → SlotAgrees plant (settled (Reset p ∷ committed)) i (slot_at new i)
  slot_agrees i k =
      elim (bool_cases (is_local_of plant p i)) as (λ _. SlotAgrees plant (settled (Reset p ∷ committed)) i (slot_at new i)) [
        | inl e ↦
            let within = between (first_local plant p) (length (instance_locals plant p)) i e in
            subst (λ (slot : Slot). SlotAgrees plant (settled (Reset p ∷ committed)) i slot) (sym (anew.inside i within.0 within.1))
            (begun_slot i e k)
        | inr e ↦
            elim (outside (first_local plant p) (length (instance_locals plant p)) i e)
            as (λ _. SlotAgrees plant (settled (Reset p ∷ committed)) i (slot_at new i)) [
              | inl below ↦
                  subst (λ (slot : Slot). SlotAgrees plant (settled (Reset p ∷ committed)) i slot) (sym (anew.before i below))
                  (same_slot i e k)
              | inr above ↦
                  subst (λ (slot : Slot). SlotAgrees plant (settled (Reset p ∷ committed)) i slot) (sym (anew.behind i above))
                  (same_slot i e k)
            ]
      ]
