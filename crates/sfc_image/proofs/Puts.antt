-- What a value put into one slot makes of what is shown.
use Rattle.std.proofs.Common.{◌≡◌, ◌≢◌, inl, inr, ℕ, ◌<◌, ◌≤◌, ◌&&◌, cond, Bool, true, false, List, length, slice_set, Option, Some, None, is_some, refl, sym, ◌∙◌, ap}
use mathlib.Core.Path.{fun_ext}
use Rattle.sfc_base.specs.declared.value.Value.{Value}
use Rattle.sfc_base.specs.declared.references.Variable.{Variable}
use Rattle.sfc_expr.specs.Environment.{Environment, is_same, assigned}
use Rattle.sfc_image.specs.declared.slot.Slot.{Slot}
use Rattle.sfc_image.specs.declared.slot.Locals.{Locals}
use Rattle.sfc_image.specs.Environments.{number_among, read_at, force_at, Moment}
use Rattle.sfc_image.specs.Private.Keeping.{slot_at, IsPut, stored_in, forced_in, shown_by}
use Rattle.sfc_image.proofs.Counting.{bool_cases}
use Rattle.sfc_image.proofs.Tracked.{by_slot, slot_same, slot_other}
use Rattle.sfc_image.proofs.Numbers.{one_variable, same_itself, same_variable}

-- a slot with a value and the force that it had
pub put_slot : (slots : List Slot) (i : ℕ) (v : Value) (y : Slot) → i < length slots → y.stored ≡ v
    → y.forced ≡ (slot_at slots i).forced → y.is_output ≡ (slot_at slots i).is_output → IsPut i v slots (slice_set slots i y)
put_slot slots i v y lt stored forced output = record {
  here = ap (λ (slot : Slot). slot.stored) (slot_same slots i y lt) ∙ stored;
  others = λ j ne. ap (λ (slot : Slot). slot.stored) (slot_other slots i j y ne);
  forces = λ j.
      by_slot (λ (slot : Slot). slot.forced ≡ (slot_at slots j).forced) slots i j y lt
      (λ e. forced ∙ ap (λ (k : ℕ). (slot_at slots k).forced) (sym e)) (λ ne. refl);
  outputs = λ j.
      by_slot (λ (slot : Slot). slot.is_output ≡ (slot_at slots j).is_output) slots i j y lt
      (λ e. output ∙ ap (λ (k : ℕ). (slot_at slots k).is_output) (sym e)) (λ ne. refl);
}

-- what is stored after an assignment to a variable that is there or not
abbrev after : Bool → (Variable → Value) → Variable → Value → Variable → Value
after there stored v x w = cond (there && is_same w v) x (stored w)

abbrev with_stored : Environment → (Variable → Value) → Environment
with_stored env stored = record env { stored_at = stored }

abbrev with_values : Environment → (Variable → Value) → (Variable → Option Value) → Environment
with_values env stored forced = record env { stored_at = stored; forced_at = forced }

module _ (slots new : List Slot) (g : ℕ) (l : Locals) (le : g ≤ l.first) (v : Variable) (x : Value) (i : ℕ)
    (at : number_among g l.first l.count v ≡ Some i) (put : IsPut i x slots new) where
  abbrev number : Variable → Option ℕ
  number w = number_among g l.first l.count w

  -- another variable has another number
  other_number : (w : Variable) (j : ℕ) → number w ≡ Some j → is_same w v ≡ false → j ≢ i
  other_number w j e off same =
      let here : number w ≡ Some i = e ∙ ap (λ (k : ℕ). Some k) same in
      let one : w ≡ v = one_variable g l.first l.count i le w v here at in
      let on : is_same w v ≡ true = ap (λ (u : Variable). is_same u v) one ∙ same_itself v in
      absurd cc

  elsewhere : (w : Variable) → is_same w v ≡ false → (o : Option ℕ) → number w ≡ o → read_at (stored_in new) o ≡ read_at (stored_in slots) o
  elsewhere w off None e = refl
  elsewhere w off (Some j) e = put.others j (other_number w j e off)

  stored_after : (w : Variable) → read_at (stored_in new) (number w) ≡ after true (λ u. read_at (stored_in slots) (number u)) v x w
  stored_after w =
      elim (bool_cases (is_same w v))
      as (λ _. read_at (stored_in new) (number w) ≡ after true (λ u. read_at (stored_in slots) (number u)) v x w) [
        | inl on ↦
            ap (λ (u : Variable). read_at (stored_in new) (number u)) (same_variable w v on) ∙ ap (read_at (stored_in new)) at ∙ put.here
            ∙ sym (ap (λ (b : Bool). cond b x (read_at (stored_in slots) (number w))) on)
        | inr off ↦
            elsewhere w off (number w) refl ∙ sym (ap (λ (b : Bool). cond b x (read_at (stored_in slots) (number w))) off)
      ]

  forced_after : (o : Option ℕ) → force_at (forced_in new) o ≡ force_at (forced_in slots) o
  forced_after None = refl
  forced_after (Some j) = put.forces j

  pub shown_after : (moment : Moment) → shown_by new g l moment ≡ assigned (shown_by slots g l moment) v x
  shown_after moment =
      let env : Environment = shown_by slots g l moment in
      ap (λ (f : Variable → Value). with_values env f (λ w. force_at (forced_in new) (number w))) (fun_ext stored_after)
      ∙ ap (λ (f : Variable → Option Value). with_values env (after true env.stored_at v x) f) (fun_ext (λ w. forced_after (number w)))
      ∙ ap (λ (b : Bool). with_stored env (after b env.stored_at v x)) (sym (ap is_some at))

-- an assignment to a variable that is not there
pub shown_still : (slots : List Slot) (g : ℕ) (l : Locals) (v : Variable) (x : Value) (moment : Moment)
    → number_among g l.first l.count v ≡ None → shown_by slots g l moment ≡ assigned (shown_by slots g l moment) v x
shown_still slots g l v x moment none =
    let env : Environment = shown_by slots g l moment in
    ap (λ (b : Bool). with_stored env (after b env.stored_at v x)) (sym (ap is_some none))
