-- What was given to outputs, after changes.
use Rattle.std.proofs.Common.{◌≡◌, ◌≢◌, inl, inr, ℕ, [], ◌<◌, ◌≤◌, arith, Bool, true, List, length, get_or, slice_get, slice_set, Some, refl, sym, ◌∙◌, ap, subst}
use Rattle.std.proofs.lemmas.Bool.Decides.{eqb_tells}
use Rattle.std.proofs.lemmas.List.{get_or-set_same, get_or-set_other, length-set}
use Rattle.std.proofs.lemmas.Option.{slice_get_read, get_or_from_slice_get}
use Rattle.sfc_base.specs.declared.references.Variable.{Variable}
use Rattle.sfc_flags.specs.Flags.{flag}
use Rattle.sfc_plant.specs.declared.association.Target.TheVariants.{Boolean}
use Rattle.sfc_tables.specs.Actions.{actions_of}
use Rattle.sfc_base.specs.declared.ids.ProgId.{ProgId}
use Rattle.sfc_plant.specs.Plants.{PlantData}
use Rattle.sfc_plant.specs.Finding.{chart_of}
use Rattle.sfc_image.specs.declared.image.Image.{Image}
use Rattle.sfc_image.specs.declared.slot.Slot.{Slot}
use Rattle.sfc_image.specs.declared.output_memo.OutputMemo.{OutputMemo}
use Rattle.sfc_image.specs.Changes.{Changes}
use Rattle.sfc_image.specs.Environments.{number_of}
use Rattle.sfc_image.specs.Agreement.{ImageAgrees, instance_total}
use Rattle.sfc_image.specs.Private.Keeping.{slot_at, MayClose}
use Rattle.sfc_image.specs.Private.OutputMemos.{memo_at, last_generation, IsLater, IsGenerationAfter, IsAssigned, HasQ, MemosHold, Stays}
use Rattle.sfc_image.proofs.Apart.{other_number}
use Rattle.sfc_image.proofs.Counting.{bool_cases}
use Rattle.sfc_image.proofs.Tracked.{by_slot, slot_other}

-- nothing that was given holds in this generation
abbrev pub NoneHolds : List OutputMemo → ℕ → Type 0
NoneHolds memos generation = (k : ℕ) → k < length memos → (memo_at memos k).generation ≢ generation

-- what stays is still given
stays_q : (plant : PlantData) (p : ProgId) (old new : List Slot) (a : ℕ) (q : Bool)
    → ((i : ℕ) → Stays (slot_at old i) (slot_at new i)) → HasQ plant p old a q → HasQ plant p new a q
stays_q plant p old new a q stays h v i at number =
    let had = h v i at number in
    let s = stays i in
    record { stored = s.stored ∙ had.stored; output = s.output had.output }

pub memos_stay : (plant : PlantData) (old new : List Slot) (memos : List OutputMemo) (generation : ℕ)
    → ((i : ℕ) → Stays (slot_at old i) (slot_at new i)) → MemosHold plant old memos generation → MemosHold plant new memos generation
memos_stay plant old new memos generation stays h = record {
  begun = h.begun;
  past = h.past;
  early = h.early;
  each = λ p lt now a. stays_q plant p old new a (flag (memo_at memos p.0).q a) stays (h.each p lt now a);
}

-- a slot that is changed in something else
pub same_stays : (slots : List Slot) (k : ℕ) (y : Slot) → k < length slots → y.stored ≡ (slot_at slots k).stored
    → ((slot_at slots k).is_output ≡ true → y.is_output ≡ true) → (i : ℕ) → Stays (slot_at slots i) (slot_at (slice_set slots k y) i)
same_stays slots k y lt stored output i =
    by_slot (λ (slot : Slot). Stays (slot_at slots i) slot) slots k i y lt
    (λ e. record {
      stored = stored ∙ ap (λ (j : ℕ). (slot_at slots j).stored) (sym e);
      output = λ on. output (ap (λ (j : ℕ). (slot_at slots j).is_output) (sym e) ∙ on);
    })
    (λ ne. record { stored = refl; output = λ on. on })

-- what was tried and is committed stays
pub closed_stays : (old new : Slot) → MayClose true old new → Stays old new
closed_stays old new may =
    elim may.either as (λ _. Stays old new) [
      | inl e ↦ record { stored = ap (λ (slot : Slot). slot.stored) e; output = λ on. ap (λ (slot : Slot). slot.is_output) e ∙ on }
      | inr e ↦ record { stored = ap (λ (slot : Slot). slot.stored) e; output = λ on. ap (λ (slot : Slot). slot.is_output) e ∙ on }
    ]

-- in a later generation nothing holds that was given before
pub memos_later : (plant : PlantData) (old new : List Slot) (memos : List OutputMemo) (generation later : ℕ) → IsLater generation later
    → MemosHold plant old memos generation → MemosHold plant new memos later
memos_later plant old new memos generation later is h = record {
  begun = omega (arith, h.begun, is.rises);
  past = λ k lt. let before = h.past k lt in omega (arith, before, is.rises);
  early = h.early;
  each = λ p lt now a.
      let before = h.past p.0 lt in
      let same : later ≡ generation = omega (arith, before, is.rises, now) in
      absurd (let no = is.last same in let few = h.early p.0 lt in omega (arith, no, few, now));
}

-- in a later generation nothing that was given holds
pub none_later : (plant : PlantData) (slots : List Slot) (memos : List OutputMemo) (generation later : ℕ) → IsLater generation later
    → MemosHold plant slots memos generation → NoneHolds memos later
none_later plant slots memos generation later is h k lt now =
    let before = h.past k lt in
    let same : later ≡ generation = omega (arith, before, is.rises, now) in
    let no = is.last same in
    let few = h.early k lt in omega (arith, no, few, now)

-- one slot is changed
pub memos_changed : (plant : PlantData) (slots : List Slot) (memos : List OutputMemo) (generation after i : ℕ) (y : Slot)
    → IsGenerationAfter (slot_at slots i).is_output generation after → MemosHold plant slots memos generation
    → MemosHold plant (slice_set slots i y) memos after
memos_changed plant slots memos generation after i y is h =
    elim (bool_cases (slot_at slots i).is_output) as (λ _. MemosHold plant (slice_set slots i y) memos after) [
      | inl on ↦ memos_later plant slots (slice_set slots i y) memos generation after (is.output on) h
      | inr off ↦
          subst (λ (e : ℕ). MemosHold plant (slice_set slots i y) memos e) (sym (is.other off))
          (record {
            begun = h.begun;
            past = h.past;
            early = h.early;
            each = λ p lt now a v j at number.
                let had = h.each p lt now a v j at number in
                let ne : j ≢ i =
                λ same. absurd (let on = ap (λ (k : ℕ). (slot_at slots k).is_output) (sym same) ∙ had.output in cc) in
                subst (λ (slot : Slot). IsAssigned slot (flag (memo_at memos p.0).q a)) (sym (slot_other slots i j y ne)) had;
          })
    ]

-- what was given to one instance is changed
pub memo_set : (plant : PlantData) (slots : List Slot) (memos : List OutputMemo) (generation : ℕ) (p : ProgId) (g : OutputMemo) → p.0 < length memos
    → g.generation ≤ generation → g.generation < last_generation → (g.generation ≡ generation → (a : ℕ) → HasQ plant p slots a (flag g.q a))
    → MemosHold plant slots memos generation → MemosHold plant slots (slice_set memos p.0 g) generation
memo_set plant slots memos generation p g lt few first now h = record {
  begun = h.begun;
  past = λ k klt.
      elim (eqb_tells k p.0) as (λ _. (memo_at (slice_set memos p.0 g) k).generation ≤ generation) [
        | inl w ↦
            let here : memo_at (slice_set memos p.0 g) k ≡ g =
            ap (λ (j : ℕ). memo_at (slice_set memos p.0 g) j) w.1 ∙ get_or-set_same memos p.0 g (record { q = []; generation = 0 }) lt in
            let e = ap (λ (x : OutputMemo). x.generation) here in omega (arith, e, few)
        | inr w ↦
            let there : memo_at (slice_set memos p.0 g) k ≡ memo_at memos k =
            get_or-set_other memos p.0 k g (record { q = []; generation = 0 }) w.1 in
            let e = ap (λ (x : OutputMemo). x.generation) there in
            let long = length-set memos p.0 g in
            let before = h.past k (omega (arith, long, klt)) in omega (arith, e, before)
      ];
  early = λ k klt.
      elim (eqb_tells k p.0) as (λ _. (memo_at (slice_set memos p.0 g) k).generation < last_generation) [
        | inl w ↦
            let here : memo_at (slice_set memos p.0 g) k ≡ g =
            ap (λ (j : ℕ). memo_at (slice_set memos p.0 g) j) w.1 ∙ get_or-set_same memos p.0 g (record { q = []; generation = 0 }) lt in
            let e = ap (λ (x : OutputMemo). x.generation) here in omega (arith, e, first)
        | inr w ↦
            let there : memo_at (slice_set memos p.0 g) k ≡ memo_at memos k =
            get_or-set_other memos p.0 k g (record { q = []; generation = 0 }) w.1 in
            let e = ap (λ (x : OutputMemo). x.generation) there in
            let long = length-set memos p.0 g in
            let before = h.early k (omega (arith, long, klt)) in omega (arith, e, before)
      ];
  each = λ r rlt at a.
      elim (eqb_tells r.0 p.0) as (λ _. HasQ plant r slots a (flag (memo_at (slice_set memos p.0 g) r.0).q a)) [
        | inl w ↦
            let same : r ≡ p = ap (λ (k : ℕ). let id : ProgId = record { 0 = k } in id) w.1 in
            let here : memo_at (slice_set memos p.0 g) r.0 ≡ g =
            ap (λ (j : ℕ). memo_at (slice_set memos p.0 g) j) w.1 ∙ get_or-set_same memos p.0 g (record { q = []; generation = 0 }) lt in
            subst (λ (x : OutputMemo). HasQ plant r slots a (flag x.q a)) (sym here)
            (subst (λ (x : ProgId). HasQ plant x slots a (flag g.q a)) (sym same)
            (now (ap (λ (x : OutputMemo). x.generation) (sym here) ∙ at) a))
        | inr w ↦
            let there : memo_at (slice_set memos p.0 g) r.0 ≡ memo_at memos r.0 =
            get_or-set_other memos p.0 r.0 g (record { q = []; generation = 0 }) w.1 in
            let long = length-set memos p.0 g in
            subst (λ (x : OutputMemo). HasQ plant r slots a (flag x.q a)) (sym there)
            (h.each r (omega (arith, long, rlt)) (ap (λ (x : OutputMemo). x.generation) (sym there) ∙ at) a)
      ];
}

-- what was given to one instance doesn't count any more
pub memo_dropped : (plant : PlantData) (slots : List Slot) (memos : List OutputMemo) (generation : ℕ) (p : ProgId) (g : OutputMemo)
    → p.0 < length memos → g.generation ≡ 0 → MemosHold plant slots memos generation → MemosHold plant slots (slice_set memos p.0 g) generation
memo_dropped plant slots memos generation p g lt none h =
    memo_set plant slots memos generation p g lt (omega (arith, none)) (omega (arith, none))
    (λ now a. absurd (let some = h.begun in omega (arith, none, now, some))) h

-- what was read
pub memo_read : (memos : List OutputMemo) (k : ℕ) (g : OutputMemo) → k < length memos → g ≡ get_or memos k g → g ≡ memo_at memos k
memo_read memos k g lt is =
    sym (get_or_from_slice_get memos k g (record { q = []; generation = 0 }) (slice_get_read memos (length memos) k g refl lt is))

pub memo_here : (memos : List OutputMemo) (k : ℕ) (g : OutputMemo) → k < length memos → memo_at (slice_set memos k g) k ≡ g
memo_here memos k g lt = get_or-set_same memos k g (record { q = []; generation = 0 }) lt

-- what one instance was given is changed, and a later generation begins
pub memo_later : (plant : PlantData) (old new : List Slot) (memos : List OutputMemo) (generation later : ℕ) (p : ProgId) (g : OutputMemo)
    → p.0 < length memos → g.generation ≡ (memo_at memos p.0).generation → IsLater generation later
    → MemosHold plant old memos generation → MemosHold plant new (slice_set memos p.0 g) later
memo_later plant old new memos generation later p g lt same is h =
    let none = none_later plant old memos generation later is h in
    let before = h.past p.0 lt in
    let few = h.early p.0 lt in
    memo_set plant new memos later p g lt (omega (arith, before, same, is.rises)) (omega (arith, few, same))
    (λ now a. absurd (none p.0 lt (sym same ∙ now))) (memos_later plant old new memos generation later is h)

-- and in the same one, where the outputs have what it holds now
pub memo_again : (plant : PlantData) (slots : List Slot) (memos : List OutputMemo) (generation : ℕ) (p : ProgId) (g : OutputMemo)
    → p.0 < length memos → g.generation ≡ (memo_at memos p.0).generation → ((a : ℕ) → HasQ plant p slots a (flag g.q a))
    → MemosHold plant slots memos generation → MemosHold plant slots (slice_set memos p.0 g) generation
memo_again plant slots memos generation p g lt same has h =
    let before = h.past p.0 lt in
    let few = h.early p.0 lt in
    memo_set plant slots memos generation p g lt (omega (arith, before, same)) (omega (arith, few, same)) (λ now a. has a) h

-- what was given in this generation
pub given_holds : (plant : PlantData) (image : Image) (changes : Changes) (p : ProgId) (a : ℕ) → p.0 < instance_total image
    → (memo_at image.memos.items p.0).generation ≡ image.generation → ImageAgrees plant image changes
    → HasQ plant p image.slots.items a (flag (memo_at image.memos.items p.0).q a)
unfolding ImageAgrees
given_holds plant image changes p a lt now h = h.memos.each p (omega (arith, lt, image.sized)) now a

-- where nothing was given yet
pub no_memo : (plant : PlantData) (slots : List Slot) (memos : List OutputMemo) (generation : ℕ) → 0 < generation
    → ((k : ℕ) → k < length memos → (memo_at memos k).generation ≡ 0) → MemosHold plant slots memos generation
no_memo plant slots memos generation some none = record {
  begun = some;
  past = λ k lt. let e = none k lt in omega (arith, e);
  early = λ k lt. let e = none k lt in omega (arith, e);
  each = λ p lt now a. let e = none p.0 lt in absurd (omega (arith, e, now, some));
}

-- ---- one output more

module _ (plant : PlantData) (p : ProgId) (old new : List Slot) (a : ℕ) (v : Variable)
    (at : slice_get (actions_of (chart_of plant p)) a ≡ Some (Boolean v)) where
  -- the others stay
  pub others_have : ((i : ℕ) → number_of plant p v ≢ Some i → Stays (slot_at old i) (slot_at new i)) → (b : ℕ) → b ≢ a → (q : Bool)
      → HasQ plant p old b q → HasQ plant p new b q
  others_have others b ne q h w i is number =
      let had = h w i is number in
      let s = others i (other_number plant p a b i v w ne at is number) in
      record { stored = s.stored ∙ had.stored; output = s.output had.output }

  -- and it has what it was given
  pub here_has : (q : Bool) → ((i : ℕ) → number_of plant p v ≡ Some i → IsAssigned (slot_at new i) q) → HasQ plant p new a q
  here_has q here w i is number =
      let same : w ≡ v = one w v (sym is ∙ at) in
      here i (ap (λ (x : Variable). number_of plant p x) (sym same) ∙ number)
    where
      one : (w v : Variable) → Some (Boolean w) ≡ Some (Boolean v) → w ≡ v
      one w v e = cc
