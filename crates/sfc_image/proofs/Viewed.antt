-- What a view of an image reads.
use Rattle.std.proofs.Common.{◌≡◌, ℕ, ◌+◌, ◌<◌, ◌≤◌, arith, Bool, List, length, flat_map, Option, is_some, refl, ◌∙◌, ap, append-nil}
use Rattle.std.proofs.lemmas.List.{length-append}
use mathlib.Core.Path.{fun_ext}
use Rattle.sfc_base.specs.declared.value.Value.{Value}
use Rattle.sfc_base.specs.declared.references.Variable.{Variable}
use Rattle.sfc_expr.specs.Environment.{Environment}
use Rattle.sfc_base.specs.declared.ids.ProgId.{ProgId}
use Rattle.sfc_plant.specs.Plants.{PlantData}
use Rattle.sfc_plant.specs.Image.{locals_of as locals_of_instance}
use Rattle.sfc_plant.specs.Finding.{first_local}
use Rattle.sfc_image.specs.declared.slot.Slot.{Slot}
use Rattle.sfc_image.specs.declared.slot.Locals.{Locals}
use Rattle.sfc_image.specs.Changes.{Changes, all_of}
use Rattle.sfc_image.specs.Values.{stored_value, forced_value}
use Rattle.sfc_image.specs.Environments.{number_among, read_at, force_at, Moment, environment_of}
use Rattle.sfc_image.specs.Private.Keeping.{locals_at, locals_of, SlotsAgree, stored_in, forced_in, shown_by}
use Rattle.sfc_image.proofs.Numbers.{of_number}

-- the globals go before the locals of the first instance
pub first_of_all : (plant : PlantData) → first_local plant (record { 0 = 0 }) ≡ length plant.globals
first_of_all plant = ap length (append-nil plant.globals)

-- where the globals end
pub globals_end : (plant : PlantData) (slots : List Slot) (locals : List Locals) (count : ℕ) (b : Bool) (changes : Changes) (g : ℕ)
    → 0 < length locals → g ≡ (locals_at locals 0).first → SlotsAgree plant slots locals count b changes → g ≡ length plant.globals
globals_end plant slots locals count b changes g some globals h =
    globals ∙ ap (λ (x : Locals). x.first) (h.locals_are (record { 0 = 0 }) some) ∙ first_of_all plant

-- the stored and the forced values that are shown, where there are so many variables
abbrev with_shown : Environment → ℕ → Locals → (ℕ → Value) → (ℕ → Option Value) → Environment
with_shown env g l stored forced = record env {
  has = λ v. is_some (number_among g l.first l.count v);
  stored_at = λ v. read_at stored (number_among g l.first l.count v);
  forced_at = λ v. force_at forced (number_among g l.first l.count v);
}

abbrev with_values : Environment → (Variable → Value) → (Variable → Option Value) → Environment
with_values env stored forced = record env { stored_at = stored; forced_at = forced }

pub viewed : (plant : PlantData) (slots : List Slot) (locals : List Locals) (count : ℕ) (b : Bool) (changes : Changes) (p : ProgId)
    (g : ℕ) (l : Locals) (moment : Moment) → g ≡ length plant.globals → l ≡ locals_of plant p
    → l.first + l.count ≤ length slots → SlotsAgree plant slots locals count b changes
    → shown_by slots g l moment ≡ environment_of plant (all_of changes) p moment
viewed plant slots locals count b changes p g l moment first of_instance within h =
    let all = length-append plant.globals (flat_map (locals_of_instance plant.types) plant.instances) in
    let le : g ≤ length slots = omega (arith, first, all, h.variables) in
    let env : Environment = environment_of plant (all_of changes) p moment in
    let stored : (λ (v : Variable). read_at (stored_in slots) (number_among g l.first l.count v))
    ≡ (λ (v : Variable). read_at (stored_value plant (all_of changes)) (number_among g l.first l.count v)) =
    fun_ext (of_number (λ o. read_at (stored_in slots) o ≡ read_at (stored_value plant (all_of changes)) o) (length slots) g l.first
    l.count le within (λ i lt. (h.each i lt).stored) refl) in
    let forced : (λ (v : Variable). force_at (forced_in slots) (number_among g l.first l.count v))
    ≡ (λ (v : Variable). force_at (forced_value (all_of changes)) (number_among g l.first l.count v)) =
    fun_ext (of_number (λ o. force_at (forced_in slots) o ≡ force_at (forced_value (all_of changes)) o) (length slots) g l.first
    l.count le within (λ i lt. (h.each i lt).forced) refl) in
    ap (λ (f : Variable → Value). with_values (shown_by slots g l moment) f
    (λ v. force_at (forced_in slots) (number_among g l.first l.count v))) stored
    ∙ ap (λ (f : Variable → Option Value). with_values (shown_by slots g l moment)
    (λ v. read_at (stored_value plant (all_of changes)) (number_among g l.first l.count v)) f) forced
    ∙ ap (λ (n : ℕ). with_shown env n l (stored_value plant (all_of changes)) (forced_value (all_of changes))) first
    ∙ ap (λ (x : Locals). with_shown env (length plant.globals) x (stored_value plant (all_of changes)) (forced_value (all_of changes)))
    of_instance
