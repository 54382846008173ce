use Rattle.std.proofs.Common.{◌≡◌, ◌+◌, ◌*◌, ℕ, true, List, length}
use Rattle.sfc_base.specs.declared.ids.ProgId.{ProgId}
use Rattle.sfc_flags.specs.Flags.{flag}
use Rattle.sfc_tables.specs.Tables.{tables_of}
use Rattle.sfc_plant.specs.Finding.{chart_of}
use Rattle.sfc_plant.specs.Plants.{PlantData}
use Rattle.sfc_image.specs.declared.slot.Locals.{Locals}
use Rattle.sfc_image.specs.Changes.{Changes}
use Rattle.sfc_image.specs.Private.Giving.{AssignedTo}
use Rattle.sfc_image.specs.Private.Keeping.{AreTracked, SlotsAgree, locals_of}
use Rattle.sfc_image.proofs.Places.{AreLeft, set_below}
use Rattle.sfc_image.proofs.giving.Outputs.give_word.Given as goal

abbrev pub invariant-outputs : goal.invariant-outputs
invariant-outputs l = record {
  long : length l.slots ≡ length l.fn.slots;
  tracked : AreTracked l.slots l.written l.listed;
  given : (k : ℕ) × AreLeft l.number k (flag l.fn.memo.q) (flag l.self.q.now) l.differing
      × ((plant : PlantData) (changes : Changes) (p : ProgId) (locals : List Locals) → l.self.tables.now ≡ tables_of (chart_of plant p)
      → l.self.globals ≡ length plant.globals → l.self.locals ≡ locals_of plant p
      → AssignedTo plant changes p l.self.q.now true l.self.tables.now.actions (l.number * 64) l.fn.slots l.fn.memo.q
      (λ t. SlotsAgree plant l.fn.slots locals l.fn.count l.self.is_open t)
      → AssignedTo plant changes p l.self.q.now true l.self.tables.now.actions (l.number * 64 + k) l.slots l.fn.memo.q
      (λ t. SlotsAgree plant l.slots locals l.listed l.self.is_open t));
}

abbrev pub decreases-outputs : goal.decreases-outputs
decreases-outputs l = set_below l.differing 64
