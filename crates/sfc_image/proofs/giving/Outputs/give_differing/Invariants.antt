use Rattle.std.proofs.Common.{◌≡◌, ◌≤◌, ◌-◌, ◌*◌, ℕ, true, false, List, length}
use Rattle.sfc_base.specs.Ticks.{Within}
use Rattle.sfc_base.specs.declared.ids.ProgId.{ProgId}
use Rattle.sfc_flags.specs.Flags.{flag}
use Rattle.sfc_flags.specs.Words.{AreDone, word_count}
use Rattle.sfc_tables.specs.Tables.{tables_of}
use Rattle.sfc_plant.specs.Finding.{chart_of}
use Rattle.sfc_plant.specs.Plants.{PlantData}
use Rattle.sfc_image.specs.declared.slot.Locals.{Locals}
use Rattle.sfc_image.specs.Changes.{Changes}
use Rattle.sfc_image.specs.Private.Giving.{AssignedTo}
use Rattle.sfc_image.specs.Private.Keeping.{AreTracked, SlotsAgree, locals_of}
use Rattle.sfc_image.specs.Private.OutputMemos.{HasQ}
use Rattle.sfc_image.proofs.giving.Outputs.give_differing.Given as goal

abbrev pub invariant-words : goal.invariant-words
invariant-words l = record {
  long : length l.slots ≡ length l.fn.slots;
  tracked : AreTracked l.slots l.written l.listed;
  same : l.has_given ≡ false → l.slots ≡ l.fn.slots;
  generation : l.memo.generation ≡ l.fn.memo.generation;
  sized : length l.memo.q ≡ length l.self.q.now;
  within : l.number ≤ word_count l.self.q.now;
  noted : AreDone l.number (flag l.self.q.now) (flag l.fn.memo.q) (flag l.memo.q);
  given : (plant : PlantData) (changes : Changes) (p : ProgId) (locals : List Locals) → l.self.tables.now ≡ tables_of (chart_of plant p)
      → l.self.globals ≡ length plant.globals → l.self.locals ≡ locals_of plant p
      → ((a : ℕ) → HasQ plant p l.fn.slots a (flag l.fn.memo.q a)) → SlotsAgree plant l.fn.slots locals l.fn.count l.self.is_open changes
      → AssignedTo plant changes p l.self.q.now true l.self.tables.now.actions (l.number * 64) l.slots l.memo.q
      (λ t. SlotsAgree plant l.slots locals l.listed l.self.is_open t);
  ticks : Within l.number l.fn.ticks l.ticks;
}

abbrev pub decreases-words : goal.decreases-words
decreases-words l = word_count l.self.q.now - l.number
