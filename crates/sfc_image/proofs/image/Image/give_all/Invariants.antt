use Rattle.std.proofs.Common.{◌≡◌, ◌<◌, ◌≤◌, ◌-◌, ℕ, false, length}
use Rattle.sfc_base.specs.Ticks.{Within}
use Rattle.sfc_flags.specs.Flags.{flag}
use Rattle.sfc_tables.specs.Tables.{tables_of}
use Rattle.sfc_plant.specs.Finding.{chart_of}
use Rattle.sfc_plant.specs.Plants.{PlantData}
use Rattle.sfc_image.specs.Changes.{Changes}
use Rattle.sfc_image.specs.Private.OutputMemos.{memo_at}
use Rattle.sfc_image.specs.Agreement.{ImageAgrees, IsAsLarge, is_open}
use Rattle.sfc_image.specs.Private.Giving.{AssignedTo}
use Rattle.sfc_image.proofs.image.Image.give_all.Given as goal

abbrev pub invariant-outputs : goal.invariant-outputs
invariant-outputs l = record {
  large : IsAsLarge l.fn.self l.self;
  opened : is_open l.self ≡ is_open l.fn.self;
  within : l.action ≤ length l.q;
  taken : (memo_at l.self.memos.items l.instance.0).generation ≡ 0;
  noted : (a : ℕ) → a < l.action → a < length (memo_at l.self.memos.items l.instance.0).q
      → flag (memo_at l.self.memos.items l.instance.0).q a ≡ flag l.q a;
  handled : (plant : PlantData) (changes : Changes) → l.tables ≡ tables_of (chart_of plant l.instance) → ImageAgrees plant l.fn.self changes
      → AssignedTo plant changes l.instance l.q false l.tables.actions l.action l.self.slots.items
      (memo_at l.self.memos.items l.instance.0).q (λ t. ImageAgrees plant l.self t);
  ticks : Within l.action l.fn.ticks l.ticks;
}

abbrev pub decreases-outputs : goal.decreases-outputs
decreases-outputs l = length l.q - l.action
