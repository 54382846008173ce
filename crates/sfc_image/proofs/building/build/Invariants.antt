use Rattle.std.proofs.Common.{◌≡◌, ℕ, ◌<◌, length, map, take, slice_get}
use Rattle.sfc_plant.specs.Image.{image_of}
use Rattle.sfc_plant.specs.Finding.{locals_at as locals_of}
use Rattle.sfc_image.specs.Private.Keeping.{fresh_slot, locals_at}
use Rattle.sfc_image.proofs.building.build.Given as goal

abbrev pub invariant-loop-k : goal.invariant-loop-k
invariant-loop-k l = record {
  slots : l.slots.items ≡ map fresh_slot (image_of l.globals l.types (take l.k l.instances));
  instances : length l.locals.items ≡ l.k;
  locals : (j : ℕ) → j < l.k → locals_at l.locals.items j ≡ record {
    first = length (image_of l.globals l.types (take j l.instances));
    count = length (locals_of l.types (slice_get l.instances j));
  };
}
