-- What writes of a program make of an image.
use Rattle.std.proofs.Common.{◌≡◌, ℕ, ◌++◌, List, [], All, Option, Some, None, refl, sym, ◌∙◌, ap, subst}
use Rattle.std.proofs.lemmas.List.{append_assoc}
use Rattle.std.proofs.lemmas.List.Elements.{All-nil, All-append}
use Rattle.sfc_plant.specs.Plants.{PlantData}
use Rattle.sfc_base.specs.declared.references.Variable.{Variable}
use Rattle.sfc_expr.specs.Environment.{Environment}
use Rattle.sfc_image.specs.declared.image.Image.{Image}
use Rattle.sfc_image.specs.declared.slot.Locals.{Locals}
use Rattle.sfc_image.specs.declared.store.ImageStore.{ImageStore}
use Rattle.sfc_image.specs.Changes.{Change, Stored, Forced, Released, Reset, Changes}
use Rattle.sfc_image.specs.Environments.{number_among, moment_of}
use Rattle.sfc_image.specs.Bodies.{tried_all, with_changes}
use Rattle.sfc_image.specs.Agreement.{ImageAgrees, IsAsLarge, is_open}
use Rattle.sfc_image.specs.Private.Keeping.{shown_by}

-- what a store reads
unfoldable pub environment_of_store : ImageStore → Environment
environment_of_store s = shown_by s.image.now.slots.items s.globals s.locals (moment_of s.steps s.q)

-- the change is a write to a variable among so many globals and these locals
abbrev pub IsWriteAmong : ℕ → Locals → Change → Type 0
IsWriteAmong globals locals (Stored id x) = (v : Variable) × (number_among globals locals.first locals.count v ≡ Some id.0)
IsWriteAmong globals locals (Forced id x) = ⊥
IsWriteAmong globals locals (Released id) = ⊥
IsWriteAmong globals locals (Reset p) = ⊥

-- such writes were made, and the image agrees with them
pub record AreMade (plant : PlantData) (changes : Changes) (globals : ℕ) (locals : Locals) (image : Image) : Type 0 where
  pub made : List Change
  pub writes : All (IsWriteAmong globals locals) made
  pub agrees : ImageAgrees plant image (with_changes made changes)

-- what writes alone make of a store: its image gets writes to variables that the program can name, and all else is as
-- before
pub record Reaches (old new : ImageStore) : Type 0 where
  pub same_image : new.image.ghost_name ≡ old.image.ghost_name
  pub globals : new.globals ≡ old.globals
  pub locals : new.locals ≡ old.locals
  pub large : IsAsLarge old.image.now new.image.now
  pub opened : is_open new.image.now ≡ is_open old.image.now
  pub made : (plant : PlantData) (changes : Changes) → ImageAgrees plant old.image.now changes →
      AreMade plant changes old.globals old.locals new.image.now

-- ---- no write, and one more

none_more : (changes : Changes) → with_changes [] changes ≡ changes
none_more changes = by_tried changes.tried where
  by_tried : (o : Option (List Change)) → tried_all [] o changes.committed ≡ record { committed = changes.committed; tried = o }
  by_tried None = refl
  by_tried (Some tried) = refl

pub both_more : (later earlier : List Change) (changes : Changes)
    → with_changes (later ++ earlier) changes ≡ with_changes later (with_changes earlier changes)
both_more later earlier changes = by_tried changes.tried where
  by_tried : (o : Option (List Change))
      → tried_all (later ++ earlier) o changes.committed ≡ with_changes later (tried_all earlier o changes.committed)
  by_tried None = ap (λ (committed : List Change). tried_all [] None committed) (append_assoc later earlier changes.committed)
  by_tried (Some tried) = ap (λ (more : List Change). tried_all [] (Some more) changes.committed) (append_assoc later earlier tried)

pub reaches_itself : (x : ImageStore) → Reaches x x
reaches_itself x = record {
  same_image = refl;
  globals = refl;
  locals = refl;
  large = record { variables = refl; instances = refl };
  opened = refl;
  made = λ plant changes h. record {
    made = [];
    writes = All-nil (IsWriteAmong x.globals x.locals);
    agrees = subst (λ (t : Changes). ImageAgrees plant x.image.now t) (sym (none_more changes)) h;
  };
}

pub reaches_on : (x y z : ImageStore) → Reaches x y → Reaches y z → Reaches x z
reaches_on x y z h k = record {
  same_image = k.same_image ∙ h.same_image;
  globals = k.globals ∙ h.globals;
  locals = k.locals ∙ h.locals;
  large = record {
    variables = k.large.variables ∙ h.large.variables;
    instances = k.large.instances ∙ h.large.instances;
  };
  opened = k.opened ∙ h.opened;
  made = λ plant changes agrees.
      let first = h.made plant changes agrees in
      let second = k.made plant (with_changes first.made changes) first.agrees in
      let writes : All (IsWriteAmong x.globals x.locals) second.made =
      subst (λ (g : ℕ). All (IsWriteAmong g x.locals) second.made) h.globals
      (subst (λ (l : Locals). All (IsWriteAmong y.globals l) second.made) h.locals second.writes) in
      record {
        made = second.made ++ first.made;
        writes = All-append (IsWriteAmong x.globals x.locals) second.made first.made writes first.writes;
        agrees =
            subst (λ (t : Changes). ImageAgrees plant z.image.now t) (sym (both_more second.made first.made changes)) second.agrees;
      };
}
