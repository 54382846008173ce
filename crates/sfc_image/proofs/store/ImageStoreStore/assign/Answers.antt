use Rattle.std.proofs.Common.{◌≡◌, ◌∷◌, [], Some, refl, sym, ◌∙◌, subst}
use Rattle.std.proofs.lemmas.List.Elements.{All-nil, All-cons}
use Rattle.sfc_image.specs.Changes.{Changes}
use Rattle.sfc_image.specs.Environments.{number_among, moment_of}
use Rattle.sfc_image.specs.Bodies.{stored_to}
use Rattle.sfc_image.specs.Agreement.{ImageAgrees}
use Rattle.sfc_image.specs.Private.Stores.{environment_of_store, IsWriteAmong}
use Rattle.sfc_image.proofs.Left.{one_change}
use Rattle.sfc_image.proofs.Puts.{shown_after, shown_still}
use Rattle.sfc_image.proofs.store.ImageStoreStore.assign.Goals as goal

pub returns-in-Some-clause-after : goal.returns-in-Some-clause-after
unfolding environment_of_store
returns-in-Some-clause-after c =
    let s = c.args.self.now in
    let at : number_among s.globals s.locals.first s.locals.count c.args.variable ≡ Some c.in-Some.i =
    sym c.number_of.ensures ∙ c.in-Some.is in
    shown_after s.image.now.slots.items c.put.new.self.slots.items s.globals s.locals s.apart c.args.variable c.args.value c.in-Some.i
    at c.put.ensures.put (moment_of s.steps s.q)

pub returns-in-Some-clause-reached : goal.returns-in-Some-clause-reached
returns-in-Some-clause-reached c =
    let s = c.args.self.now in
    let at : number_among s.globals s.locals.first s.locals.count c.args.variable ≡ Some c.in-Some.i =
    sym c.number_of.ensures ∙ c.in-Some.is in
    let change = stored_to c.args.value c.in-Some.i in
    record {
      same_image = refl;
      globals = refl;
      locals = refl;
      large = c.put.ensures.large;
      opened = c.put.ensures.open;
      made = λ plant changes h. record {
        made = change ∷ [];
        writes =
            All-cons (IsWriteAmong s.globals s.locals) change [] (c.args.variable, at) (All-nil (IsWriteAmong s.globals s.locals));
        agrees =
            subst (λ (t : Changes). ImageAgrees plant c.put.new.self t) (one_change change changes) (c.put.ensures.agrees plant changes h);
      };
    }

pub returns-in_default-clause-after : goal.returns-in_default-clause-after
unfolding environment_of_store
returns-in_default-clause-after c =
    let s = c.args.self.now in
    shown_still s.image.now.slots.items s.globals s.locals c.args.variable c.args.value (moment_of s.steps s.q)
    (sym c.number_of.ensures ∙ c.in_default.is)
