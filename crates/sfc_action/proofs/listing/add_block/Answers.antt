use Rattle.std.proofs.Common.{◌≡◌, ◌∙◌, List, length, sym, refl, subst, arith, true, false}
use Rattle.sfc_action.specs.declared.timed.Timed as timed
use Rattle.sfc_action.specs.declared.blocks.Block.{Block}
use Rattle.sfc_action.specs.Private.Keeping.{has_block}
use Rattle.sfc_action.specs.Private.Listing.{IsListing, IsLonger}
use Rattle.sfc_action.proofs.DelayLists.{delay_there, delay_added, listing_added, longer_added, covered_there, covered_added}
use Rattle.sfc_action.proofs.listing.add_block.Goals as goal

pub returns-in_ok-push-clause-delays : goal.returns-in_ok-push-clause-delays
returns-in_ok-push-clause-delays c =
    delay_added c.args.blocks.now.items c.push.new.self.items
    record { action = c.args.association.now.action; qualifier = c.in-Timed.qualifier; delay = c.new.result; elapsed = false }
    c.in-Timed.qualifier c.in-Timed.field-1 c.args.association.now.qualifier c.in-Timed.is refl
    (sym (c.requires.listing.listed c.in-Timed.qualifier c.args.association.now.action.0 (omega arith)) ∙ sym c.has.ensures
    ∙ c.if-not-has.true)
    c.in_ok-push.ensures.items

pub returns-else-not-has-clause-delays : goal.returns-else-not-has-clause-delays
returns-else-not-has-clause-delays c =
    delay_there c.args.blocks.now.items c.args.association.now.action.0 c.in-Timed.qualifier c.in-Timed.field-1
    c.args.association.now.qualifier c.in-Timed.is
    (sym (c.requires.listing.listed c.in-Timed.qualifier c.args.association.now.action.0 (omega arith)) ∙ sym c.has.ensures
    ∙ c.if-not-has.false)

-- the on-delay that is added
abbrev block_of : goal.In_ok-push → Block
block_of c =
    record { action = c.args.association.now.action; qualifier = c.in-Timed.qualifier; delay = c.new.result; elapsed = false }

pub returns-in_ok-push-clause-listing : goal.returns-in_ok-push-clause-listing
returns-in_ok-push-clause-listing c =
    let n = length c.args.seen.now.limited in
    subst (λ (seen : timed.Timed). IsListing n seen c.push.new.self.items) (sym c.add.ensures)
    (subst (IsListing n _) (sym c.in_ok-push.ensures.items)
    (listing_added n c.args.seen.now c.args.blocks.now.items (block_of c) c.requires.listing
    (record { delay = c.new.ensures; elapsed = refl }) c.requires.action))

pub returns-in_ok-push-clause-longer : goal.returns-in_ok-push-clause-longer
returns-in_ok-push-clause-longer c =
    subst (IsLonger c.args.blocks.now.items) (sym c.in_ok-push.ensures.items)
    (longer_added c.args.blocks.now.items (block_of c))

pub returns-in_ok-push-clause-covered : goal.returns-in_ok-push-clause-covered
returns-in_ok-push-clause-covered c =
    subst (λ (xs : List Block). has_block xs c.args.association.now.action.0 c.args.association.now.qualifier ≡ true)
    (sym c.in_ok-push.ensures.items)
    (covered_added c.args.blocks.now.items (block_of c) c.in-Timed.field-1 c.args.association.now.qualifier c.in-Timed.is)

pub returns-else-not-has-clause-listing : goal.returns-else-not-has-clause-listing
returns-else-not-has-clause-listing c = c.requires.listing

pub returns-else-not-has-clause-longer : goal.returns-else-not-has-clause-longer
returns-else-not-has-clause-longer c = record { few = omega arith; covered = λ x h. h }

pub returns-else-not-has-clause-covered : goal.returns-else-not-has-clause-covered
returns-else-not-has-clause-covered c =
    covered_there c.args.blocks.now.items c.args.association.now.action.0 c.in-Timed.qualifier c.in-Timed.field-1
    c.args.association.now.qualifier c.in-Timed.is
    (sym (c.requires.listing.listed c.in-Timed.qualifier c.args.association.now.action.0 (omega arith)) ∙ sym c.has.ensures
    ∙ c.if-not-has.false)
