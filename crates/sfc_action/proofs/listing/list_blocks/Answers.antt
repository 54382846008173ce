use Rattle.std.proofs.Common.{◌∙◌, subst, arith}
use Rattle.std.specs.Prelude.{map}
use Rattle.sfc_action.specs.Private.Keeping.{delay_of}
use Rattle.sfc_action.specs.Private.Listing.{IsListing}
use Rattle.sfc_action.proofs.DelayLists.{delays_more, covered_more, delays_done}
use Rattle.sfc_action.proofs.listing.list_blocks.Goals as goal

pub loop-association-preserved : goal.loop-association-preserved
loop-association-preserved c =
    let was = c.loop-association.invariant in
    let index = c.loop-association.association-index in
    let xs = c.args.associations.now in
    let old = c.loop-association.blocks.items in
    let new = c.add_block.new.blocks.items in
    let added = c.in_ok-add_block.ensures in
    record {
      sized = added.listing.sized.limited ∙ was.sized;
      listing = subst (λ n. IsListing n c.add_block.new.seen new) was.sized added.listing;
      delays = delays_more xs index _ (map delay_of old) (map delay_of new) c.loop-association-test.true added.delays was.delays;
      few = omega (arith, added.longer.few, was.few);
      covered = covered_more xs index _ old new c.loop-association-test.true added.longer.covered added.covered was.covered;
    }

pub returns : goal.returns
returns c =
    let was = c.loop-association.invariant in
    let blocks = c.loop-association.blocks.items in
    record {
      actions = was.listing.actions;
      few = omega (arith, was.few, c.loop-association.auto.association-index-end);
      delays = delays_done c.args.associations.now c.loop-association.association-index (map delay_of blocks)
          c.loop-association-test.false was.delays;
      covered = λ k d lt. was.covered k d (omega (arith, lt, c.loop-association-test.false));
      fresh = was.listing.fresh;
    }
