use Rattle.std.proofs.Common.{◌≡◌, length}
use Rattle.sfc_variables.specs.Checks.{in_turn}
use Rattle.sfc_variables.specs.Own.{own_name, own_check, own_in}
use Rattle.sfc_variables.specs.Drafts.{extended}
use Rattle.sfc_variables.proofs.own.with_blocks.Given as goal

abbrev pub invariant-all : goal.invariant-all
invariant-all l = record {
  checked : in_turn own_name (own_check l.globals) l.initial.draft.names (own_in l.blocks)
      ≡ in_turn own_name (own_check l.globals) l.draft.names (own_in l.rest);
  built : extended l.globals l.initial.draft (own_in l.blocks) ≡ extended l.globals l.draft (own_in l.rest);
}

abbrev pub decreases-all : goal.decreases-all
decreases-all l = length l.rest
