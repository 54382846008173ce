use Rattle.std.proofs.Common.{◌≡◌, length, flat_map}
use Rattle.sfc_variables.specs.Checks.{in_turn}
use Rattle.sfc_variables.specs.Own.{own_name, own_check, named_by}
use Rattle.sfc_variables.specs.Drafts.{extended}
use Rattle.sfc_variables.proofs.own.with_externals.Given as goal

abbrev pub invariant-externals : goal.invariant-externals
invariant-externals l = record {
  checked : in_turn own_name (own_check l.globals) l.initial.draft.names (flat_map named_by l.externals)
      ≡ in_turn own_name (own_check l.globals) l.draft.names (flat_map named_by l.rest);
  built : extended l.globals l.initial.draft (flat_map named_by l.externals) ≡ extended l.globals l.draft (flat_map named_by l.rest);
}

abbrev pub decreases-externals : goal.decreases-externals
decreases-externals l = length l.rest
