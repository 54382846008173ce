use Rattle.std.proofs.Common.{◌≡◌, length, map}
use Rattle.sfc_variables.specs.Checks.{in_turn}
use Rattle.sfc_variables.specs.Own.{own_name, own_check, named_as, named_by}
use Rattle.sfc_variables.specs.Drafts.{extended}
use Rattle.sfc_variables.proofs.own.with_named.Given as goal

abbrev pub invariant-names : goal.invariant-names
invariant-names l = record {
  checked : in_turn own_name (own_check l.globals) l.initial.draft.names (named_by l.external)
      ≡ in_turn own_name (own_check l.globals) l.draft.names (map (named_as l.external) l.rest);
  built : extended l.globals l.initial.draft (named_by l.external) ≡ extended l.globals l.draft (map (named_as l.external) l.rest);
}

abbrev pub decreases-names : goal.decreases-names
decreases-names l = length l.rest
