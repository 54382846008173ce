use Rattle.std.proofs.Common.{◌∙◌, ◌<◌, ◌+◌, List, length, arith, ap, subst, sym}
use Rattle.std.proofs.lemmas.List.{length_push}
use Rattle.std.proofs.lemmas.Option.{slice_get_within}
use Rattle.sfc_instance.specs.declared.program.Program.{Program}
use Rattle.sfc_instances.proofs.Built.{OpenedTo, opened_more}
use Rattle.sfc_instances.proofs.instances.open_programs.Goals as goal

pub loop-k-preserved : goal.loop-k-preserved
loop-k-preserved c =
    let tables = c.args.tables.now in
    let instances = c.args.instances.now in
    let k = c.loop-k.k in
    let program = c.in_ok-new.field-0 in
    record {
      len = ap length c.in_ok-push.ensures.items ∙ length_push c.loop-k.programs.items program ∙ ap (λ n. n + 1) c.loop-k.invariant.len;
      each =
          subst (λ (xs : List Program). OpenedTo tables instances xs (k + 1)) (sym c.in_ok-push.ensures.items)
          (opened_more tables instances c.loop-k.programs.items k c.index-instances-k.result c.index-tables-instances.result program
          c.loop-k.invariant.len c.loop-k-test.true (c.requires k c.index-instances-k.result c.loop-k-test.true)
          c.index-tables-instances.is
          (record { sizes = c.in_ok-new.ensures.sizes; agrees = c.in_ok-new.ensures.agrees }) c.loop-k.invariant.each);
    }

pub returns-clause-each : goal.returns-clause-each
returns-clause-each c k instance tabled d e f =
    let lt : k < length c.args.instances.now = slice_get_within c.args.instances.now k instance e in
    c.loop-k.invariant.each k instance tabled d (omega (arith, lt, c.loop-k-test.false)) e f
