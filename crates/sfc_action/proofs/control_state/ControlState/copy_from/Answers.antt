use Rattle.std.proofs.Common.{ap, length}
use Rattle.sfc_flags.proofs.Wordwise.{same_flags}
use Rattle.sfc_action.proofs.Rows.{same_kept}
use Rattle.sfc_action.proofs.control_state.ControlState.copy_from.Goals as goal

pub returns-clause-copy : goal.returns-clause-copy
returns-clause-copy c =
    let n = length c.args.self.now.q in
    let x = c.copy_all.new.self in let y = c.args.other.now in
    let hx = c.copy_all.ensures.sized in let hy = c.requires.other in let rows = c.copy_all.ensures.rows in
    record {
      kept = same_kept n x.kept y.kept hx.kept hy.kept (λ a. ap (λ r. r.kept) (rows a));
      q = same_flags n x.q y.q hx.q hy.q (λ a. ap (λ r. r.q) (rows a));
      executed = same_flags n x.executed y.executed hx.executed hy.executed (λ a. ap (λ r. r.executed) (rows a));
      blocks = c.copy_from.ensures.copy;
      single = c.copy_all.ensures.single;
    }
