use Rattle.std.proofs.Common.{inl, inr, ◌∙◌, arith}
use lib.Count.{count_trailing_zeros}
use Rattle.std.proofs.lemmas.Bool.{cases_eq}
use Rattle.sfc_events.proofs.Bits.{lowest, without_same, without_other}
use Rattle.sfc_events.proofs.instance_set.InstanceSet.split_first.Goals as goal

pub returns-clause-first : goal.returns-clause-first
returns-clause-first c =
    let low = lowest c.args.self.bits (omega arith) (omega arith) in
    (low.1, low.2)

pub returns-clause-others : goal.returns-clause-others
returns-clause-others c k above =
    let low = lowest c.args.self.bits (omega arith) (omega arith) in
    without_other c.args.self.bits (count_trailing_zeros 64 c.args.self.bits) k (omega arith) low.0 (λ e. absurd (omega arith))

pub returns-clause-without : goal.returns-clause-without
returns-clause-without c k below =
    let low = lowest c.args.self.bits (omega arith) (omega arith) in
    elim (cases_eq k (count_trailing_zeros 64 c.args.self.bits)) [
      | inl e ↦ rw e (without_same c.args.self.bits (count_trailing_zeros 64 c.args.self.bits) low.0)
      | inr apart ↦
          without_other c.args.self.bits (count_trailing_zeros 64 c.args.self.bits) k (omega arith) low.0 apart
          ∙ low.2 k (omega arith)
    ]
