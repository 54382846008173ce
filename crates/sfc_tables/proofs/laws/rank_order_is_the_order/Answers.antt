use Rattle.sfc_tables.proofs.RankOrders.{test_says, rank_order_ranks, ranked_is}
use Rattle.sfc_tables.proofs.laws.rank_order_is_the_order.Goals as goal

pub returns-clause-test : goal.returns-clause-test
returns-clause-test c priorities a b = test_says priorities a b

pub returns-clause-order : goal.returns-clause-order
returns-clause-order c priorities = rank_order_ranks priorities

pub returns-clause-only : goal.returns-clause-only
returns-clause-only c priorities ranked is = ranked_is priorities ranked is
