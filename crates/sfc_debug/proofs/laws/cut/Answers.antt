use Rattle.std.proofs.Common.{◌++◌}
use Rattle.sfc_debug.proofs.Pasts.{past_cut}
use Rattle.sfc_debug.proofs.laws.cut.Goals as goal

pub returns-clause-past : goal.returns-clause-past
returns-clause-past c plant table h other later sound same =
    past_cut plant table (λ g k command raw e. c.next_past.ensures plant table g k command raw sound e) h other later same

pub returns-clause-verdict : goal.returns-clause-verdict
returns-clause-verdict c plant table h other later command raw sound same =
    c.past_answers.ensures.verdict plant table (later ++ h) (later ++ other) command raw sound
    (past_cut plant table (λ g k command raw e. c.next_past.ensures plant table g k command raw sound e) h other later same)

pub returns-clause-hits : goal.returns-clause-hits
returns-clause-hits c plant table h other later command raw sound same =
    c.past_answers.ensures.hits plant table (later ++ h) (later ++ other) command raw sound
    (past_cut plant table (λ g k command raw e. c.next_past.ensures plant table g k command raw sound e) h other later same)

pub returns-clause-instant : goal.returns-clause-instant
returns-clause-instant c plant table h other later command raw sound same =
    c.past_answers.ensures.instant plant table (later ++ h) (later ++ other) command raw
    (past_cut plant table (λ g k command raw e. c.next_past.ensures plant table g k command raw sound e) h other later same)
