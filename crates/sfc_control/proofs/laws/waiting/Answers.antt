use Rattle.sfc_control.specs.LegalHistory.{commands_of}
use Rattle.sfc_control.proofs.Lags.{comes_at}
use Rattle.sfc_control.proofs.Waits.{refused_until, refused_always}
use Rattle.sfc_control.proofs.laws.waiting.Goals as goal

pub returns-clause-instant : goal.returns-clause-instant
returns-clause-instant c clock task t running = comes_at clock task t running

pub returns-clause-until : goal.returns-clause-until
returns-clause-until c plant table es task raw next later answer refused before ok =
    refused_until plant table (commands_of es) task raw next later answer refused before ok

pub returns-clause-always : goal.returns-clause-always
returns-clause-always c plant table es task raw later answer refused ok =
    refused_always plant table (commands_of es) task raw later answer refused ok
