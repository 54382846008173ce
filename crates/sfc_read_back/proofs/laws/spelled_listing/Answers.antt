use Rattle.std.proofs.Common.{[]}
use Rattle.sfc_read_back.proofs.SpelledConfigurations.{listing_spelled}
use Rattle.sfc_read_back.proofs.laws.spelled_listing.Goals as goal

pub returns : goal.returns
returns c = λ plant is. listing_spelled plant is []
