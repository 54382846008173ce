use Rattle.sfc_page.proofs.Triples.{pair_at}
use Rattle.sfc_page.proofs.digits.pair.Goals as goal

pub returns : goal.returns
returns c =
    let at = pair_at c.args.number c.requires in
    rw (at.0, at.1)
