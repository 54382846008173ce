use Rattle.sfc_page.proofs.Triples.{triple_at}
use Rattle.sfc_page.proofs.digits.triple.Goals as goal

pub returns : goal.returns
returns c =
    let at = triple_at c.args.number c.requires in
    rw (at.0, at.1, at.2)
