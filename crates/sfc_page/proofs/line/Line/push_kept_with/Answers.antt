use Rattle.std.proofs.Common.{◌≡◌, ◌++◌, length, take, ◌∙◌, sym, ap, arith}
use Rattle.std.proofs.lemmas.List.{length-take-le}
use Rattle.sfc_page.proofs.Overlaps.{put_anew}
use Rattle.sfc_page.proofs.line.Line.push_kept_with.Goals as goal

pub returns : goal.returns
returns c =
    let text = take c.args.count c.args.text.now in
    let put : take c.self-2.inside.count c.self-2.inside.bytes ≡ c.args.self.now ++ text = c.self-2.view_is ∙ c.push_kept.ensures in
    let size : length c.args.self.now ≡ c.self.inside.count =
    ap length (sym c.self.view_is) ∙ length-take-le c.self.inside.count c.self.inside.bytes (omega (arith, c.self.invariant, c.self.told)) in
    let few : length text ≡ c.args.count = length-take-le c.args.count c.args.text.now (omega (arith, c.requires.few, c.told-text)) in
    put_anew c.self-2.inside.bytes c.args.self.now text c.self-2.inside.count c.self.inside.count c.args.at.0 c.args.at.1 put size
    (omega (arith, few, c.requires.at))
