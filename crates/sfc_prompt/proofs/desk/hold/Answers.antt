use Rattle.std.proofs.Common.{inl, inr}
use Rattle.sfc_replay.proofs.Replayed.{Keeps-same}
use Rattle.sfc_prompt.proofs.desk.hold.Goals as goal

pub returns-in-Ok : goal.returns-in-Ok
returns-in-Ok g c =
    let opened = c.in-Ok.ensures in
    inl (
      opened.0,
      opened.1,
      record {
        old = c.in-Ok.prompt;
        new = c.serve.ensures.0;
        opened = opened.2;
        tells = c.serve.ensures.1;
        serves = c.serve.ensures.2;
      },
    )

pub returns-in-Err : goal.returns-in-Err
returns-in-Err g c =
    inr (c.in-Err.ensures, Keeps-same (g.S.Read.remaining c.args.lines.now), Keeps-same (g.W.Write.contents c.args.desk.answers))
