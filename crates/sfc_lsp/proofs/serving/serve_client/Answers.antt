use Rattle.sfc_lsp.proofs.Served.{serves_each}
use Rattle.sfc_lsp.proofs.serving.serve_client.Goals as goal

pub returns : goal.returns
returns g c =
    let stream = g.R.Read.remaining c.args.reader.now in
    let rest = g.R.Read.remaining c.serve.new.reader in
    serves_each stream _ rest (g.W.Write.contents c.args.writer.now) (g.W.Write.contents c.serve.new.writer) _ c.in_ok-serve.field-0 _ _
    c.serve.result c.in_ok-serve.was (rw c.new-incoming.ensures at c.in_ok-serve.ensures.served) c.serve.ensures.end
