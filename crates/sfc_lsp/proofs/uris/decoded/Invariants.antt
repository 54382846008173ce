use Rattle.std.proofs.Common.{◌≤◌, length}
use Rattle.sfc_lsp.proofs.uris.decoded.Given as goal

abbrev pub invariant-all : goal.invariant-all
invariant-all l = length l.rest ≤ length l.text

abbrev pub decreases-all : goal.decreases-all
decreases-all l = length l.rest
