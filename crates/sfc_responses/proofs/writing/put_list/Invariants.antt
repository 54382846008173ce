use Rattle.std.proofs.Common.{◌≡◌, List, length}
use Rattle.json.specs.Token.{Token}
use Rattle.serde_json.specs.Written.{WritesItems}
use Rattle.sfc_responses.specs.Bodies.{list_of}
use Rattle.sfc_responses.proofs.writing.put_list.Given as goal

-- whatever ends the list well from here ends it well from the start
abbrev pub invariant-all : goal.invariant-all
invariant-all l = record {
  before : l.out.before ≡ l.fn.out.before;
  ok : (end : List Token) → WritesItems (list_of l.rest) l.out.tokens end → WritesItems (list_of l.symbols) l.fn.out.tokens end;
}

abbrev pub decreases-all : goal.decreases-all
decreases-all l = length l.rest
