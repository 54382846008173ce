use Rattle.std.proofs.Common.{◌≡◌, ◌<◌, ◌^◌, length}
use Rattle.sfc_script.specs.Private.Instants.{number_from, number_first}
use Rattle.sfc_script.proofs.instant.number_first.Given as goal

abbrev pub invariant-digits : goal.invariant-digits
invariant-digits l = record {
  value : number_first l.bytes ≡ number_from l.number l.rest;
  small : l.number < 10 ^ 10;
  shorter : length l.rest < length l.bytes;
}

abbrev pub decreases-digits : goal.decreases-digits
decreases-digits l = length l.rest
