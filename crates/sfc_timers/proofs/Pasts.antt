-- What a block keeps is the past of its calls.
use denote.Struct.Props.{props}
use Rattle.std.proofs.Common.{◌≡◌, Bool, List, sym}
use Rattle.sfc_timers.specs.declared.on_delay.OnDelay.{OnDelay}
use Rattle.sfc_timers.specs.declared.edge.Edge.{Edge}
use Rattle.sfc_timers.specs.declared.flip_flop.FlipFlop.{FlipFlop}
use Rattle.sfc_timers.specs.Timers.{Bistable, Reading}
use Rattle.sfc_timers.specs.Agreement.{FlipFlopAgrees, OnDelayAgrees, EdgeAgrees}
use Rattle.sfc_timers.specs.Past.{flip_flop_past, on_delay_past, edge_past, flip_flop_in, on_delay_in, edge_in}

pub flip_flop_keeps : (block : FlipFlop) (h : List Bistable) → FlipFlopAgrees block h → flip_flop_in block ≡ flip_flop_past h
unfolding FlipFlopAgrees flip_flop_in
flip_flop_keeps block h e = e

pub flip_flop_agrees : (block : FlipFlop) (h : List Bistable) → flip_flop_in block ≡ flip_flop_past h → FlipFlopAgrees block h
unfolding FlipFlopAgrees flip_flop_in
flip_flop_agrees block h e = e

pub on_delay_keeps : (timer : OnDelay) (h : List Reading) → OnDelayAgrees timer h → on_delay_in timer ≡ on_delay_past h
unfolding OnDelayAgrees on_delay_in
on_delay_keeps timer h e = sym e

pub on_delay_agrees : (timer : OnDelay) (h : List Reading) → on_delay_in timer ≡ on_delay_past h → OnDelayAgrees timer h
unfolding OnDelayAgrees on_delay_in
on_delay_agrees timer h e = sym e

pub edge_keeps : (edge : Edge) (h : List Bool) → EdgeAgrees edge h → edge_in edge ≡ edge_past h
unfolding EdgeAgrees edge_in
edge_keeps edge h e = e

pub edge_agrees : (edge : Edge) (h : List Bool) → edge_in edge ≡ edge_past h → EdgeAgrees edge h
unfolding EdgeAgrees edge_in
edge_agrees edge h e = e

-- it agrees in one way at most
pub on_delay_prop : (timer : OnDelay) (h : List Reading) → IsProp (OnDelayAgrees timer h)
unfolding OnDelayAgrees
on_delay_prop timer h = hlevel props
