use Rattle.std.proofs.Common.{◌∙◌, length, subst}
use Rattle.std.specs.Prelude.{All}
use Rattle.sfc_action.specs.Private.TimedSets.{none}
use Rattle.sfc_action.specs.Private.Live.{IsIdle}
use Rattle.sfc_action.proofs.Idle.{uncalled_stepped, none_gathered}
use Rattle.sfc_action.proofs.delays.Delays.step.Goals as goal

pub returns-else-not-self-clause-stepped : goal.returns-else-not-self-clause-stepped
returns-else-not-self-clause-stepped c =
    let s = c.args.control_scan.now in
    let idle : All IsIdle c.args.self.now =
    subst (All IsIdle) c.self.view_is (c.self.invariant.all_idle c.if-not-self.false) in
    uncalled_stepped s.inputs s.stores s.presets.items c.args.t s.called c.args.self.now c.requires.called (c.requires.uncalled c.if-is_called.false) idle

pub returns-else-not-self-clause-control_scan : goal.returns-else-not-self-clause-control_scan
returns-else-not-self-clause-control_scan c =
    let s = c.args.control_scan.now in
    let idle : All IsIdle c.args.self.now =
    subst (All IsIdle) c.self.view_is (c.self.invariant.all_idle c.if-not-self.false) in
    (λ i. record {
      inputs = s.inputs;
      presets = s.presets;
      stores = s.stores;
      called = s.called;
      elapsed = (c.requires.elapsed ∙ none_gathered c.args.self.now (none (length s.presets.items)) idle) i;
    })
