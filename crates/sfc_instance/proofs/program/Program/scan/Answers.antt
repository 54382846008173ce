use Rattle.std.proofs.Common.{◌≡◌, ◌-◌, ◌^◌, suc, Option, None, length, min, ℤ, arith, is_ok, refl, sym, ap, subst, ◌∙◌, to_z-of_z}
use Rattle.sfc_instance.specs.Answers.{scan_count}
use Rattle.sfc_instance.specs.Life.{InstanceState, latest_instant}
use Rattle.sfc_instance.specs.ProgramScan.{After, attempt, next_row}
use Rattle.sfc_instance.specs.Private.Scanning.{HasScanned}
use Rattle.sfc_instance.specs.declared.scan_fault.ScanFault.{ScanFault}
use Rattle.sfc_instance.specs.Agreement.{ProgramAgrees, StateAgrees, place_after}
use Rattle.sfc_image.specs.Agreement.{ImageAgrees}
use Rattle.sfc_image.specs.Changes.{settled}
use Rattle.sfc_instance.proofs.Left.{on_ok}
use Rattle.sfc_instance.proofs.Scanned.{after_fault, after_run, no_fault, scan_faulted, scan_ran}
use Rattle.sfc_instance.proofs.program.Program.scan.Goals as goal

pub returns-in-Ok-clause-scan_end : goal.returns-in-Ok-clause-scan_end
unfolding ProgramAgrees
returns-in-Ok-clause-scan_end c plant instance_state changes context agrees h =
    let p = c.args.context.instance in
    let tables = c.args.context.tables.now in
    let on : instance_state.fault ≡ None = sym agrees.fault ∙ no_fault c.args.self.now.fault c.if-is_some.ensures in
    let scanned = subst (λ (x : ℤ). HasScanned plant tables instance_state.life changes (next_row plant p instance_state.life changes x) c.scan.new.self.now
    c.scan.new.image c.scan.result c.scan.new.self.place (attempt plant p instance_state.life changes x)) (to_z-of_z c.ranges.t)
    (c.scan.ensures.agrees plant instance_state.life changes context agrees.now h) in
    let done = scan_ran plant tables instance_state.life changes (next_row plant p instance_state.life changes c.args.t) c.scan.new.self.now c.scan.new.image
    c.scan.result c.scan.new.self.place (attempt plant p instance_state.life changes c.args.t) c.in-Ok.field-0 c.in-Ok.is scanned in
    sym (ap (λ (a : After). a.scan_end) (after_run plant p instance_state changes c.args.t on done.0 done.1))

pub returns-in-Ok-clause-program : goal.returns-in-Ok-clause-program
unfolding ProgramAgrees
returns-in-Ok-clause-program c plant instance_state changes context agrees h =
    let p = c.args.context.instance in
    let tables = c.args.context.tables.now in
    let none = no_fault c.args.self.now.fault c.if-is_some.ensures in
    let on : instance_state.fault ≡ None = sym agrees.fault ∙ none in
    let scanned = subst (λ (x : ℤ). HasScanned plant tables instance_state.life changes (next_row plant p instance_state.life changes x) c.scan.new.self.now
    c.scan.new.image c.scan.result c.scan.new.self.place (attempt plant p instance_state.life changes x)) (to_z-of_z c.ranges.t)
    (c.scan.ensures.agrees plant instance_state.life changes context agrees.now h) in
    let done = scan_ran plant tables instance_state.life changes (next_row plant p instance_state.life changes c.args.t) c.scan.new.self.now c.scan.new.image
    c.scan.result c.scan.new.self.place (attempt plant p instance_state.life changes c.args.t) c.in-Ok.field-0 c.in-Ok.is scanned in
    let scans : c.saturating_add-self.result ≡ min (suc (length instance_state.life)) (2 ^ 64 - 1) =
    omega (arith, c.saturating_add-self.ensures, agrees.scans) in
    let after = sym (ap (λ (a : After). a.instance_state) (after_run plant p instance_state changes c.args.t on done.0 done.1)) in
    record {
      now = subst (λ (s : InstanceState). StateAgrees tables c.scan.new.self.now s.life) after done.2;
      fresh = agrees.fresh;
      scans = scans ∙ ap scan_count after;
      at = to_z-of_z c.ranges.t ∙ ap (λ (s : InstanceState). latest_instant s.life) after;
      fault = none ∙ ap (λ (s : InstanceState). s.fault) after;
      place = ap (λ (o : Option ScanFault). place_after o c.scan.new.self.place) none ∙ ap (λ (s : InstanceState). s.place) after;
    }

pub returns-in-Ok-clause-image : goal.returns-in-Ok-clause-image
unfolding ProgramAgrees
returns-in-Ok-clause-image c plant instance_state changes context agrees h =
    let p = c.args.context.instance in
    let tables = c.args.context.tables.now in
    let on : instance_state.fault ≡ None = sym agrees.fault ∙ no_fault c.args.self.now.fault c.if-is_some.ensures in
    let scanned = subst (λ (x : ℤ). HasScanned plant tables instance_state.life changes (next_row plant p instance_state.life changes x) c.scan.new.self.now
    c.scan.new.image c.scan.result c.scan.new.self.place (attempt plant p instance_state.life changes x)) (to_z-of_z c.ranges.t)
    (c.scan.ensures.agrees plant instance_state.life changes context agrees.now h) in
    let done = scan_ran plant tables instance_state.life changes (next_row plant p instance_state.life changes c.args.t) c.scan.new.self.now c.scan.new.image
    c.scan.result c.scan.new.self.place (attempt plant p instance_state.life changes c.args.t) c.in-Ok.field-0 c.in-Ok.is scanned in
    subst (λ (a : After). ImageAgrees plant c.scan.new.image (settled a.changes))
    (sym (after_run plant p instance_state changes c.args.t on done.0 done.1)) done.3

pub returns-in-Err-clause-scan_end : goal.returns-in-Err-clause-scan_end
unfolding ProgramAgrees
returns-in-Err-clause-scan_end c plant instance_state changes context agrees h =
    let p = c.args.context.instance in
    let tables = c.args.context.tables.now in
    let on : instance_state.fault ≡ None = sym agrees.fault ∙ no_fault c.args.self.now.fault c.if-is_some.ensures in
    let scanned = subst (λ (x : ℤ). HasScanned plant tables instance_state.life changes (next_row plant p instance_state.life changes x) c.scan.new.self.now
    c.scan.new.image c.scan.result c.scan.new.self.place (attempt plant p instance_state.life changes x)) (to_z-of_z c.ranges.t)
    (c.scan.ensures.agrees plant instance_state.life changes context agrees.now h) in
    let done = scan_faulted plant tables instance_state.life changes (next_row plant p instance_state.life changes c.args.t) c.scan.new.self.now
    c.scan.new.image c.scan.result c.scan.new.self.place (attempt plant p instance_state.life changes c.args.t) c.in-Err.fault c.in-Err.is scanned in
    sym (ap (λ (a : After). a.scan_end) (after_fault plant p instance_state changes c.args.t on (record { fault = c.in-Err.fault; place = done.0.there }) done.0.fault))

pub returns-in-Err-clause-program : goal.returns-in-Err-clause-program
unfolding ProgramAgrees
returns-in-Err-clause-program c plant instance_state changes context agrees h =
    let p = c.args.context.instance in
    let tables = c.args.context.tables.now in
    let on : instance_state.fault ≡ None = sym agrees.fault ∙ no_fault c.args.self.now.fault c.if-is_some.ensures in
    let scanned = subst (λ (x : ℤ). HasScanned plant tables instance_state.life changes (next_row plant p instance_state.life changes x) c.scan.new.self.now
    c.scan.new.image c.scan.result c.scan.new.self.place (attempt plant p instance_state.life changes x)) (to_z-of_z c.ranges.t)
    (c.scan.ensures.agrees plant instance_state.life changes context agrees.now h) in
    let done = scan_faulted plant tables instance_state.life changes (next_row plant p instance_state.life changes c.args.t) c.scan.new.self.now
    c.scan.new.image c.scan.result c.scan.new.self.place (attempt plant p instance_state.life changes c.args.t) c.in-Err.fault c.in-Err.is scanned in
    let after = sym (ap (λ (a : After). a.instance_state) (after_fault plant p instance_state changes c.args.t on (record { fault = c.in-Err.fault; place = done.0.there }) done.0.fault)) in
    record {
      now = subst (λ (s : InstanceState). StateAgrees tables c.scan.new.self.now s.life) after done.1;
      fresh = agrees.fresh;
      scans = agrees.scans ∙ ap scan_count after;
      at = agrees.at ∙ ap (λ (s : InstanceState). latest_instant s.life) after;
      fault = ap (λ (s : InstanceState). s.fault) after;
      place = done.0.kept ∙ ap (λ (s : InstanceState). s.place) after;
    }

pub returns-in-Err-clause-image : goal.returns-in-Err-clause-image
unfolding ProgramAgrees
returns-in-Err-clause-image c plant instance_state changes context agrees h =
    let p = c.args.context.instance in
    let tables = c.args.context.tables.now in
    let on : instance_state.fault ≡ None = sym agrees.fault ∙ no_fault c.args.self.now.fault c.if-is_some.ensures in
    let scanned = subst (λ (x : ℤ). HasScanned plant tables instance_state.life changes (next_row plant p instance_state.life changes x) c.scan.new.self.now
    c.scan.new.image c.scan.result c.scan.new.self.place (attempt plant p instance_state.life changes x)) (to_z-of_z c.ranges.t)
    (c.scan.ensures.agrees plant instance_state.life changes context agrees.now h) in
    let done = scan_faulted plant tables instance_state.life changes (next_row plant p instance_state.life changes c.args.t) c.scan.new.self.now
    c.scan.new.image c.scan.result c.scan.new.self.place (attempt plant p instance_state.life changes c.args.t) c.in-Err.fault c.in-Err.is scanned in
    subst (λ (a : After). ImageAgrees plant c.scan.new.image (settled a.changes))
    (sym (after_fault plant p instance_state changes c.args.t on (record { fault = c.in-Err.fault; place = done.0.there }) done.0.fault)) done.2

pub returns-in-Ok-clause-good : goal.returns-in-Ok-clause-good
returns-in-Ok-clause-good c not = on_ok c.scan.result _ (ap is_ok c.in-Ok.is) c.scan.ensures.good

pub returns-in-Err-clause-good : goal.returns-in-Err-clause-good
returns-in-Err-clause-good c not = absurd (not refl)
