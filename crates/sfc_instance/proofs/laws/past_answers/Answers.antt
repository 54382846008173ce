use Rattle.std.proofs.Common.{◌∙◌, ap}
use Rattle.sfc_evolve.specs.Evolution.{step_time}
use Rattle.sfc_evolve.proofs.Pasts as evolve
use Rattle.sfc_action.proofs.Pasts as action
use Rattle.sfc_instance.specs.Life.{evolution_scans, evolution_rows, control_scans, latest_instant}
use Rattle.sfc_instance.proofs.Pasts.{has_tables, scan_same}
use Rattle.sfc_instance.proofs.laws.past_answers.Goals as goal

pub returns-clause-scan_end : goal.returns-clause-scan_end
returns-clause-scan_end c plant p instance_state other changes others t sound lt same e =
    (scan_same plant p (has_tables plant sound p.0 lt) instance_state other changes others t same e).scan_end

pub returns-clause-active : goal.returns-clause-active
returns-clause-active c tables instance_state other s lt e = evolve.active_by tables (evolution_scans instance_state.life) (evolution_scans other.life) (ap (λ p. p.steps) e) s lt

pub returns-clause-elapsed : goal.returns-clause-elapsed
returns-clause-elapsed c tables instance_state other s lt e =
    evolve.time_by_past tables (evolution_scans instance_state.life) (evolution_scans other.life) (ap (λ p. p.steps) e) s
    (latest_instant instance_state.life) lt
    ∙ ap (λ p. step_time tables (evolution_rows tables other.life) s p.at) e

pub returns-clause-activated : goal.returns-clause-activated
returns-clause-activated c tables instance_state other s lt e =
    evolve.activated_by tables (evolution_scans instance_state.life) (evolution_scans other.life) (ap (λ p. p.steps) e) s lt

pub returns-clause-cleared : goal.returns-clause-cleared
returns-clause-cleared c tables instance_state other tr e =
    evolve.cleared_by tables (evolution_scans instance_state.life) (evolution_scans other.life) (ap (λ p. p.steps) e) tr

pub returns-clause-q : goal.returns-clause-q
returns-clause-q c tables instance_state other a lt e =
    ap (λ p. p.q) (action.action_by tables (control_scans tables instance_state.life) (control_scans tables other.life) (ap (λ p. p.controls) e) a lt)

pub returns-clause-executed : goal.returns-clause-executed
returns-clause-executed c tables instance_state other a lt e =
    ap (λ p. p.executed) (action.action_by tables (control_scans tables instance_state.life) (control_scans tables other.life) (ap (λ p. p.controls) e) a lt)

pub returns-clause-scans : goal.returns-clause-scans
returns-clause-scans c tables instance_state other e = ap (λ p. p.scans) e

pub returns-clause-fault : goal.returns-clause-fault
returns-clause-fault c tables instance_state other e = ap (λ p. p.fault) e

pub returns-clause-place : goal.returns-clause-place
returns-clause-place c tables instance_state other e = ap (λ p. p.place) e
