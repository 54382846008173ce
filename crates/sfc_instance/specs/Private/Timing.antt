-- Of which associations a scan reads the time.
use Rattle.std.specs.Prelude.{ℕ, ◌≡◌, ◌≤◌, ◌<◌, ◌==◌, Bool, true, false, List, length, get_or, ℤ, pos}
use Rattle.std.specs.List.{list_any}
use Rattle.sfc_expr.specs.Environment.{Environment}
use Rattle.sfc_tables.specs.declared.step_action.StepAction.{StepAction}
use Rattle.sfc_instance.specs.ProgramScan.{time_of}

-- the number is among these
abbrev pub is_listed : List ℕ → ℕ → Bool
is_listed numbers k = list_any (λ j. j == k) numbers

-- of the first n associations the time is there already, whatever a scan reads, unless their numbers are among these
pub record HaveTimes (n : ℕ) (associations : List StepAction) (times : List ℤ) (varied : List ℕ) : Type 0 where
  pub long : length times ≡ length associations
  pub few : length varied ≤ n
  pub within : (k : ℕ) → is_listed varied k ≡ true → k < n
  pub fixed : (k : ℕ) (d : StepAction) (env : Environment) → k < n → is_listed varied k ≡ false →
      get_or times k (pos 0) ≡ time_of env (get_or associations k d).qualifier

-- of all
abbrev pub AreTimes : List StepAction → List ℤ → List ℕ → Type 0
AreTimes associations times varied = HaveTimes (length associations) associations times varied
