-- Look-backs over a history, which lists its rows newest first.
use Rattle.std.specs.Prelude.{Bool, true, false, cond, not, List, [], ◌∷◌, Option, Some, None, find, ℤ, pos, ◌-ℤ◌}
use Rattle.std.specs.List.{list_any}
use Rattle.sfc_base.specs.Leading.{leading}

abbrev pub or_else : {A : Type 0} → Option A → Option A → Option A
or_else (Some y) o = Some y
or_else None o = o

-- the oldest row that passes
abbrev pub oldest : {A : Type 0} → (A → Bool) → List A → Option A
oldest p [] = None
oldest p (x ∷ xs) = or_else (oldest p xs) (cond (p x) (Some x) None)

-- some row came on, and no later one went off
abbrev pub is_in : {A : Type 0} → (A → Bool) → (A → Bool) → List A → Bool
is_in on off h = list_any on (leading (λ row. not (off row)) h)

-- the time since the latest row that came on, up to the first row after it that went off, else up to now
abbrev pub time_from : {A : Type 0} → (A → ℤ) → ℤ → Option A → Option A → ℤ
time_from at now None off = pos 0
time_from at now (Some on) None = now -ℤ at on
time_from at now (Some on) (Some off) = at off -ℤ at on

abbrev pub time_in : {A : Type 0} → (A → Bool) → (A → Bool) → (A → ℤ) → List A → ℤ → ℤ
time_in on off at h now = time_from at now (find on h) (oldest off (leading (λ row. not (on row)) h))

-- no row stands before this one
abbrev pub is_empty : {A : Type 0} → List A → Bool
is_empty [] = true
is_empty (x ∷ xs) = false

-- the rows before the newest one
abbrev pub before : {A : Type 0} → List A → List A
before [] = []
before (x ∷ xs) = xs
