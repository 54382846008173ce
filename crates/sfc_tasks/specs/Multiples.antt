-- Multiples of a task's interval (2.7.2). Instants and intervals are in microseconds.
use Rattle.std.specs.Prelude.{ℕ, zero, suc, ◌+◌, ◌-◌, ◌*◌, ◌/◌, ◌^◌, ◌&&◌, cond, List, [], ◌∷◌, Bool, Option, Some, None}
use Rattle.std.specs.Prelude.{ℤ, pos, ◌*ℤ◌, int_lt, int_le, nat_le, unsigned_abs}

-- the multiple of number m; the first is 0 (our choice)
abbrev pub multiple : ℤ → ℕ → ℤ
multiple interval m = pos m *ℤ interval

-- how many multiples are not after t; an interval of 0 has none
abbrev pub multiples_to : ℤ → ℤ → ℕ
multiples_to interval t =
    cond (int_lt (pos 0) interval && int_le (pos 0) t) (unsigned_abs t / unsigned_abs interval + 1) 0

-- n multiples, the first of number m
abbrev pub multiples_from : ℤ → ℕ → ℕ → List ℤ
multiples_from interval m zero = []
multiples_from interval m (suc n) = multiple interval m ∷ multiples_from interval (suc m) n

-- those after the instant `last` and not after t
abbrev pub multiples_between : ℤ → ℤ → ℤ → List ℤ
multiples_between interval last t =
    multiples_from interval (multiples_to interval last) (multiples_to interval t - multiples_to interval last)

-- an instant is at most 2^62
abbrev pub instant_at : ℕ → Option ℤ
instant_at t = cond (nat_le t (2 ^ 62)) (Some (pos t)) None

-- the least multiple after t, if it is an instant
abbrev pub next_multiple : ℤ → ℤ → Option ℤ
next_multiple interval t =
    cond (int_lt (pos 0) interval) (instant_at (multiples_to interval t * unsigned_abs interval)) None

-- the next release by the interval; none while SINGLE reads 1
abbrev pub next_release : ℤ → Bool → ℤ → Option ℤ
next_release interval single t = cond single None (next_multiple interval t)
