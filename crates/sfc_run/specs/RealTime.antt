-- The clock of a run.
use Rattle.std.specs.Prelude.{ℕ, ℤ, pos, ◌-◌, ◌-ℤ◌, ◌/◌, ◌^◌, min}

-- Whole microseconds from one reading in nanoseconds to another, at most 2^63 - 1; none where the later one is the lower.
abbrev pub micros_between : ℕ → ℕ → ℤ
micros_between start now = pos (min ((now - start) / 1000) (2 ^ 63 - 1))

-- a time in nanoseconds, at most 2^63 - 1
abbrev pub nanos_of : ℕ → ℤ
nanos_of nanos = pos (min nanos (2 ^ 63 - 1))

-- from one reading up to another; below 0 where that has passed
abbrev pub nanos_until : ℕ → ℕ → ℤ
nanos_until now until = nanos_of (until - now) -ℤ nanos_of (now - until)
