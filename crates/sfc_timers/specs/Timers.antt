-- Flip-flop, on-delay and edge (2.5.2.3). A history lists the calls of a block, the newest first.
use Rattle.std.specs.Prelude.{Bool, true, false, not, List, [], ◌∷◌, ℤ, ◌-ℤ◌, int_le}
use Rattle.std.specs.List.{list_any}
use Rattle.sfc_timers.specs.declared.edge.Change.{Change}
use Rattle.sfc_timers.specs.declared.edge.Change.TheVariants.{Rise, Fall, Same}
use Rattle.sfc_base.specs.Leading.{leading}

-- ---- flip-flop (2.5.2.3.1)

-- one call of a flip-flop: S and R
abbrev pub Bistable : Type 0
Bistable = Bool × Bool

abbrev pub s_of : Bistable → Bool
s_of call = call.0

abbrev pub r_of : Bistable → Bool
r_of call = call.1

-- The flip-flop is on: since the latest call with R some call had S.
abbrev pub is_on : List Bistable → Bool
is_on h = list_any s_of (leading (λ call. not (r_of call)) h)

-- ---- on-delay (2.5.2.3.4)

-- one call of an on-delay: input, PT and instant
abbrev pub Reading : Type 0
Reading = Bool × ℤ × ℤ

abbrev pub input_of : Reading → Bool
input_of call = call.0

abbrev pub preset_of : Reading → ℤ
preset_of call = call.1

abbrev pub instant_of : Reading → ℤ
instant_of call = call.2

-- the unbroken run of calls with a true input that ends with the newest
abbrev pub run_of : List Reading → List Reading
run_of h = leading input_of h

-- the first call of a run, which begins with its newest
abbrev pub start_of : Reading → List Reading → Reading
start_of call [] = call
start_of call (earlier ∷ run) = start_of earlier run

-- the time from the first call of a run to its newest is at least the PT of the first
abbrev pub has_lasted : List Reading → Bool
has_lasted [] = false
has_lasted (now ∷ run) = int_le (preset_of (start_of now run)) (instant_of now -ℤ instant_of (start_of now run))

-- The on-delay has elapsed: the input is true, and has been for PT, as PT was when the input rose.
abbrev pub has_elapsed : List Reading → Bool
has_elapsed h = has_lasted (run_of h)

-- ---- edges (2.5.2.3.2)

-- the input of the newest call; false before the first (our choice)
abbrev pub newest_input : List Bool → Bool
newest_input [] = false
newest_input (input ∷ h) = input

-- how an input changed from one call to the next
abbrev pub change_between : Bool → Bool → Change
change_between false true = Rise
change_between true false = Fall
change_between false false = Same
change_between true true = Same
