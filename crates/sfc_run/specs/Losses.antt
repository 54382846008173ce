-- When lost rows of a feed are told: at most once a second, but for those before an urgent row (our choice).
use Rattle.std.specs.Prelude.{ℕ, ◌+◌, ◌-◌, ◌^◌, ◌==◌, min, Bool, ◌||◌, if◌then◌else◌, List, ◌++◌, codes, ℤ, pos, ◌+ℤ◌, ◌-ℤ◌, int_le}
use Rattle.std.specs.Fmt.{decimal}
use Rattle.std.specs.Int.{saturate_signed, w64}
use Rattle.sfc_run.specs.declared.losses.Losses.{Losses}

-- so long ago that the first are told at once
abbrev pub no_losses : Losses
no_losses = record { waiting = 0; t = pos 0 -ℤ pos 1000000 }

-- those that wait, and so many more
abbrev pub waiting_with : Losses → ℕ → ℕ
waiting_with losses lost = min (losses.waiting + lost) (2 ^ 64 - 1)

-- the last were told a second ago at least, or it is urgent
abbrev pub may_tell : Losses → ℤ → Bool → Bool
may_tell losses t is_urgent = is_urgent || int_le (saturate_signed w64 (losses.t +ℤ pos 1000000)) t

-- how many are told at this run instant, behind so many more lost ones
abbrev pub told_with : Losses → ℕ → ℤ → Bool → ℕ
told_with losses lost t is_urgent = if may_tell losses t is_urgent then waiting_with losses lost else 0

-- what is told last is nothing where none wait
abbrev pub losses_after : Losses → ℕ → ℤ → Bool → Losses
losses_after losses lost t is_urgent =
    if may_tell losses t is_urgent then record { waiting = 0; t = if waiting_with losses lost == 0 then losses.t else t }
    else record { waiting = waiting_with losses lost; t = losses.t }

-- none waits any more
abbrev pub none_waiting : Losses → Losses
none_waiting losses = record { waiting = 0; t = losses.t }

-- it is known again how all stands, behind so many commands
abbrev pub known_text : ℕ → List ℕ
known_text count = codes "known again behind " ++ decimal count ++ codes " commands\n"
