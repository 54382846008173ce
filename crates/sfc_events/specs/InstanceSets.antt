-- Sets of program instances: bit k is that of instance k (2.7.1).
use Rattle.std.specs.Prelude.{ℕ, ◌==◌, Bool}
use Rattle.std.specs.Int.{bit_at}
use Rattle.sfc_events.specs.declared.instance_set.InstanceSet.{InstanceSet}

-- those whose bits are set in this number
abbrev pub set_of : ℕ → InstanceSet
set_of bits = record { bits = bits }

abbrev pub no_instance : InstanceSet
no_instance = set_of 0

-- instance k is in the set
abbrev pub has : InstanceSet → ℕ → Bool
has set k = bit_at set.bits k == 1
