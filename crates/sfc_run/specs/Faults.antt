-- What went wrong in a run: its exit status, and what is told of it (our choice).
use Rattle.std.specs.Prelude.{ℕ, Bool, true, false, ◌||◌, List, [], ◌++◌, codes, if◌then◌else◌}
use Rattle.sfc_run.specs.declared.run_faults.RunFaults.{RunFaults}

-- what is so of either
abbrev pub both : RunFaults → RunFaults → RunFaults
both a b = record {
  memory = a.memory || b.memory;
  read = a.read || b.read;
  write = a.write || b.write;
  mismatch = a.mismatch || b.mismatch;
  untold = a.untold || b.untold;
  faulted = a.faulted || b.faulted;
  ended = a.ended || b.ended;
}

-- of several statuses the first of 4, 3, 1
abbrev pub status_of : RunFaults → ℕ
status_of faults =
    if faults.memory then 4 else
    if faults.read || faults.write then 3 else
    if faults.mismatch || faults.faulted || faults.ended then 1 else 0

abbrev pub text_if : Bool → List ℕ → List ℕ
text_if true text = text
text_if false text = []

abbrev pub front_text : RunFaults → List ℕ
front_text faults = text_if faults.memory (codes "out of memory\n") ++ text_if faults.read (codes "read fault\n")

abbrev pub back_text : RunFaults → List ℕ
back_text faults =
    text_if faults.write (codes "write fault\n") ++ text_if faults.mismatch (codes "refused 41 AuditMismatch\n")
    ++ text_if faults.faulted (codes "a program stood faulted at the end\n")

-- a line for each; of scans that ended early each task's end is told by itself
abbrev pub faults_text : RunFaults → List ℕ
faults_text faults = front_text faults ++ back_text faults
