use Rattle.std.proofs.Common.{◌≡◌, ◌++◌, [], length, map}
use Rattle.sfc_text.specs.Trees.{program_of as program_tree}
use Rattle.sfc_program.specs.sfc_variables.Checks.{in_turn}
use Rattle.sfc_program.specs.Built.{program_of}
use Rattle.sfc_load.specs.Loading.{program_name, named_program_check, program_names}
use Rattle.sfc_load.proofs.programs.load_programs.Given as goal

abbrev pub invariant-programs : goal.invariant-programs
invariant-programs l = record {
  checked : in_turn program_name (named_program_check l.globals) [] (map program_tree l.programs)
      ≡ in_turn program_name (named_program_check l.globals) l.names (map program_tree l.rest);
  built : map (program_of l.globals) (map program_tree l.programs) ≡ l.loaded.items ++ map (program_of l.globals) (map program_tree l.rest);
  named : program_names (map program_tree l.programs) ≡ l.names ++ program_names (map program_tree l.rest);
}

abbrev pub decreases-programs : goal.decreases-programs
decreases-programs l = length l.rest
