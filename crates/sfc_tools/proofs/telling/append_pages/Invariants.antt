use Rattle.std.proofs.Common.{◌≡◌, ◌++◌, length, ℕ, List}
use Rattle.sfc_tools.specs.Reports.{ArePages}
use Rattle.sfc_tools.proofs.telling.append_pages.Given as goal

abbrev pub decreases-reports : goal.decreases-reports
decreases-reports l = length l.rest

-- the pages so far, and those of what is left are those of all
abbrev pub invariant-reports : goal.invariant-reports
invariant-reports l = (told : List ℕ) × (l.text.items ≡ l.initial.text.items ++ told)
    × ((more : List ℕ) → ArePages l.name l.rest more → ArePages l.name l.all (told ++ more))
