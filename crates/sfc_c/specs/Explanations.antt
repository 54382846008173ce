-- Explanations by number.
use Rattle.std.specs.Prelude.{◌≡◌, ℕ, true, List, ℤ, Result, Ok, Err}
use Rattle.sfc_explain.specs.declared.explanation.Explanation.{Explanation}
use Rattle.sfc_explain.specs.Finding.{is_numbered}
use Rattle.sfc_explain.specs.Pages.{page}
use Rattle.sfc_c.specs.Codes.{unknown}

-- the page of an explanation with this number, whole; or -3
abbrev pub IsPage : ℕ → Result (List ℕ) ℤ → Type 0
IsPage number (Ok text) = (explanation : Explanation) × (is_numbered number explanation ≡ true) × (text ≡ page explanation)
IsPage number (Err code) = code ≡ unknown
