-- Lines of text that comes in pieces (our choice of format).
use Rattle.std.specs.Prelude.{ℕ, ◌==◌, Bool, List, [], ◌∷◌, Option, Some, None, if◌then◌else◌}
use Rattle.sfc_script.specs.Lines.{split_before}

abbrev pub is_lf : ℕ → Bool
is_lf b = b == 10

-- the line without a CR at its end
abbrev pub without_cr : List ℕ → List ℕ
without_cr [] = []
without_cr (b ∷ []) = if b == 13 then [] else b ∷ []
without_cr (b ∷ c ∷ line) = b ∷ without_cr (c ∷ line)

-- of the bytes before the first LF, and the rest from it on
abbrev pub ended_by : List ℕ × List ℕ → Option (List ℕ × List ℕ)
ended_by (line, []) = None
ended_by (line, lf ∷ rest) = Some (without_cr line, rest)

-- Of bytes that came so far the first line that has its end, LF or CR LF, and what stands behind that.
abbrev pub ended_line : List ℕ → Option (List ℕ × List ℕ)
ended_line bytes = ended_by (split_before is_lf bytes)
