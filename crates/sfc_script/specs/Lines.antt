-- The lines of a script, and the words of a line (our choice of format).
use Rattle.std.specs.Prelude.{ℕ, ◌==◌, Bool, true, false, not, ◌&&◌, ◌||◌, if◌then◌else◌, is_none, List, [], ◌∷◌, Option, Some, None}
use Rattle.std.specs.Option.{option_map, option_and_then}

-- ---- lines

-- a byte before other bytes of its line
abbrev pub in_line : ℕ → List (List ℕ) → List (List ℕ)
in_line b [] = (b ∷ []) ∷ []
in_line b (line ∷ lines) = (b ∷ line) ∷ lines

abbrev pub begins_with_lf : List ℕ → Bool
begins_with_lf [] = false
begins_with_lf (b ∷ bytes) = b == 10

-- The lines of a script: each ends with LF, or CR LF; the last may lack its end. Elsewhere a CR is a byte of its line.
abbrev pub lines_of : List ℕ → List (List ℕ)
lines_of [] = []
lines_of (b ∷ bytes) =
    if b == 10 then [] ∷ lines_of bytes else
    if b == 13 && begins_with_lf bytes then lines_of bytes else
    in_line b (lines_of bytes)

-- The bytes are one line as they stand: no LF is among them, and no CR at their end.
abbrev pub is_one_line : List ℕ → Bool
is_one_line [] = true
is_one_line (b ∷ []) = not (b == 10) && not (b == 13)
is_one_line (b ∷ c ∷ bytes) = not (b == 10) && is_one_line (c ∷ bytes)

-- ---- words

-- a space or a tab: they part words
abbrev pub is_blank : ℕ → Bool
is_blank b = b == 32 || b == 9

-- the bytes before the first that passes the test, and the rest from it on
unfoldable pub split_before : (ℕ → Bool) → List ℕ → List ℕ × List ℕ
split_before p [] = ([], [])
split_before p (b ∷ bytes) =
    if p b then ([], b ∷ bytes) else (b ∷ (split_before p bytes).0, (split_before p bytes).1)

-- the first word of a line, and what stands behind it
abbrev pub first_word : List ℕ → Option (List ℕ × List ℕ)
first_word [] = None
first_word (b ∷ bytes) = if is_blank b then first_word bytes else Some (split_before is_blank (b ∷ bytes))

-- the word of a line that has just one
abbrev pub only_word : List ℕ → Option (List ℕ)
only_word line = option_and_then (λ w. if is_none (first_word w.1) then Some w.0 else None) (first_word line)

-- the words of a line that has just two
abbrev pub two_words : List ℕ → Option (List ℕ × List ℕ)
two_words line = option_and_then (λ w. option_map (λ second. (w.0, second)) (only_word w.1)) (first_word line)
