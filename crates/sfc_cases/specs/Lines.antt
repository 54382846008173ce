-- The words of a line of a test (our choice of format).
use Rattle.std.specs.Prelude.{ℕ, ◌==◌, if◌then◌else◌, List, [], ◌∷◌, ◌++◌, ℤ, ◌+ℤ◌, Option, Some, None, option_map, unwrap_or}
use Rattle.std.specs.Option.{option_and_then, option_or}
use Rattle.std.specs.Int.{saturate_signed, w64}
use Rattle.sfc_base.specs.Case.{same_word}
use Rattle.sfc_base.specs.Runs.{has}
use Rattle.sfc_base.specs.declared.run.Alphabet.TheVariants.{Word}
use Rattle.sfc_tokens.specs.Lexing.DurationWords.{duration_value}
use Rattle.sfc_script.specs.Lines.{first_word, is_blank}
use Rattle.sfc_script.specs.Private.Splitting.{begins_with_blank}
use Rattle.sfc_cases.specs.declared.instant.Instant.{Instant}
use Rattle.sfc_cases.specs.declared.instant.Instant.TheVariants.{Same, At, Later}
use Rattle.sfc_cases.specs.declared.named.Named.{Named}

-- ---- instants

-- of a word: a duration, or one behind a plus (43), from the clock on
abbrev pub instant_of : List ℕ → Option Instant
instant_of [] = None
instant_of (b ∷ word) =
    if b == 43 then option_map Later (duration_value word) else option_map At (duration_value (b ∷ word))

-- where the clock stands at that instant, which stood so; as far as 64 bits go
abbrev pub instant_after : ℤ → Instant → ℤ
instant_after clock Same = clock
instant_after clock (At t) = t
instant_after clock (Later d) = saturate_signed w64 (clock +ℤ d)

-- ---- keywords

-- what stands behind the keyword, where the text begins with that word
abbrev pub behind_word : List ℕ → List ℕ × List ℕ → Option (List ℕ)
behind_word keyword w = if same_word w.0 keyword then Some w.1 else None

abbrev pub behind_keyword : List ℕ → List ℕ → Option (List ℕ)
behind_keyword keyword text =
    if begins_with_blank text then None else option_and_then (behind_word keyword) (first_word text)

abbrev pub divided_by : {X : Type 0} → ℕ → Option X → Option (List ℕ × X) → Option (List ℕ × X)
divided_by b None later = option_map (λ d. (b ∷ d.0, d.1)) later
divided_by b (Some found) later = Some ([], found)

-- what stands before the first blank behind which something is found, and what that is
abbrev pub divided_at : {X : Type 0} → (List ℕ → Option X) → List ℕ → Option (List ℕ × X)
divided_at find [] = None
divided_at find (b ∷ text) = divided_by b (if is_blank b then find text else None) (divided_at find text)

-- what stands before the first word behind a blank that is the keyword, and behind it
abbrev pub divided : List ℕ → List ℕ → Option (List ℕ × List ℕ)
divided keyword text = divided_at (behind_keyword keyword) text

-- what stands from the first word on
abbrev pub from_word : List ℕ → List ℕ
from_word [] = []
from_word (b ∷ text) = if is_blank b then from_word text else b ∷ text

-- ---- names that stand for words

-- the word for which the last of these names stands that is this one
abbrev pub word_named : List Named → List ℕ → Option (List ℕ)
word_named [] name = None
word_named (named ∷ others) name =
    option_or (word_named others name) (if same_word named.name name then Some named.word else None)

abbrev pub meaning : List Named → List ℕ → List ℕ
meaning names name = unwrap_or (word_named names name) name

-- behind these bytes of a name
abbrev pub replaced_from : List Named → List ℕ → List ℕ → List ℕ
replaced_from names name [] = meaning names name
replaced_from names name (b ∷ text) =
    if has Word b then replaced_from names (name ++ b ∷ []) text else meaning names name ++ b ∷ replaced_from names [] text

-- The text in which each name, a longest run of letters, digits and underscores, is the word for which it stands.
abbrev pub replaced : List Named → List ℕ → List ℕ
replaced names text = replaced_from names [] text
