-- The cases of a file with their titles, and which of them are wanted.
use Rattle.std.specs.Prelude.{ℕ, ◌==◌, Bool, ◌||◌, List, [], ◌∷◌, filter, flat_map}
use Rattle.std.specs.List.{starts_with}
use Rattle.sfc_cases.specs.declared.deed.Deed.{Deed}
use Rattle.sfc_cases.specs.declared.deed.Deed.TheVariants.{Begins}
use Rattle.sfc_cases.specs.declared.line.Line.{Line}
use Rattle.sfc_cases.specs.Files.{cases_of}

-- a case: its title, and its lines with those before the first TEST
pub record TitledCase : Type 0 where
  pub title : List ℕ
  pub lines : List Line

-- the name behind TEST
abbrev pub names_by : Deed → List (List ℕ)
names_by (Begins name) = name ∷ []
names_by _ = []

abbrev pub names_in : List Line → List (List ℕ)
names_in lines = flat_map (λ line. names_by line.deed) lines

-- where there is no TEST, the file's name is the title of the one case
abbrev pub or_file : List ℕ → List (List ℕ) → List (List ℕ)
or_file file [] = file ∷ []
or_file file (name ∷ names) = name ∷ names

abbrev pub titles_of : List ℕ → List Line → List (List ℕ)
titles_of file lines = or_file file (names_in lines)

-- each case beside its title
abbrev pub beside : List (List ℕ) → List (List Line) → List TitledCase
beside [] cases = []
beside (title ∷ titles) [] = []
beside (title ∷ titles) (lines ∷ cases) = record { title = title; lines = lines } ∷ beside titles cases

-- the cases of a file of this name, in order
abbrev pub titled : List ℕ → List Line → List TitledCase
titled file lines = beside (titles_of file lines) (cases_of lines)

-- ---- which are wanted

-- the bytes begin with the word
abbrev pub begins_with : List ℕ → List ℕ → Bool
begins_with word bytes = starts_with (λ a b. a == b) bytes word

-- the word stands somewhere in the bytes
abbrev pub has_word : List ℕ → List ℕ → Bool
has_word word [] = begins_with word []
has_word word (b ∷ bytes) = begins_with word (b ∷ bytes) || has_word word bytes

-- those alone in whose titles the word stands
abbrev pub wanted : List ℕ → List TitledCase → List TitledCase
wanted word cases = filter (λ one. has_word word one.title) cases
