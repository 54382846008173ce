-- What all elements of a chart share.
use Rattle.std.specs.Prelude.{◌++◌, ◌+◌, ◌-◌, ℕ, List, [], ◌∷◌, codes}
use Rattle.std.specs.Fmt.{decimal}
use Rattle.sfc_drawing.specs.declared.drawn.Corner.{Corner}
use Rattle.sfc_drawing.specs.declared.drawn.Line.{Line}
use Rattle.sfc_drawing.specs.declared.drawn.Own.{Own}
use Rattle.sfc_drawing.specs.declared.drawn.Own.TheVariants.{Stem, Single, Double}
use Rattle.sfc_drawing.specs.Shapes.{point, text_text, down_text, along_text}

-- where the element's sheet stands, before its title
unfoldable pub sheet_text : Corner → List ℕ
sheet_text c = codes "\" transform=\"translate(" ++ decimal c.left ++ codes " " ++ decimal c.top ++ codes ")\"><title>"

abbrev pub title_end : List ℕ
title_end = codes "</title>\n"

abbrev pub element_end : List ℕ
element_end = codes "</g>\n"

-- the word, where there is a text behind it
unfoldable pub word_before : List ℕ → List ℕ → List ℕ
word_before word [] = []
word_before word (c ∷ text) = word

-- a line of text of this class, of which at most so many characters are shown
unfoldable pub line_text : List ℕ → ℕ → Line → List ℕ
line_text class most l = text_text class (point l.x l.y) most l.text

-- a line that belongs to a node: a double one goes 10 pixels beyond its branches
unfoldable pub own_text : Own → List ℕ
own_text (Stem x top bottom) = down_text x top bottom
own_text (Single left right y) = along_text left y right
own_text (Double left right y) = along_text (left - 10) y (right + 10) ++ along_text (left - 10) (y + 4) (right + 10)

-- each behind its number, the first of which is n
abbrev pub numbered : {A : Type 0} → (ℕ → A → List ℕ) → ℕ → List A → List ℕ
numbered f n [] = []
numbered f n (x ∷ xs) = f n x ++ numbered f (n + 1) xs
