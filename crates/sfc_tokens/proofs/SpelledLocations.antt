-- The text of a location is a piece of text that lexes as it.
use Rattle.std.proofs.Common.{◌≡◌, ℕ, suc, ◌<◌, ◌≤◌, ◌^◌, true, false, eqb, List, [], ◌∷◌, ◌++◌, length, Some, refl, sym, subst, arith, codes}
use Rattle.std.proofs.lemmas.List.{append-nil}
use Rattle.std.specs.Fmt.{decimal}
use Rattle.std.specs.List.{All}
use Rattle.sfc_base.specs.declared.class.Class.{Class}
use Rattle.sfc_base.specs.declared.class.Class.TheVariants as class
use Rattle.sfc_base.specs.declared.run.Alphabet.TheVariants as alphabet
use Rattle.sfc_tokens.specs.declared.literal.LiteralKind.TheVariants as kind
use Rattle.sfc_tokens.specs.declared.token.TokenKind.TheVariants as token
use Rattle.sfc_base.specs.declared.location.Area.{Area}
use Rattle.sfc_base.specs.declared.location.Area.TheVariants.{Input, Output, Memory}
use Rattle.sfc_base.specs.declared.location.Size.{Size}
use Rattle.sfc_base.specs.declared.location.Size.TheVariants.{Bit, Byte, Word, DoubleWord, LongWord}
use Rattle.sfc_base.specs.declared.location.Location.{Location}
use Rattle.sfc_base.specs.Classes.{class_of}
use Rattle.sfc_base.specs.Runs.{is_in, has, AllIn, Ends}
use Rattle.sfc_base.specs.Locations as locations
use Rattle.sfc_base.specs.Locations.{AreNumbers, area_of, size_of, Numbers, IsLocation}
use Rattle.sfc_base.specs.LocationText.{area_text, size_text, numbers_text, location_text}
use Rattle.sfc_tokens.specs.Literals as literals
use Rattle.sfc_tokens.specs.Lexemes as lexemes
use Rattle.sfc_tokens.specs.Lexemes.{Prefix, is_minus, Body, Piece}
use Rattle.sfc_base.proofs.Runs.{wider}
use Rattle.sfc_tokens.proofs.Digits.{figures}
use Rattle.sfc_tokens.proofs.Parts.{dot_class}
use Rattle.sfc_tokens.proofs.DurationWords.{append_in}
use Rattle.sfc_tokens.proofs.TimeLaw.{decimal_integer}

-- ---- numbers

figure_by : (k : Class) → is_in alphabet.Figures k ≡ true → is_in alphabet.Location k ≡ true
figure_by class.Digit e = refl
figure_by class.Underscore e = refl
figure_by _ e = absurd cc

figures_in : (w : List ℕ) → AllIn alphabet.Figures w → AllIn alphabet.Location w
figures_in = wider alphabet.Figures alphabet.Location figure_by

numbers_in : {w ns : List ℕ} → Numbers w ns → AllIn alphabet.Location w
numbers_in (locations.last {w = w} i lt) = figures_in w (figures i)
numbers_in (locations.more {w = w} {rest = rest} i lt others) = append_in alphabet.Location w (46 ∷ rest) (figures_in w (figures i)) (rw dot_class refl, numbers_in others)

others_fit : (n : ℕ) (ns : List ℕ) → All (λ m. m < 2 ^ 32) (n ∷ ns) → All (λ m. m < 2 ^ 32) ns
others_fit n ns fit = λ k d lt. fit (suc k) d (omega (arith, lt))

-- the text of numbers is theirs
numbers_are : (n : ℕ) (ns : List ℕ) → All (λ m. m < 2 ^ 32) (n ∷ ns) → Numbers (numbers_text (n ∷ ns)) (n ∷ ns)
numbers_are n [] fit =
    let lt : n < 2 ^ 32 = fit 0 0 (omega arith) in
    let one : Numbers (decimal n) (n ∷ []) = locations.last (decimal_integer n (omega (arith, lt))) lt in
    subst (λ (w : List ℕ). Numbers w (n ∷ [])) (sym (append-nil (decimal n))) one
numbers_are n (m ∷ ms) fit =
    let lt : n < 2 ^ 32 = fit 0 0 (omega arith) in
    locations.more (decimal_integer n (omega (arith, lt))) lt (numbers_are m ms (others_fit n (m ∷ ms) fit))

-- ---- letters

-- the text is one letter of which P holds
record Letter (P : ℕ → Type 0) (text : List ℕ) : Type 0 where
  byte : ℕ
  is : text ≡ byte ∷ []
  inside : has alphabet.Location byte ≡ true
  plain : eqb byte 45 ≡ false
  holds : P byte

area_letter : (area : Area) → Letter (λ b. area_of b ≡ Some area) (area_text area)
unfolding class_of
area_letter Input = record { byte = 73; is = refl; inside = refl; plain = refl; holds = refl }
area_letter Output = record { byte = 81; is = refl; inside = refl; plain = refl; holds = refl }
area_letter Memory = record { byte = 77; is = refl; inside = refl; plain = refl; holds = refl }

size_letter : (size : Size) → Letter (λ b. size_of b ≡ Some size) (size_text size)
unfolding class_of
size_letter Bit = record { byte = 88; is = refl; inside = refl; plain = refl; holds = refl }
size_letter Byte = record { byte = 66; is = refl; inside = refl; plain = refl; holds = refl }
size_letter Word = record { byte = 87; is = refl; inside = refl; plain = refl; holds = refl }
size_letter DoubleWord = record { byte = 68; is = refl; inside = refl; plain = refl; holds = refl }
size_letter LongWord = record { byte = 76; is = refl; inside = refl; plain = refl; holds = refl }

-- ---- whole locations

percent_front : (rest : List ℕ) → Prefix kind.Location (codes "%") rest
unfolding class_of
percent_front rest = lexemes.percent refl

-- what stands behind `%`
record Behind (l : Location) (w : List ℕ) : Type 0 where
  location : IsLocation w l
  inside : AllIn alphabet.Location w
  plain : (rest : List ℕ) → is_minus (w ++ rest) ≡ false

behind_percent : (area : Area) (size : Size) (w ns : List ℕ) → Numbers w ns → length ns ≤ 8 → Behind (record { area = area; size = size; numbers = ns }) ((area_text area ++ size_text size) ++ w)
behind_percent area size w ns n few =
    let a = area_letter area in
    let s = size_letter size in
    let l : Location = record { area = area; size = size; numbers = ns } in
    let behind : Behind l (a.byte ∷ s.byte ∷ w) = record { location = locations.sized a.holds s.holds n few; inside = (a.inside, (s.inside, numbers_in n)); plain = λ rest. a.plain } in
    subst (λ (x : List ℕ). Behind l ((x ++ size_text size) ++ w)) (sym a.is) (subst (λ (x : List ℕ). Behind l (a.byte ∷ (x ++ w))) (sym s.is) behind)

place_spells : (area : Area) (size : Size) (ns rest : List ℕ) → AreNumbers ns → All (λ n. n < 2 ^ 32) ns → Ends alphabet.Location rest → Piece (codes "%" ++ ((area_text area ++ size_text size) ++ numbers_text ns)) rest (Some (token.Location (record { area = area; size = size; numbers = ns })))
place_spells area size [] rest are fit ends = absurd (omega (arith, are.some))
place_spells area size (n ∷ ns) rest are fit ends =
    let w : List ℕ = (area_text area ++ size_text size) ++ numbers_text (n ∷ ns) in
    let b = behind_percent area size (numbers_text (n ∷ ns)) (n ∷ ns) (numbers_are n ns fit) are.few in
    lexemes.literal false w (percent_front (w ++ rest)) (record { run = record { all = b.inside; longest = ends }; sign = λ e. b.plain rest }) (literals.location b.location)

pub location_spells : (l : Location) (rest : List ℕ) → AreNumbers l.numbers → All (λ n. n < 2 ^ 32) l.numbers → Ends alphabet.Location rest → Piece (location_text l) rest (Some (token.Location l))
location_spells l rest are fit ends = place_spells l.area l.size l.numbers rest are fit ends
