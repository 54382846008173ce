-- Lines.
use Rattle.std.proofs.Common.{◌≡◌, ℕ, ◌<◌, ◌==◌, length, arith, Bool, true, false, not, ◌&&◌, Option, Some, None, if◌then◌else◌, List, [], ◌∷◌, ◌++◌, refl, sym, ap, ◌∙◌}
use Rattle.sfc_frames.specs.Frames.{is_plain}
use Rattle.sfc_frames.specs.Heads.{is_end, line_of, onto}

-- the line, with these bytes before it
abbrev pub behind : List ℕ → Option (List ℕ × List ℕ) → Option (List ℕ × List ℕ)
behind front None = None
behind front (Some (line, rest)) = Some (front ++ line, rest)

pub line_ends : (b : ℕ) (bytes : List ℕ) → (b == 10) ≡ true → line_of (b ∷ bytes) ≡ Some ([], bytes)
unfolding line_of
line_ends b bytes e = ap (λ t. if t then Some ([], bytes) else onto b (line_of bytes)) e

pub line_goes_on : (b : ℕ) (bytes : List ℕ) → (b == 10) ≡ false → line_of (b ∷ bytes) ≡ onto b (line_of bytes)
unfolding line_of
line_goes_on b bytes e = ap (λ t. if t then Some ([], bytes) else onto b (line_of bytes)) e

pub no_line : line_of [] ≡ None
unfolding line_of
no_line = refl

onto_behind : (b : ℕ) (front : List ℕ) (o : Option (List ℕ × List ℕ)) → onto b (behind front o) ≡ behind (b ∷ front) o
onto_behind b front None = refl
onto_behind b front (Some (line, rest)) = refl

-- what a line is and what stands behind it
abbrev line_in : Option (List ℕ × List ℕ) → List ℕ
line_in None = []
line_in (Some (line, rest)) = line

abbrev rest_in : Option (List ℕ × List ℕ) → List ℕ
rest_in None = []
rest_in (Some (line, rest)) = rest

abbrev is_there : Option (List ℕ × List ℕ) → Bool
is_there None = false
is_there (Some pair) = true

not_there : {Z : Type 0} (o : Option (List ℕ × List ℕ)) (line rest : List ℕ) → o ≡ None → o ≡ Some (line, rest) → Z
not_there o line rest none some = let bad : false ≡ true = sym (ap is_there none) ∙ ap is_there some in cc

-- a line that has its end has it whatever comes behind
pub line_stays : (bytes more line rest : List ℕ) → line_of bytes ≡ Some (line, rest) → line_of (bytes ++ more) ≡ Some (line, rest ++ more)
line_stays [] more line rest e = not_there (line_of []) line rest no_line e
line_stays (b ∷ bytes) more line rest e = by (λ l f. line_stays bytes more l rest f) (b == 10) refl
  where
    tail : ((l : List ℕ) → line_of bytes ≡ Some (l, rest) → line_of (bytes ++ more) ≡ Some (l, rest ++ more)) → (b == 10) ≡ false
        → (o : Option (List ℕ × List ℕ)) → line_of bytes ≡ o → line_of (b ∷ bytes ++ more) ≡ Some (line, rest ++ more)
    tail again f None g = not_there (line_of (b ∷ bytes)) line rest (line_goes_on b bytes f ∙ ap (onto b) g) e
    tail again f (Some (l, r)) g =
        let whole : line_of (b ∷ bytes) ≡ Some (b ∷ l, r) = line_goes_on b bytes f ∙ ap (onto b) g in
        let same : r ≡ rest = sym (ap rest_in whole) ∙ ap rest_in e in
        let front : b ∷ l ≡ line = sym (ap line_in whole) ∙ ap line_in e in
        let here : line_of bytes ≡ Some (l, rest) = g ∙ ap (λ x. Some (l, x)) same in
        line_goes_on b (bytes ++ more) f ∙ ap (onto b) (again l here) ∙ ap (λ x. Some (x, rest ++ more)) front

    by : ((l : List ℕ) → line_of bytes ≡ Some (l, rest) → line_of (bytes ++ more) ≡ Some (l, rest ++ more)) → (t : Bool) → (b == 10) ≡ t → line_of (b ∷ bytes ++ more) ≡ Some (line, rest ++ more)
    by again true f =
        let whole : line_of (b ∷ bytes) ≡ Some ([], bytes) = line_ends b bytes f in
        let same : bytes ≡ rest = sym (ap rest_in whole) ∙ ap rest_in e in
        let front : [] ≡ line = sym (ap line_in whole) ∙ ap line_in e in
        line_ends b (bytes ++ more) f ∙ ap (λ x. Some (x, bytes ++ more)) front ∙ ap (λ x. Some (line, x ++ more)) same
    by again false f = tail again f (line_of bytes) refl

-- bytes without an end of a line stand before what comes
pub line_comes : (bytes more : List ℕ) → line_of bytes ≡ None → line_of (bytes ++ more) ≡ behind bytes (line_of more)
line_comes [] more e = by (line_of more) refl
  where
    by : (o : Option (List ℕ × List ℕ)) → line_of more ≡ o → line_of more ≡ behind [] (line_of more)
    by None g = rw g refl
    by (Some (l, r)) g = rw g refl
line_comes (b ∷ bytes) more e = by (λ f. line_comes bytes more f) (b == 10) refl
  where
    none : (b == 10) ≡ false → (o : Option (List ℕ × List ℕ)) → line_of bytes ≡ o → line_of bytes ≡ None
    none f None g = g
    none f (Some (l, r)) g = not_there (line_of (b ∷ bytes)) (b ∷ l) r e (line_goes_on b bytes f ∙ ap (onto b) g)

    by : (line_of bytes ≡ None → line_of (bytes ++ more) ≡ behind bytes (line_of more)) → (t : Bool) → (b == 10) ≡ t → line_of (b ∷ bytes ++ more) ≡ behind (b ∷ bytes) (line_of more)
    by again true f = not_there (line_of (b ∷ bytes)) [] bytes e (line_ends b bytes f)
    by again false f = line_goes_on b (bytes ++ more) f ∙ ap (onto b) (again (none f (line_of bytes) refl)) ∙ onto_behind b bytes (line_of more)

-- bytes without an LF, and an LF, are a line
pub line_written : (line rest : List ℕ) → is_plain line ≡ true → line_of (line ++ 10 ∷ rest) ≡ Some (line, rest)
line_written [] rest e = line_ends 10 rest refl
line_written (b ∷ line) rest e = by (line_written line rest) (b == 10) refl
  where
    by : (is_plain line ≡ true → line_of (line ++ 10 ∷ rest) ≡ Some (line, rest)) → (t : Bool) → (b == 10) ≡ t → line_of (b ∷ line ++ 10 ∷ rest) ≡ Some (b ∷ line, rest)
    by again true f = let bad : false ≡ true = sym (ap (λ t. not t && is_plain line) f) ∙ e in cc
    by again false f = line_goes_on b (line ++ 10 ∷ rest) f ∙ ap (onto b) (again (sym (ap (λ t. not t && is_plain line) f) ∙ e))

-- a line with its CR
pub plain_ends : (line : List ℕ) → is_plain line ≡ true → is_plain (line ++ 13 ∷ []) ≡ true
plain_ends [] e = refl
plain_ends (b ∷ line) e = by (plain_ends line) (b == 10) refl
  where
    by : (is_plain line ≡ true → is_plain (line ++ 13 ∷ []) ≡ true) → (t : Bool) → (b == 10) ≡ t → is_plain (b ∷ line ++ 13 ∷ []) ≡ true
    by again true f = let bad : false ≡ true = sym (ap (λ t. not t && is_plain line) f) ∙ e in cc
    by again false f = ap (λ t. not t && is_plain (line ++ 13 ∷ [])) f ∙ again (sym (ap (λ t. not t && is_plain line) f) ∙ e)

pub no_end : (line : List ℕ) → 0 < length line → is_end (line ++ 13 ∷ []) ≡ false
no_end [] h = absurd (omega arith)
no_end (c ∷ []) h = refl
no_end (c ∷ d ∷ line) h = refl
