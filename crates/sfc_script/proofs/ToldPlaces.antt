-- Where the word stands that is told of a line.
use Rattle.std.proofs.Common.{◌≡◌, ℕ, suc, ◌+◌, Bool, true, false, not, ◌&&◌, ◌||◌, if◌then◌else◌, List, [], ◌∷◌, codes, Option, Some, None, MatchOption, refl, sym, ap, subst, ◌∙◌, ◌⊎◌, inl, inr, arith}
use Rattle.std.specs.Prelude.{⊤, is_none, is_some, option_and_then}
use Rattle.sfc_base.specs.Case.{same_word}
use Rattle.sfc_tokens.specs.Lexing.DurationWords.{duration_value}
use Rattle.sfc_script.specs.declared.line_fault.LineFault.{LineFault}
use Rattle.sfc_script.specs.declared.line_fault.LineFault.TheVariants.{Word, Condition}
use Rattle.sfc_script.specs.declared.wanted.Wanted.{Wanted}
use Rattle.sfc_script.specs.declared.wanted.Wanted.TheVariants as wanted
use Rattle.sfc_script.specs.Commands.{begins_comment}
use Rattle.sfc_script.specs.LineFaults as faults
use Rattle.sfc_script.specs.LineFaults.{behind_words, may_end, fits, IsWrongAt}
use Rattle.sfc_script.specs.Lines.{first_word}

abbrev Front : Type 0
Front = Option (List ℕ × List ℕ)

-- the word that is told, counted on from the first of these
abbrev IsAt : ℕ → List ℕ → Option LineFault → Type 0
IsAt base rest (Some (Word place w)) = (k : ℕ) × (place ≡ base + k) × IsWrongAt rest k w
IsAt base rest _ = ⊤

-- at the front
here : (base : ℕ) (rest : List ℕ) (w : Wanted) (o : Front) → first_word rest ≡ o → MatchOption o (may_end w ≡ false) (λ x. fits w x.0 ≡ false)
    → IsAt base rest (Some (Word base w))
here base rest w o e bad = (0, omega arith, (rest, refl, subst (λ o. MatchOption o (may_end w ≡ false) (λ x. fits w x.0 ≡ false)) (sym e) bad))

-- behind the first word
deeper : (base : ℕ) (rest : List ℕ) (x : List ℕ × List ℕ) (fault : Option LineFault) → first_word rest ≡ Some x → IsAt (suc base) x.1 fault → IsAt base rest fault
deeper base rest x None e at = tt
deeper base rest x (Some (Condition n)) e at = tt
deeper base rest x (Some (Word place w)) e (k, same, at) =
    (suc k, omega (arith, same), (at.0, ap (option_and_then (λ w. behind_words k w.1)) e ∙ at.1, at.2))

-- ---- words in a row

-- the line may end at none of them
abbrev goes_on : List Wanted → Bool
goes_on [] = true
goes_on (w ∷ ws) = not (may_end w) && goes_on ws

both : (a b : Bool) → not a && b ≡ true → (a ≡ false) × (b ≡ true)
both true b e = absurd cc
both false b e = (refl, e)

in_words : (base : ℕ) (ws : List Wanted) (rest : List ℕ) → goes_on ws ≡ true → IsAt base rest (faults.words_fault base ws rest)
in_words base [] rest g = by (first_word rest) refl
  where
    by : (o : Front) → first_word rest ≡ o → IsAt base rest (if is_none o then None else Some (Word base wanted.LineEnd))
    by None e = tt
    by (Some x) e = here base rest wanted.LineEnd (Some x) e refl
in_words base (w ∷ ws) rest g = by (λ x. in_words (suc base) ws x (both (may_end w) (goes_on ws) g).1) (first_word rest) refl
  where
    test : ((text : List ℕ) → IsAt (suc base) text (faults.words_fault (suc base) ws text)) → (x : List ℕ × List ℕ) (b : Bool) → first_word rest ≡ Some x → fits w x.0 ≡ b
        → IsAt base rest (if b then faults.words_fault (suc base) ws x.1 else Some (Word base w))
    test later x true e f = deeper base rest x (faults.words_fault (suc base) ws x.1) e (later x.1)
    test later x false e f = here base rest w (Some x) e f

    by : ((text : List ℕ) → IsAt (suc base) text (faults.words_fault (suc base) ws text)) → (o : Front) → first_word rest ≡ o
        → IsAt base rest (faults.on_word (Word base w) (λ f. if fits w f.0 then faults.words_fault (suc base) ws f.1 else Some (Word base w)) o)
    by later None e = here base rest w None e (both (may_end w) (goes_on ws) g).0
    by later (Some x) e = test later x (fits w x.0) e refl

-- ---- points

behind : (may : Bool) (rest : List ℕ) → IsAt 5 rest (faults.behind_point may (first_word rest))
behind may rest = by may (first_word rest) refl
  where
    test : (x : List ℕ × List ℕ) (b : Bool) → first_word rest ≡ Some x → same_word x.0 (codes "WHEN") ≡ b → IsAt 5 rest (if b then Some (Condition 6) else Some (Word 5 wanted.When))
    test x true e f = tt
    test x false e f = here 5 rest wanted.When (Some x) e f

    by : (may : Bool) (o : Front) → first_word rest ≡ o → IsAt 5 rest (faults.behind_point may o)
    by true None e = tt
    by false None e = tt
    by true (Some x) e = test x (same_word x.0 (codes "WHEN")) e refl
    by false (Some x) e = here 5 rest wanted.LineEnd (Some x) e refl

point : (may : Bool) (kind rest : List ℕ) → IsAt 4 rest (faults.point_fault may kind rest)
point may kind rest = by (first_word rest) refl
  where
    name : (w : Wanted) (x : List ℕ × List ℕ) (b : Bool) → first_word rest ≡ Some x → ((w ≡ wanted.PointName) ⊎ (w ≡ wanted.TransitionNumber)) → fits w x.0 ≡ b
        → IsAt 4 rest (if b then faults.behind_point may (first_word x.1) else Some (Word 4 wanted.TransitionNumber))
    name w x true e d f = deeper 4 rest x (faults.behind_point may (first_word x.1)) e (behind may x.1)
    name w x false e (inl d) f = absurd (let bad : true ≡ false = sym (ap (λ w. fits w x.0) d) ∙ f in cc)
    name w x false e (inr d) f = here 4 rest wanted.TransitionNumber (Some x) e (sym (ap (λ w. fits w x.0) d) ∙ f)

    which : (a b : Bool) → ((if a then wanted.PointName else if b then wanted.PointName else wanted.TransitionNumber) ≡ wanted.PointName)
        ⊎ ((if a then wanted.PointName else if b then wanted.PointName else wanted.TransitionNumber) ≡ wanted.TransitionNumber)
    which true b = inl refl
    which false true = inl refl
    which false false = inr refl

    by : (o : Front) → first_word rest ≡ o → IsAt 4 rest (faults.on_word (Word 4 wanted.PointName)
        (λ n. if fits (faults.point_wanted kind) n.0 then faults.behind_point may (first_word n.1) else Some (Word 4 wanted.TransitionNumber)) o)
    by None e = here 4 rest wanted.PointName None e refl
    by (Some x) e = name (faults.point_wanted kind) x (fits (faults.point_wanted kind) x.0) e (which (same_word kind (codes "STEP")) (same_word kind (codes "ACTION"))) refl

kind : (may : Bool) (rest : List ℕ) → IsAt 3 rest (faults.kind_fault may rest)
kind may rest = by (first_word rest) refl
  where
    test : (x : List ℕ × List ℕ) (b : Bool) → first_word rest ≡ Some x → faults.is_point_kind x.0 ≡ b → IsAt 3 rest (if b then faults.point_fault may x.0 x.1 else Some (Word 3 wanted.PointKind))
    test x true e f = deeper 3 rest x (faults.point_fault may x.0 x.1) e (point may x.0 x.1)
    test x false e f = here 3 rest wanted.PointKind (Some x) e f

    by : (o : Front) → first_word rest ≡ o → IsAt 3 rest (faults.on_word (Word 3 wanted.PointKind)
        (λ k. if faults.is_point_kind k.0 then faults.point_fault may k.0 k.1 else Some (Word 3 wanted.PointKind)) o)
    by None e = here 3 rest wanted.PointKind None e refl
    by (Some x) e = test x (faults.is_point_kind x.0) e refl

place : (may : Bool) (rest : List ℕ) → IsAt 2 rest (faults.place_fault may rest)
place may rest = by (first_word rest) refl
  where
    by : (o : Front) → first_word rest ≡ o → IsAt 2 rest (faults.on_word (Word 2 wanted.Program) (λ p. faults.kind_fault may p.1) o)
    by None e = here 2 rest wanted.Program None e refl
    by (Some x) e = deeper 2 rest x (faults.kind_fault may x.1) e (kind may x.1)

-- ---- lines

abbrev GoOn : Option (List Wanted) → Type 0
GoOn o = MatchOption o ⊤ (λ ws. goes_on ws ≡ true)

chosen : (b : Bool) (v w : Option (List Wanted)) → GoOn v → GoOn w → GoOn (if b then v else w)
chosen true v w x y = x
chosen false v w x y = y

go_on : (keyword : List ℕ) → GoOn (faults.words_behind keyword)
go_on keyword =
    chosen (same_word keyword (codes "SCAN")) (Some (wanted.Task ∷ [])) _ refl
    (chosen (same_word keyword (codes "INPUT") || same_word keyword (codes "FORCE")) (Some (wanted.Variable ∷ wanted.Value ∷ [])) _ refl
    (chosen (same_word keyword (codes "RELEASE")) (Some (wanted.Variable ∷ [])) _ refl
    (chosen (same_word keyword (codes "RESET")) (Some (wanted.Program ∷ [])) _ refl
    (chosen (same_word keyword (codes "READ")) (Some (wanted.Variable ∷ [])) _ refl
    (chosen (same_word keyword (codes "BREAK") || same_word keyword (codes "UNBREAK")) (Some (wanted.Program ∷ wanted.PointKind ∷ wanted.PointName ∷ [])) _ refl
    (chosen (same_word keyword (codes "SINGLE")) (Some (wanted.Task ∷ wanted.Duration ∷ [])) _ refl
    (chosen (faults.is_bare keyword) (Some []) None refl tt)))))))

command : (text : List ℕ) (x : List ℕ × List ℕ) → first_word text ≡ Some x → IsAt 1 text (faults.command_fault x.0 x.1)
command text x e = by (same_word x.0 (codes "BREAK")) (same_word x.0 (codes "UNBREAK"))
  where
    words : (o : Option (List Wanted)) → faults.words_behind x.0 ≡ o → GoOn o → IsAt 1 text (faults.by_words o x.1)
    words None f g = here 1 text wanted.Command (Some x) e (ap is_some f)
    words (Some ws) f g = deeper 1 text x (faults.words_fault 2 ws x.1) e (in_words 2 ws x.1 g)

    by : (b u : Bool) → IsAt 1 text (if b then faults.place_fault true x.1 else if u then faults.place_fault false x.1 else faults.by_words (faults.words_behind x.0) x.1)
    by true u = deeper 1 text x (faults.place_fault true x.1) e (place true x.1)
    by false true = deeper 1 text x (faults.place_fault false x.1) e (place false x.1)
    by false false = words (faults.words_behind x.0) refl (go_on x.0)

at_line : (line : List ℕ) → IsAt 0 line (faults.line_fault line)
at_line line = by (first_word line) refl
  where
    text : (rest : List ℕ) (o : Front) → first_word rest ≡ o → IsAt 1 rest (faults.on_word (Word 1 wanted.Command) (λ c. faults.command_fault c.0 c.1) o)
    text rest None e = here 1 rest wanted.Command None e refl
    text rest (Some x) e = command rest x e

    mark : (x : List ℕ × List ℕ) (b : Bool) → first_word line ≡ Some x → is_some (duration_value x.0) ≡ false → faults.begins_with_mark x.0 ≡ b
        → IsAt 0 line (if b then Some (Word 0 wanted.NoMark) else Some (Word 0 wanted.Instant))
    mark x true e f g = here 0 line wanted.NoMark (Some x) e (ap not g)
    mark x false e f g = here 0 line wanted.Instant (Some x) e f

    instant : (x : List ℕ × List ℕ) (b : Bool) → first_word line ≡ Some x → is_some (duration_value x.0) ≡ b
        → IsAt 0 line (if b then faults.on_word (Word 1 wanted.Command) (λ c. faults.command_fault c.0 c.1) (first_word x.1)
        else if faults.begins_with_mark x.0 then Some (Word 0 wanted.NoMark) else Some (Word 0 wanted.Instant))
    instant x true e f = deeper 0 line x (faults.on_word (Word 1 wanted.Command) (λ c. faults.command_fault c.0 c.1) (first_word x.1)) e (text x.1 (first_word x.1) refl)
    instant x false e f = mark x (faults.begins_with_mark x.0) e f refl

    comment : (x : List ℕ × List ℕ) (b : Bool) → first_word line ≡ Some x → IsAt 0 line (if b then None else faults.instant_fault x.0 x.1)
    comment x true e = tt
    comment x false e = instant x (is_some (duration_value x.0)) e refl

    by : (o : Front) → first_word line ≡ o → IsAt 0 line (faults.fault_behind o)
    by None e = tt
    by (Some x) e = comment x (begins_comment x.0) e

pub wrong_there : (line : List ℕ) (p : ℕ) (w : Wanted) → faults.line_fault line ≡ Some (Word p w) → IsWrongAt line p w
wrong_there line p w e = by (subst (IsAt 0 line) e (at_line line))
  where
    by : (k : ℕ) × (p ≡ 0 + k) × IsWrongAt line k w → IsWrongAt line p w
    by (k, same, at) = subst (λ k. IsWrongAt line k w) (omega (arith, same)) at
