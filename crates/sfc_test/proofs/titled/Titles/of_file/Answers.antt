use Rattle.std.proofs.Common.{◌≡◌, ◌==◌, ◌++◌, ◌∷◌, [], ℕ, List, Bool, true, false, length, refl, ap, subst, sym, ◌∙◌}
use Rattle.std.proofs.lemmas.Bool.{eqb-true}
use Rattle.std.proofs.lemmas.List.{nil_from_length}
use Rattle.sfc_cases.specs.Files.{before_test}
use Rattle.sfc_cases.specs.declared.line.Line.{Line}
use Rattle.sfc_test.specs.Cases.{TitledCase, titled}
use Rattle.sfc_test.specs.Running.{titled_behind}
use Rattle.sfc_test.proofs.CasesLeft.{named_cases, one_case}
use Rattle.sfc_test.proofs.titled.Titles.of_file.Goals as goal

whole : (file : List ℕ) (lines front rest : List Line) → front ≡ before_test lines → front ++ rest ≡ lines → rest ≡ []
    → ◌≡◌ {A = List TitledCase} (record { title = file; lines = front ++ rest } ∷ []) (titled file lines)
whole file lines front rest e all none =
    ap (λ x. record { title = file; lines = x } ∷ []) all ∙ sym (one_case file lines rest (subst (λ x. x ++ rest ≡ lines) e all) none)

named : (file : List ℕ) (lines front rest : List Line) → front ≡ before_test lines → front ++ rest ≡ lines → (rest ≡ [] → ⊥)
    → titled_behind front rest ≡ titled file lines
named file lines front [] e all some = absurd (some refl)
named file lines front (line ∷ others) e all some =
    ap (λ x. titled_behind x (line ∷ others)) e
    ∙ sym (named_cases file lines (line ∷ others) line others (subst (λ x. x ++ line ∷ others ≡ lines) e all) refl)

none_left : (rest : List Line) (b : Bool) → b ≡ (length rest == 0) → b ≡ true → rest ≡ []
none_left rest b e is = nil_from_length rest (eqb-true (length rest) 0 (sym e ∙ is))

some_left : (rest : List Line) (b : Bool) → b ≡ (length rest == 0) → b ≡ false → rest ≡ [] → ⊥
some_left [] b e is none = cc
some_left (line ∷ others) b e is none = cc

pub returns-then-is_empty : goal.returns-then-is_empty
returns-then-is_empty c =
    whole c.args.file.now c.args.lines.now c.split_test.result.0.now c.split_test.result.1.now c.split_test.ensures.front c.split_test.ensures.whole
    (none_left c.split_test.result.1.now c.is_empty.result c.is_empty.ensures c.if-is_empty.true)

pub returns : goal.returns
returns c =
    named c.args.file.now c.args.lines.now c.split_test.result.0.now c.split_test.result.1.now c.split_test.ensures.front c.split_test.ensures.whole
    (some_left c.split_test.result.1.now c.is_empty.result c.is_empty.ensures c.if-is_empty.false)
