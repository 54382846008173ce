-- The cases of a file, one by one.
use Rattle.std.proofs.Common.{◌≡◌, ℕ, List, [], ◌∷◌, ◌++◌, Bool, true, false, refl, sym, ap, ◌∙◌}
use Rattle.std.proofs.lemmas.List.{append-nil}
use Rattle.sfc_cases.specs.Files.{before_test, begins_by, begins_case, own_cases}
use Rattle.sfc_cases.specs.declared.deed.Deed.{Deed}
use Rattle.sfc_cases.specs.declared.deed.Deed.TheVariants as deeds
use Rattle.sfc_cases.specs.declared.line.Line.{Line}
use Rattle.sfc_test.specs.Cases.{names_by, names_in, titled}
use Rattle.sfc_test.specs.Running.{titled_behind}

-- ---- a line

no_name : (deed : Deed) → begins_by deed ≡ false → names_by deed ≡ []
no_name (deeds.Begins name) e = cc
no_name (deeds.Gives command) e = refl
no_name (deeds.Refuses n command) e = refl
no_name (deeds.Runs until limit) e = refl
no_name (deeds.Expects condition) e = refl
no_name (deeds.Active p steps) e = refl
no_name (deeds.Faulted fault p) e = refl
no_name (deeds.Overran n task) e = refl
no_name (deeds.Watches watch) e = refl
no_name (deeds.Stirs stimulus) e = refl

a_name : (deed : Deed) → begins_by deed ≡ true → (name : List ℕ) × (names_by deed ≡ name ∷ [])
a_name (deeds.Begins name) e = (name, refl)
a_name (deeds.Gives command) e = cc
a_name (deeds.Refuses n command) e = cc
a_name (deeds.Runs until limit) e = cc
a_name (deeds.Expects condition) e = cc
a_name (deeds.Active p steps) e = cc
a_name (deeds.Faulted fault p) e = cc
a_name (deeds.Overran n task) e = cc
a_name (deeds.Watches watch) e = cc
a_name (deeds.Stirs stimulus) e = cc

-- one that begins no case, and one that does
pub behind_other : (front : List Line) (line : Line) (others : List Line) → names_by line.deed ≡ [] → begins_case line ≡ false
    → titled_behind front (line ∷ others) ≡ titled_behind front others
behind_other front line others none e = rw (none, e) refl

pub behind_test : (front : List Line) (line : Line) (others : List Line) (title : List ℕ) → names_by line.deed ≡ title ∷ []
    → begins_case line ≡ true
    → titled_behind front (line ∷ others) ≡ record { title = title; lines = front ++ before_test others } ∷ titled_behind front others
behind_test front line others title name e = rw (name, e) refl

-- ---- what stands before the first TEST

over_by : (line : Line) (lines rest : List Line) (b : Bool) → begins_case line ≡ b → before_test (line ∷ lines) ++ rest ≡ line ∷ lines
    → (before_test lines ++ rest ≡ lines → (names_in lines ≡ names_in rest) × (own_cases lines ≡ own_cases rest))
    → (names_in (line ∷ lines) ≡ names_in rest) × (own_cases (line ∷ lines) ≡ own_cases rest)
over_by line lines rest true begins e more =
    let whole : rest ≡ line ∷ lines = rw begins at e in
    (ap names_in (sym whole), ap own_cases (sym whole))
over_by line lines rest false begins e more =
    let split : line ∷ (before_test lines ++ rest) ≡ line ∷ lines = rw begins at e in
    let tail : before_test lines ++ rest ≡ lines = cc in
    let over = more tail in
    (ap (λ names. names ++ names_in lines) (no_name line.deed begins) ∙ over.0, rw begins over.1)

-- no case begins there
passed_over : (lines rest : List Line) → before_test lines ++ rest ≡ lines → (names_in lines ≡ names_in rest) × (own_cases lines ≡ own_cases rest)
passed_over [] rest e = (ap names_in (sym e), ap own_cases (sym e))
passed_over (line ∷ lines) rest e = over_by line lines rest (begins_case line) refl e (passed_over lines rest)

begins_by_first : (first : Line) (lines rest : List Line) (line : Line) (b : Bool) → begins_case first ≡ b
    → before_test (first ∷ lines) ++ line ∷ rest ≡ first ∷ lines → (before_test lines ++ line ∷ rest ≡ lines → begins_case line ≡ true)
    → begins_case line ≡ true
begins_by_first first lines rest line true begins e more =
    let whole : line ∷ rest ≡ first ∷ lines = rw begins at e in
    let same : line ≡ first = cc in
    ap begins_case same ∙ begins
begins_by_first first lines rest line false begins e more =
    let split : first ∷ (before_test lines ++ line ∷ rest) ≡ first ∷ lines = rw begins at e in
    let tail : before_test lines ++ line ∷ rest ≡ lines = cc in
    more tail

-- behind it the next begins
next_begins : (lines rest : List Line) (line : Line) → before_test lines ++ line ∷ rest ≡ lines → begins_case line ≡ true
next_begins [] rest line e = cc
next_begins (first ∷ lines) rest line e = begins_by_first first lines rest line (begins_case first) refl e (next_begins lines rest line)

-- where nothing stands behind it, the file is the one case
pub one_case : (file : List ℕ) (lines rest : List Line) → before_test lines ++ rest ≡ lines → rest ≡ []
    → titled file lines ≡ record { title = file; lines = lines } ∷ []
one_case file lines rest e none =
    let over = passed_over lines rest e in
    let names : names_in lines ≡ [] = over.0 ∙ ap names_in none in
    let own : own_cases lines ≡ [] = over.1 ∙ ap own_cases none in
    let front : before_test lines ≡ lines = sym (append-nil (before_test lines)) ∙ ap (λ x. before_test lines ++ x) (sym none) ∙ e in
    rw (names, own) (ap (λ x. record { title = file; lines = x } ∷ []) front)

-- else its cases are those that begin with TEST
pub named_cases : (file : List ℕ) (lines rest : List Line) (line : Line) (others : List Line) → before_test lines ++ rest ≡ lines
    → rest ≡ line ∷ others → titled file lines ≡ titled_behind (before_test lines) rest
named_cases file lines rest line others e some =
    let over = passed_over lines rest e in
    let begins = next_begins lines others line (ap (λ x. before_test lines ++ x) (sym some) ∙ e) in
    let name = a_name line.deed begins in
    let names : names_in rest ≡ name.0 ∷ names_in others = ap names_in some ∙ ap (λ x. x ++ names_in others) name.1 in
    let own : own_cases rest ≡ before_test others ∷ own_cases others = ap own_cases some ∙ rw begins refl in
    rw (over.0, over.1, names, own) refl
