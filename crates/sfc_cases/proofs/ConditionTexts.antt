-- What a text is read as, by whatever reader.
use Rattle.std.proofs.Common.{◌≡◌, ◌∙◌, refl, sym, ap, ℕ, List, ◌+◌, ◌-◌, ◌<◌, [], ◌∷◌, length, None, Ok, Err}
use Rattle.std.specs.List.{range_with_len}
use Rattle.std.specs.Option.{option_or}
use Rattle.sfc_base.specs.declared.ids.ProgId.{ProgId}
use Rattle.sfc_events.specs.declared.read_error.ReadErrorKind.{ReadErrorKind}
use Rattle.sfc_events.specs.declared.read_error.ReadErrorKind.TheVariants as kinds
use Rattle.sfc_events.specs.ReadErrors.{Read}
use Rattle.sfc_plant.specs.Plants.{PlantData}
use Rattle.sfc_tokens.specs.Texts.{FindsError}
use Rattle.sfc_text.specs.Reads.{AreOne, ExpressionReads}
use Rattle.sfc_text.specs.Trees.{Tree}
use Rattle.sfc_cases.specs.Conditions.{condition_by, if_shared, shared, shared_among}
use Rattle.sfc_cases.proofs.Numbers.{unrolled}

-- a tree is one tree
pub one_tree : (tree : Tree) (r : Read Tree) → AreOne (Ok tree) r → r ≡ Ok tree
one_tree tree (Ok other) same = ap (λ t. Ok t) (sym same)
one_tree tree (Err kind) same = absurd same

no_tree : (plant : PlantData) (p : ProgId) (kind : ReadErrorKind) (r : Read Tree) → AreOne (Err kind) r → condition_by plant p r ≡ None
no_tree plant p kind (Ok tree) same = absurd same
no_tree plant p kind (Err other) same = refl

-- a text that is told to be none
pub not_read : (plant : PlantData) (p : ProgId) (kind : ReadErrorKind) (r : Read Tree) → ((kind ≡ kinds.Memory) → ⊥)
    → FindsError kind (λ o. AreOne o r) → condition_by plant p r ≡ None
not_read plant p kinds.TooLong r other same = no_tree plant p kinds.TooLong r same
not_read plant p kinds.NotAscii r other same = no_tree plant p kinds.NotAscii r same
not_read plant p kinds.BadToken r other same = no_tree plant p kinds.BadToken r same
not_read plant p kinds.Syntax r other same = no_tree plant p kinds.Syntax r same
not_read plant p kinds.TooDeep r other same = no_tree plant p kinds.TooDeep r same
not_read plant p kinds.BadDuration r other same = no_tree plant p kinds.BadDuration r same
not_read plant p kinds.BadNumber r other same = no_tree plant p kinds.BadNumber r same
not_read plant p kinds.Memory r other same = absurd (other refl)

-- one of which no condition of global variables is made
no_condition : (plant : PlantData) (kind : ReadErrorKind) (r : Read Tree) → AreOne (Err kind) r → (ps : List ℕ) → shared_among plant r ps ≡ None
no_condition plant kind (Ok tree) same ps = absurd same
no_condition plant kind (Err other) same [] = refl
no_condition plant kind (Err other) same (p ∷ ps) = no_condition plant kind (Err other) same ps

pub not_shared : (plant : PlantData) (kind : ReadErrorKind) (r : Read Tree) → ((kind ≡ kinds.Memory) → ⊥) → FindsError kind (λ o. AreOne o r)
    → shared plant r ≡ None
not_shared plant kinds.TooLong r other same = no_condition plant kinds.TooLong r same (range_with_len 0 (length plant.instances))
not_shared plant kinds.NotAscii r other same = no_condition plant kinds.NotAscii r same (range_with_len 0 (length plant.instances))
not_shared plant kinds.BadToken r other same = no_condition plant kinds.BadToken r same (range_with_len 0 (length plant.instances))
not_shared plant kinds.Syntax r other same = no_condition plant kinds.Syntax r same (range_with_len 0 (length plant.instances))
not_shared plant kinds.TooDeep r other same = no_condition plant kinds.TooDeep r same (range_with_len 0 (length plant.instances))
not_shared plant kinds.BadDuration r other same = no_condition plant kinds.BadDuration r same (range_with_len 0 (length plant.instances))
not_shared plant kinds.BadNumber r other same = no_condition plant kinds.BadNumber r same (range_with_len 0 (length plant.instances))
not_shared plant kinds.Memory r other same = absurd (other refl)

-- one instance makes none, and the others decide
pub next_shared : (plant : PlantData) (tree : Read Tree) (k n : ℕ) → k < n → if_shared (condition_by plant (record { 0 = k }) tree) ≡ None
    → shared_among plant tree (range_with_len k (n - k)) ≡ shared_among plant tree (range_with_len (k + 1) (n - (k + 1)))
next_shared plant tree k n less none =
    ap (shared_among plant tree) (unrolled k n less) ∙ ap (λ o. option_or o (shared_among plant tree (range_with_len (k + 1) (n - (k + 1))))) none

-- what is told of it is of each reader's outcome
pub told_as : (text : List ℕ) (r : Read Tree) (kind : ReadErrorKind)
    → ((o : Read Tree) → ExpressionReads text o → AreOne o r) → FindsError kind (λ o. ExpressionReads text o) → FindsError kind (λ o. AreOne o r)
told_as text r kinds.TooLong law told = law (Err kinds.TooLong) told
told_as text r kinds.NotAscii law told = law (Err kinds.NotAscii) told
told_as text r kinds.BadToken law told = law (Err kinds.BadToken) told
told_as text r kinds.Syntax law told = law (Err kinds.Syntax) told
told_as text r kinds.TooDeep law told = law (Err kinds.TooDeep) told
told_as text r kinds.BadDuration law told = law (Err kinds.BadDuration) told
told_as text r kinds.BadNumber law told = law (Err kinds.BadNumber) told
told_as text r kinds.Memory law told = tt
