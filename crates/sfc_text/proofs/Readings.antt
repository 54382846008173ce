-- The outcome of a text that is read.
use Rattle.std.proofs.Common.{◌≡◌, ◌⊎◌, inl, inr, true, ℕ, ◌≤◌, length, List, [], ◌∷◌, Ok, Err, refl, sym, ap, subst, ◌∙◌, arith}
use Rattle.sfc_events.specs.declared.read_error.ReadErrorKind.{ReadErrorKind}
use Rattle.sfc_events.specs.declared.read_error.ReadErrorKind.TheVariants as kind
use Rattle.sfc_tokens.specs.Texts.{TextLexes, FindsError}
use Rattle.sfc_tokens.specs.declared.token.Token.{Token}
use Rattle.sfc_tokens.specs.Tokens.{Kinds, kinds}
use Rattle.sfc_text.specs.declared.parse.fault.ParseFault.{ParseFault}
use Rattle.sfc_text.specs.declared.parse.fault.ParseFault.TheVariants as fault
use Rattle.sfc_tokens.specs.Lexemes.{Tokens}
use Rattle.sfc_events.specs.ReadErrors as errors
use Rattle.sfc_tokens.proofs.Outcomes.{one_outcome, some_outcome}
use Rattle.sfc_text.specs.Rules.{Rule}
use Rattle.sfc_text.specs.Limits.{Limits, ours}
use Rattle.sfc_text.specs.Reads as reads
use Rattle.sfc_text.specs.Reads.{IsWhole, Outcome, AreOne}
use Rattle.sfc_text.specs.Parsing.Lookahead.{fine}
use Rattle.sfc_text.specs.Parsing.Reading.{Read, Syntax, TooDeep, Fails, IsSyntax, ended}
use Rattle.sfc_text.specs.Parsing.Telling.{kind_of}
use Rattle.sfc_text.proofs.Whole.{within, one_tree as whole_one, read_derives, no_tree, refused, no_longer_tree}

pub faults : {X : Type 0} (r : Rule X) (k : ReadErrorKind) (text : List ℕ) → FindsError {Y = Kinds} k (λ o. TextLexes text o)
    → FindsError {Y = X} k (λ o. Outcome r text o)
faults r kind.Memory text h = tt
faults r kind.TooLong text h = reads.fault h
faults r kind.NotAscii text h = reads.fault h
faults r kind.BadToken text h = reads.fault h
faults r kind.Syntax text h = reads.fault h
faults r kind.TooDeep text h = reads.fault h
faults r kind.BadDuration text h = reads.fault h
faults r kind.BadNumber text h = reads.fault h

ended_ok : {X : Type 0} (r : Read (X × Kinds)) (t : X) → ended r ≡ Ok t → r ≡ Ok (t, [])
ended_ok (Ok (x, [])) t e = let same : x ≡ t = cc in ap (λ (y : _). Ok (y, [])) same
ended_ok (Ok (x, u ∷ us)) t e = absurd cc
ended_ok (Err d) t e = absurd cc

pub tree : {X : Type 0} (r : Rule X) (text : List ℕ) (ts : Kinds) (t : X) → TextLexes text (Ok ts)
    → ended (within ours r ts) ≡ Ok t → Outcome r text (Ok t)
tree r text ts t h e = reads.tree h (read_derives r ours ts (t, []) (ended_ok (within ours r ts) t e))

syntax_error : {X : Type 0} (r : Rule X) → fine r ≡ true → (text : List ℕ) (ts : Kinds) → TextLexes text (Ok ts)
    → ended (within ours r ts) ≡ Err Syntax → Outcome r text (Err kind.Syntax)
syntax_error {X = X} r ok text ts h e = reads.syntax_error h (λ limits t g. by_read limits t g (within ours r ts) refl e)
  where
    by_read : (limits : Limits) (t : X) → IsWhole r limits ts t → (q : Read (X × Kinds)) → within ours r ts ≡ q
        → ended q ≡ Err Syntax → ⊥
    by_read limits t g (Ok (x, [])) is e = absurd cc
    by_read limits t g (Ok (x, u ∷ us)) is e = let none = no_longer_tree r ok ours limits ts (x, u ∷ us) t is g in absurd cc
    by_read limits t g (Err Syntax) is e = no_tree r ok ours limits ts t is g
    by_read limits t g (Err TooDeep) is e = absurd cc

too_deep : {X : Type 0} (r : Rule X) → fine r ≡ true → (text : List ℕ) (ts : Kinds) → TextLexes text (Ok ts)
    → (ended (within ours r ts) ≡ Err Syntax) ⊎ (ended (within ours r ts) ≡ Err TooDeep) → Outcome r text (Err kind.TooDeep)
too_deep {X = X} r ok text ts h e = reads.too_deep h (λ t g. by_read t g (within ours r ts) refl e)
  where
    by_read : (t : X) → IsWhole r ours ts t → (q : Read (X × Kinds)) → within ours r ts ≡ q
        → (ended q ≡ Err Syntax) ⊎ (ended q ≡ Err TooDeep) → ⊥
    by_read t g (Ok (x, [])) is (inl e) = absurd cc
    by_read t g (Ok (x, [])) is (inr e) = absurd cc
    by_read t g (Ok (x, u ∷ us)) is e = let none = no_longer_tree r ok ours ours ts (x, u ∷ us) t is g in absurd cc
    by_read t g (Err d) is e = refused r ok ours ts t (λ y is'. absurd (differ y is')) g
      where
        differ : (y : X × Kinds) → within ours r ts ≡ Ok y → ⊥
        differ y is' = let no : ◌≡◌ {A = Read (X × Kinds)} (Err d) (Ok y) = sym is ∙ is' in absurd cc

-- what the parser tells of tokens that it refuses
pub told : {X : Type 0} (r : Rule X) → fine r ≡ true → (text : List ℕ) (ts : Kinds) (wrong : ParseFault)
    → TextLexes text (Ok ts) → Fails wrong (ended (within ours r ts)) → FindsError {Y = X} (kind_of wrong) (λ o. Outcome r text o)
told r ok text ts fault.Memory h e = tt
told r ok text ts (fault.Syntax left) h e = syntax_error r ok text ts h e
told r ok text ts (fault.TooDeep left) h e = too_deep r ok text ts h e

-- tokens are left over
pub left_over : {X : Type 0} (wrong : ParseFault) (r : Read (X × Kinds)) (t : X) (rest : List Token) → IsSyntax wrong
    → 1 ≤ length rest → r ≡ Ok (t, kinds rest) → Fails wrong (ended r)
left_over fault.Memory r t rest h some e = absurd h
left_over (fault.TooDeep left) r t rest h some e = absurd h
left_over (fault.Syntax left) r t [] h some e = absurd (omega (arith, some))
left_over (fault.Syntax left) r t (u ∷ rest) h some e = rw e refl

-- ---- one outcome, and some outcome

lexes_other : (text : List ℕ) (ts : Kinds) (k : ReadErrorKind) → TextLexes text (Ok ts) → TextLexes text (Err k) → ⊥
lexes_other text ts k h g = let no = one_outcome text (Ok ts) (Err k) h g in absurd cc

lexes_same : (text : List ℕ) (ts us : Kinds) → TextLexes text (Ok ts) → TextLexes text (Ok us) → ts ≡ us
lexes_same text ts us h g = let same = one_outcome text (Ok ts) (Ok us) h g in cc

pub one : {X : Type 0} (rule : Rule X) → fine rule ≡ true → (text : List ℕ) (r s : errors.Read X) → Outcome rule text r
    → Outcome rule text s → AreOne r s
one rule ok text r s (reads.tree {ts = ts} {t = t} h d) (reads.tree {ts = us} {t = u} g e) =
    whole_one rule ok ours ours ts t u d (subst (λ vs. IsWhole rule ours vs u) (lexes_same text us ts g h) e)
one rule ok text r s (reads.tree {ts = ts} {t = t} h d) (reads.syntax_error {ts = us} g e) =
    absurd (e ours t (subst (λ vs. IsWhole rule ours vs t) (lexes_same text ts us h g) d))
one rule ok text r s (reads.tree {ts = ts} {t = t} h d) (reads.too_deep {ts = us} g e) =
    absurd (e t (subst (λ vs. IsWhole rule ours vs t) (lexes_same text ts us h g) d))
one rule ok text r s (reads.tree {ts = ts} h d) (reads.fault {kind = k} g) = absurd (lexes_other text ts k h g)
one rule ok text r s (reads.syntax_error {ts = ts} h d) (reads.tree {ts = us} {t = t} g e) =
    absurd (d ours t (subst (λ vs. IsWhole rule ours vs t) (lexes_same text us ts g h) e))
one rule ok text r s (reads.syntax_error h d) (reads.syntax_error g e) = inl refl
one rule ok text r s (reads.syntax_error h d) (reads.too_deep g e) = inr (refl, refl)
one rule ok text r s (reads.syntax_error {ts = ts} h d) (reads.fault {kind = k} g) = absurd (lexes_other text ts k h g)
one rule ok text r s (reads.too_deep {ts = ts} h d) (reads.tree {ts = us} {t = t} g e) =
    absurd (d t (subst (λ vs. IsWhole rule ours vs t) (lexes_same text us ts g h) e))
one rule ok text r s (reads.too_deep h d) (reads.syntax_error g e) = inr (refl, refl)
one rule ok text r s (reads.too_deep h d) (reads.too_deep g e) = inl refl
one rule ok text r s (reads.too_deep {ts = ts} h d) (reads.fault {kind = k} g) = absurd (lexes_other text ts k h g)
one rule ok text r s (reads.fault {kind = k} h) (reads.tree {ts = us} g e) = absurd (lexes_other text us k g h)
one rule ok text r s (reads.fault {kind = k} h) (reads.syntax_error {ts = us} g e) = absurd (lexes_other text us k g h)
one rule ok text r s (reads.fault {kind = k} h) (reads.too_deep {ts = us} g e) = absurd (lexes_other text us k g h)
one rule ok text r s (reads.fault {kind = j} h) (reads.fault {kind = k} g) =
    let same : ◌≡◌ {A = Tokens} (Err j) (Err k) = one_outcome text (Err j) (Err k) h g in inl cc

pub some : {X : Type 0} (rule : Rule X) → fine rule ≡ true → (text : List ℕ) → (r : errors.Read X) × Outcome rule text r
some {X = X} rule ok text = by_lexing (some_outcome text)
  where
    by_read : (ts : Kinds) → TextLexes text (Ok ts) → (r : Read X) → ended (within ours rule ts) ≡ r
        → (s : errors.Read X) × Outcome rule text s
    by_read ts h (Ok t) e = (Ok t, tree rule text ts t h e)
    by_read ts h (Err Syntax) e = (Err kind.Syntax, syntax_error rule ok text ts h e)
    by_read ts h (Err TooDeep) e = (Err kind.TooDeep, too_deep rule ok text ts h (inr e))

    by_lexing : (r : Tokens) × TextLexes text r → (s : errors.Read X) × Outcome rule text s
    by_lexing (Ok ts, h) = by_read ts h (ended (within ours rule ts)) refl
    by_lexing (Err k, h) = (Err k, reads.fault h)
