-- Loops that append blocks.
use Rattle.std.proofs.Common.{◌≡◌, inl, inr, ◌<◌, ℕ, true, false, List, [], ◌∷◌, length, Ok, Err, refl, sym, ap, subst, ◌∙◌}
use Rattle.sfc_tokens.specs.declared.token.Token.{Token}
use Rattle.sfc_tokens.specs.Tokens.{Kinds, kinds}
use Rattle.sfc_text.specs.declared.parse.fault.ParseFault.{ParseFault}
use Rattle.sfc_text.specs.declared.parse.fault.ParseFault.TheVariants as fault
use Rattle.sfc_text.specs.Building as make
use Rattle.sfc_text.specs.Rules.{Rule, many}
use Rattle.sfc_text.specs.Terms.{folded}
use Rattle.sfc_text.specs.Trees.{Block, Nothing, append}
use Rattle.sfc_text.specs.Parsing.Depth.{at}
use Rattle.sfc_text.specs.Parsing.Lookahead.{begins, empty, first}
use Rattle.sfc_text.specs.Parsing.Reading.{Read, Fails, all, found, made, ◌>>=◌}
use Rattle.sfc_text.proofs.Blocks.{append_nothing, append_append}
use Rattle.sfc_text.proofs.Loops.{Folds, Folding, fails, goes_on, ends, smaller, shortens}

-- what a loop still gives that has found a front
abbrev pub Still : ℕ → Rule Block → Block → Kinds → Read (Block × Kinds)
Still left rule front ts = Folding (first rule) (at left rule) append front ts

pub folded_appends : (front : Block) (bs : List Block) → folded append front bs ≡ append front (folded append Nothing bs)
folded_appends front [] = sym (append_nothing front)
folded_appends front (b ∷ bs) = folded_appends (append front b) bs ∙ append_append front b (folded append Nothing bs) ∙ ap (append front) (sym (folded_appends b bs))

pub starts : (left : ℕ) (rule : Rule Block) (front : Block) (ts : Kinds) → Still left rule front ts ≡ made (append front) (at left (many make.joined rule) ts)
starts left rule front ts = by_result (all (found (first rule) (at left rule)) ts)
  where
    by_result : (r : Read (List Block × Kinds)) → Folds append front r ≡ made (append front) (r >>= λ y. Ok (make.joined y.0, y.1))
    by_result (Ok y) = ap (λ (b : Block). Ok (b, y.1)) (folded_appends front y.0)
    by_result (Err d) = refl

pub starts_empty : (left : ℕ) (rule : Rule Block) (ts : Kinds) → Still left rule Nothing ts ≡ at left (many make.joined rule) ts
starts_empty left rule ts = by_result (all (found (first rule) (at left rule)) ts)
  where
    by_result : (r : Read (List Block × Kinds)) → Folds append Nothing r ≡ (r >>= λ y. Ok (make.joined y.0, y.1))
    by_result (Ok y) = refl
    by_result (Err d) = refl

-- what was read behind a front, and why it was not
made_ok : (front : Block) (r : Read (Block × Kinds)) (y : Block × Kinds) → made (append front) r ≡ Ok y → (x : Block × Kinds) × (r ≡ Ok x) × (y ≡ (append front x.0, x.1))
made_ok front (Ok x) y e = (x, refl, cc)
made_ok front (Err d) y e = absurd cc

made_fails : (wrong : ParseFault) (front : Block) (r : Read (Block × Kinds)) → Fails wrong (made (append front) r) → Fails wrong r
made_fails fault.Memory front r h = tt
made_fails (fault.Syntax left) front (Ok x) h = absurd cc
made_fails (fault.Syntax left) front (Err d) h = cc
made_fails (fault.TooDeep left) front (Ok x) (inl h) = absurd cc
made_fails (fault.TooDeep left) front (Ok x) (inr h) = absurd cc
made_fails (fault.TooDeep left) front (Err d) (inl h) = inl cc
made_fails (fault.TooDeep left) front (Err d) (inr h) = inr cc

pub more_found : (left : ℕ) (rule : Rule Block) → empty rule ≡ false → (front longer : Block) (tokens rest : List Token) (total : Read (Block × Kinds)) → begins (first rule) (kinds tokens) ≡ true → made (append front) (at left rule (kinds tokens)) ≡ Ok (longer, kinds rest) → Still left rule front (kinds tokens) ≡ total → Still left rule longer (kinds rest) ≡ total
more_found left rule takes front longer tokens rest total h e so_far =
    let p = made_ok front (at left rule (kinds tokens)) (longer, kinds rest) e in
    let next = goes_on (first rule) (at left rule) (shortens left rule takes) append front (kinds tokens) p.0 total h p.1 so_far in
    subst (λ (z : Block × Kinds). Still left rule z.0 z.1 ≡ total) (sym p.2) next

pub none_found : (wrong : ParseFault) (left : ℕ) (rule : Rule Block) → empty rule ≡ false → (front : Block) (tokens : List Token) (total : Read (Block × Kinds)) → begins (first rule) (kinds tokens) ≡ true → Fails wrong (made (append front) (at left rule (kinds tokens))) → Still left rule front (kinds tokens) ≡ total → Fails wrong total
none_found wrong left rule takes front tokens total h e so_far = fails wrong (first rule) (at left rule) (shortens left rule takes) append front (kinds tokens) total h (made_fails wrong front (at left rule (kinds tokens)) e) so_far

pub all_found : (left : ℕ) (rule : Rule Block) → empty rule ≡ false → (front : Block) (ts : Kinds) (total : Read (Block × Kinds)) → begins (first rule) ts ≡ false → Still left rule front ts ≡ total → total ≡ Ok (front, ts)
all_found left rule takes front ts total h so_far = ends (first rule) (at left rule) (shortens left rule takes) append front ts total h so_far

pub fewer_left : (left : ℕ) (rule : Rule Block) → empty rule ≡ false → (front longer : Block) (tokens rest : List Token) → made (append front) (at left rule (kinds tokens)) ≡ Ok (longer, kinds rest) → length rest < length tokens
fewer_left left rule takes front longer tokens rest e =
    let p = made_ok front (at left rule (kinds tokens)) (longer, kinds rest) e in
    let same : kinds rest ≡ p.0.1 = ap (λ (z : Block × Kinds). z.1) p.2 in
    smaller (at left rule) (shortens left rule takes) tokens rest p.0.0 (subst (λ us. at left rule (kinds tokens) ≡ Ok (p.0.0, us)) (sym same) p.1)
