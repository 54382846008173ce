-- Comments and pragmas.
use Rattle.std.proofs.Common.{◌≡◌, ℕ, Bool, true, false, cond, eqb, ◌&&◌, List, [], ◌∷◌, ◌++◌, Some, None, refl, ap, subst}
use Rattle.std.proofs.lemmas.Bool.{eqb-true}
use Rattle.sfc_tokens.specs.Lexemes.{NoClose, NoBrace}
use Rattle.sfc_tokens.specs.Lexing.Tokens.{after_comment, after_pragma}

-- ---- comments

-- a text up to its first end of a comment
pub record Closed (bs rest : List ℕ) : Type 0 where
  pub body : List ℕ
  pub parts : bs ≡ body ++ 42 ∷ 41 ∷ rest
  pub first : NoClose (body ++ 42 ∷ [])

both_true : (p q : Bool) → p && q ≡ true → (p ≡ true) × (q ≡ true)
both_true true q e = (refl, e)
both_true false q e = absurd cc

grow : (b c : ℕ) (bs more body : List ℕ) → c ∷ bs ≡ body ++ 42 ∷ more → (eqb b 42 && eqb c 41) ≡ false → NoClose (body ++ 42 ∷ []) → NoClose (b ∷ (body ++ 42 ∷ []))
grow b c bs more [] e h n = let same : c ≡ 42 = cc in (subst (λ x. (eqb b 42 && eqb x 41) ≡ false) same h, tt)
grow b c bs more (x ∷ body) e h n = let same : c ≡ x = cc in (subst (λ y. (eqb b 42 && eqb y 41) ≡ false) same h, n)

some_at : (t : Bool) (b c : ℕ) (bs rest : List ℕ) → (eqb b 42 && eqb c 41) ≡ t → cond t (Some bs) (after_comment (c ∷ bs)) ≡ Some rest → (after_comment (c ∷ bs) ≡ Some rest → Closed (c ∷ bs) rest) → Closed (b ∷ c ∷ bs) rest
some_at true b c bs rest is e more =
    let k = both_true (eqb b 42) (eqb c 41) is in
    let p = eqb-true b 42 k.0 in
    let q = eqb-true c 41 k.1 in
    let same : bs ≡ rest = cc in
    record { body = []; parts = rw (p, q, same) refl; first = tt }
some_at false b c bs rest is e more =
    let m = more e in
    record { body = b ∷ m.body; parts = ap (λ (x : List ℕ). b ∷ x) m.parts; first = grow b c bs (41 ∷ rest) m.body m.parts is m.first }

none_at : (t : Bool) (b c : ℕ) (bs : List ℕ) → (eqb b 42 && eqb c 41) ≡ t → cond t (Some bs) (after_comment (c ∷ bs)) ≡ None → (after_comment (c ∷ bs) ≡ None → NoClose (c ∷ bs)) → NoClose (b ∷ c ∷ bs)
none_at true b c bs is e more = absurd cc
none_at false b c bs is e more = (is, more e)

pub after_some : (bs rest : List ℕ) → after_comment bs ≡ Some rest → Closed bs rest
unfolding after_comment
after_some [] rest e = absurd cc
after_some (b ∷ []) rest e = absurd cc
after_some (b ∷ c ∷ bs) rest e = some_at (eqb b 42 && eqb c 41) b c bs rest refl e (after_some (c ∷ bs) rest)

pub after_none : (bs : List ℕ) → after_comment bs ≡ None → NoClose bs
unfolding after_comment
after_none [] e = tt
after_none (b ∷ []) e = tt
after_none (b ∷ c ∷ bs) e = none_at (eqb b 42 && eqb c 41) b c bs refl e (after_none (c ∷ bs))

pub none_again : (bs : List ℕ) → NoClose bs → after_comment bs ≡ None
unfolding after_comment
none_again [] n = refl
none_again (b ∷ []) n = refl
none_again (b ∷ c ∷ bs) n = rw (n.0) (none_again (c ∷ bs) n.1)

pub some_again : (body rest : List ℕ) → NoClose (body ++ 42 ∷ []) → after_comment (body ++ 42 ∷ 41 ∷ rest) ≡ Some rest
unfolding after_comment
some_again [] rest n = refl
some_again (b ∷ []) rest n = rw (n.0) refl
some_again (b ∷ c ∷ body) rest n = rw (n.0) (some_again (c ∷ body) rest n.1)

-- ---- pragmas

pub record Braced (bs rest : List ℕ) : Type 0 where
  pub body : List ℕ
  pub parts : bs ≡ body ++ 125 ∷ rest
  pub first : NoBrace body

braced_at : (t : Bool) (b : ℕ) (bs rest : List ℕ) → eqb b 125 ≡ t → cond t (Some bs) (after_pragma bs) ≡ Some rest → (after_pragma bs ≡ Some rest → Braced bs rest) → Braced (b ∷ bs) rest
braced_at true b bs rest is e more = let p = eqb-true b 125 is in let same : bs ≡ rest = cc in record { body = []; parts = rw (p, same) refl; first = tt }
braced_at false b bs rest is e more = let m = more e in record { body = b ∷ m.body; parts = ap (λ (x : List ℕ). b ∷ x) m.parts; first = (is, m.first) }

unbraced_at : (t : Bool) (b : ℕ) (bs : List ℕ) → eqb b 125 ≡ t → cond t (Some bs) (after_pragma bs) ≡ None → (after_pragma bs ≡ None → NoBrace bs) → NoBrace (b ∷ bs)
unbraced_at true b bs is e more = absurd cc
unbraced_at false b bs is e more = (is, more e)

pub pragma_some : (bs rest : List ℕ) → after_pragma bs ≡ Some rest → Braced bs rest
unfolding after_pragma
pragma_some [] rest e = absurd cc
pragma_some (b ∷ bs) rest e = braced_at (eqb b 125) b bs rest refl e (pragma_some bs rest)

pub pragma_none : (bs : List ℕ) → after_pragma bs ≡ None → NoBrace bs
unfolding after_pragma
pragma_none [] e = tt
pragma_none (b ∷ bs) e = unbraced_at (eqb b 125) b bs refl e (pragma_none bs)

pub pragma_none_again : (bs : List ℕ) → NoBrace bs → after_pragma bs ≡ None
unfolding after_pragma
pragma_none_again [] n = refl
pragma_none_again (b ∷ bs) n = rw (n.0) (pragma_none_again bs n.1)

pub pragma_again : (body rest : List ℕ) → NoBrace body → after_pragma (body ++ 125 ∷ rest) ≡ Some rest
unfolding after_pragma
pragma_again [] rest n = refl
pragma_again (b ∷ body) rest n = rw (n.0) (pragma_again body rest n.1)
