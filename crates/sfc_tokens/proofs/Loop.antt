-- The loop over tokens.
use Rattle.std.proofs.Common.{◌≡◌, ℕ, zero, suc, ◌≤◌, List, [], ◌∷◌, ◌++◌, length, Option, Some, None, Result, Ok, Err, refl, sym, ap, ◌∙◌, arith, append_assoc}
use Rattle.std.proofs.lemmas.List.{append-nil}
use Rattle.sfc_tokens.specs.declared.lex_fault.LexFault.{LexFault}
use Rattle.sfc_tokens.specs.declared.lex_fault.LexFault.TheVariants.{Memory, Wrong}
use Rattle.sfc_events.specs.declared.read_error.ReadErrorKind.{ReadErrorKind}
use Rattle.sfc_events.specs.declared.read_error.ReadErrorKind.TheVariants as kind
use Rattle.sfc_tokens.specs.declared.token.Token.{Token}
use Rattle.sfc_tokens.specs.declared.token.TokenKind.{TokenKind}
use Rattle.sfc_base.specs.Classes.{class_of}
use Rattle.sfc_tokens.specs.Lexing.Results.{◌>>=◌, Fails, FailsAs, kind_of}
use Rattle.sfc_tokens.specs.Tokens.{kinds}
use Rattle.sfc_tokens.specs.Lexemes.{Tokens}
use Rattle.sfc_tokens.specs.Lexing.Tokens.{Next, next_by, add, lex}
use Rattle.sfc_tokens.proofs.Shorter.{next_shorter}

-- what was read before, and what is still read
abbrev pub with_front : List TokenKind → Tokens → Tokens
with_front front read = read >>= λ ts. Ok (front ++ ts)

same_next : (n m : ℕ) (b : ℕ) (bs : List ℕ) (r : Next) → ((us : List ℕ) → length us ≤ n → length us ≤ m → lex n us ≡ lex m us) → next_by (class_of b) b bs ≡ r → length bs ≤ n → length bs ≤ m
    → (r >>= λ x. lex n x.1 >>= λ ts. Ok (add x.0 ts)) ≡ (r >>= λ x. lex m x.1 >>= λ ts. Ok (add x.0 ts))
same_next n m b bs (Ok x) ih e h g = let lt = next_shorter b bs x e in ap (λ (p : Tokens). p >>= λ ts. Ok (add x.0 ts)) (ih x.1 (omega (arith, lt, h)) (omega (arith, lt, g)))
same_next n m b bs (Err f) ih e h g = refl

pub same_turns : (n m : ℕ) (bs : List ℕ) → length bs ≤ n → length bs ≤ m → lex n bs ≡ lex m bs
unfolding lex
same_turns n m [] h g = refl
same_turns zero m (b ∷ bs) h g = absurd (omega (arith, h))
same_turns (suc n) zero (b ∷ bs) h g = absurd (omega (arith, g))
same_turns (suc n) (suc m) (b ∷ bs) h g = same_next n m b bs (next_by (class_of b) b bs) (λ us p q. same_turns n m us p q) refl (omega (arith, h)) (omega (arith, g))

turn : (b : ℕ) (bs : List ℕ) → lex (length (b ∷ bs)) (b ∷ bs) ≡ (next_by (class_of b) b bs >>= λ x. lex (length bs) x.1 >>= λ ts. Ok (add x.0 ts))
unfolding lex
turn b bs = refl

-- what one more token adds
abbrev pub put : List TokenKind → Option TokenKind → List TokenKind
put front None = front
put front (Some t) = front ++ t ∷ []

regroup : (front : List TokenKind) (o : Option TokenKind) (read : Tokens) → with_front front (read >>= λ ts. Ok (add o ts)) ≡ with_front (put front o) read
regroup front None (Ok x) = refl
regroup front (Some t) (Ok x) = ap (λ (ts : List TokenKind). Ok ts) (simp append_assoc)
regroup front None (Err f) = refl
regroup front (Some t) (Err f) = refl

pub goes_on : (front : List TokenKind) (bytes : List ℕ) (b : ℕ) (bs : List ℕ) (o : Option TokenKind) (rest : List ℕ) (total : Tokens) → bytes ≡ b ∷ bs → next_by (class_of b) b bs ≡ Ok (o, rest) → with_front front (lex (length bytes) bytes) ≡ total → with_front (put front o) (lex (length rest) rest) ≡ total
goes_on front bytes b bs o rest total is e so_far =
    let lt = next_shorter b bs (o, rest) e in
    let same : lex (length bs) rest ≡ lex (length rest) rest = same_turns (length bs) (length rest) rest (omega (arith, lt)) (omega arith) in
    let one : lex (length bytes) bytes ≡ (lex (length rest) rest >>= λ ts. Ok (add o ts)) = ap (λ (x : List ℕ). lex (length x) x) is ∙ turn b bs ∙ rw (e, same) refl in
    sym (ap (with_front front) one ∙ regroup front o (lex (length rest) rest)) ∙ so_far

fails_as : {Y : Type 0} (k : ReadErrorKind) (read : Result Y ReadErrorKind) → read ≡ Err k → FailsAs k read
fails_as kind.Memory read e = tt
fails_as _ read e = e

pub fails : (fault : LexFault) (front : List TokenKind) (bytes : List ℕ) (b : ℕ) (bs : List ℕ) (total : Tokens) → bytes ≡ b ∷ bs → Fails fault (next_by (class_of b) b bs) → with_front front (lex (length bytes) bytes) ≡ total → FailsAs (kind_of fault) total
fails Memory front bytes b bs total is h so_far = tt
fails (Wrong f left) front bytes b bs total is h so_far =
    let one : lex (length bytes) bytes ≡ Err f = ap (λ (x : List ℕ). lex (length x) x) is ∙ turn b bs ∙ rw h refl in
    fails_as f total (sym so_far ∙ rw one refl)

pub ends : (front : List TokenKind) (bytes : List ℕ) (total : Tokens) → length bytes ≡ 0 → with_front front (lex (length bytes) bytes) ≡ total → total ≡ Ok front
unfolding lex
ends front [] total e so_far = sym so_far ∙ ap (λ (ts : List TokenKind). Ok ts) (append-nil front)
ends front (b ∷ bs) total e so_far = absurd (omega (arith, e))

pub starts : (read : Tokens) → with_front [] read ≡ read
starts (Ok ts) = refl
starts (Err f) = refl

pub kinds_push : (tokens : List Token) (t : Token) → kinds (tokens ++ t ∷ []) ≡ kinds tokens ++ t.kind ∷ []
kinds_push [] t = refl
kinds_push (u ∷ tokens) t = ap (λ (ts : List TokenKind). u.kind ∷ ts) (kinds_push tokens t)
