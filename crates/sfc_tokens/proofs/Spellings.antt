-- Spelled tokens join, and lex as these tokens.
use Rattle.std.proofs.Common.{◌≡◌, ℕ, ◌≤◌, Bool, true, false, ◌==◌, List, [], ◌∷◌, ◌++◌, length, Some, Ok, Err, refl, sym, ap, subst, ◌∙◌, append_assoc}
use Rattle.std.proofs.lemmas.Bool.{eqb-true}
use Rattle.std.proofs.lemmas.List.{append-nil}
use Rattle.sfc_events.specs.declared.read_error.ReadErrorKind.TheVariants.{NotAscii}
use Rattle.sfc_tokens.specs.declared.token.TokenKind.{TokenKind}
use Rattle.sfc_base.specs.Classes.{class_of}
use Rattle.sfc_tokens.specs.Lexemes as lexemes
use Rattle.sfc_tokens.specs.Lexemes.{Piece, Tokens, first, Lexes}
use Rattle.sfc_tokens.specs.Spelling as spelling
use Rattle.sfc_tokens.specs.Spelling.{Spells, behind}
use Rattle.sfc_tokens.specs.Texts as texts
use Rattle.sfc_tokens.specs.Texts.{longest, without_mark, TextLexes}
use Rattle.sfc_tokens.proofs.Lexes.{one_result}

-- ---- one spelling behind the other

joined_by : {a c : List ℕ} {ts : List TokenKind} (b rest : List ℕ) (us : List TokenKind) → Spells a ts c → c ≡ b ++ rest → Spells b us rest → Spells (a ++ b) (ts ++ us) rest
joined_by b rest us spelling.nothing e q = q
joined_by b rest us (spelling.space p s) e q = spelling.space p (joined_by b rest us s e q)
joined_by b rest us (spelling.one {w = w} {text = text} {rest = c} {t = t} {ts = ts} p s) e q =
    let more : text ++ c ≡ (text ++ b) ++ rest = ap (λ (x : List ℕ). text ++ x) e ∙ sym (append_assoc text b rest) in
    subst (λ (x : List ℕ). Spells x (t ∷ (ts ++ us)) rest) (sym (append_assoc w text b))
    (spelling.one (subst (λ (x : List ℕ). Piece w x (Some t)) more p) (joined_by b rest us s e q))

pub joined : (a b rest : List ℕ) (ts us : List TokenKind) → Spells a ts (b ++ rest) → Spells b us rest → Spells (a ++ b) (ts ++ us) rest
joined a b rest ts us p q = joined_by b rest us p refl q

-- ---- one token

pub alone : (w rest : List ℕ) (t : TokenKind) → Piece w rest (Some t) → Spells w (t ∷ []) rest
alone w rest t p = subst (λ (x : List ℕ). Spells x (t ∷ []) rest) (append-nil w) (spelling.one p spelling.nothing)

-- ---- lexing

pub lexes_behind : (text rest : List ℕ) (ts : List TokenKind) (r : Tokens) → Spells text ts rest → Lexes rest r → Lexes (text ++ rest) (behind ts r)
lexes_behind _ _ _ r spelling.nothing q = q
lexes_behind _ _ _ r (spelling.space {text = text} {rest = rest} {ts = ts} p s) q = lexemes.skip (lexemes.space p) (lexes_behind text rest ts r s q)
lexes_behind _ _ _ r (spelling.one {w = w} {text = text} {rest = rest} {t = t} {ts = ts} p s) q =
    subst (λ (x : List ℕ). Lexes x (first t (behind ts r))) (sym (append_assoc w text rest)) (lexemes.one p (lexes_behind text rest ts r s q))

-- with nothing behind them
behind_none : (ts : List TokenKind) → behind ts (Ok []) ≡ Ok ts
behind_none [] = refl
behind_none (t ∷ ts) = ap (first t) (behind_none ts)

pub lexes_as : (text : List ℕ) (ts : List TokenKind) → Spells text ts [] → Lexes text (Ok ts)
lexes_as text ts s =
    let all = lexes_behind text [] ts (Ok []) s lexemes.ended in
    subst (λ (x : List ℕ). Lexes x (Ok ts)) (append-nil text) (subst (λ (r : Tokens). Lexes (text ++ []) r) (behind_none ts) all)

-- ---- whole texts

-- no text begins with a byte over 127 and has tokens
begins_low : (bs : List ℕ) (ts : List TokenKind) → Lexes (239 ∷ bs) (Ok ts) → ⊥
unfolding class_of
begins_low bs ts s = let e = one_result (239 ∷ bs) (Ok ts) (Err NotAscii) s (lexemes.fault (lexemes.high refl)) in absurd cc

no_mark : (text : List ℕ) (ts : List TokenKind) → Lexes text (Ok ts) → without_mark text ≡ text
no_mark [] ts s = refl
no_mark (a ∷ []) ts s = refl
no_mark (a ∷ b ∷ []) ts s = refl
no_mark (a ∷ b ∷ c ∷ rest) ts s = by_first (a == 239) refl
  where
    by_first : (t : Bool) → (a == 239) ≡ t → without_mark (a ∷ b ∷ c ∷ rest) ≡ a ∷ b ∷ c ∷ rest
    by_first true e = absurd (begins_low (b ∷ c ∷ rest) ts (subst (λ (x : ℕ). Lexes (x ∷ b ∷ c ∷ rest) (Ok ts)) (eqb-true a 239 e) s))
    by_first false e = rw e refl

pub text_lexes : (text : List ℕ) (ts : List TokenKind) → length text ≤ longest → Spells text ts [] → TextLexes text (Ok ts)
text_lexes text ts le s =
    let all = lexes_as text ts s in
    texts.lexed le (subst (λ (x : List ℕ). Lexes x (Ok ts)) (sym (no_mark text ts all)) all)
