-- Each token of a text can stand in one.
use Rattle.std.proofs.Common.{◌≡◌, ℕ, ◌<◌, ◌^◌, Bool, true, ◌&&◌, List, [], ◌∷◌, length, All, Option, Some, None, Ok, Err, refl, arith}
use Rattle.std.specs.Prelude.{⊤, is_none}
use Rattle.std.specs.List.{list_all}
use Rattle.std.proofs.lemmas.List.Elements.{All-nil, All-cons}
use Rattle.sfc_base.specs.declared.keyword.Keyword.{Keyword}
use Rattle.sfc_base.specs.declared.run.Alphabet.TheVariants as alphabet
use Rattle.sfc_tokens.specs.declared.literal.LiteralKind.{LiteralKind}
use Rattle.sfc_tokens.specs.declared.token.TokenKind.{TokenKind}
use Rattle.sfc_base.specs.Classes.{class_of}
use Rattle.sfc_base.specs.Runs.{has, AllIn}
use Rattle.sfc_base.specs.Words.{keyword_of}
use Rattle.sfc_base.specs.Names.{StartsWord, starts_word, is_spaced, IsWord}
use Rattle.sfc_base.specs.Locations as locations
use Rattle.sfc_base.specs.Locations.{AreNumbers, Numbers, LocationData, IsLocation}
use Rattle.sfc_tokens.specs.Literals as literals
use Rattle.sfc_tokens.specs.Literals.{IsLiteral}
use Rattle.sfc_tokens.specs.Lexemes as lexemes
use Rattle.sfc_tokens.specs.Lexemes.{reserved_or_name, Piece, Tokens, first, Lexes}
use Rattle.sfc_tokens.specs.Spelling.{CanStand}
use Rattle.sfc_tokens.specs.Texts as texts
use Rattle.sfc_tokens.specs.Texts.{TextLexes}

-- ---- words

all_in : (w : List ℕ) → AllIn alphabet.Word w → list_all (has alphabet.Word) w ≡ true
all_in [] h = refl
all_in (b ∷ w) h = λ i. h.0 i && all_in w h.1 i

three_true : (a b c : Bool) → a ≡ true → b ≡ true → c ≡ true → (a && b && c) ≡ true
three_true a b c e f g = λ i. e i && f i && g i

-- a word that isn't reserved is a name
name_stands : (w : List ℕ) → IsWord w → (k : Option Keyword) → keyword_of w ≡ k → CanStand (reserved_or_name k w)
name_stands w is (Some k) e = tt
name_stands w is None e = λ i. is i && is_none (e i)

word_stands : (b : ℕ) (w : List ℕ) → StartsWord (class_of b) → AllIn alphabet.Word (b ∷ w) → is_spaced (b ∷ w) ≡ true
    → CanStand (reserved_or_name (keyword_of (b ∷ w)) (b ∷ w))
word_stands b w starts all spaced =
    name_stands (b ∷ w) (three_true (starts_word (class_of b)) (list_all (has alphabet.Word) (b ∷ w)) (is_spaced (b ∷ w)) starts (all_in (b ∷ w) all) spaced)
    (keyword_of (b ∷ w)) refl

-- ---- literals

numbers_fit : {w ns : List ℕ} → Numbers w ns → All (λ n. n < 2 ^ 32) ns
numbers_fit (locations.last {n = n} is lt) = All-cons (λ m. m < 2 ^ 32) n [] lt (All-nil (λ m. m < 2 ^ 32))
numbers_fit (locations.more {n = n} {ns = ns} is lt others) = All-cons (λ m. m < 2 ^ 32) n ns lt (numbers_fit others)

some_numbers : {w ns : List ℕ} → Numbers w ns → 0 < length ns
some_numbers (locations.last is lt) = omega arith
some_numbers (locations.more is lt others) = omega arith

location_stands : {w : List ℕ} {l : LocationData} → IsLocation w l → AreNumbers l.numbers × All (λ n. n < 2 ^ 32) l.numbers
location_stands (locations.sized a s ns few) = (record { some = some_numbers ns; few = few }, numbers_fit ns)
location_stands (locations.unsized a ns few) = (record { some = some_numbers ns; few = few }, numbers_fit ns)

literal_stands : {kind : LiteralKind} {negative : Bool} {w : List ℕ} {t : TokenKind} → IsLiteral kind negative w t → CanStand t
literal_stands (literals.integer is lt) = lt
literal_stands (literals.based is lt) = tt
literal_stands (literals.int is) = tt
literal_stands (literals.dint is) = tt
literal_stands (literals.truth is) = tt
literal_stands (literals.duration is) = tt
literal_stands (literals.location is) = location_stands is

-- ---- pieces of text

abbrev SomeStands : Option TokenKind → Type 0
SomeStands (Some t) = CanStand t
SomeStands None = ⊤

piece_stands : {text rest : List ℕ} {piece : Option TokenKind} → Piece text rest piece → SomeStands piece
piece_stands (lexemes.space is) = tt
piece_stands (lexemes.comment body is ahead unclosed) = tt
piece_stands (lexemes.pragma body is unclosed) = tt
piece_stands (lexemes.word {b = b} {w = w} starts run sharp spaced) = word_stands b w starts run.all spaced
piece_stands (lexemes.literal negative w front body is) = literal_stands is
piece_stands (lexemes.single is alone) = tt
piece_stands (lexemes.double is longer) = tt

-- ---- texts

abbrev AllStand : Tokens → Type 0
AllStand (Ok ts) = All CanStand ts
AllStand (Err kind) = ⊤

first_stands : (t : TokenKind) (r : Tokens) → CanStand t → AllStand r → AllStand (first t r)
first_stands t (Ok ts) one others = All-cons CanStand t ts one others
first_stands t (Err kind) one others = tt

lexed_stand : {text : List ℕ} {r : Tokens} → Lexes text r → AllStand r
lexed_stand lexemes.ended = All-nil CanStand
lexed_stand (lexemes.skip piece others) = lexed_stand others
lexed_stand (lexemes.one {t = t} {r = r} piece others) = first_stands t r (piece_stands piece) (lexed_stand others)
lexed_stand (lexemes.fault is) = tt

outcome_stands : {text : List ℕ} {r : Tokens} → TextLexes text r → AllStand r
outcome_stands (texts.too_long lt) = tt
outcome_stands (texts.lexed le lexes) = lexed_stand lexes

pub tokens_stand : (text : List ℕ) (ts : List TokenKind) → TextLexes text (Ok ts) → All CanStand ts
tokens_stand text ts lexes = outcome_stands lexes
