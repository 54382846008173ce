-- Where in a text a fault is told.
use Rattle.std.specs.Prelude.{◌≡◌, ℕ, ◌+◌, ◌<◌, ◌≤◌, List, [], ◌∷◌, take, drop, Some, slice_get, Ok, ⊤}
use Rattle.std.specs.Prelude as prelude
use Rattle.sfc_tokens.specs.declared.token.TokenKind.{TokenKind}
use Rattle.sfc_tokens.specs.Texts.{TextLexes}
use Rattle.sfc_tokens.specs.Tokens.{Kinds}
use Rattle.sfc_why.specs.declared.place.Place.{Place}
use Rattle.sfc_why.specs.declared.place.Place.TheVariants.{Token, Byte, Word, End, Whole}

-- so many bytes of the text, from a place on
abbrev pub piece : List ℕ → ℕ → ℕ → List ℕ
piece text from length = take length (drop from text)

-- the bytes are so many tokens, and no token is begun at their end
abbrev pub AreTokens : List ℕ → ℕ → Type 0
AreTokens bytes count = (tokens : Kinds) × TextLexes bytes (Ok tokens) × (prelude.length tokens ≡ count)

-- The bytes are a token of the text: so many of its tokens stand before them, and by themselves they are the next one.
abbrev pub IsToken : List ℕ → ℕ → ℕ → ℕ → Type 0
IsToken text index from length = (tokens : Kinds) × TextLexes text (Ok tokens)
    × (token : TokenKind) × (slice_get tokens index ≡ Some token) × TextLexes (piece text from length) (Ok (token ∷ []))
    × AreTokens (take from text) index

-- What the place is said to be: a token, or bytes of the text behind whole tokens. The end of the text, and the text as a whole, need
-- no more.
abbrev pub IsPlaceOf : List ℕ → Place → Type 0
IsPlaceOf text (Token index from length) = IsToken text index from length
IsPlaceOf text (Byte index from length) = AreTokens (take from text) index × (from < prelude.length text)
IsPlaceOf text (Word from length) = ⊥
IsPlaceOf text End = ⊤
IsPlaceOf text Whole = ⊤

-- A place of a script: bytes that lie in it, or the script as a whole.
abbrev pub IsPlaceOfScript : List ℕ → Place → Type 0
IsPlaceOfScript script (Word from length) = from + length ≤ prelude.length script
IsPlaceOfScript script Whole = ⊤
IsPlaceOfScript script _ = ⊥

-- the bytes before a place
abbrev pub front : List ℕ → Place → List ℕ
front text (Token index from length) = take from text
front text (Byte index from length) = take from text
front text (Word from length) = take from text
front text End = text
front text Whole = []
