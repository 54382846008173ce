-- Spelled tokens, one behind the other.
use Rattle.std.specs.Prelude.{◌≡◌, ℕ, ◌<◌, ◌^◌, List, [], ◌∷◌, ◌++◌, All, Some, ⊤, codes}
use Rattle.sfc_base.specs.declared.delimiter.Delimiter.{Delimiter}
use Rattle.sfc_base.specs.declared.delimiter.Delimiter.TheVariants as sign
use Rattle.sfc_base.specs.declared.class.Class.TheVariants as class
use Rattle.sfc_tokens.specs.declared.token.TokenKind.{TokenKind}
use Rattle.sfc_tokens.specs.declared.token.TokenKind.TheVariants as token
use Rattle.sfc_base.specs.Classes.{class_of}
use Rattle.sfc_base.specs.Names.{IsName}
use Rattle.sfc_base.specs.Locations.{AreNumbers}
use Rattle.sfc_tokens.specs.Lexemes.{Piece, Tokens, first}

-- Spells text ts rest: before rest, the text is these tokens, with white space among them
pub data Spells : List ℕ → List TokenKind → List ℕ → Type 0 where
  nothing : {rest : List ℕ} → Spells [] [] rest
  space : {b : ℕ} {text rest : List ℕ} {ts : List TokenKind} → class_of b ≡ class.Space → Spells text ts rest → Spells (b ∷ text) ts rest
  one : {w text rest : List ℕ} {t : TokenKind} {ts : List TokenKind} → Piece w (text ++ rest) (Some t) → Spells text ts rest
      → Spells (w ++ text) (t ∷ ts) rest

-- an outcome behind these tokens: they come first in it, or it is its fault
abbrev pub behind : List TokenKind → Tokens → Tokens
behind [] r = r
behind (t ∷ ts) r = first t (behind ts r)

-- the spelling of a delimiter
abbrev pub sign_text : Delimiter → List ℕ
sign_text sign.Assign = codes ":="
sign_text sign.LessOrEqual = codes "<="
sign_text sign.GreaterOrEqual = codes ">="
sign_text sign.NotEqual = codes "<>"
sign_text sign.Colon = codes ":"
sign_text sign.Semicolon = codes ";"
sign_text sign.Comma = codes ","
sign_text sign.Open = codes "("
sign_text sign.Close = codes ")"
sign_text sign.Dot = codes "."
sign_text sign.Plus = codes "+"
sign_text sign.Minus = codes "-"
sign_text sign.Star = codes "*"
sign_text sign.Slash = codes "/"
sign_text sign.Ampersand = codes "&"
sign_text sign.Less = codes "<"
sign_text sign.Greater = codes ">"
sign_text sign.Equal = codes "="

-- whether a token can stand in a text: a name is one, and integers and the numbers of a location have 32 bits
abbrev pub CanStand : TokenKind → Type 0
CanStand (token.Name name) = IsName name
CanStand (token.Integer n) = n < 2 ^ 32
CanStand (token.Location l) = AreNumbers l.numbers × All (λ n. n < 2 ^ 32) l.numbers
CanStand _ = ⊤
