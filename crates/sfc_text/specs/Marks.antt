-- By what the grammar tells tokens apart: the reserved word, the delimiter, the word in its place, or the kind.
use Rattle.std.specs.Prelude.{ℕ, List, [], ◌∷◌, Bool, true, false, ◌||◌}
use Rattle.sfc_base.specs.declared.keyword.Keyword.{Keyword}
use Rattle.sfc_base.specs.declared.delimiter.Delimiter.{Delimiter}
use Rattle.sfc_tokens.specs.declared.token.TokenKind.{TokenKind}
use Rattle.sfc_tokens.specs.declared.token.TokenKind.TheVariants as token
use Rattle.sfc_base.specs.Case.{same_word}
use Rattle.sfc_text.specs.Places.{same_keyword, same_delimiter}

pub data Mark : Type 0 where
  Word : Keyword → Mark
  Sign : Delimiter → Mark
  AnyName : Mark
  -- a word that is reserved in its place only, in capital letters
  Named : List ℕ → Mark
  AnInteger : Mark
  ABased : Mark
  AnInt : Mark
  ADint : Mark
  ATruth : Mark
  ADuration : Mark
  ALocation : Mark

abbrev pub Marks : Type 0
Marks = List Mark

-- whether a token has the mark
abbrev pub is : Mark → TokenKind → Bool
is (Word k) (token.Keyword j) = same_keyword j k
is (Sign d) (token.Delimiter e) = same_delimiter e d
is AnyName (token.Name n) = true
is (Named w) (token.Name n) = same_word n w
is AnInteger (token.Integer n) = true
is ABased (token.Based n) = true
is AnInt (token.Int n) = true
is ADint (token.Dint n) = true
is ATruth (token.Truth b) = true
is ADuration (token.Duration d) = true
is ALocation (token.Location l) = true
is _ _ = false

-- whether a token has one of the marks
abbrev pub is_any : Marks → TokenKind → Bool
is_any [] t = false
is_any (m ∷ ms) t = is m t || is_any ms t
