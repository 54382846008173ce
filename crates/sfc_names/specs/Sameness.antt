-- Texts that say the same.
use Rattle.std.specs.Prelude.{◌≡◌, ℕ, List, [], ◌∷◌, Ok, ⊤}
use Rattle.sfc_tokens.specs.declared.token.TokenKind.{TokenKind}
use Rattle.sfc_tokens.specs.declared.token.TokenKind.TheVariants.{Name}
use Rattle.sfc_tokens.specs.Texts.{TextLexes}
use Rattle.sfc_tokens.specs.Tokens.{Kinds}

-- both are these tokens: they differ in white space and comments alone
abbrev pub HaveSameTokens : List ℕ → List ℕ → Type 0
HaveSameTokens left right = (tokens : Kinds) × TextLexes left (Ok tokens) × TextLexes right (Ok tokens)

-- the same token, or another name
abbrev pub IsSameButName : TokenKind → TokenKind → Type 0
IsSameButName (Name left) (Name right) = ⊤
IsSameButName left right = left ≡ right

abbrev pub AreSameButNames : List TokenKind → List TokenKind → Type 0
AreSameButNames [] [] = ⊤
AreSameButNames [] (right ∷ rights) = ⊥
AreSameButNames (left ∷ lefts) [] = ⊥
AreSameButNames (left ∷ lefts) (right ∷ rights) = IsSameButName left right × AreSameButNames lefts rights

-- both are tokens that differ in names alone
abbrev pub HaveSameTokensButNames : List ℕ → List ℕ → Type 0
HaveSameTokensButNames left right = (lefts : Kinds) × (rights : Kinds)
    × TextLexes left (Ok lefts) × TextLexes right (Ok rights) × AreSameButNames lefts rights
