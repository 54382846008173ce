-- The tokens that spell statements (3.3.2).
use Rattle.std.specs.Prelude.{◌≡◌, ℕ, suc, max, [], ◌∷◌, ◌++◌, ⊤}
use Rattle.sfc_base.specs.declared.delimiter.Delimiter.TheVariants as sign
use Rattle.sfc_base.specs.declared.keyword.Keyword.{Keyword}
use Rattle.sfc_base.specs.declared.keyword.Keyword.TheVariants as keyword
use Rattle.sfc_tokens.specs.declared.token.TokenKind.TheVariants as token
use Rattle.sfc_tokens.specs.Tokens.{Kinds}
use Rattle.sfc_text.specs.Trees.{Block, Nothing, Assign, If, When, Otherwise, operators}
use Rattle.sfc_text.specs.Spelled.{variable_tokens, tree_tokens, nesting}

abbrev mutual
  -- whether a block is statements: in each IF the first branch has a condition, and an ELSE branch is the last
  pub IsBody : Block → Type 0
  IsBody Nothing = ⊤
  IsBody (Assign v e rest) = IsBody rest
  IsBody (If branches rest) = AreBranches branches × IsBody rest
  IsBody _ = ⊥

  pub AreBranches : Block → Type 0
  AreBranches (When e body rest) = IsBody body × AreOthers rest
  AreBranches _ = ⊥

  -- the branches behind the first
  pub AreOthers : Block → Type 0
  AreOthers Nothing = ⊤
  AreOthers (When e body rest) = IsBody body × AreOthers rest
  AreOthers (Otherwise body rest) = IsBody body × (rest ≡ Nothing)
  AreOthers _ = ⊥

abbrev mutual
  -- the tokens of statements
  pub body_tokens : Block → Kinds
  body_tokens (Assign v e rest) =
      variable_tokens v ++ (token.Delimiter sign.Assign ∷ tree_tokens e)
      ++ (token.Delimiter sign.Semicolon ∷ body_tokens rest)
  body_tokens (If branches rest) =
      branches_tokens keyword.If branches
      ++ (token.Keyword keyword.EndIf ∷ token.Delimiter sign.Semicolon ∷ body_tokens rest)
  body_tokens _ = []

  -- the tokens of branches, where the first condition stands behind this word
  pub branches_tokens : Keyword → Block → Kinds
  branches_tokens first (When e body rest) =
      (token.Keyword first ∷ tree_tokens e) ++ (token.Keyword keyword.Then ∷ body_tokens body)
      ++ branches_tokens keyword.Elsif rest
  branches_tokens first (Otherwise body rest) =
      (token.Keyword keyword.Else ∷ body_tokens body) ++ branches_tokens keyword.Elsif rest
  branches_tokens first _ = []

-- how deep parentheses, prefix operators and IF statements nest in the tokens of statements
abbrev pub block_nesting : Block → ℕ
block_nesting Nothing = 0
block_nesting (Assign v e rest) = max (nesting e) (block_nesting rest)
block_nesting (If branches rest) = max (suc (block_nesting branches)) (block_nesting rest)
block_nesting (When e body rest) = max (nesting e) (max (block_nesting body) (block_nesting rest))
block_nesting (Otherwise body rest) = max (block_nesting body) (block_nesting rest)

-- how many operators there are in the expression that has the most
abbrev pub most_operators : Block → ℕ
most_operators Nothing = 0
most_operators (Assign v e rest) = max (operators e) (most_operators rest)
most_operators (If branches rest) = max (most_operators branches) (most_operators rest)
most_operators (When e body rest) = max (operators e) (max (most_operators body) (most_operators rest))
most_operators (Otherwise body rest) = max (most_operators body) (most_operators rest)
