-- Tokens without their places.
use Rattle.std.specs.Prelude.{List, map}
use Rattle.sfc_tokens.specs.declared.token.Token.{Token}
use Rattle.sfc_tokens.specs.declared.token.TokenKind.{TokenKind}

abbrev pub Kinds : Type 0
Kinds = List TokenKind

abbrev pub kinds : List Token → Kinds
kinds tokens = map (λ token. token.kind) tokens
