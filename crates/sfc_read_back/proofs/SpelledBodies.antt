-- The text of statements spells the tokens of the statements that the listing spells.
use Rattle.std.proofs.Common.{◌≡◌, ℕ, zero, suc, ◌+◌, List, [], ◌∷◌, ◌++◌, refl, sym, subst, ◌∙◌, append_assoc, codes}
use Rattle.sfc_base.specs.declared.delimiter.Delimiter.TheVariants as sign
use Rattle.sfc_base.specs.declared.keyword.Keyword.{Keyword}
use Rattle.sfc_base.specs.declared.keyword.Keyword.TheVariants as keyword
use Rattle.sfc_base.specs.declared.run.Alphabet.TheVariants as alphabet
use Rattle.sfc_tokens.specs.declared.token.TokenKind.{TokenKind}
use Rattle.sfc_tokens.specs.declared.token.TokenKind.TheVariants as token
use Rattle.sfc_base.specs.Case.{same_word}
use Rattle.sfc_base.specs.Classes.{class_of}
use Rattle.sfc_base.specs.Names.{is_spaced, IsName}
use Rattle.sfc_base.specs.Runs.{Ends}
use Rattle.sfc_tokens.specs.Spelling as spelling
use Rattle.sfc_tokens.specs.Spelling.{Spells}
use Rattle.sfc_base.specs.Words.{keyword_of}
use Rattle.sfc_tokens.proofs.Signs.{sign_spells}
use Rattle.sfc_tokens.proofs.Spaced.{reserved_spaced}
use Rattle.sfc_tokens.proofs.Spelled.{name_spells, reserved_spells}
use Rattle.sfc_tokens.proofs.Spellings.{joined}
use Rattle.sfc_text.specs.Spelled.{tree_tokens}
use Rattle.sfc_text.specs.SpelledStatements.{body_tokens, branches_tokens}
use Rattle.sfc_expr.specs.Trees.{Body, Nothing, Assign, If, Branches, NoBranch, When, Otherwise}
use Rattle.sfc_plant.specs.Spaces.{Space}
use Rattle.sfc_list.specs.Layout.{indent, line}
use Rattle.sfc_list.specs.Expressions.{expression_text}
use Rattle.sfc_plant.specs.Names.{variable_name}
use Rattle.sfc_read_back.specs.SpelledTexts.{AreBodyNames, AreBranchNames}
use Rattle.sfc_list.specs.Statements.{assignment_text, branch_head, body_text, branches_text}
use Rattle.sfc_read_back.specs.WrittenTerms.{expression_tree, body_tree, branches_tree}
use Rattle.sfc_read_back.proofs.SpelledExpressions.{expression_spells}

-- ---- lines

pub indented : (level : ℕ) (text rest : List ℕ) (ts : List TokenKind) → Spells text ts rest → Spells (indent level ++ text) ts rest
unfolding class_of
indented zero text rest ts h = h
indented (suc level) text rest ts h = spelling.space refl (spelling.space refl (indented level text rest ts h))

-- a line and what follows spell what the text, the end of the line and what follows do
lined : (level : ℕ) (text more rest : List ℕ) (ts : List TokenKind) → Spells (text ++ (10 ∷ more)) ts rest → Spells (line level text ++ more) ts rest
lined level text more rest ts h =
    subst (λ (x : List ℕ). Spells x ts rest) (sym (append_assoc (indent level ++ text) (codes "\n") more ∙ append_assoc (indent level) text (10 ∷ more)))
    (indented level (text ++ (10 ∷ more)) rest ts h)

-- ---- parts of lines

assigned : (name expression more : List ℕ) → name ++ codes " := " ++ expression ++ codes ";" ++ more ≡ name ++ (codes " := " ++ (expression ++ (59 ∷ more)))
assigned name expression more =
    append_assoc (name ++ codes " := " ++ expression) (codes ";") more ∙ append_assoc (name ++ codes " := ") expression (59 ∷ more)
    ∙ append_assoc name (codes " := ") (expression ++ (59 ∷ more))

headed : (word expression more : List ℕ) → word ++ expression ++ codes " THEN" ++ more ≡ word ++ (expression ++ (codes " THEN" ++ more))
headed word expression more = append_assoc (word ++ expression) (codes " THEN") more ∙ append_assoc word expression (codes " THEN" ++ more)

semicolon_spells : (more rest : List ℕ) (ts : List TokenKind) → Spells more ts rest → Spells (59 ∷ 10 ∷ more) (token.Delimiter sign.Semicolon ∷ ts) rest
unfolding class_of
semicolon_spells more rest ts h = spelling.one {w = 59 ∷ []} {text = 10 ∷ more} (sign_spells sign.Semicolon (10 ∷ (more ++ rest)) refl) (spelling.space refl h)

pub before_semicolon : (rest : List ℕ) → Ends alphabet.Location (59 ∷ rest)
unfolding class_of
before_semicolon rest = refl

pub before_space : (rest : List ℕ) → Ends alphabet.Location (32 ∷ rest)
unfolding class_of
before_space rest = refl

assign_spells : (name text rest : List ℕ) (ts : List TokenKind) → IsName name → Spells text ts rest → Spells (name ++ (codes " := " ++ text)) (token.Name name ∷ token.Delimiter sign.Assign ∷ ts) rest
unfolding class_of
assign_spells name text rest ts is h =
    spelling.one (name_spells name (codes " := " ++ text ++ rest) is refl refl)
    (spelling.space refl (spelling.one {w = 58 ∷ 61 ∷ []} {text = 32 ∷ text} (sign_spells sign.Assign (32 ∷ (text ++ rest)) refl) (spelling.space refl h)))

then_spells : (more rest : List ℕ) (ts : List TokenKind) → Spells more ts rest → Spells (codes " THEN" ++ (10 ∷ more)) (token.Keyword keyword.Then ∷ ts) rest
unfolding class_of is_spaced keyword_of same_word
then_spells more rest ts h =
    spelling.space refl (spelling.one {w = codes "THEN"} {text = 10 ∷ more} (reserved_spells (codes "THEN") (10 ∷ (more ++ rest)) keyword.Then refl refl refl refl) (spelling.space refl h))

else_spells : (more rest : List ℕ) (ts : List TokenKind) → Spells more ts rest → Spells (codes "ELSE" ++ (10 ∷ more)) (token.Keyword keyword.Else ∷ ts) rest
unfolding class_of is_spaced keyword_of same_word
else_spells more rest ts h =
    spelling.one {w = codes "ELSE"} {text = 10 ∷ more} (reserved_spells (codes "ELSE") (10 ∷ (more ++ rest)) keyword.Else refl refl refl refl) (spelling.space refl h)

end_spells : (more rest : List ℕ) (ts : List TokenKind) → Spells more ts rest → Spells (codes "END_IF;" ++ (10 ∷ more)) (token.Keyword keyword.EndIf ∷ token.Delimiter sign.Semicolon ∷ ts) rest
unfolding class_of is_spaced keyword_of same_word
end_spells more rest ts h =
    spelling.one {w = codes "END_IF"} {text = 59 ∷ 10 ∷ more} (reserved_spells (codes "END_IF") (59 ∷ 10 ∷ (more ++ rest)) keyword.EndIf refl refl refl refl) (semicolon_spells more rest ts h)

if_spells : (rest : List ℕ) → Spells (codes "IF ") (token.Keyword keyword.If ∷ []) rest
unfolding class_of is_spaced keyword_of same_word
if_spells rest = reserved_spaced (codes "IF") rest 32 keyword.If refl refl refl

elsif_spells : (rest : List ℕ) → Spells (codes "ELSIF ") (token.Keyword keyword.Elsif ∷ []) rest
unfolding class_of is_spaced keyword_of same_word
elsif_spells rest = reserved_spaced (codes "ELSIF") rest 32 keyword.Elsif refl refl refl

-- ---- statements

mutual
  pub body_spells : (space : Space) (own : List ℕ) (level : ℕ) (body : Body) → AreBodyNames space own body → (rest : List ℕ) → Spells (body_text space own level body) (body_tokens (body_tree space own body)) rest
  body_spells space own level Nothing are rest = spelling.nothing
  body_spells space own level (Assign v e more) are rest =
      let name = variable_name space v in
      let text = expression_text space own e in
      let others = body_text space own level more in
      lined level (assignment_text space own v e) others rest (body_tokens (body_tree space own (Assign v e more)))
      (subst (λ (x : List ℕ). Spells x (body_tokens (body_tree space own (Assign v e more))) rest) (sym (assigned name text (10 ∷ others)))
      (assign_spells name (text ++ (59 ∷ 10 ∷ others)) rest _ are.0
      (joined text (59 ∷ 10 ∷ others) rest (tree_tokens (expression_tree space own e)) _
      (expression_spells space own e are.1 (59 ∷ 10 ∷ (others ++ rest)) (before_semicolon (10 ∷ (others ++ rest))))
      (semicolon_spells others rest _ (body_spells space own level more are.2 rest)))))
  body_spells space own level (If branches more) are rest =
      let first = branches_text space own level (codes "IF ") branches in
      let others = body_text space own level more in
      subst (λ (x : List ℕ). Spells x (body_tokens (body_tree space own (If branches more))) rest) (sym (append_assoc first (line level (codes "END_IF;")) others))
      (joined first (line level (codes "END_IF;") ++ others) rest _ _
      (branches_spell space own level (codes "IF ") keyword.If if_spells branches are.0 (line level (codes "END_IF;") ++ others ++ rest))
      (lined level (codes "END_IF;") others rest _ (end_spells others rest _ (body_spells space own level more are.1 rest))))

  branches_spell : (space : Space) (own : List ℕ) (level : ℕ) (word : List ℕ) (k : Keyword) → ((rest : List ℕ) → Spells word (token.Keyword k ∷ []) rest) → (branches : Branches) → AreBranchNames space own branches → (rest : List ℕ)
      → Spells (branches_text space own level word branches) (branches_tokens k (branches_tree space own branches)) rest
  branches_spell space own level word k h NoBranch are rest = spelling.nothing
  branches_spell space own level word k h (When e body more) are rest =
      let text = expression_text space own e in
      let inner = body_text space own (level + 1) body in
      let others = branches_text space own level (codes "ELSIF ") more in
      let ts = (token.Keyword k ∷ tree_tokens (expression_tree space own e)) ++ (token.Keyword keyword.Then ∷ body_tokens (body_tree space own body)) in
      joined (line level (branch_head space own word e) ++ inner) others rest _ _
      (lined level (branch_head space own word e) inner (others ++ rest) ts
      (subst (λ (x : List ℕ). Spells x ts (others ++ rest)) (sym (headed word text (10 ∷ inner)))
      (joined word (text ++ (codes " THEN" ++ (10 ∷ inner))) (others ++ rest) (token.Keyword k ∷ []) _ (h ((text ++ (codes " THEN" ++ (10 ∷ inner))) ++ (others ++ rest)))
      (joined text (codes " THEN" ++ (10 ∷ inner)) (others ++ rest) (tree_tokens (expression_tree space own e)) _
      (expression_spells space own e are.0 (codes " THEN" ++ (10 ∷ inner) ++ (others ++ rest)) (before_space (codes "THEN" ++ (10 ∷ inner) ++ (others ++ rest))))
      (then_spells inner (others ++ rest) _ (body_spells space own (level + 1) body are.1 (others ++ rest)))))))
      (branches_spell space own level (codes "ELSIF ") keyword.Elsif elsif_spells more are.2 rest)
  branches_spell space own level word k h (Otherwise body more) are rest =
      let inner = body_text space own (level + 1) body in
      let others = branches_text space own level (codes "ELSIF ") more in
      joined (line level (codes "ELSE") ++ inner) others rest _ _
      (lined level (codes "ELSE") inner (others ++ rest) _ (else_spells inner (others ++ rest) _ (body_spells space own (level + 1) body are.0 (others ++ rest))))
      (branches_spell space own level (codes "ELSIF ") keyword.Elsif elsif_spells more are.1 rest)
