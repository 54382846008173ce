-- The text of an expression spells the tokens of the tree that the listing spells.
use Rattle.std.proofs.Common.{◌≡◌, ℕ, pos, negsuc, suc, ◌+◌, nat_lt, Bool, true, false, ◌&&◌, if◌then◌else◌, List, [], ◌∷◌, ◌++◌, Some, refl, sym, subst, ◌∙◌, append_assoc, codes}
use Rattle.std.specs.List.{list_all}
use Rattle.sfc_base.specs.declared.class.Class.{Class}
use Rattle.sfc_base.specs.declared.class.Class.TheVariants as class
use Rattle.sfc_base.specs.declared.delimiter.Delimiter.TheVariants as sign
use Rattle.sfc_base.specs.declared.keyword.Keyword.TheVariants as keyword
use Rattle.sfc_base.specs.declared.run.Alphabet.TheVariants as alphabet
use Rattle.sfc_tokens.specs.declared.token.TokenKind.{TokenKind}
use Rattle.sfc_tokens.specs.declared.token.TokenKind.TheVariants as token
use Rattle.sfc_base.specs.Case.{same_word}
use Rattle.sfc_base.specs.Classes.{class_of, first_class}
use Rattle.sfc_tokens.specs.Lexemes.{look_ahead, Piece}
use Rattle.sfc_base.specs.Names.{starts_word, is_spaced, is_word, IsName}
use Rattle.sfc_base.specs.Runs.{has, Ends}
use Rattle.sfc_tokens.specs.Spelling as spelling
use Rattle.sfc_tokens.specs.Spelling.{Spells}
use Rattle.sfc_base.specs.Words.{keyword_of}
use Rattle.sfc_tokens.proofs.Signs.{sign_spells}
use Rattle.sfc_tokens.proofs.Spelled.{name_spells, reserved_spells}
use Rattle.sfc_tokens.proofs.Spellings.{alone, joined}
use Rattle.sfc_text.specs.Spelled.{operator_token, tighter, is_looser, enclosed, behind_minus, tree_tokens}
use Rattle.sfc_expr.specs.declared.operator.Operator.{Operator}
use Rattle.sfc_expr.specs.declared.operator.Operator.TheVariants as operator
use Rattle.sfc_base.specs.declared.value.Value.{Value}
use Rattle.sfc_base.specs.declared.value.Value.TheVariants as value
use Rattle.sfc_expr.specs.Trees.{Expression, Literal, Read, StepActive, StepTime, ActionQ, Not, Minus, Binary}
use Rattle.sfc_plant.specs.Spaces.{Space}
use Rattle.sfc_list.specs.Expressions.{operator_text, level, level_of, prefix_level, operand, expression_text}
use Rattle.sfc_plant.specs.Names.{variable_name, step_name}
use Rattle.sfc_read_back.specs.SpelledTexts.{AreNames}
use Rattle.sfc_list.specs.Values.{literal_text}
use Rattle.sfc_read_back.specs.WrittenTerms.{operator_tree, expression_tree}
use Rattle.sfc_read_back.proofs.SpelledLiterals.{ends_word, ends_sharp, both, literal_spells}

-- ---- levels

looser : (o p : Operator) → nat_lt (level p) (level o) ≡ nat_lt (suc (tighter (operator_tree o))) (suc (tighter (operator_tree p)))
looser operator.Or operator.Or = refl
looser operator.Xor operator.Or = refl
looser operator.And operator.Or = refl
looser operator.Equal operator.Or = refl
looser operator.NotEqual operator.Or = refl
looser operator.Less operator.Or = refl
looser operator.Greater operator.Or = refl
looser operator.LessOrEqual operator.Or = refl
looser operator.GreaterOrEqual operator.Or = refl
looser operator.Add operator.Or = refl
looser operator.Subtract operator.Or = refl
looser operator.Multiply operator.Or = refl
looser operator.Divide operator.Or = refl
looser operator.Modulo operator.Or = refl
looser _ _ = refl

no_tighter : (o p : Operator) → nat_lt (level p) (level o + 1) ≡ nat_lt (tighter (operator_tree o)) (suc (tighter (operator_tree p)))
no_tighter operator.Or operator.Or = refl
no_tighter operator.Xor operator.Or = refl
no_tighter operator.And operator.Or = refl
no_tighter operator.Equal operator.Or = refl
no_tighter operator.NotEqual operator.Or = refl
no_tighter operator.Less operator.Or = refl
no_tighter operator.Greater operator.Or = refl
no_tighter operator.LessOrEqual operator.Or = refl
no_tighter operator.GreaterOrEqual operator.Or = refl
no_tighter operator.Add operator.Or = refl
no_tighter operator.Subtract operator.Or = refl
no_tighter operator.Multiply operator.Or = refl
no_tighter operator.Divide operator.Or = refl
no_tighter operator.Modulo operator.Or = refl
no_tighter _ _ = refl

below_prefix : (p : Operator) → nat_lt (level p) prefix_level ≡ nat_lt 0 (suc (tighter (operator_tree p)))
below_prefix operator.Or = refl
below_prefix _ = refl

prefix_first : (o : Operator) → nat_lt prefix_level (level o) ≡ nat_lt (suc (tighter (operator_tree o))) 0
prefix_first operator.Or = refl
prefix_first _ = refl

prefix_second : (o : Operator) → nat_lt prefix_level (level o + 1) ≡ nat_lt (tighter (operator_tree o)) 0
prefix_second operator.Or = refl
prefix_second _ = refl

at_left : (space : Space) (own : List ℕ) (o : Operator) (e : Expression) → nat_lt (level_of e) (level o) ≡ is_looser (suc (tighter (operator_tree o))) (expression_tree space own e)
at_left space own o (Binary p t a b) = looser o p
at_left space own o _ = prefix_first o

at_right : (space : Space) (own : List ℕ) (o : Operator) (e : Expression) → nat_lt (level_of e) (level o + 1) ≡ is_looser (tighter (operator_tree o)) (expression_tree space own e)
at_right space own o (Binary p t a b) = no_tighter o p
at_right space own o _ = prefix_second o

at_prefix : (space : Space) (own : List ℕ) (e : Expression) → nat_lt (level_of e) prefix_level ≡ is_looser 0 (expression_tree space own e)
at_prefix space own (Binary p t a b) = below_prefix p
at_prefix space own _ = refl

-- ---- what an expression begins with

-- a `(` before this text is no start of a comment
abbrev pub Opens : List ℕ → Type 0
Opens text = look_ahead sign.Open (first_class text) ≡ look_ahead sign.Close (first_class text)

word_first : (k : Class) → starts_word k ≡ true → look_ahead sign.Open k ≡ look_ahead sign.Close k
word_first class.Letter e = refl
word_first class.Underscore e = refl
word_first _ e = absurd cc

name_first : (w rest : List ℕ) → IsName w → Opens (w ++ rest)
name_first [] rest is = absurd cc
name_first (b ∷ w) rest is =
    let named = both (is_word (b ∷ w)) _ is in
    let worded = both (starts_word (class_of b) && list_all (has alphabet.Word) (b ∷ w)) (is_spaced (b ∷ w)) named.0 in
    word_first (class_of b) (both (starts_word (class_of b)) (list_all (has alphabet.Word) (b ∷ w)) worded.0).0

pub name_part_first : (w part rest : List ℕ) → IsName w → Opens ((w ++ part) ++ rest)
name_part_first w part rest is = subst (λ (x : List ℕ). Opens x) (sym (append_assoc w part rest)) (name_first w (part ++ rest) is)

literal_first : (v : Value) (rest : List ℕ) → Opens (literal_text v ++ rest)
unfolding class_of
literal_first (value.Bool true) rest = refl
literal_first (value.Bool false) rest = refl
literal_first (value.Int n) rest = refl
literal_first (value.Dint n) rest = refl
literal_first (value.Time (pos n)) rest = refl
literal_first (value.Time (negsuc n)) rest = refl

-- an operator and the spaces round it, between operands
regrouped : (a o b : List ℕ) → a ++ codes " " ++ o ++ codes " " ++ b ≡ a ++ (32 ∷ (o ++ (32 ∷ b)))
regrouped a o b =
    append_assoc (a ++ codes " " ++ o) (codes " ") b ∙ append_assoc (a ++ codes " ") o (32 ∷ b) ∙ append_assoc a (codes " ") (o ++ (32 ∷ b))

bracket_first : (t : Bool) (text more rest : List ℕ) → ((others : List ℕ) → Opens (text ++ others))
    → Opens (((if t then codes "(" ++ text ++ codes ")" else text) ++ more) ++ rest)
unfolding class_of
bracket_first true text more rest h = refl
bracket_first false text more rest h = subst (λ (x : List ℕ). Opens x) (sym (append_assoc text more rest)) (h (more ++ rest))

begins : (space : Space) (own : List ℕ) (e : Expression) → AreNames space own e → (rest : List ℕ) → Opens (expression_text space own e ++ rest)
unfolding class_of
begins space own (Literal v) are rest = literal_first v rest
begins space own (Read v) are rest = name_first (variable_name space v) rest are
begins space own (StepActive s) are rest = name_part_first (step_name space s) (codes ".X") rest are
begins space own (StepTime s) are rest = name_part_first (step_name space s) (codes ".T") rest are
begins space own ActionQ are rest = name_part_first own (codes ".Q") rest are
begins space own (Not e) are rest = refl
begins space own (Minus t e) are rest = refl
begins space own (Binary o t a b) are rest =
    let left = operand (level o) a (expression_text space own a) in
    let right = operand (level o + 1) b (expression_text space own b) in
    subst (λ (x : List ℕ). Opens (x ++ rest)) (sym (regrouped left (operator_text o) right))
    (bracket_first (nat_lt (level_of a) (level o)) (expression_text space own a) (32 ∷ (operator_text o ++ (32 ∷ right))) rest (begins space own a are.0))

-- ---- the parts of an expression

-- a name, a dot and a part
part_spells : (w part rest : List ℕ) → IsName w → IsName part → Ends alphabet.Location rest → Spells (w ++ 46 ∷ part) (token.Name w ∷ token.Delimiter sign.Dot ∷ token.Name part ∷ []) rest
unfolding class_of
part_spells w part rest is named ends =
    spelling.one (name_spells w (46 ∷ (part ++ rest)) is refl refl)
    (spelling.one {w = 46 ∷ []} {text = part} (sign_spells sign.Dot (part ++ rest) refl)
    (alone part rest (token.Name part) (name_spells part rest named (ends_word rest ends) (ends_sharp rest ends))))

-- in parentheses or without
enclosed_spells : (t : Bool) (text rest : List ℕ) (ts : List TokenKind) → ((others : List ℕ) → Opens (text ++ others))
    → ((others : List ℕ) → Ends alphabet.Location others → Spells text ts others) → Ends alphabet.Location rest
    → Spells (if t then codes "(" ++ text ++ codes ")" else text) (enclosed t ts) rest
unfolding class_of
enclosed_spells false text rest ts first h ends = h rest ends
enclosed_spells true text rest ts first h ends =
    spelling.one {w = 40 ∷ []} {text = text ++ 41 ∷ []}
    (sign_spells sign.Open ((text ++ 41 ∷ []) ++ rest) (subst (λ (x : List ℕ). Opens x) (sym (append_assoc text (41 ∷ []) rest)) (first (41 ∷ rest))))
    (joined text (41 ∷ []) rest ts (token.Delimiter sign.Close ∷ []) (h (41 ∷ rest) refl) (alone (41 ∷ []) rest (token.Delimiter sign.Close) (sign_spells sign.Close rest refl)))

-- an operator before a space
operator_spells : (o : Operator) (rest : List ℕ) → Piece (operator_text o) (32 ∷ rest) (Some (operator_token (operator_tree o)))
unfolding class_of is_spaced keyword_of same_word
operator_spells operator.Or rest = reserved_spells (codes "OR") (32 ∷ rest) keyword.Or refl refl refl refl
operator_spells operator.Xor rest = reserved_spells (codes "XOR") (32 ∷ rest) keyword.Xor refl refl refl refl
operator_spells operator.And rest = reserved_spells (codes "AND") (32 ∷ rest) keyword.And refl refl refl refl
operator_spells operator.Equal rest = sign_spells sign.Equal (32 ∷ rest) refl
operator_spells operator.NotEqual rest = sign_spells sign.NotEqual (32 ∷ rest) refl
operator_spells operator.Less rest = sign_spells sign.Less (32 ∷ rest) refl
operator_spells operator.Greater rest = sign_spells sign.Greater (32 ∷ rest) refl
operator_spells operator.LessOrEqual rest = sign_spells sign.LessOrEqual (32 ∷ rest) refl
operator_spells operator.GreaterOrEqual rest = sign_spells sign.GreaterOrEqual (32 ∷ rest) refl
operator_spells operator.Add rest = sign_spells sign.Plus (32 ∷ rest) refl
operator_spells operator.Subtract rest = sign_spells sign.Minus (32 ∷ rest) refl
operator_spells operator.Multiply rest = sign_spells sign.Star (32 ∷ rest) refl
operator_spells operator.Divide rest = sign_spells sign.Slash (32 ∷ rest) refl
operator_spells operator.Modulo rest = reserved_spells (codes "MOD") (32 ∷ rest) keyword.Mod refl refl refl refl

not_spells : (rest : List ℕ) → Piece (codes "NOT") (32 ∷ rest) (Some (token.Keyword keyword.Not))
unfolding class_of is_spaced keyword_of same_word
not_spells rest = reserved_spells (codes "NOT") (32 ∷ rest) keyword.Not refl refl refl refl

single_named : (IsName (codes "X") × IsName (codes "T")) × IsName (codes "Q")
unfolding class_of is_spaced keyword_of same_word
single_named = ((refl, refl), refl)

-- every literal of a listing has a type
typed_behind : (space : Space) (own : List ℕ) (e : Expression) (ts : List TokenKind) → behind_minus (expression_tree space own e) ts ≡ enclosed (is_looser 0 (expression_tree space own e)) ts
typed_behind space own (Literal (value.Bool b)) ts = refl
typed_behind space own (Literal (value.Int n)) ts = refl
typed_behind space own (Literal (value.Dint n)) ts = refl
typed_behind space own (Literal (value.Time t)) ts = refl
typed_behind space own _ ts = refl

-- ---- expressions

space_code : class_of 32 ≡ class.Space
unfolding class_of
space_code = refl

space_end : (rest : List ℕ) → Ends alphabet.Location (32 ∷ rest)
unfolding class_of
space_end rest = refl

operand_spells : (space : Space) (own : List ℕ) (e : Expression) → AreNames space own e
    → ((rest : List ℕ) → Ends alphabet.Location rest → Spells (expression_text space own e) (tree_tokens (expression_tree space own e)) rest)
    → (wanted : ℕ) (t : Bool) → nat_lt (level_of e) wanted ≡ t → (rest : List ℕ) → Ends alphabet.Location rest
    → Spells (operand wanted e (expression_text space own e)) (enclosed t (tree_tokens (expression_tree space own e))) rest
operand_spells space own e are h wanted t same rest ends =
    subst (λ (u : Bool). Spells (if u then codes "(" ++ expression_text space own e ++ codes ")" else expression_text space own e) (enclosed t (tree_tokens (expression_tree space own e))) rest)
    (sym same)
    (enclosed_spells t (expression_text space own e) rest (tree_tokens (expression_tree space own e)) (begins space own e are) h ends)

pub expression_spells : (space : Space) (own : List ℕ) (e : Expression) → AreNames space own e → (rest : List ℕ) → Ends alphabet.Location rest → Spells (expression_text space own e) (tree_tokens (expression_tree space own e)) rest
expression_spells space own (Literal v) are rest ends = literal_spells v rest are ends
expression_spells space own (Read v) are rest ends = alone (variable_name space v) rest (token.Name (variable_name space v)) (name_spells (variable_name space v) rest are (ends_word rest ends) (ends_sharp rest ends))
expression_spells space own (StepActive s) are rest ends = part_spells (step_name space s) (codes "X") rest are single_named.0.0 ends
expression_spells space own (StepTime s) are rest ends = part_spells (step_name space s) (codes "T") rest are single_named.0.1 ends
expression_spells space own ActionQ are rest ends = part_spells own (codes "Q") rest are single_named.1 ends
expression_spells space own (Not e) are rest ends =
    spelling.one {w = codes "NOT"} {text = 32 ∷ operand prefix_level e (expression_text space own e)}
    (not_spells (operand prefix_level e (expression_text space own e) ++ rest))
    (spelling.space space_code (operand_spells space own e are (expression_spells space own e are) prefix_level (is_looser 0 (expression_tree space own e)) (at_prefix space own e) rest ends))
expression_spells space own (Minus t e) are rest ends =
    let tree = expression_tree space own e in
    subst (λ (ts : List TokenKind). Spells (codes "-" ++ operand prefix_level e (expression_text space own e)) (token.Delimiter sign.Minus ∷ ts) rest)
    (sym (typed_behind space own e (tree_tokens tree)))
    (spelling.one {w = 45 ∷ []} {text = operand prefix_level e (expression_text space own e)}
    (sign_spells sign.Minus (operand prefix_level e (expression_text space own e) ++ rest) refl)
    (operand_spells space own e are (expression_spells space own e are) prefix_level (is_looser 0 tree) (at_prefix space own e) rest ends))
expression_spells space own (Binary o t a b) are rest ends =
    let left = operand (level o) a (expression_text space own a) in
    let right = operand (level o + 1) b (expression_text space own b) in
    let loose_left = is_looser (suc (tighter (operator_tree o))) (expression_tree space own a) in
    let loose_right = is_looser (tighter (operator_tree o)) (expression_tree space own b) in
    let behind : Spells (operator_text o ++ 32 ∷ right) (operator_token (operator_tree o) ∷ enclosed loose_right (tree_tokens (expression_tree space own b))) rest =
    spelling.one {w = operator_text o} {text = 32 ∷ right} (operator_spells o (right ++ rest))
    (spelling.space space_code (operand_spells space own b are.1 (expression_spells space own b are.1) (level o + 1) loose_right (at_right space own o b) rest ends)) in
    subst (λ (x : List ℕ). Spells x (tree_tokens (expression_tree space own (Binary o t a b))) rest) (sym (regrouped left (operator_text o) right))
    (joined left (32 ∷ (operator_text o ++ (32 ∷ right))) rest _ _
    (operand_spells space own a are.0 (expression_spells space own a are.0) (level o) loose_left (at_left space own o a) (32 ∷ ((operator_text o ++ (32 ∷ right)) ++ rest)) (space_end ((operator_text o ++ (32 ∷ right)) ++ rest)))
    (spelling.space space_code behind))
