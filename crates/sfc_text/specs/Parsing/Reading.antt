-- Reading by rules from left to right, with one token of lookahead.
use Rattle.std.specs.Prelude.{◌≡◌, ◌⊎◌, ℕ, zero, suc, List, [], ◌∷◌, ◌++◌, Bool, true, false, cond, nat_le, Option, Some, None, Result, Ok, Err, length}
use Rattle.std.specs.Borrow.{Bor}
use Rattle.sfc_tokens.specs.declared.token.Token.{Token}
use Rattle.sfc_tokens.specs.declared.token.TokenKind.{TokenKind}
use Rattle.sfc_tokens.specs.Tokens.{Kinds, kinds}
use Rattle.sfc_text.specs.declared.parse.fault.ParseFault.{ParseFault}
use Rattle.sfc_text.specs.declared.parse.fault.ParseFault.TheVariants as fault
use Rattle.sfc_text.specs.declared.tree.Declaration.{Declaration}
use Rattle.sfc_text.specs.Marks.{Marks, is_any}
use Rattle.sfc_text.specs.Sorts.{Sort, Sorted}
use Rattle.sfc_text.specs.Rules.{Rule, token, nothing, map, both, either, many, chain, ahead, inner, counted}
use Rattle.sfc_text.specs.Building.{NamesOrLocation}
use Rattle.sfc_text.specs.Parsing.Lookahead.{begins, first}

-- why tokens are refused: they can't go on so, or a limit is passed
pub data Refusal : Type 0 where
  Syntax : Refusal
  TooDeep : Refusal

-- what reading gives: a value, or why there is none
abbrev pub Read : Type 0 → Type 0
Read X = Result X Refusal

infixl 10 ◌>>=◌
abbrev pub ◌>>=◌ : {A B : Type 0} → Read A → (A → Read B) → Read B
(Ok x) >>= f = f x
(Err e) >>= f = Err e

-- ---- what a function returned, beside what reading gives

-- that the tokens can't go on so is what reading gives; that they are too deep may be told before; want of memory says nothing
abbrev pub Fails : {Y : Type 0} → ParseFault → Read Y → Type 0
Fails fault.Memory read = Unit {0}
Fails (fault.TooDeep left) read = (read ≡ Err Syntax) ⊎ (read ≡ Err TooDeep)
Fails (fault.Syntax left) read = read ≡ Err Syntax

-- what was returned, seen by view, is what reading gives
abbrev pub Gives : {X Y : Type 0} → (X → Y) → Result X ParseFault → Read Y → Type 0
Gives view (Ok x) read = read ≡ Ok (view x)
Gives view (Err fault) read = Fails fault read

abbrev pub IsSyntax : ParseFault → Type 0
IsSyntax (fault.Syntax left) = Unit {0}
IsSyntax _ = ⊥

abbrev pub IsTooDeep : ParseFault → Type 0
IsTooDeep (fault.TooDeep left) = Unit {0}
IsTooDeep _ = ⊥

-- as functions of the code return them: a value, seen by view, and what follows
abbrev pub view_by : {V X : Type 0} → (V → X) → V × Bor (List Token) → X × Kinds
view_by view x = (view x.0, kinds x.1.now)

abbrev pub view_rest : Bor (List Token) → Unit {0} × Kinds
view_rest rest = (tt, kinds rest.now)

abbrev pub view : {X : Type 0} → X × Bor (List Token) → X × Kinds
view x = (x.0, kinds x.1.now)

-- ---- reading

abbrev pub taken : {X : Type 0} → Bool → Option X → Kinds → Read (X × Kinds)
taken false value ts = Err Syntax
taken true None ts = Err Syntax
taken true (Some x) ts = Ok (x, ts)

abbrev pub one : {X : Type 0} → Marks → (TokenKind → Option X) → Kinds → Read (X × Kinds)
one marks value [] = Err Syntax
one marks value (t ∷ ts) = taken (is_any marks t) (value t) ts

-- an item, if one begins there, and what follows it
abbrev pub Found : Type 0 → Type 0
Found X = Read (Option (X × Kinds))

abbrev pub some : {X : Type 0} → Read (X × Kinds) → Found X
some r = r >>= λ x. Ok (Some x)

abbrev pub found : {X : Type 0} → Marks → (Kinds → Read (X × Kinds)) → Kinds → Found X
found marks item ts = cond (begins marks ts) (some (item ts)) (Ok None)

abbrev pub and_more : {X : Type 0} → Option (X × Kinds) → Kinds → (Kinds → Read (List X × Kinds)) → Read (List X × Kinds)
and_more None ts further = Ok ([], ts)
and_more (Some x) ts further = further x.1 >>= λ y. Ok (x.0 ∷ y.0, y.1)

-- items as long as one begins, at most n of them
unfoldable pub items : {X : Type 0} → (Kinds → Found X) → ℕ → Kinds → Read (List X × Kinds)
items item zero ts = Ok ([], ts)
items item (suc n) ts = item ts >>= λ o. and_more o ts (items item n)

abbrev pub all : {X : Type 0} → (Kinds → Found X) → Kinds → Read (List X × Kinds)
all item ts = items item (suc (length ts)) ts

-- what f makes of what was read
abbrev pub made : {A B : Type 0} → (A → B) → Read (A × Kinds) → Read (B × Kinds)
made f r = r >>= λ y. Ok (f y.0, y.1)

-- a list behind what was found before
abbrev pub behind : {X : Type 0} → List X → Read (List X × Kinds) → Read (List X × Kinds)
behind front r = made (λ xs. front ++ xs) r

-- the names of a declaration with the first one before them
abbrev pub with_first : List ℕ → NamesOrLocation → NamesOrLocation
with_first first names_or_location = (first ∷ names_or_location.0, names_or_location.1)

-- the names of a configuration, and the globals of both levels in one list
abbrev pub in_one_list :
    (((List ℕ × List Declaration) × List ℕ) × List ℕ) × List Declaration → ((List ℕ × List ℕ) × List ℕ) × List Declaration
in_one_list x = (((x.0.0.0.0, x.0.0.1), x.0.1), x.0.0.0.1 ++ x.1)

-- one after the other
abbrev pub pair : {A B : Type 0} → (Kinds → Read (A × Kinds)) → (Kinds → Read (B × Kinds)) → Kinds → Read ((A × B) × Kinds)
pair a b ts = a ts >>= λ y. b y.1 >>= λ z. Ok ((y.0, z.0), z.1)

-- no more than n are counted
abbrev pub limited : {X : Type 0} → (X → ℕ) → ℕ → Read (X × Kinds) → Read (X × Kinds)
limited count n r = r >>= λ y. cond (nat_le (count y.0) n) (Ok y) (Err TooDeep)

-- what is nested is read by inside
abbrev pub Inside : Type 0
Inside = (s : Sort) → Kinds → Read (Sorted s × Kinds)

abbrev pub read : {X : Type 0} → ℕ → Inside → Rule X → Kinds → Read (X × Kinds)
read n inside (token marks value) ts = one marks value ts
read n inside (nothing y) ts = Ok (y, ts)
read n inside (map f a) ts = read n inside a ts >>= λ y. Ok (f y.0, y.1)
read n inside (both f a b) ts = read n inside a ts >>= λ y. read n inside b y.1 >>= λ z. Ok (f y.0 z.0, z.1)
read n inside (either a b) ts = cond (begins (first a) ts) (read n inside a ts) (read n inside b ts)
read n inside (many f a) ts = all (found (first a) (read n inside a)) ts >>= λ y. Ok (f y.0, y.1)
read n inside (chain f a s) ts =
    read n inside a ts >>= λ y. all (found (first s) (pair (read n inside s) (read n inside a))) y.1 >>= λ z. Ok (f y.0 z.0, z.1)
read n inside (ahead p a b) ts = cond (p ts) (read n inside a ts) (read n inside b ts)
read n inside (inner s f) ts = inside s ts >>= λ y. Ok (f y.0, y.1)
read n inside (counted count a) ts = limited count n (read n inside a ts)

-- what is read of all tokens
abbrev pub ended : {X : Type 0} → Read (X × Kinds) → Read X
ended r = r >>= λ y. at_end y.0 y.1
  where
    at_end : {X : Type 0} → X → Kinds → Read X
    at_end x [] = Ok x
    at_end x (t ∷ ts) = Err Syntax
