-- Texts of whole messages.
use Rattle.std.proofs.Common.{◌≡◌, ◌≤◌, ◌==◌, ◌∙◌, ℕ, Bool, true, false, if◌then◌else◌, length, List, [], ◌∷◌, Some, sym, ap, arith, append-nil}
use Rattle.std.specs.Prelude.{IsUtf8, option_and_then, unwrap_or}
use Rattle.json.specs.Json as json
use Rattle.json.specs.Lex.{tokens}
use Rattle.json.specs.Print.{print}
use Rattle.json.specs.Token.{Token}
use Rattle.json.proofs.Printed.Trees.{value-json_tokens}
use Rattle.serde_json.specs.Data.{Data, Num, depth, float, items_depth, negative, null, unsigned}
use Rattle.serde_json.specs.Find.{as_u64}
use Rattle.serde_json.specs.Read.{max_depth, of_json, read}
use Rattle.serde_json.specs.Written.{WritesValue}
use Rattle.serde_json.proofs.Texts.{print-outline, tokens_from_order}
use Rattle.sfc_responses.specs.Bodies.{body_of, counts_of, groups_of, list_of, nest_of, symbol_of, symbols_of}
use Rattle.sfc_responses.specs.declared.body.Body.{Body}
use Rattle.sfc_responses.specs.declared.body.Body.TheVariants as body
use Rattle.sfc_responses.specs.declared.symbol.Group.{Group}
use Rattle.sfc_responses.specs.declared.symbol.Located.{Located}
use Rattle.sfc_responses.specs.declared.symbol.Symbol.{Symbol}
use Rattle.sfc_wire.specs.Texts.{IsWritten}

pub as_unsigned : (n : Num) (k : ℕ) → as_u64 n ≡ Some k → n ≡ unsigned k
as_unsigned (unsigned n) k e = ap (λ o. unsigned (unwrap_or o 0)) e
as_unsigned (negative z) k e = absurd cc
as_unsigned (float x) k e = absurd cc

pub same_data : (one other : Data) → Some one ≡ Some other → one ≡ other
same_data one other e = ap (λ o. unwrap_or o null) e

-- ---- what was written token by token is read back

pub read_back : (d : Data) (ts : List Token) → WritesValue d [] ts → tokens (print ts) ≡ ts → depth d ≤ max_depth → read (print ts) ≡ Some d
read_back d ts w same shallow =
    ap (λ r. option_and_then of_json (option_and_then (λ p. json.if_last p.0 p.1) r))
    (ap (json.value max_depth) (same ∙ w.1 ∙ sym (append-nil _)) ∙ value-json_tokens w.0 max_depth [] (omega (arith, w.3))) ∙ w.2

pub written : (d : Data) (ts : List Token) → WritesValue d [] ts → tokens (print ts) ≡ ts → IsUtf8 (print ts) → depth d ≤ max_depth → IsWritten d (print ts)
written d ts w same utf8 shallow = record {
  utf8 = utf8;
  reads = read_back d ts w same shallow;
  exact = λ whole. ap print (sym same ∙ tokens_from_order (print ts) d (w.0, same ∙ w.1, w.4) whole) ∙ print-outline d;
}

-- ---- how deep what is told nests

symbols_depth : (symbols : List Symbol) → items_depth (symbols_of symbols) ≤ 3
symbols_depth [] = omega arith
symbols_depth (symbol ∷ symbols) = omega (arith, symbols_depth symbols)

either_depth : (is_alone : Bool) (head : Symbol) (inner : List Symbol) → depth (if is_alone then symbol_of head else nest_of head inner) ≤ 5
either_depth true head inner = omega arith
either_depth false head inner = omega (arith, symbols_depth inner)

groups_depth : (groups : List Group) → items_depth (groups_of groups) ≤ 5
groups_depth [] = omega arith
groups_depth (group ∷ groups) = omega (arith, either_depth (length group.inner.items == 0) group.head group.inner.items, groups_depth groups)

list_depth : (symbols : List Located) → items_depth (list_of symbols) ≤ 4
list_depth [] = omega arith
list_depth (symbol ∷ symbols) = omega (arith, list_depth symbols)

counts_depth : (numbers : List ℕ) → items_depth (counts_of numbers) ≤ 0
counts_depth [] = omega arith
counts_depth (n ∷ ns) = omega (arith, counts_depth ns)

pub body_depth : (body : Body) → depth (body_of body) ≤ 6
body_depth (body.Symbols groups) = omega (arith, groups_depth groups.now)
body_depth (body.List symbols) = omega (arith, list_depth symbols.now)
body_depth (body.Data numbers) = omega (arith, counts_depth numbers.now)
