-- Blocks of global variables, behind those found.
use Rattle.std.proofs.Common.{◌≡◌, ◌<◌, List, ◌∷◌, [], Bool, true, false, length, Ok, refl, sym, ap, subst}
use Rattle.sfc_base.specs.declared.keyword.Keyword.TheVariants as keyword
use Rattle.sfc_tokens.specs.declared.token.Token.{Token}
use Rattle.sfc_tokens.specs.Tokens.{Kinds, kinds}
use Rattle.sfc_text.specs.declared.parse.fault.ParseFault.{ParseFault}
use Rattle.sfc_text.specs.declared.tree.Declaration.{Declaration}
use Rattle.sfc_text.specs.Grammar.{globals}
use Rattle.sfc_text.specs.Marks.{Word}
use Rattle.sfc_text.specs.Parsing.Depth.{at}
use Rattle.sfc_text.specs.Parsing.Lookahead.{begins, first}
use Rattle.sfc_text.specs.Parsing.Reading.{Read, Fails, behind}
use Rattle.sfc_text.proofs.Loops.{Folding, gathers, behind_ok, behind_fails, fails, goes_on, ends, smaller, shortens}
use Rattle.sfc_text.proofs.Shorter.{Shorter}

abbrev Declarations : Type 0
Declarations = List Declaration

takes : Shorter false (at 64 globals)
unfolding globals
takes = shortens 64 globals refl

begins_globals : (b : Bool) (ts : Kinds) → begins (Word keyword.VarGlobal ∷ []) ts ≡ b → begins (first globals) ts ≡ b
unfolding globals
begins_globals b ts h = h

abbrev pub Still : Declarations → Kinds → Read (Declarations × Kinds)
Still front ts = Folding (first globals) (at 64 globals) gathers front ts

pub blocks_go_on : (front longer : Declarations) (tokens rest : List Token) (total : Read (Declarations × Kinds)) → begins (Word keyword.VarGlobal ∷ []) (kinds tokens) ≡ true → behind front (at 64 globals (kinds tokens)) ≡ Ok (longer, kinds rest) → Still front (kinds tokens) ≡ total → Still longer (kinds rest) ≡ total
blocks_go_on front longer tokens rest total h e so_far =
    let p = behind_ok front (at 64 globals (kinds tokens)) (longer, kinds rest) e in
    let same = p.2 in
    let next = goes_on (first globals) (at 64 globals) takes gathers front (kinds tokens) p.0 total (begins_globals true (kinds tokens) h) p.1 so_far in
    subst (λ (z : Declarations × Kinds). Still z.0 z.1 ≡ total) (sym same) next

pub blocks_fail : (wrong : ParseFault) (front : Declarations) (tokens : List Token) (total : Read (Declarations × Kinds)) → begins (Word keyword.VarGlobal ∷ []) (kinds tokens) ≡ true → Fails wrong (behind front (at 64 globals (kinds tokens))) → Still front (kinds tokens) ≡ total → Fails wrong total
blocks_fail wrong front tokens total h e so_far = fails wrong (first globals) (at 64 globals) takes gathers front (kinds tokens) total (begins_globals true (kinds tokens) h) (behind_fails wrong front (at 64 globals (kinds tokens)) e) so_far

pub blocks_end : (front : Declarations) (ts : Kinds) (total : Read (Declarations × Kinds)) → begins (Word keyword.VarGlobal ∷ []) ts ≡ false → Still front ts ≡ total → total ≡ Ok (front, ts)
blocks_end front ts total h so_far = ends (first globals) (at 64 globals) takes gathers front ts total (begins_globals false ts h) so_far

pub block_smaller : (front longer : Declarations) (tokens rest : List Token) → behind front (at 64 globals (kinds tokens)) ≡ Ok (longer, kinds rest) → length rest < length tokens
block_smaller front longer tokens rest e =
    let p = behind_ok front (at 64 globals (kinds tokens)) (longer, kinds rest) e in
    let same : kinds rest ≡ p.0.1 = ap (λ (z : Declarations × Kinds). z.1) p.2 in
    smaller (at 64 globals) takes tokens rest p.0.0 (subst (λ us. at 64 globals (kinds tokens) ≡ Ok (p.0.0, us)) (sym same) p.1)
