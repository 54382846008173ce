-- A write to one of the values changes that value alone.
use Rattle.std.proofs.Common.{◌≡◌, ℕ, ◌<◌, Bool, true, false, List, length, get_or, set, eqb, ltb, ◌&&◌, if◌then◌else◌, refl, ap, sym, ◌∙◌, inl, inr, eq-eqb, lt-ltb}
use Rattle.std.proofs.Math.Path.{fun_ext}
use Rattle.std.proofs.lemmas.List.{get_or-set_same, get_or-set_other, length-set}
use Rattle.std.proofs.lemmas.Bool.{cases_eq, ne_eqb}
use Rattle.sfc_base.specs.declared.value.Value.{Value}
use Rattle.sfc_base.specs.declared.value.Value.TheVariants as value
use Rattle.sfc_base.specs.declared.references.Variable.{Variable}
use Rattle.sfc_base.specs.declared.references.Variable.TheVariants.{Global, Local}
use Rattle.sfc_base.specs.declared.references.GlobalId.{GlobalId}
use Rattle.sfc_expr.specs.Environment.{Environment, is_same, assigned}
use Rattle.expressions.specs.Values.{has, stored_at, environment_of}

-- the same but for which variables there are and what they are
abbrev with_variables : List Value → (Variable → Bool) → (Variable → Value) → Environment
with_variables values h f = record (environment_of values) { has = h; stored_at = f }

-- what a write to a variable leaves of it, where it may be one that is not there
abbrev after : Bool → List Value → Variable → Value → Variable → Value
after there values v x w = if there && is_same w v then x else stored_at values w

has_same : (values : List Value) (i : ℕ) (x : Value) → has (set values i x) ≡ has values
has_same values i x = fun_ext (λ w. elim w as (λ v. has (set values i x) v ≡ has values v) [
  | Global g ↦ ap (ltb g.0) (length-set values i x)
  | Local l ↦ refl
])

at_place : (values : List Value) (i : ℕ) (x d : Value) (k : ℕ) → i < length values →
    get_or (set values i x) k d ≡ (if eqb k i then x else get_or values k d)
at_place values i x d k lt = elim (cases_eq k i) [
  | inl e ↦ rw (e, eq-eqb i i refl) (get_or-set_same values i x d lt)
  | inr other ↦ rw (ne_eqb k i other) (get_or-set_other values i k x d other)
]

written_value : (values : List Value) (g : GlobalId) (x : Value) → g.0 < length values →
    stored_at (set values g.0 x) ≡ after true values (Global g) x
written_value values g x lt = fun_ext (λ w. elim w as (λ v. stored_at (set values g.0 x) v ≡ after true values (Global g) x v) [
  | Global h ↦ at_place values g.0 x (value.Bool false) h.0 lt
  | Local l ↦ refl
])

pub written : (values : List Value) (g : GlobalId) (x : Value) → g.0 < length values →
    environment_of (set values g.0 x) ≡ assigned (environment_of values) (Global g) x
written values g x lt =
    ap (λ h. with_variables values h (stored_at (set values g.0 x))) (has_same values g.0 x)
    ∙ ap (with_variables values (has values)) (written_value values g x lt)
    ∙ ap (λ b. with_variables values (has values) (after b values (Global g) x)) (sym (lt-ltb g.0 (length values) lt))
