-- What the names of the scope stand for: each is one letter, of either case.
use Rattle.std.specs.Prelude.{ℕ, ◌==◌, List, [], ◌∷◌, Option, Some, None, if◌then◌else◌}
use Rattle.std.specs.Char.{to_ascii_uppercase}
use Rattle.sfc_base.specs.declared.var_type.VarType.{VarType}
use Rattle.sfc_base.specs.declared.var_type.VarType.TheVariants as types
use Rattle.sfc_base.specs.declared.references.Variable.{Variable}
use Rattle.sfc_base.specs.declared.references.Variable.TheVariants.{Global}
use Rattle.sfc_base.specs.declared.references.StepId.{StepId}
use Rattle.sfc_check.specs.Scopes.{Names}

-- the capital of a name of one letter, 0 of any other name
abbrev pub letter_of : List ℕ → ℕ
letter_of [] = 0
letter_of (b ∷ []) = to_ascii_uppercase b
letter_of (b ∷ c ∷ name) = 0

abbrev pub global : ℕ → VarType → Option (Variable × VarType)
global place t = Some (Global (record { 0 = place }), t)

-- b, c : BOOL; i, j, m : INT
abbrev pub short_variable : ℕ → Option (Variable × VarType)
short_variable letter =
    if letter == 66 then global 0 types.Bool else
    if letter == 67 then global 1 types.Bool else
    if letter == 73 then global 2 types.Int else
    if letter == 74 then global 3 types.Int else
    if letter == 77 then global 4 types.Int else None

-- d, e : DINT; t, u, w : TIME
abbrev pub long_variable : ℕ → Option (Variable × VarType)
long_variable letter =
    if letter == 68 then global 5 types.Dint else
    if letter == 69 then global 6 types.Dint else
    if letter == 84 then global 7 types.Time else
    if letter == 85 then global 8 types.Time else
    if letter == 87 then global 9 types.Time else None

abbrev pub either : {A : Type 0} → Option A → Option A → Option A
either (Some x) other = Some x
either None other = other

abbrev pub variable_of : ℕ → Option (Variable × VarType)
variable_of letter = either (short_variable letter) (long_variable letter)

-- the steps S and R
abbrev pub step_of : ℕ → Option StepId
step_of letter =
    if letter == 83 then Some (record { 0 = 0 }) else
    if letter == 82 then Some (record { 0 = 1 }) else None

-- the action A
abbrev pub names : Names
names = record {
  variable = λ name. variable_of (letter_of name);
  step = λ name. step_of (letter_of name);
  is_own_action = λ name. letter_of name == 65;
}
