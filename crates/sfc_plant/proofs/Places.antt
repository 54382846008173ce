-- A variable of the image, by what it is.
use Rattle.std.proofs.Common.{◌≡◌, ⊎_elim, ℕ, suc, ◌-◌, ◌≤◌, List, [], ◌∷◌, length, flat_map, slice_get, refl, sym, ap, ◌∙◌, subst, arith}
use Rattle.std.proofs.Common.{Option, Some, None}
use Rattle.std.proofs.lemmas.Bool.{cases_lt}
use Rattle.sfc_plant.specs.declared.variable.Variable.{Variable}
use Rattle.sfc_plant.specs.declared.image_variable.ImageVariable.{ImageVariable}
use Rattle.sfc_plant.specs.declared.image_variable.ImageVariable.TheVariants.{Global, Local}
use Rattle.sfc_plant.specs.declared.instance.Instance.{Instance}
use Rattle.sfc_plant.specs.Plants.{PlantData}
use Rattle.sfc_plant.specs.Image.{locals_of, image_variables, image_numbering, locals_from}
use Rattle.sfc_plant.specs.Finding.{locals_at, instance_locals}
use Rattle.sfc_plant.proofs.Images.{get_front, get_behind, here, later, global_here, behind_globals}

-- what stands at a place among the locals, and among what they are
abbrev Tells : PlantData → ℕ → List Instance → Option Variable → Option ImageVariable → Type 0
Tells plant k is v None = v ≡ None
Tells plant k is v (Some (Global g)) = ⊥
Tells plant k is v (Some (Local i l)) = (k ≤ i.0) × (v ≡ slice_get (locals_at plant.types (slice_get is (i.0 - k))) l.0)

one_more : (plant : PlantData) (k : ℕ) (first : Instance) (is : List Instance) (v : Option Variable) (o : Option ImageVariable)
    → Tells plant (suc k) is v o → Tells plant k (first ∷ is) v o
one_more plant k first is v None e = e
one_more plant k first is v (Some (Global g)) e = e
one_more plant k first is v (Some (Local i l)) e =
    let le : suc k ≤ i.0 = e.0 in
    let on : i.0 - k ≡ suc (i.0 - suc k) = omega (arith, le) in
    (omega (arith, le), e.1 ∙ sym (ap (λ n. slice_get (locals_at plant.types (slice_get (first ∷ is) n)) l.0) on))

locals_tell : (plant : PlantData) (k : ℕ) (is : List Instance) (n : ℕ)
    → Tells plant k is (slice_get (flat_map (locals_of plant.types) is) n) (slice_get (locals_from plant.types k is) n)
locals_tell plant k [] n = refl
locals_tell plant k (first ∷ is) n =
    ⊎_elim
    (λ lt.
    let at : k - k ≡ 0 = omega arith in
    subst (Tells plant k (first ∷ is) (slice_get (flat_map (locals_of plant.types) (first ∷ is)) n))
    (sym (here plant.types k first is n lt)) (
      omega arith,
      get_front (locals_of plant.types first) (flat_map (locals_of plant.types) is) n lt
          ∙ sym (ap (λ m. slice_get (locals_at plant.types (slice_get (first ∷ is) m)) n) at),
    ))
    (λ le.
    let m : ℕ = n - length (locals_of plant.types first) in
    subst (Tells plant k (first ∷ is) (slice_get (flat_map (locals_of plant.types) (first ∷ is)) n))
    (sym (later plant.types k first is n le))
    (subst (λ (v : Option Variable). Tells plant k (first ∷ is) v (slice_get (locals_from plant.types (suc k) is) m))
    (sym (get_behind (locals_of plant.types first) (flat_map (locals_of plant.types) is) n le))
    (one_more plant k first is _ _ (locals_tell plant (suc k) is m))))
    (cases_lt n (length (locals_of plant.types first)))

-- the variable itself
abbrev pub variable_at : PlantData → Option ImageVariable → Option Variable
variable_at plant None = None
variable_at plant (Some (Global g)) = slice_get plant.globals g.0
variable_at plant (Some (Local i l)) = slice_get (instance_locals plant i) l.0

by_local : (plant : PlantData) (v : Option Variable) (o : Option ImageVariable) → Tells plant 0 plant.instances v o
    → v ≡ variable_at plant o
by_local plant v None e = e
by_local plant v (Some (Global g)) e = absurd e
by_local plant v (Some (Local i l)) e =
    let same : i.0 - 0 ≡ i.0 = omega arith in
    e.1 ∙ ap (λ n. slice_get (locals_at plant.types (slice_get plant.instances n)) l.0) same

tells : (plant : PlantData) (n : ℕ) → slice_get (image_variables plant) n ≡ variable_at plant (slice_get (image_numbering plant) n)
tells plant n =
    let locals : List ImageVariable = locals_from plant.types 0 plant.instances in
    let variables : List Variable = flat_map (locals_of plant.types) plant.instances in
    ⊎_elim
    (λ lt. get_front plant.globals variables n lt ∙ sym (ap (variable_at plant) (global_here (length plant.globals) locals n lt)))
    (λ le.
    let m : ℕ = n - length plant.globals in
    get_behind plant.globals variables n le
    ∙ by_local plant (slice_get variables m) (slice_get locals m) (locals_tell plant 0 plant.instances m)
    ∙ sym (ap (variable_at plant) (behind_globals (length plant.globals) locals n le)))
    (cases_lt n (length plant.globals))

-- where it is told what the variable of this number is
pub variable_there : (plant : PlantData) (n : ℕ) (o : Option ImageVariable) → o ≡ slice_get (image_numbering plant) n
    → variable_at plant o ≡ slice_get (image_variables plant) n
variable_there plant n o e = ap (variable_at plant) e ∙ sym (tells plant n)
