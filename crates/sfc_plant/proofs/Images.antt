-- Locations of variables.
use Rattle.std.proofs.Common.{◌≡◌, ℕ, zero, suc, ◌+◌, ◌-◌, ◌<◌, ◌≤◌, List, [], ◌∷◌, ◌++◌, length, map, flat_map, take, get_or, slice_get, Some, refl, sym, ap, ◌∙◌, arith}
use Rattle.std.specs.Option.{option_map}
use Rattle.std.specs.List.{range_with_len}
use Rattle.std.proofs.lemmas.List.{length-append, length-map}
use Rattle.std.proofs.lemmas.List.FromFn.{get_or-map-range_with_len, length-map-range_with_len}
use Rattle.std.proofs.lemmas.Option.{slice_get-get_or}
use Rattle.sfc_base.specs.declared.limits.TheConstants.{VARIABLES}
use Rattle.sfc_plant.specs.VariableNames.{names_of, variable_place}
use Rattle.sfc_base.proofs.NamePlaces.{place_below}
use Rattle.sfc_plant.specs.declared.program_type.ProgramType.{ProgramType}
use Rattle.sfc_plant.specs.declared.image_variable.ImageVariable.{ImageVariable}
use Rattle.sfc_plant.specs.declared.image_variable.ImageVariable.TheVariants.{Global, Local}
use Rattle.sfc_plant.specs.declared.instance.Instance.{Instance}
use Rattle.sfc_base.specs.declared.ids.ProgId.{ProgId}
use Rattle.sfc_base.specs.declared.ids.VarId.{VarId}
use Rattle.sfc_plant.specs.Plants.{PlantData}
use Rattle.sfc_plant.specs.Image.{locals_in, locals_of, image_variables, globals_to, locals_to, locals_from, starts_from}
use Rattle.sfc_plant.specs.Finding.{first_local, locals_at, instance_locals, local_named}

-- ---- an element of a list and another behind it

pub get_front : {A : Type 0} (xs ys : List A) (i : ℕ) → i < length xs → slice_get (xs ++ ys) i ≡ slice_get xs i
get_front [] ys i lt = absurd (omega arith)
get_front (x ∷ xs) ys zero lt = refl
get_front (x ∷ xs) ys (suc i) lt = get_front xs ys i (omega arith)

pub get_behind : {A : Type 0} (xs ys : List A) (i : ℕ) → length xs ≤ i → slice_get (xs ++ ys) i ≡ slice_get ys (i - length xs)
get_behind [] ys i le = ap (slice_get ys) (omega arith)
get_behind (x ∷ xs) ys zero le = absurd (omega arith)
get_behind (x ∷ xs) ys (suc i) le = get_behind xs ys i (omega arith) ∙ ap (slice_get ys) (omega arith)

get_mapped : {A : Type 0} (f : ℕ → A) (n i : ℕ) → i < n → slice_get (map f (range_with_len 0 n)) i ≡ Some (f i)
get_mapped f n i lt =
    slice_get-get_or (map f (range_with_len 0 n)) i (f i) (omega (arith, length-map-range_with_len f 0 n))
    ∙ ap Some (get_or-map-range_with_len f 0 n i i (f i) lt (omega arith))

-- ---- what a variable is

abbrev a_local : ℕ → ℕ → ImageVariable
a_local k i = Local (record { 0 = k }) (record { 0 = i })

abbrev a_global : ℕ → ImageVariable
a_global i = Global (record { 0 = i })

-- one of the locals of the first instance
pub here : (types : List ProgramType) (k : ℕ) (i : Instance) (is : List Instance) (n : ℕ) → n < length (locals_of types i)
    → slice_get (locals_from types k (i ∷ is)) n ≡ Some (Local (record { 0 = k }) (record { 0 = n }))
here types k i is n lt =
    let m : ℕ = length (locals_of types i) in
    get_front (locals_to k m) (locals_from types (suc k) is) n (omega (arith, length-map-range_with_len (a_local k) 0 m, lt)) ∙ get_mapped (a_local k) m n lt

-- one of the locals of a later one
pub later : (types : List ProgramType) (k : ℕ) (i : Instance) (is : List Instance) (n : ℕ) → length (locals_of types i) ≤ n
    → slice_get (locals_from types k (i ∷ is)) n ≡ slice_get (locals_from types (suc k) is) (n - length (locals_of types i))
later types k i is n le =
    let m : ℕ = length (locals_of types i) in
    let long = length-map-range_with_len (a_local k) 0 m in
    get_behind (locals_to k m) (locals_from types (suc k) is) n (omega (arith, long, le))
    ∙ ap (λ l. slice_get (locals_from types (suc k) is) (n - l)) long

-- a global variable
pub global_here : (g : ℕ) (locals : List ImageVariable) (n : ℕ) → n < g → slice_get (globals_to g ++ locals) n ≡ Some (Global (record { 0 = n }))
global_here g locals n lt = get_front (globals_to g) locals n (omega (arith, length-map-range_with_len a_global 0 g, lt)) ∙ get_mapped a_global g n lt

-- a local one
pub behind_globals : (g : ℕ) (locals : List ImageVariable) (n : ℕ) → g ≤ n → slice_get (globals_to g ++ locals) n ≡ slice_get locals (n - g)
behind_globals g locals n le =
    let long = length-map-range_with_len a_global 0 g in
    get_behind (globals_to g) locals n (omega (arith, long, le)) ∙ ap (λ l. slice_get locals (n - l)) long

-- ---- where the locals of an instance begin

pub starts_long : (n : ℕ) (types : List ProgramType) (is : List Instance) → length (starts_from n types is) ≡ length is
starts_long n types [] = refl
starts_long n types (i ∷ is) = ap suc (starts_long (n + length (locals_of types i)) types is)

-- the start of instance k, and that its locals are within the image
pub record Starts (n : ℕ) (types : List ProgramType) (is : List Instance) (k : ℕ) (i : Instance) : Type 0 where
  pub at : get_or (starts_from n types is) k 0 ≡ n + length (flat_map (locals_of types) (take k is))
  pub within : n + length (flat_map (locals_of types) (take k is)) + length (locals_of types i)
      ≤ n + length (flat_map (locals_of types) is)

pub starts_at : (n : ℕ) (types : List ProgramType) (is : List Instance) (k : ℕ) (i : Instance) → slice_get is k ≡ Some i → Starts n types is k i
starts_at n types [] k i e = absurd cc
starts_at n types (j ∷ is) zero i e =
    let same : j ≡ i = cc in
    record {
      at = omega arith;
      within =
          let long = length-append (locals_of types j) (flat_map (locals_of types) is) in
          let one = ap (λ x. length (locals_of types x)) same in
          omega (arith, long, one);
    }
starts_at n types (j ∷ is) (suc k) i e =
    let rest = starts_at (n + length (locals_of types j)) types is k i e in
    let long = length-append (locals_of types j) (flat_map (locals_of types) is) in
    let front = length-append (locals_of types j) (flat_map (locals_of types) (take k is)) in
    record { at = omega (arith, rest.at, front); within = omega (arith, rest.within, long, front) }

abbrev a_number : ℕ → VarId
a_number n = record { 0 = n }

-- the number of a local in the image: the start of its instance and its place among the locals
pub found_local : (p : PlantData) (starts : List ℕ) (i : ProgId) (instance : Instance) (program : ProgramType) (name : List ℕ) (place : ℕ)
    → starts ≡ starts_from (length p.globals) p.types p.instances → slice_get p.instances i.0 ≡ Some instance
    → slice_get p.types instance.program.0 ≡ Some program → variable_place program.locals name ≡ Some place → length (image_variables p) ≤ VARIABLES
    → (get_or starts i.0 0 + place < VARIABLES) × (Some (a_number (get_or starts i.0 0 + place)) ≡ local_named p i name)
found_local p starts i instance program name place s at_instance at_program found few =
    let there = starts_at (length p.globals) p.types p.instances i.0 instance at_instance in
    let locals : locals_of p.types instance ≡ program.locals = ap locals_in at_program in
    let below : place < length program.locals =
    omega (arith, place_below name (names_of program.locals) place found, length-map program.locals (λ v. v.name)) in
    let all = length-append p.globals (flat_map (locals_of p.types) p.instances) in
    let front = length-append p.globals (flat_map (locals_of p.types) (take i.0 p.instances)) in
    let start : get_or starts i.0 0 ≡ get_or (starts_from (length p.globals) p.types p.instances) i.0 0 = ap (λ xs. get_or xs i.0 0) s in
    let first : get_or starts i.0 0 ≡ first_local p i = omega (arith, start, there.at, front) in
    let named : variable_place (instance_locals p i) name ≡ Some place =
    ap (λ o. variable_place (locals_at p.types o) name) at_instance ∙ ap (λ vs. variable_place vs name) locals ∙ found in (
      omega (arith, start, there.at, there.within, ap length locals, below, all, few),
      ap (λ n. Some (a_number (n + place))) first ∙ sym (ap (option_map (λ k. a_number (first_local p i + k))) named),
    )
