-- One action after the other.
use Rattle.std.proofs.Common.{◌≡◌, ℕ, zero, suc, ◌+◌, ◌<◌, ◌≤◌, ◌++◌, ◌∷◌, [], arith, Bool, true, false, cond, List, length, drop, ℤ, Option, Some, None, Result, Ok, Err, is_err, is_some, refl, sym, ap, subst, ◌∙◌, append_assoc}
use Rattle.std.proofs.lemmas.List.{drop_all}
use Rattle.std.proofs.lemmas.List.Sums.{sum_by-cons}
use Rattle.sfc_expr.specs.declared.fault.Fault.{Fault}
use Rattle.sfc_expr.specs.Trees.{Body}
use Rattle.sfc_expr.specs.Environment.{Environment}
use Rattle.sfc_expr.specs.Effect.{effect}
use Rattle.sfc_base.specs.declared.ids.ActionId.{ActionId}
use Rattle.sfc_plant.specs.declared.association.Target.{Target}
use Rattle.sfc_plant.specs.declared.association.Target.TheVariants.{Declared}
use Rattle.sfc_plant.specs.declared.chart.Chart.{Chart}
use Rattle.sfc_tables.specs.Tables.{Tabled, tables_of}
use Rattle.sfc_action.specs.ActionControl as control
use Rattle.sfc_base.specs.declared.ids.ProgId.{ProgId}
use Rattle.sfc_plant.specs.Plants.{PlantData}
use Rattle.sfc_image.specs.declared.image.Image.{Image}
use Rattle.sfc_image.specs.Changes.{Change, trying}
use Rattle.sfc_image.specs.Environments.{Moment, environment_of}
use Rattle.sfc_image.specs.Bodies.{left_by, with_changes}
use Rattle.sfc_image.specs.Agreement.{ImageAgrees}
use Rattle.sfc_image.specs.BodyFaults.{after_done, statements_done}
use Rattle.sfc_instance.specs.declared.fault_place.FaultPlace.{FaultPlace}
use Rattle.sfc_instance.specs.declared.fault_place.FaultPlace.TheVariants as place
use Rattle.sfc_instance.specs.declared.scan_fault.ScanFault.TheVariants as fault
use Rattle.sfc_instance.specs.Life.{Life, PlacedFault, control_scans}
use Rattle.sfc_plant.specs.Finding.{chart_of}
use Rattle.sfc_instance.specs.ProgramScan.{acted, after_actions, after_body, and_then, body_in, in_body, moment, environment}
use Rattle.sfc_instance.specs.Work.{action_work, actions_work}
use Rattle.sfc_instance.specs.Private.Acting.{Acts, Ends, Follows, Told, Kind, Place, kind_in, place_in}
use Rattle.std.specs.Prelude.{slice_get}

module _ (plant : PlantData) (p : ProgId) (life : Life) (t : ℤ) (a : ℕ) (committed tried : List Change) (image : Image) where
  abbrev tables : Tabled
  tables = tables_of (chart_of plant p)

  abbrev the_q : Bool
  the_q = control.q tables a (control_scans tables life)

  abbrev is_executed : Bool
  is_executed = control.executed tables a (control_scans tables life)

  abbrev body_of_action : ActionId → Body
  body_of_action id = body_in (slice_get (chart_of plant p).actions id.0)

  abbrev before_body : Environment
  before_body = environment plant p life (tried ++ committed) t the_q

  -- a declared action that isn't executed
  pub passed : (id : ActionId) → is_executed ≡ false → ImageAgrees plant image (trying committed tried)
      → Acts plant committed image None (acted plant p life t a (Declared id) (tried ++ committed))
  passed id off h = record {
    tried = tried;
    agrees = h;
    ends = ap (λ (b : Bool). cond b (after_body plant p (tried ++ committed) id (body_of_action id) before_body) (Ok (tried ++ committed))) off;
  }

  -- what is told of a body that ended so, behind this many statements without a fault
  abbrev pub IsTellingOf : ActionId → ℕ → Option Told → Result (Unit {0}) Fault → Type 0
  IsTellingOf id done None r = r ≡ Ok tt
  IsTellingOf id done (Some (Kind f)) r = r ≡ Err f
  IsTellingOf id done (Some (Place there)) r = (is_err r ≡ true) × (place.Statement id done ≡ there)

  pub kind_telling : (id : ActionId) (done : ℕ) (answer : Result (Unit {0}) Fault) → IsTellingOf id done (kind_in answer) answer
  kind_telling id done (Ok u) = refl
  kind_telling id done (Err f) = refl

  pub place_telling : (id : ActionId) (done : ℕ) (r : Result (Unit {0}) Fault) (there : ℕ) → Some there ≡ after_done r done
      → IsTellingOf id done (Some (Place (place.Statement id there))) r
  place_telling id done (Ok u) there e = absurd cc
  place_telling id done (Err f) there e = let same : done ≡ there = cc in (refl, ap (place.Statement id) same)

  pub none_telling : (id : ActionId) (done : ℕ) (r : Result (Unit {0}) Fault) → None ≡ after_done r done → IsTellingOf id done None r
  none_telling id done (Ok u) e = refl
  none_telling id done (Err f) e = absurd cc

  ends_so : (id : ActionId) (body : Body) (env : Environment) (answer : Option Told) → IsTellingOf id (statements_done body env) answer (effect body env).result
      → Ends answer (after_body plant p (tried ++ committed) id body env) ((left_by plant p (effect body env).environment ++ tried) ++ committed)
  ends_so id body env answer is = by answer (effect body env).result is
    where
      by : (answer : Option Told) (r : Result (Unit {0}) Fault) → IsTellingOf id (statements_done body env) answer r
          → Ends answer (and_then (in_body id (statements_done body env) r)
          (λ (u : Unit {0}). Ok (left_by plant p (effect body env).environment ++ (tried ++ committed)))) ((left_by plant p (effect body env).environment ++ tried) ++ committed)
      by None (Ok u) e = ap (λ (changes : List Change). Ok changes) (sym (append_assoc (left_by plant p (effect body env).environment) tried committed))
      by None (Err f) e = absurd cc
      by (Some (Kind f)) (Ok u) e = absurd cc
      by (Some (Kind f)) (Err g) e =
          let same : g ≡ f = cc in
          (record { fault = fault.Expression g; place = place.Statement id (statements_done body env) }, refl, ap (λ x. fault.Expression x) same)
      by (Some (Place there)) (Ok u) e = absurd (let bad : false ≡ true = e.0 in cc)
      by (Some (Place there)) (Err g) e =
          (record { fault = fault.Expression g; place = place.Statement id (statements_done body env) }, refl, e.1)

  -- a declared action whose body is executed
  pub body_acted : (id : ActionId) (answer : Option Told) (body : Body) (moment' : Moment)
      → is_executed ≡ true
      → body ≡ body_of_action id
      → moment' ≡ moment tables life t the_q
      → IsTellingOf id (statements_done body (environment_of plant (tried ++ committed) p moment')) answer
      (effect body (environment_of plant (tried ++ committed) p moment')).result
      → ImageAgrees plant image (with_changes (left_by plant p (effect body (environment_of plant (tried ++ committed) p moment')).environment) (trying committed tried))
      → Acts plant committed image answer (acted plant p life t a (Declared id) (tried ++ committed))
  body_acted id answer body moment' on is when telling h =
      let env : Environment = environment_of plant (tried ++ committed) p moment' in
      let wanted : Result (List Change) PlacedFault = after_body plant p (tried ++ committed) id (body_of_action id) before_body in
      let same : after_body plant p (tried ++ committed) id body env ≡ wanted =
      ap (λ (b : Body). after_body plant p (tried ++ committed) id b env) is
      ∙ ap (λ (m : Moment). after_body plant p (tried ++ committed) id (body_of_action id) (environment_of plant (tried ++ committed) p m)) when in
      record {
        tried = left_by plant p (effect body env).environment ++ tried;
        agrees = h;
        ends = subst (λ (r : Result (List Change) PlacedFault). Ends answer r ((left_by plant p (effect body env).environment ++ tried) ++ committed))
            (same ∙ sym (ap (λ (b : Bool). cond b wanted (Ok (tried ++ committed))) on))
            (ends_so id body env answer telling);
      }

-- something is told exactly of a fault
pub kind_told : (answer : Result (Unit {0}) Fault) → is_some (kind_in answer) ≡ is_err answer
kind_told (Ok u) = refl
kind_told (Err f) = refl

pub place_told : (place : Option FaultPlace) → is_some (place_in place) ≡ is_some place
place_told None = refl
place_told (Some there) = refl

-- ---- all of them

module _ (targets : List Target) (i : ℕ) (target : Target) where
  pub split : i < length targets → slice_get targets i ≡ Some target → drop i targets ≡ target ∷ drop (i + 1) targets
  split lt is = at targets i is
    where
      at : (targets : List Target) (i : ℕ) → slice_get targets i ≡ Some target → drop i targets ≡ target ∷ drop (i + 1) targets
      at [] i e = absurd cc
      at (x ∷ xs) zero e = cc
      at (x ∷ xs) (suc i) e =
          let next : suc i + 1 ≡ suc (i + 1) = omega arith in
          at xs i e ∙ ap (λ (n : ℕ). target ∷ drop n (x ∷ xs)) (sym next)

  pub work_split : (chart : Chart) → i < length targets → slice_get targets i ≡ Some target
      → actions_work chart (drop i targets) ≡ action_work chart target + actions_work chart (drop (i + 1) targets)
  work_split chart lt is = ap (actions_work chart) (split lt is) ∙ sum_by-cons (action_work chart) target (drop (i + 1) targets)

module _ (plant : PlantData) (p : ProgId) (life : Life) (t : ℤ) (committed : List Change) (targets : List Target) (from i : ℕ) (target : Target)
  where
    -- where an action succeeded the others follow
    pub acts_on : (image : Image) (before changes : List Change) (answer : Option Told) → is_some answer ≡ false
        → i < length targets → slice_get targets i ≡ Some target
        → Acts plant committed image answer (acted plant p life t i target changes)
        → after_actions plant p life t i (drop i targets) changes ≡ after_actions plant p life t from (drop from targets) (before ++ committed)
        → Follows plant p life t committed targets from before (i + 1) image
    acts_on image before changes (Some told) off lt is h so = absurd cc
    acts_on image before changes None off lt is h so = record {
      tried = h.tried;
      agrees = h.agrees;
      rest =
          sym (ap (λ (ts : List Target). after_actions plant p life t i ts changes) (split targets i target lt is)
          ∙ ap (λ (r : Result (List Change) PlacedFault). and_then r (λ after. after_actions plant p life t (suc i) (drop (i + 1) targets) after)) h.ends
          ∙ ap (λ (k : ℕ). after_actions plant p life t k (drop (i + 1) targets) (h.tried ++ committed)) (next i))
          ∙ so;
    }
      where
        next : (i : ℕ) → suc i ≡ i + 1
        next i = omega arith

    -- where it failed its fault is that of all
    pub acts_end : (image : Image) (before changes : List Change) (answer : Option Told) → is_some answer ≡ true
        → i < length targets → slice_get targets i ≡ Some target
        → Acts plant committed image answer (acted plant p life t i target changes)
        → after_actions plant p life t i (drop i targets) changes ≡ after_actions plant p life t from (drop from targets) (before ++ committed)
        → Acts plant committed image answer (after_actions plant p life t from (drop from targets) (before ++ committed))
    acts_end image before changes None on lt is h so = absurd cc
    acts_end image before changes (Some told) on lt is h so = record {
      tried = h.tried;
      agrees = h.agrees;
      ends = (
        h.ends.0,
        sym so
            ∙ ap (λ (ts : List Target). after_actions plant p life t i ts changes) (split targets i target lt is)
            ∙ ap (λ (r : Result (List Change) PlacedFault). and_then r (λ after. after_actions plant p life t (suc i) (drop (i + 1) targets) after)) h.ends.1,
        h.ends.2,
      );
    }

-- after the last action
pub acts_all : (plant : PlantData) (p : ProgId) (life : Life) (t : ℤ) (committed : List Change) (targets : List Target) (from : ℕ)
    (before : List Change) (i : ℕ) (image : Image) → length targets ≤ i → Follows plant p life t committed targets from before i image
    → Acts plant committed image None (after_actions plant p life t from (drop from targets) (before ++ committed))
acts_all plant p life t committed targets from before i image le h = record {
  tried = h.tried;
  agrees = h.agrees;
  ends = sym h.rest ∙ ap (λ (ts : List Target). after_actions plant p life t i ts (h.tried ++ committed)) (drop_all i targets le);
}
