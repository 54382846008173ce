-- Tables of conditions that are made entry by entry.
use Rattle.std.proofs.Common.{◌+◌, ◌≡◌, refl, List, [], ◌∷◌, ◌++◌, length, Result, Ok, Err, ap, ◌∙◌, sym, subst, append_assoc}
use Rattle.std.proofs.lemmas.List.{length_push}
use Rattle.sfc_plant.specs.Plants.{PlantData}
use Rattle.sfc_debug.specs.declared.break_condition.BreakCondition.{BreakCondition}
use Rattle.sfc_load.specs.sfc_check.declared.type_error.TypeError.TheVariants as type_error
use Rattle.sfc_script.specs.Conditions.{ConditionFault, Entry, Fails, before, condition_at, conditions_from}
use Rattle.sfc_script.specs.declared.condition_error.ConditionError.{ConditionError}
use Rattle.sfc_script.specs.declared.condition_error.ConditionError.TheVariants as error

-- these conditions before those of the rest
abbrev pub onto : List BreakCondition → Result (List BreakCondition) ConditionFault → Result (List BreakCondition) ConditionFault
onto table (Ok more) = Ok (table ++ more)
onto table (Err fault) = Err fault

pub onto_none : (outcome : Result (List BreakCondition) ConditionFault) → outcome ≡ onto [] outcome
onto_none (Ok more) = refl
onto_none (Err fault) = refl

-- one more condition
pub onto_one : (table : List BreakCondition) (condition : BreakCondition) (outcome : Result (List BreakCondition) ConditionFault) →
    onto table (before (Ok condition) outcome) ≡ onto (table ++ condition ∷ []) outcome
onto_one table condition (Ok more) = ap Ok (sym (append_assoc table (condition ∷ []) more))
onto_one table condition (Err fault) = refl

-- what is left, once one more entry is a condition
pub goes_on : (plant : PlantData) (all : Result (List BreakCondition) ConditionFault) (table longer : List BreakCondition)
    (xs ys : List Entry) (x : Entry) (c : BreakCondition) → all ≡ onto table (conditions_from plant (length table) xs) → xs ≡ x ∷ ys →
    Ok c ≡ condition_at plant (length table) x → longer ≡ table ++ c ∷ [] → all ≡ onto longer (conditions_from plant (length longer) ys)
goes_on plant all table longer xs ys x c e at passed added =
    e
    ∙ ap (λ l. onto table (conditions_from plant (length table) l)) at
    ∙ ap (λ o. onto table (before o (conditions_from plant (length table + 1) ys))) (sym passed)
    ∙ onto_one table c (conditions_from plant (length table + 1) ys)
    ∙ ap (λ n. onto (table ++ c ∷ []) (conditions_from plant n ys)) (sym (length_push table c))
    ∙ ap (λ l. onto l (conditions_from plant (length l) ys)) (sym added)

-- the fault of an entry is that of the table
fails_on : (f : ConditionError) (table : List BreakCondition) (outcome : Result BreakCondition ConditionFault)
    (rest : Result (List BreakCondition) ConditionFault) → Fails f outcome → Fails f (onto table (before outcome rest))
fails_on (error.UnknownProgram place) table outcome rest h = ap (λ o. onto table (before o rest)) h
fails_on (error.Wrong place type_error.Unknown) table outcome rest h = ap (λ o. onto table (before o rest)) h
fails_on (error.Wrong place type_error.WrongType) table outcome rest h = ap (λ o. onto table (before o rest)) h
fails_on (error.Wrong place type_error.LiteralRange) table outcome rest h = ap (λ o. onto table (before o rest)) h
fails_on (error.Wrong place type_error.NotAssignable) table outcome rest h = ap (λ o. onto table (before o rest)) h
fails_on (error.Wrong place type_error.Memory) table outcome rest h = h
fails_on error.Memory table outcome rest h = tt

pub fails_first : (plant : PlantData) (f : ConditionError) (all : Result (List BreakCondition) ConditionFault)
    (table : List BreakCondition) (xs ys : List Entry) (x : Entry) → all ≡ onto table (conditions_from plant (length table) xs) →
    xs ≡ x ∷ ys → Fails f (condition_at plant (length table) x) → Fails f all
fails_first plant f all table xs ys x e at h =
    subst (Fails f) (sym (e ∙ ap (λ l. onto table (conditions_from plant (length table) l)) at))
    (fails_on f table (condition_at plant (length table) x) (conditions_from plant (length table + 1) ys) h)
