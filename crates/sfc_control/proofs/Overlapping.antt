-- The entries that are held, after every list of commands that has the opening's past.
use Rattle.std.proofs.Common.{◌≡◌, ℕ, List, [], ◌∷◌, ◌++◌, ℤ, refl, sym, ◌∙◌, ap, drop, take}
use Rattle.std.proofs.lemmas.List.{take-append-drop}
use Rattle.sfc_plant.specs.Plants.{PlantData}
use Rattle.sfc_events.specs.declared.command.Command.{Command}
use Rattle.sfc_debug.specs.declared.break_condition.BreakCondition.{BreakCondition}
use Rattle.sfc_debug.specs.Histories.{CommandHistory}
use Rattle.sfc_debug.specs.Past.{debug_past}
use Rattle.sfc_debug.specs.Verdict.{verdict}
use Rattle.sfc_control.specs.declared.entry.Entry.{Entry}
use Rattle.sfc_control.specs.LegalHistory.{timed, told, commands_of, verdicts, IsLegalAfter}

-- the commands of the entries stand before those of the history
pub told-append : (h : CommandHistory) (es : List Entry) → told h es ≡ told [] es ++ h
told-append h [] = refl
told-append h (e ∷ es) =
    told-append (timed e ∷ h) es ∙ append_cons (told [] es) (timed e) h ∙ ap (λ g. g ++ h) (sym (told-append (timed e ∷ []) es))
  where
    append_cons : (xs : CommandHistory) (x : _) (ys : CommandHistory) → xs ++ (x ∷ ys) ≡ (xs ++ x ∷ []) ++ ys
    append_cons [] x ys = refl
    append_cons (y ∷ xs) x ys = ap (λ zs. y ∷ zs) (append_cons xs x ys)

pub told-parts : (h : CommandHistory) (xs ys : List Entry) → told h (xs ++ ys) ≡ told (told h xs) ys
told-parts h [] ys = refl
told-parts h (x ∷ xs) ys = told-parts (timed x ∷ h) xs ys

-- what stands behind the first entries is legal after them
legal-rest : (plant : PlantData) (table : List BreakCondition) (h : CommandHistory) (xs ys : List Entry) →
    IsLegalAfter plant table h (xs ++ ys) → IsLegalAfter plant table (told h xs) ys
legal-rest plant table h [] ys legal = legal
legal-rest plant table h (x ∷ xs) ys legal = legal-rest plant table (timed x ∷ h) xs ys (ap (λ vs. drop 1 vs) legal)

module _ (plant : PlantData) (table : List BreakCondition)
    (same : (h other : CommandHistory) (command : Command) (raw : ℤ) → debug_past plant table h ≡ debug_past plant table other →
    verdict plant table h command raw ≡ verdict plant table other command raw)
    (kept : (h other : CommandHistory) (command : Command) (raw : ℤ) → debug_past plant table h ≡ debug_past plant table other →
    debug_past plant table ((command, raw) ∷ h) ≡ debug_past plant table ((command, raw) ∷ other)) where
  -- the verdicts go by the past
  verdicts-same : (h other : CommandHistory) (es : List Entry) → debug_past plant table h ≡ debug_past plant table other →
      verdicts plant table h es ≡ verdicts plant table other es
  verdicts-same h other [] e = refl
  verdicts-same h other (x ∷ es) e =
      λ i. same h other x.command x.raw e i ∷ verdicts-same (timed x ∷ h) (timed x ∷ other) es (kept h other x.command x.raw e) i

  told-same : (h other : CommandHistory) (es : List Entry) → debug_past plant table h ≡ debug_past plant table other →
      debug_past plant table (told h es) ≡ debug_past plant table (told other es)
  told-same h other [] e = e
  told-same h other (x ∷ es) e = told-same (timed x ∷ h) (timed x ∷ other) es (kept h other x.command x.raw e)

  module _ (all : List Entry) (k : ℕ) (h : CommandHistory) (e : debug_past plant table (commands_of (take k all)) ≡ debug_past plant table h) where
    pub held_legal : IsLegalAfter plant table [] all → IsLegalAfter plant table h (drop k all)
    held_legal legal =
        sym (verdicts-same (commands_of (take k all)) h (drop k all) e)
        ∙ legal-rest plant table [] (take k all) (drop k all) (rw (take-append-drop k all) legal)

    pub held_verdict : (command : Command) (raw : ℤ) →
        verdict plant table (told h (drop k all)) command raw ≡ verdict plant table (commands_of all) command raw
    held_verdict command raw =
        sym (same (told (commands_of (take k all)) (drop k all)) (told h (drop k all)) command raw
        (told-same (commands_of (take k all)) h (drop k all) e))
        ∙ ap (λ g. verdict plant table g command raw) (sym (told-parts [] (take k all) (drop k all)) ∙ ap commands_of (take-append-drop k all))
