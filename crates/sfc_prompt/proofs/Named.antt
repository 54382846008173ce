-- The tasks of a plant that a text loads as are found by their names.
use Rattle.std.proofs.Common.{◌≡◌, ◌∙◌, refl, sym, ap, subst, ℕ, zero, suc, ◌<◌, nat_lt, arith, cond, Bool, true, false, ◌||◌, All, List, [], ◌∷◌, ◌++◌, length, map, get_or, Some, None, Ok}
use Rattle.std.specs.List.{list_any}
use Rattle.std.specs.Option.{option_map}
use Rattle.std.proofs.lemmas.Bool.Decides.{nat_tests}
use Rattle.std.proofs.lemmas.List.{length-map}
use Rattle.std.proofs.lemmas.List.Elements.{All-nil, All-cons, All-get_or, All-map, All-weaker}
use Rattle.std.proofs.lemmas.List.Folds.{list_any-append}
use Rattle.std.proofs.lemmas.List.Sums.{position_or_len_is}
use Rattle.std.proofs.lemmas.Simd.{map-map}
use Rattle.std.specs.List.{position_or_len}
use Rattle.sfc_base.specs.Case.{same_word}
use Rattle.sfc_base.specs.NameLists.{has, place_of}
use Rattle.sfc_base.specs.Names.{IsName}
use Rattle.sfc_base.proofs.SameWords.{same_word_equiv}
use Rattle.sfc_tokens.specs.Spelling.{CanStand}
use Rattle.sfc_tokens.proofs.Standing.{tokens_stand}
use Rattle.sfc_text.specs.declared.tree.Task as text_task
use Rattle.sfc_text.specs.Limits.{ours}
use Rattle.sfc_text.specs.Reads as reads
use Rattle.sfc_text.specs.Reads.{TextReads}
use Rattle.sfc_text.specs.Trees.{SourceTree}
use Rattle.sfc_text.specs.Declares.{OfTask}
use Rattle.sfc_text.proofs.Declaring.{declares}
use Rattle.sfc_events.specs.declared.load_error.LoadError.TheVariants as fault
use Rattle.sfc_asking.specs.sfc_variables.Checks.{Check, in_turn, when}
use Rattle.sfc_asking.specs.sfc_variables.Declarations.{globals_check, globals_of}
use Rattle.sfc_asking.proofs.of_sfc_program.Soundness.{then_first, then_second, when_none}
use Rattle.sfc_plant.specs.declared.task.Task.{Task}
use Rattle.sfc_plant.specs.declared.variable.Variable.{Variable}
use Rattle.sfc_plant.specs.Plants.{PlantData}
use Rattle.sfc_asking.specs.sfc_load.Accepted.{IsAccepted}
use Rattle.sfc_asking.specs.sfc_load.Built.{plant_of, source_check, task_of}
use Rattle.sfc_asking.specs.sfc_load.Loading.{task_check, task_name, tasks_check}
use Rattle.sfc_prompt.specs.Pieces.{AreNamed}

-- ---- names of which no two are one

neither : (s t : Bool) → s || t ≡ false → (s ≡ false) × (t ≡ false)
neither false t e = (refl, e)
neither true t e = absurd cc

module _ (before : List (List ℕ)) (last name : List ℕ) (none : has (before ++ last ∷ []) name ≡ false) where
  parts : (has before name ≡ false) × (list_any (same_word name) (last ∷ []) ≡ false)
  parts = neither (has before name) (list_any (same_word name) (last ∷ [])) (sym (list_any-append (same_word name) before (last ∷ [])) ∙ none)

  new_before : has before name ≡ false
  new_before = parts.0

  not_last : same_word name last ≡ false
  not_last = (neither (same_word name last) false parts.1).0

module _ (globals : List Variable) where
  abbrev checked : List (List ℕ) → List text_task.Task → Check
  checked before tasks = in_turn task_name (task_check globals) before tasks

  is_new : (before : List (List ℕ)) (t : text_task.Task) → task_check globals before t ≡ None → has before t.name ≡ false
  is_new before t e = when_none (has before t.name) fault.Duplicate (then_first (when (has before t.name) fault.Duplicate) _ e)

  all_new : (before : List (List ℕ)) (tasks : List text_task.Task) → checked before tasks ≡ None
      → All (λ t. has before t.name ≡ false) tasks
  all_new before [] e = All-nil (λ (t : text_task.Task). has before t.name ≡ false)
  all_new before (t ∷ tasks) e =
      let more : List (List ℕ) = before ++ t.name ∷ [] in
      All-cons (λ (t : text_task.Task). has before t.name ≡ false) t tasks
      (is_new before t (then_first (task_check globals before t) (checked more tasks) e))
      (All-weaker (λ (s : text_task.Task). has more s.name ≡ false) (λ (s : text_task.Task). has before s.name ≡ false)
      (λ s h. new_before before t.name s.name h) tasks (all_new more tasks (then_second (task_check globals before t) (checked more tasks) e)))

  -- none is one with a name before it
  apart : (before : List (List ℕ)) (tasks : List text_task.Task) → checked before tasks ≡ None → (i k : ℕ) → k < i → i < length tasks
      → same_word (get_or (map task_name tasks) i []) (get_or (map task_name tasks) k []) ≡ false
  apart before [] e i k less there = absurd (omega arith)
  apart before (t ∷ tasks) e zero k less there = absurd (omega arith)
  apart before (t ∷ tasks) e (suc i) zero less there =
      let more : List (List ℕ) = before ++ t.name ∷ [] in
      let new = all_new more tasks (then_second (task_check globals before t) (checked more tasks) e) in
      let within : i < length (map task_name tasks) = subst (λ (n : ℕ). i < n) (sym (length-map tasks task_name)) (omega arith) in
      not_last before t.name (get_or (map task_name tasks) i [])
      (All-get_or (λ (n : List ℕ). has more n ≡ false) (map task_name tasks) i [] within
      (All-map (λ (n : List ℕ). has more n ≡ false) task_name tasks new))
  apart before (t ∷ tasks) e (suc i) (suc k) less there =
      apart (before ++ t.name ∷ []) tasks (then_second (task_check globals before t) (checked (before ++ t.name ∷ []) tasks) e) i k
      (omega arith) (omega arith)

-- ---- a name that is found

found_at : (names : List (List ℕ)) (i : ℕ) → i < length names
    → ((k : ℕ) → k < i → same_word (get_or names i []) (get_or names k []) ≡ false) → place_of (get_or names i []) names ≡ Some i
found_at names i less other =
    let name : List ℕ = get_or names i [] in
    let at : position_or_len (same_word name) names ≡ i =
    position_or_len_is (same_word name) names i [] (omega arith) other (λ _. same_word_equiv.refl name) in
    let there : nat_lt i (length names) ≡ true = grind (arith, nat_tests) in
    ap (λ (n : ℕ). cond (nat_lt n (length names)) (Some n) None) at ∙ ap (λ (b : Bool). cond b (Some i) None) there

-- ---- tasks

spelled : (text : List ℕ) (tree : SourceTree) → TextReads text (Ok tree) → All IsName (map task_name tree.configuration.tasks)
spelled text tree (reads.tree {ts = ts} lexes derives) =
    let stands = declares CanStand ours ts tree (tokens_stand text ts lexes) derives in
    All-map IsName task_name tree.configuration.tasks
    (All-weaker (OfTask CanStand) (λ t. IsName t.name) (λ t is. is.name) tree.configuration.tasks stands.configuration.tasks)

tasks_pass : (tree : SourceTree) → source_check tree ≡ None
    → in_turn task_name (task_check (globals_of tree.configuration.globals)) [] tree.configuration.tasks ≡ None
unfolding tasks_check
tasks_pass tree passes =
    let c = tree.configuration in
    then_second _ _ (then_first (tasks_check (globals_of c.globals) c.tasks) _ (then_second (globals_check c.globals) _ passes))

names_are : (tree : SourceTree) → map (λ (t : Task). t.name) (plant_of tree).tasks ≡ map task_name tree.configuration.tasks
names_are tree = map-map (λ (t : Task). t.name) (task_of (globals_of tree.configuration.globals)) tree.configuration.tasks

named_in : (text : List ℕ) (tree : SourceTree) → TextReads text (Ok tree) → source_check tree ≡ None → AreNamed (plant_of tree)
named_in text tree read passes i less =
    let globals : List Variable = globals_of tree.configuration.globals in
    let tasks : List text_task.Task = tree.configuration.tasks in
    let names : List (List ℕ) = map (λ (t : Task). t.name) (plant_of tree).tasks in
    let are : All IsName names = subst (All IsName) (sym (names_are tree)) (spelled text tree read) in
    let there : i < length names = subst (λ (n : ℕ). i < n) (sym (length-map (plant_of tree).tasks (λ (t : Task). t.name))) less in
    let count : i < length tasks = subst (λ (n : ℕ). i < n) (length-map tasks (task_of globals)) less in
    let other : (k : ℕ) → k < i → same_word (get_or names i []) (get_or names k []) ≡ false =
    λ k below. subst (λ (ns : List (List ℕ)). same_word (get_or ns i []) (get_or ns k []) ≡ false) (sym (names_are tree))
    (apart globals [] tasks (tasks_pass tree passes) i k below count) in
    record {
      name = All-get_or IsName names i [] there are;
      found = ap (λ o. option_map (λ place. record { 0 = place }) o) (found_at names i there other);
    }

pub are_named : (text : List ℕ) (plant : PlantData) → IsAccepted text plant → AreNamed plant
are_named text plant is = subst AreNamed is.built (named_in text is.tree is.read is.passes)
