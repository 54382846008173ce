-- The end of the line of a program instance.
use Rattle.std.proofs.Common.{◌≡◌, ◌<◌, ◌++◌, ℕ, Bool, List, Option, codes, map, length, append_assoc, ap, sym, ◌∙◌}
use Rattle.std.specs.Fmt.{decimal}
use Rattle.sfc_flags.specs.Flags.{flag, places_from}
use Rattle.sfc_base.specs.declared.ids.ProgId.{ProgId}
use Rattle.sfc_plant.specs.Finding.{chart_of}
use Rattle.sfc_plant.specs.InstanceSpaces.{space_of}
use Rattle.sfc_plant.specs.Plants.{PlantData}
use Rattle.sfc_plant.specs.Spaces.{Space}
use Rattle.sfc_debug.specs.sfc_tables.Tables.{Tabled, tables_of}
use Rattle.sfc_debug.specs.sfc_instance.Answers.{scan_count, is_transition_cleared, is_action_executed}
use Rattle.sfc_debug.specs.sfc_instance.Life.{InstanceState}
use Rattle.sfc_debug.specs.sfc_instance.declared.scan_end.ScanEnd.TheVariants.{Ran, Faulted, Skipped}
use Rattle.sfc_output.specs.Lists.{listed}
use Rattle.sfc_output.specs.Memories.{effects_text}
use Rattle.sfc_plant.specs.PlantNames.{instance_name}
use Rattle.sfc_debug.specs.sfc_tables.ActionNames.{numbered_action}
use Rattle.sfc_output.specs.Programs.{transition_text, cleared_texts, executed_texts, step_texts, program_line, fault_text, scans_text}
use Rattle.sfc_output.specs.Private.Pieces.{did_text, done_text, fault_line, lacking, ran_text}
use Rattle.sfc_page.specs.Values.{line_end}
use Rattle.sfc_page.proofs.Appended.{two_appended}
use Rattle.sfc_output.proofs.Texts.{texts_all}

-- the sets are those of an instance that stands so
pub sets_done : (space : Space) (tables : Tabled) (instance_state : InstanceState) (cleared executed : List Bool)
    → length cleared ≡ length tables.sides → ((tr : ℕ) → tr < length tables.sides → flag cleared tr ≡ is_transition_cleared tables instance_state tr)
    → length executed ≡ length tables.actions → ((a : ℕ) → a < length tables.actions → flag executed a ≡ is_action_executed tables instance_state a)
    → effects_text space tables cleared executed ≡ done_text space tables instance_state
unfolding effects_text done_text
sets_done space tables instance_state cleared executed sides cleared_same actions executed_same =
    let all_cleared : map transition_text (places_from cleared 0) ≡ cleared_texts tables instance_state =
    texts_all (is_transition_cleared tables instance_state) transition_text cleared (length tables.sides) sides cleared_same in
    let all_executed : map (numbered_action space tables) (places_from executed 0) ≡ executed_texts space tables instance_state =
    texts_all (is_action_executed tables instance_state) (numbered_action space tables) executed (length tables.actions) actions executed_same in
    (λ i. codes " cleared " ++ listed (all_cleared i) ++ codes " run " ++ listed (all_executed i) ++ line_end)

ran_parts : (head name blank number steps listed_steps cleared listed_cleared run listed_executed last : List ℕ)
    → (head ++ name ++ blank ++ number ++ steps) ++ listed_steps ++ (cleared ++ listed_cleared ++ run ++ listed_executed ++ last)
    ≡ (head ++ name) ++ (blank ++ number ++ steps ++ listed_steps ++ cleared ++ listed_cleared ++ run ++ listed_executed) ++ last
ran_parts head name blank number steps listed_steps cleared listed_cleared run listed_executed last = simp append_assoc

pub ran_regrouped : (plant : PlantData) (p : ProgId) (instance_state : InstanceState)
    → ran_text (instance_name plant p) (space_of plant p) (tables_of (chart_of plant p)) instance_state ≡ program_line plant p instance_state Ran
unfolding ran_text scans_text done_text program_line
ran_regrouped plant p instance_state =
    let space = space_of plant p in
    let tables = tables_of (chart_of plant p) in
    ran_parts (codes "  ") (instance_name plant p) (codes " ") (decimal (scan_count instance_state)) (codes " steps ")
    (listed (step_texts space tables instance_state)) (codes " cleared ") (listed (cleared_texts tables instance_state))
    (codes " run ") (listed (executed_texts space tables instance_state)) line_end

-- its parts stand, one after the other
pub ran_appended : (old first second name : List ℕ) (space : Space) (tables : Tabled) (instance_state : InstanceState)
    → first ≡ old ++ scans_text name (scan_count instance_state) → second ≡ first ++ did_text space tables instance_state
    → second ≡ old ++ ran_text name space tables instance_state
unfolding ran_text did_text
ran_appended old first second name space tables instance_state e f =
    let scans = scans_text name (scan_count instance_state) in
    let steps = listed (step_texts space tables instance_state) in
    let done = done_text space tables instance_state in
    two_appended old first second scans (steps ++ done) e f ∙ ap (λ (xs : List ℕ). old ++ xs) (sym (append_assoc scans steps done))

-- what follows the head stands, part by part
pub did_appended : (old first second : List ℕ) (space : Space) (tables : Tabled) (instance_state : InstanceState)
    → first ≡ old ++ listed (step_texts space tables instance_state) → second ≡ first ++ done_text space tables instance_state
    → second ≡ old ++ did_text space tables instance_state
unfolding did_text
did_appended old first second space tables instance_state e f =
    two_appended old first second (listed (step_texts space tables instance_state)) (done_text space tables instance_state) e f

-- With what is lacking, the line of an instance whose scan ran stands; a view shows the plant and the instance.
pub line_ran : {shown plant : PlantData} {q p : ProgId} {rest r : Option ℕ} (instance_state : InstanceState) (old head put : List ℕ)
    → shown ≡ plant → q ≡ p → rest ≡ r → head ≡ old ++ scans_text (instance_name plant p) (scan_count instance_state)
    → put ++ lacking rest (done_text (space_of shown q) (tables_of (chart_of shown q)) instance_state)
    ≡ head ++ did_text (space_of shown q) (tables_of (chart_of shown q)) instance_state
    → put ++ lacking r (done_text (space_of plant p) (tables_of (chart_of plant p)) instance_state) ≡ old ++ program_line plant p instance_state Ran
line_ran {shown} {plant} {q} {p} {rest} {r} instance_state old head put a b d e f =
    let space = space_of plant p in
    let tables = tables_of (chart_of plant p) in
    let all = put ++ lacking r (done_text space tables instance_state) in
    let did : all ≡ head ++ did_text space tables instance_state =
    sym (λ i. put ++ lacking (d i) (done_text (space_of (a i) (b i)) (tables_of (chart_of (a i) (b i))) instance_state)) ∙ f
    ∙ (λ i. head ++ did_text (space_of (a i) (b i)) (tables_of (chart_of (a i) (b i))) instance_state) in
    ran_appended old head all (instance_name plant p) space tables instance_state e did
    ∙ ap (λ (xs : List ℕ). old ++ xs) (ran_regrouped plant p instance_state)

fault_parts : (head name word fault last : List ℕ) → head ++ name ++ word ++ fault ++ last ≡ (head ++ name) ++ (word ++ fault) ++ last
fault_parts head name word fault last = simp append_assoc

pub faulted_regrouped : (plant : PlantData) (p : ProgId) (instance_state : InstanceState)
    → fault_line (instance_name plant p) (codes " fault ") instance_state.fault ≡ program_line plant p instance_state Faulted
unfolding fault_line program_line
faulted_regrouped plant p instance_state =
    fault_parts (codes "  ") (instance_name plant p) (codes " fault ") (fault_text instance_state.fault) line_end

pub skipped_regrouped : (plant : PlantData) (p : ProgId) (instance_state : InstanceState)
    → fault_line (instance_name plant p) (codes " skipped ") instance_state.fault ≡ program_line plant p instance_state Skipped
unfolding fault_line program_line
skipped_regrouped plant p instance_state =
    fault_parts (codes "  ") (instance_name plant p) (codes " skipped ") (fault_text instance_state.fault) line_end
