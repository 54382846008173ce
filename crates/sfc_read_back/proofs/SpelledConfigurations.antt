-- The text of the configuration spells the tokens of the one that the listing spells, and so does the whole listing.
use Rattle.std.proofs.Common.{◌≡◌, ℕ, ℤ, pos, unsigned_abs, ◌≤◌, ◌<◌, ◌^◌, Bool, true, false, if◌then◌else◌, List, [], ◌∷◌, ◌++◌, map, flat_map, Option, Some, None, refl, sym, ap, subst, ◌∙◌, append_assoc, codes}
use Rattle.std.specs.Fmt.{decimal}
use Rattle.std.specs.Ordering.{int_eq}
use Rattle.sfc_base.specs.declared.delimiter.Delimiter.TheVariants as sign
use Rattle.sfc_base.specs.declared.keyword.Keyword.TheVariants as keyword
use Rattle.sfc_base.specs.declared.run.Alphabet.TheVariants as alphabet
use Rattle.sfc_tokens.specs.declared.token.TokenKind.{TokenKind}
use Rattle.sfc_tokens.specs.declared.token.TokenKind.TheVariants as token
use Rattle.sfc_base.specs.Case.{same_word}
use Rattle.sfc_base.specs.Classes.{class_of}
use Rattle.sfc_base.specs.Durations.{greatest}
use Rattle.sfc_base.specs.Names.{is_spaced, IsName}
use Rattle.sfc_base.specs.Runs.{Ends}
use Rattle.sfc_tokens.specs.Spelling as spelling
use Rattle.sfc_tokens.specs.Spelling.{Spells}
use Rattle.sfc_base.specs.TimeText.{time_text}
use Rattle.sfc_base.specs.Words.{keyword_of}
use Rattle.sfc_tokens.proofs.DurationWords.{duration_before}
use Rattle.sfc_tokens.proofs.Signs.{sign_spells}
use Rattle.sfc_tokens.proofs.Spaced.{name_spaced, reserved_spaced}
use Rattle.sfc_tokens.proofs.Spelled.{integer_spells, reserved_spells}
use Rattle.sfc_tokens.proofs.Spellings.{alone, joined}
use Rattle.sfc_tokens.proofs.TimeLaw.{time_is}
use Rattle.sfc_text.specs.Declares.{OfOptional}
use Rattle.sfc_text.specs.SpelledSources.{single_tokens, interval_tokens, task_tokens, instance_tokens, globals_tokens, configuration_tokens, program_tokens, source_tokens}
use Rattle.sfc_base.specs.declared.references.GlobalId.{GlobalId}
use Rattle.sfc_plant.specs.declared.variable.Variable.{Variable}
use Rattle.sfc_plant.specs.VariableNames.{names_of}
use Rattle.sfc_plant.specs.declared.program_type.ProgramType.{ProgramType}
use Rattle.sfc_plant.specs.declared.task.Task.{Task}
use Rattle.sfc_plant.specs.declared.instance.Instance.{Instance}
use Rattle.sfc_plant.specs.Plants.{PlantData}
use Rattle.sfc_list.specs.Layout.{line, block}
use Rattle.sfc_list.specs.Listing.{variable_text, program_text, single_text, interval_text, task_text, instance_text, configuration_head, resource_head, configuration_text, listing}
use Rattle.sfc_plant.specs.Names.{name_at, task_name, type_name}
use Rattle.sfc_read_back.specs.SpelledPlants.{CanSpellProgram, CanSpellTask, CanSpellInstance, CanSpellPlant}
use Rattle.sfc_read_back.specs.Written.{program_tree, single_tree, task_tree, instance_tree, configuration_tree, written}
use Rattle.sfc_read_back.specs.WrittenVariables.{declaration_tree}
use Rattle.sfc_read_back.proofs.SpelledExpressions.{Opens}
use Rattle.sfc_read_back.proofs.SpelledBodies.{before_space, before_semicolon}
use Rattle.sfc_read_back.proofs.SpelledLines.{SpellsAlways, SpellsLine, both_spelled, line_spelled, each_spelled, each_line_spelled, named, before_line, before_open, before_close, semicolon, closed, colon_between, assign_behind, comma_space}
use Rattle.sfc_read_back.proofs.SpelledLiterals.{ends_number, ends_interval}
use Rattle.sfc_read_back.proofs.SpelledPrograms.{program_word, word_and_name, program_spelled}
use Rattle.sfc_read_back.proofs.SpelledVariables.{globals_spelled}

-- ---- tasks

-- a name of the language, `:=` and a space
assigned_to : (word : List ℕ) → IsName word → SpellsAlways (word ++ codes " := ") (token.Name word ∷ token.Delimiter sign.Assign ∷ [])
unfolding class_of
assigned_to word is rest =
    subst (λ (x : List ℕ). Spells x (token.Name word ∷ token.Delimiter sign.Assign ∷ []) rest) (append_assoc word (codes " ") (codes ":= "))
    (joined (word ++ codes " ") (codes ":= ") rest (token.Name word ∷ []) (token.Delimiter sign.Assign ∷ []) (name_spaced word (codes ":= " ++ rest) 32 is refl) (assign_behind rest))

task_names : (IsName (codes "SINGLE") × IsName (codes "INTERVAL")) × IsName (codes "PRIORITY")
unfolding class_of is_spaced keyword_of same_word
task_names = ((refl, refl), refl)

before_comma : (rest : List ℕ) → Ends alphabet.Location (44 ∷ rest)
unfolding class_of
before_comma rest = refl

-- a part of a task and a comma
task_part : (front value : List ℕ) (ts : List TokenKind) (t : TokenKind) → SpellsAlways front ts → ((others : List ℕ) → Spells value (t ∷ []) (44 ∷ 32 ∷ others))
    → SpellsAlways (front ++ value ++ codes ", ") (ts ++ (t ∷ []) ++ (token.Delimiter sign.Comma ∷ []))
task_part front value ts t p q rest =
    joined (front ++ value) (codes ", ") rest (ts ++ (t ∷ [])) (token.Delimiter sign.Comma ∷ [])
    (joined front value (44 ∷ 32 ∷ rest) ts (t ∷ []) (p (value ++ (44 ∷ 32 ∷ rest))) (q rest)) (comma_space rest)

single_spelled : (globals : List Variable) (single : Option GlobalId) → OfOptional (λ (id : GlobalId). IsName (name_at (names_of globals) id.0)) single
    → SpellsAlways (single_text globals single) (single_tokens (single_tree globals single))
single_spelled globals None is rest = spelling.nothing
single_spelled globals (Some id) is rest =
    let name = name_at (names_of globals) id.0 in
    task_part (codes "SINGLE := ") name (token.Name (codes "SINGLE") ∷ token.Delimiter sign.Assign ∷ []) (token.Name name) (assigned_to (codes "SINGLE") task_names.0.0)
    (λ others. named name (44 ∷ 32 ∷ others) is (before_comma (32 ∷ others))) rest

interval_by : (t : ℤ) (none : Bool) → unsigned_abs t ≤ greatest
    → SpellsAlways (if none then [] else codes "INTERVAL := " ++ time_text t ++ codes ", ")
    (if none then [] else token.Name (codes "INTERVAL") ∷ token.Delimiter sign.Assign ∷ token.Duration t ∷ token.Delimiter sign.Comma ∷ [])
interval_by t true le rest = spelling.nothing
interval_by t false le rest =
    task_part (codes "INTERVAL := ") (time_text t) (token.Name (codes "INTERVAL") ∷ token.Delimiter sign.Assign ∷ []) (token.Duration t) (assigned_to (codes "INTERVAL") task_names.0.1)
    (λ others. alone (time_text t) (44 ∷ 32 ∷ others) (token.Duration t) (duration_before (time_text t) t (44 ∷ 32 ∷ others) (time_is t le) (ends_interval (44 ∷ 32 ∷ others) (before_comma (32 ∷ others))))) rest

interval_spelled : (t : ℤ) → unsigned_abs t ≤ greatest → SpellsAlways (interval_text t) (interval_tokens t)
interval_spelled t le = interval_by t (int_eq t (pos 0)) le

priority_spelled : (n : ℕ) → n < 2 ^ 32
    → SpellsAlways (codes "PRIORITY := " ++ decimal n ++ codes ");") (token.Name (codes "PRIORITY") ∷ token.Delimiter sign.Assign ∷ token.Integer n ∷ token.Delimiter sign.Close ∷ token.Delimiter sign.Semicolon ∷ [])
priority_spelled n lt rest =
    let behind = 41 ∷ 59 ∷ rest in
    joined (codes "PRIORITY := " ++ decimal n) (codes ");") rest (token.Name (codes "PRIORITY") ∷ token.Delimiter sign.Assign ∷ token.Integer n ∷ []) (token.Delimiter sign.Close ∷ token.Delimiter sign.Semicolon ∷ [])
    (joined (codes "PRIORITY := ") (decimal n) behind (token.Name (codes "PRIORITY") ∷ token.Delimiter sign.Assign ∷ []) (token.Integer n ∷ []) (assigned_to (codes "PRIORITY") task_names.1 (decimal n ++ behind))
    (alone (decimal n) behind (token.Integer n) (integer_spells n behind lt (ends_number behind (before_close (59 ∷ rest)))))) (closed rest)

-- a `(` before a part of a task is no start of a comment
single_first : (globals : List Variable) (single : Option GlobalId) (more : List ℕ) → Opens more → Opens (single_text globals single ++ more)
unfolding class_of
single_first globals None more first = first
single_first globals (Some id) more first = refl

interval_first_by : (t : ℤ) (none : Bool) (more : List ℕ) → Opens more → Opens ((if none then [] else codes "INTERVAL := " ++ time_text t ++ codes ", ") ++ more)
unfolding class_of
interval_first_by t true more first = first
interval_first_by t false more first = refl

priority_first : (n : ℕ) (rest : List ℕ) → Opens ((codes "PRIORITY := " ++ decimal n ++ codes ");") ++ rest)
unfolding class_of
priority_first n rest = refl

task_word : SpellsAlways (codes "TASK ") (token.Keyword keyword.Task ∷ [])
unfolding class_of is_spaced keyword_of same_word
task_word rest = reserved_spaced (codes "TASK") rest 32 keyword.Task refl refl refl

tasked : (name s i p : List ℕ) (ts us vs : List TokenKind) → IsName name → SpellsAlways s ts → SpellsAlways i us → SpellsAlways p vs → ((rest : List ℕ) → Opens (s ++ (i ++ (p ++ rest))))
    → SpellsAlways (codes "TASK " ++ name ++ codes "(" ++ s ++ i ++ p) ((token.Keyword keyword.Task ∷ token.Name name ∷ token.Delimiter sign.Open ∷ ts) ++ us ++ vs)
tasked name s i p ts us vs is f g h first rest =
    let behind = s ++ (i ++ (p ++ rest)) in
    joined (codes "TASK " ++ name ++ codes "(" ++ s ++ i) p rest ((token.Keyword keyword.Task ∷ token.Name name ∷ token.Delimiter sign.Open ∷ ts) ++ us) vs
    (joined (codes "TASK " ++ name ++ codes "(" ++ s) i (p ++ rest) (token.Keyword keyword.Task ∷ token.Name name ∷ token.Delimiter sign.Open ∷ ts) us
    (joined (codes "TASK " ++ name ++ codes "(") s (i ++ (p ++ rest)) (token.Keyword keyword.Task ∷ token.Name name ∷ token.Delimiter sign.Open ∷ []) ts
    (joined (codes "TASK " ++ name) (codes "(") behind (token.Keyword keyword.Task ∷ token.Name name ∷ []) (token.Delimiter sign.Open ∷ [])
    (joined (codes "TASK ") name (40 ∷ behind) (token.Keyword keyword.Task ∷ []) (token.Name name ∷ []) (task_word (name ++ (40 ∷ behind))) (named name (40 ∷ behind) is (before_open behind)))
    (alone (codes "(") behind (token.Delimiter sign.Open) (sign_spells sign.Open behind (first rest))))
    (f (i ++ (p ++ rest)))) (g (p ++ rest))) (h rest)

three : (x c t a : List ℕ) → x ++ c ++ t ++ a ≡ x ++ (c ++ t ++ a)
three x c t a = ap (λ (y : List ℕ). y ++ a) (append_assoc x c t) ∙ append_assoc x (c ++ t) a

task_spelled : (globals : List Variable) (t : Task) → CanSpellTask globals t → SpellsAlways (task_text globals t) (task_tokens (task_tree globals t))
task_spelled globals t is rest =
    let single = single_text globals t.single in
    let interval = interval_text t.interval in
    let priority = codes "PRIORITY := " ++ decimal t.priority ++ codes ");" in
    subst (λ (x : List ℕ). Spells x (task_tokens (task_tree globals t)) rest)
    (sym (three (codes "TASK " ++ t.name ++ codes "(" ++ single ++ interval) (codes "PRIORITY := ") (decimal t.priority) (codes ");")))
    (tasked t.name single interval priority (single_tokens (single_tree globals t.single)) (interval_tokens t.interval)
    (token.Name (codes "PRIORITY") ∷ token.Delimiter sign.Assign ∷ token.Integer t.priority ∷ token.Delimiter sign.Close ∷ token.Delimiter sign.Semicolon ∷ [])
    is.name (single_spelled globals t.single is.single) (interval_spelled t.interval is.interval) (priority_spelled t.priority is.priority)
    (λ others. single_first globals t.single (interval ++ (priority ++ others)) (interval_first_by t.interval (int_eq t.interval (pos 0)) (priority ++ others) (priority_first t.priority others))) rest)

-- ---- instances

with_word : SpellsAlways (codes " WITH ") (token.Keyword keyword.With ∷ [])
unfolding class_of is_spaced keyword_of same_word
with_word rest = spelling.space refl (reserved_spaced (codes "WITH") rest 32 keyword.With refl refl refl)

instanced : (name task type : List ℕ) → IsName name → IsName task → IsName type
    → SpellsAlways (codes "PROGRAM " ++ name ++ codes " WITH " ++ task ++ codes " : " ++ type ++ codes ";")
    (token.Keyword keyword.Program ∷ token.Name name ∷ token.Keyword keyword.With ∷ token.Name task ∷ token.Delimiter sign.Colon ∷ token.Name type ∷ token.Delimiter sign.Semicolon ∷ [])
instanced name task type is task_is type_is rest =
    let behind = type ++ (59 ∷ rest) in
    let more = task ++ (codes " : " ++ behind) in
    joined (codes "PROGRAM " ++ name ++ codes " WITH " ++ task ++ codes " : " ++ type) (codes ";") rest
    (token.Keyword keyword.Program ∷ token.Name name ∷ token.Keyword keyword.With ∷ token.Name task ∷ token.Delimiter sign.Colon ∷ token.Name type ∷ []) (token.Delimiter sign.Semicolon ∷ [])
    (joined (codes "PROGRAM " ++ name ++ codes " WITH " ++ task ++ codes " : ") type (59 ∷ rest)
    (token.Keyword keyword.Program ∷ token.Name name ∷ token.Keyword keyword.With ∷ token.Name task ∷ token.Delimiter sign.Colon ∷ []) (token.Name type ∷ [])
    (joined (codes "PROGRAM " ++ name ++ codes " WITH " ++ task) (codes " : ") behind
    (token.Keyword keyword.Program ∷ token.Name name ∷ token.Keyword keyword.With ∷ token.Name task ∷ []) (token.Delimiter sign.Colon ∷ [])
    (joined (codes "PROGRAM " ++ name ++ codes " WITH ") task (codes " : " ++ behind) (token.Keyword keyword.Program ∷ token.Name name ∷ token.Keyword keyword.With ∷ []) (token.Name task ∷ [])
    (joined (codes "PROGRAM " ++ name) (codes " WITH ") more (token.Keyword keyword.Program ∷ token.Name name ∷ []) (token.Keyword keyword.With ∷ [])
    (joined (codes "PROGRAM ") name (codes " WITH " ++ more) (token.Keyword keyword.Program ∷ []) (token.Name name ∷ []) (program_word (name ++ (codes " WITH " ++ more)))
    (named name (codes " WITH " ++ more) is (before_space (codes "WITH " ++ more))))
    (with_word more))
    (named task (codes " : " ++ behind) task_is (before_space (codes ": " ++ behind))))
    (colon_between behind))
    (named type (59 ∷ rest) type_is (before_semicolon rest)))
    (semicolon rest)

instance_spelled : (tasks : List Task) (types : List ProgramType) (i : Instance) → CanSpellInstance tasks types i → SpellsAlways (instance_text tasks types i) (instance_tokens (instance_tree tasks types i))
instance_spelled tasks types i is = instanced i.name (task_name tasks i.task.0) (type_name types i.program.0) is.name is.task is.program

-- ---- the configuration

configuration_word : SpellsAlways (codes "CONFIGURATION ") (token.Keyword keyword.Configuration ∷ [])
unfolding class_of is_spaced keyword_of same_word
configuration_word rest = reserved_spaced (codes "CONFIGURATION") rest 32 keyword.Configuration refl refl refl

resource_word : SpellsAlways (codes "RESOURCE ") (token.Keyword keyword.Resource ∷ [])
unfolding class_of is_spaced keyword_of same_word
resource_word rest = reserved_spaced (codes "RESOURCE") rest 32 keyword.Resource refl refl refl

on_word : SpellsAlways (codes " ON ") (token.Keyword keyword.On ∷ [])
unfolding class_of is_spaced keyword_of same_word
on_word rest = spelling.space refl (reserved_spaced (codes "ON") rest 32 keyword.On refl refl refl)

end_resource : SpellsLine (codes "END_RESOURCE") (token.Keyword keyword.EndResource ∷ [])
unfolding class_of is_spaced keyword_of same_word
end_resource rest = alone (codes "END_RESOURCE") (10 ∷ rest) (token.Keyword keyword.EndResource) (reserved_spells (codes "END_RESOURCE") (10 ∷ rest) keyword.EndResource refl refl refl refl)

end_configuration : SpellsLine (codes "END_CONFIGURATION") (token.Keyword keyword.EndConfiguration ∷ [])
unfolding class_of is_spaced keyword_of same_word
end_configuration rest =
    alone (codes "END_CONFIGURATION") (10 ∷ rest) (token.Keyword keyword.EndConfiguration) (reserved_spells (codes "END_CONFIGURATION") (10 ∷ rest) keyword.EndConfiguration refl refl refl refl)

resource_spelled : (resource processor : List ℕ) → IsName resource → IsName processor
    → SpellsLine (codes "RESOURCE " ++ resource ++ codes " ON " ++ processor) (token.Keyword keyword.Resource ∷ token.Name resource ∷ token.Keyword keyword.On ∷ token.Name processor ∷ [])
resource_spelled resource processor is on rest =
    let behind = codes " ON " ++ (processor ++ (10 ∷ rest)) in
    joined (codes "RESOURCE " ++ resource ++ codes " ON ") processor (10 ∷ rest) (token.Keyword keyword.Resource ∷ token.Name resource ∷ token.Keyword keyword.On ∷ []) (token.Name processor ∷ [])
    (joined (codes "RESOURCE " ++ resource) (codes " ON ") (processor ++ (10 ∷ rest)) (token.Keyword keyword.Resource ∷ token.Name resource ∷ []) (token.Keyword keyword.On ∷ [])
    (joined (codes "RESOURCE ") resource behind (token.Keyword keyword.Resource ∷ []) (token.Name resource ∷ []) (resource_word (resource ++ behind))
    (named resource behind is (before_space (codes "ON " ++ (processor ++ (10 ∷ rest))))))
    (on_word (processor ++ (10 ∷ rest))))
    (named processor (10 ∷ rest) on (before_line rest))

configured : (a b g t i y z : List ℕ) (ps qs gs ts is : List TokenKind) (u v : TokenKind) → SpellsAlways a ps → SpellsAlways b qs → SpellsAlways g gs → SpellsAlways t ts → SpellsAlways i is
    → SpellsAlways y (u ∷ []) → SpellsAlways z (v ∷ []) → SpellsAlways (a ++ b ++ g ++ t ++ i ++ y ++ z) ((ps ++ qs ++ gs) ++ ts ++ is ++ (u ∷ v ∷ []))
configured a b g t i y z ps qs gs ts is u v for_a for_b for_g for_t for_i for_y for_z rest =
    let xs = ps ++ qs ++ gs ++ ts ++ is in
    subst (λ (us : List TokenKind). Spells (a ++ b ++ g ++ t ++ i ++ y ++ z) us rest) (append_assoc xs (u ∷ []) (v ∷ []))
    (both_spelled (a ++ b ++ g ++ t ++ i ++ y) z (xs ++ (u ∷ [])) (v ∷ [])
    (both_spelled (a ++ b ++ g ++ t ++ i) y xs (u ∷ [])
    (both_spelled (a ++ b ++ g ++ t) i (ps ++ qs ++ gs ++ ts) is
    (both_spelled (a ++ b ++ g) t (ps ++ qs ++ gs) ts
    (both_spelled (a ++ b) g (ps ++ qs) gs
    (both_spelled a b ps qs for_a for_b) for_g) for_t) for_i) for_y) for_z rest)

pub configuration_spelled : (plant : PlantData) → CanSpellPlant plant → SpellsAlways (configuration_text plant) (configuration_tokens (configuration_tree plant))
configuration_spelled plant is =
    configured (line 0 (configuration_head plant)) (line 1 (resource_head plant)) (block 2 (codes "VAR_GLOBAL") variable_text plant.globals)
    (flat_map (λ t. line 2 (task_text plant.globals t)) plant.tasks) (flat_map (λ i. line 2 (instance_text plant.tasks plant.types i)) plant.instances)
    (line 1 (codes "END_RESOURCE")) (line 0 (codes "END_CONFIGURATION"))
    (token.Keyword keyword.Configuration ∷ token.Name plant.configuration ∷ [])
    (token.Keyword keyword.Resource ∷ token.Name plant.resource ∷ token.Keyword keyword.On ∷ token.Name plant.processor ∷ [])
    (globals_tokens (map declaration_tree plant.globals)) (flat_map task_tokens (map (task_tree plant.globals) plant.tasks))
    (flat_map instance_tokens (map (instance_tree plant.tasks plant.types) plant.instances)) (token.Keyword keyword.EndResource) (token.Keyword keyword.EndConfiguration)
    (line_spelled 0 (configuration_head plant) (token.Keyword keyword.Configuration ∷ token.Name plant.configuration ∷ [])
    (word_and_name (codes "CONFIGURATION ") plant.configuration keyword.Configuration configuration_word is.configuration))
    (line_spelled 1 (resource_head plant) (token.Keyword keyword.Resource ∷ token.Name plant.resource ∷ token.Keyword keyword.On ∷ token.Name plant.processor ∷ [])
    (resource_spelled plant.resource plant.processor is.resource is.processor))
    (globals_spelled plant.globals is.globals)
    (each_line_spelled 2 (task_text plant.globals) (task_tree plant.globals) task_tokens (CanSpellTask plant.globals) (λ t can rest. task_spelled plant.globals t can (10 ∷ rest)) plant.tasks is.tasks)
    (each_line_spelled 2 (instance_text plant.tasks plant.types) (instance_tree plant.tasks plant.types) instance_tokens (CanSpellInstance plant.tasks plant.types)
    (λ i can rest. instance_spelled plant.tasks plant.types i can (10 ∷ rest)) plant.instances is.instances)
    (line_spelled 1 (codes "END_RESOURCE") (token.Keyword keyword.EndResource ∷ []) end_resource)
    (line_spelled 0 (codes "END_CONFIGURATION") (token.Keyword keyword.EndConfiguration ∷ []) end_configuration)

-- ---- the whole

pub listing_spelled : (plant : PlantData) → CanSpellPlant plant → SpellsAlways (listing plant) (source_tokens (written plant))
listing_spelled plant is =
    both_spelled (flat_map (program_text plant.globals) plant.types) (configuration_text plant) (flat_map program_tokens (map (program_tree plant.globals) plant.types))
    (configuration_tokens (configuration_tree plant))
    (each_spelled (program_text plant.globals) (program_tree plant.globals) program_tokens (CanSpellProgram plant.globals) (program_spelled plant.globals) plant.types is.types)
    (configuration_spelled plant is)
