-- The text of a step spells the tokens of the step that the listing spells.
use Rattle.std.proofs.Common.{ℕ, Bool, true, false, List, [], ◌∷◌, ◌++◌, map, flat_map, refl, codes}
use Rattle.std.proofs.lemmas.List.Elements.{All-map}
use Rattle.sfc_base.specs.declared.delimiter.Delimiter.TheVariants as sign
use Rattle.sfc_base.specs.declared.keyword.Keyword.{Keyword}
use Rattle.sfc_base.specs.declared.keyword.Keyword.TheVariants as keyword
use Rattle.sfc_base.specs.declared.run.Alphabet.TheVariants as alphabet
use Rattle.sfc_tokens.specs.declared.token.TokenKind.{TokenKind}
use Rattle.sfc_tokens.specs.declared.token.TokenKind.TheVariants as token
use Rattle.sfc_base.specs.Case.{same_word}
use Rattle.sfc_base.specs.Classes.{class_of}
use Rattle.sfc_base.specs.Names.{is_spaced, IsName}
use Rattle.sfc_base.specs.Runs.{Ends}
use Rattle.sfc_tokens.specs.Spelling.{Spells}
use Rattle.sfc_base.specs.TimeText.{time_text}
use Rattle.sfc_base.specs.Words.{keyword_of}
use Rattle.sfc_tokens.proofs.DurationWords.{duration_before}
use Rattle.sfc_tokens.proofs.Signs.{sign_spells}
use Rattle.sfc_tokens.proofs.Spaced.{reserved_spaced}
use Rattle.sfc_tokens.proofs.Spelled.{reserved_spells}
use Rattle.sfc_tokens.proofs.Spellings.{alone, joined}
use Rattle.sfc_tokens.proofs.TimeLaw.{time_is}
use Rattle.sfc_base.specs.declared.qualifier.TimedQualifier.{TimedQualifier}
use Rattle.sfc_base.specs.declared.qualifier.TimedQualifier.TheVariants as timed
use Rattle.sfc_text.specs.SpelledCharts as spelled
use Rattle.sfc_text.specs.SpelledCharts.{timed_letters, time_tokens, qualifier_tokens, association_tokens, step_tokens}
use Rattle.sfc_plant.specs.declared.association.Association.{Association}
use Rattle.sfc_plant.specs.declared.association.Time.{Time}
use Rattle.sfc_plant.specs.declared.association.Time.TheVariants as time
use Rattle.sfc_plant.specs.declared.association.Qualifier.{Qualifier}
use Rattle.sfc_plant.specs.declared.association.Qualifier.TheVariants as qualifier
use Rattle.sfc_plant.specs.declared.chart.Step.{Step}
use Rattle.sfc_plant.specs.Spaces.{Space}
use Rattle.sfc_list.specs.Layout.{line}
use Rattle.sfc_plant.specs.Names.{target_name, variable_name}
use Rattle.sfc_plant.specs.Letters.{timed_letters as timed_text}
use Rattle.sfc_list.specs.Charts.{association_time, qualifier_text, indicators_text, association_text, step_word, step_head, step_text}
use Rattle.sfc_read_back.specs.SpelledPlants.{CanSpellTime, CanSpellQualifier, CanSpellAssociation, CanSpellStep}
use Rattle.sfc_read_back.specs.WrittenCharts.{time_tree, qualifier_tree, association_tree, step_tree}
use Rattle.sfc_read_back.proofs.SpelledExpressions.{Opens}
use Rattle.sfc_read_back.proofs.SpelledLines.{SpellsAlways, SpellsLine, framed, each_line_spelled, named, before_close, before_open, before_colon, colon_line, closed, comma_space, further_ends, further_spelled}
use Rattle.sfc_read_back.proofs.SpelledLiterals.{ends_interval}

-- ---- qualifiers

timed_spelled : (q : TimedQualifier) (rest : List ℕ) → Spells (timed_text q) (token.Name (timed_letters q) ∷ []) (44 ∷ rest)
unfolding class_of is_spaced keyword_of same_word
timed_spelled timed.Limited rest = named (codes "L") (44 ∷ rest) refl refl
timed_spelled timed.Delayed rest = named (codes "D") (44 ∷ rest) refl refl
timed_spelled timed.StoredDelayed rest = named (codes "SD") (44 ∷ rest) refl refl
timed_spelled timed.DelayedStored rest = named (codes "DS") (44 ∷ rest) refl refl
timed_spelled timed.StoredLimited rest = named (codes "SL") (44 ∷ rest) refl refl

time_spelled : (space : Space) (t : Time) (rest : List ℕ) → CanSpellTime space t → Ends alphabet.Location rest → Spells (association_time space t) (time_tokens (time_tree space t)) rest
time_spelled space (time.Literal t) rest is ends = alone (time_text t) rest (token.Duration t) (duration_before (time_text t) t rest (time_is t is) (ends_interval rest ends))
time_spelled space (time.Variable v) rest is ends = named (variable_name space v) rest is ends

timed_with : (q t rest : List ℕ) (name : List ℕ) (us : List TokenKind) → Spells q (token.Name name ∷ []) (44 ∷ 32 ∷ (t ++ rest)) → Spells t us rest
    → Spells (q ++ codes ", " ++ t) (token.Name name ∷ token.Delimiter sign.Comma ∷ us) rest
timed_with q t rest name us p h =
    joined (q ++ codes ", ") t rest (token.Name name ∷ token.Delimiter sign.Comma ∷ []) us
    (joined q (codes ", ") (t ++ rest) (token.Name name ∷ []) (token.Delimiter sign.Comma ∷ []) p (comma_space (t ++ rest))) h

qualifier_spelled : (space : Space) (q : Qualifier) (rest : List ℕ) → CanSpellQualifier space q → Ends alphabet.Location rest → Spells (qualifier_text space q) (qualifier_tokens (qualifier_tree space q)) rest
unfolding class_of is_spaced keyword_of same_word
qualifier_spelled space qualifier.NonStored rest is ends = named (codes "N") rest refl ends
qualifier_spelled space qualifier.Reset rest is ends = named (codes "R") rest refl ends
qualifier_spelled space qualifier.Set rest is ends = named (codes "S") rest refl ends
qualifier_spelled space qualifier.Pulse rest is ends = named (codes "P") rest refl ends
qualifier_spelled space qualifier.RisingPulse rest is ends = named (codes "P1") rest refl ends
qualifier_spelled space qualifier.FallingPulse rest is ends = named (codes "P0") rest refl ends
qualifier_spelled space (qualifier.Timed q t) rest is ends =
    let text = association_time space t in
    timed_with (timed_text q) text rest (timed_letters q) (time_tokens (time_tree space t)) (timed_spelled q (32 ∷ (text ++ rest))) (time_spelled space t rest is ends)

timed_first : (q : TimedQualifier) (more rest : List ℕ) → Opens ((timed_text q ++ codes ", " ++ more) ++ rest)
unfolding class_of
timed_first timed.Limited more rest = refl
timed_first timed.Delayed more rest = refl
timed_first timed.StoredDelayed more rest = refl
timed_first timed.DelayedStored more rest = refl
timed_first timed.StoredLimited more rest = refl

qualifier_first : (space : Space) (q : Qualifier) (rest : List ℕ) → Opens (qualifier_text space q ++ rest)
unfolding class_of
qualifier_first space qualifier.NonStored rest = refl
qualifier_first space qualifier.Reset rest = refl
qualifier_first space qualifier.Set rest = refl
qualifier_first space qualifier.Pulse rest = refl
qualifier_first space qualifier.RisingPulse rest = refl
qualifier_first space qualifier.FallingPulse rest = refl
qualifier_first space (qualifier.Timed q t) rest = timed_first q (association_time space t) rest

-- ---- associations

associated : (target q i rest : List ℕ) (ts us : List TokenKind) → IsName target → Opens (q ++ (i ++ (41 ∷ 59 ∷ rest))) → Spells q ts (i ++ (41 ∷ 59 ∷ rest)) → Spells i us (41 ∷ 59 ∷ rest)
    → Spells (target ++ codes "(" ++ q ++ i ++ codes ");") ((token.Name target ∷ token.Delimiter sign.Open ∷ ts) ++ us ++ (token.Delimiter sign.Close ∷ token.Delimiter sign.Semicolon ∷ [])) rest
associated target q i rest ts us is first p h =
    let more = i ++ (41 ∷ 59 ∷ rest) in
    joined (target ++ codes "(" ++ q ++ i) (codes ");") rest ((token.Name target ∷ token.Delimiter sign.Open ∷ ts) ++ us) (token.Delimiter sign.Close ∷ token.Delimiter sign.Semicolon ∷ [])
    (joined (target ++ codes "(" ++ q) i (41 ∷ 59 ∷ rest) (token.Name target ∷ token.Delimiter sign.Open ∷ ts) us
    (joined (target ++ codes "(") q more (token.Name target ∷ token.Delimiter sign.Open ∷ []) ts
    (joined target (codes "(") (q ++ more) (token.Name target ∷ []) (token.Delimiter sign.Open ∷ []) (named target (40 ∷ (q ++ more)) is (before_open (q ++ more)))
    (alone (codes "(") (q ++ more) (token.Delimiter sign.Open) (sign_spells sign.Open (q ++ more) first))) p) h) (closed rest)

association_spelled : (space : Space) (a : Association) → CanSpellAssociation space a → SpellsAlways (association_text space a) (association_tokens (association_tree space a))
association_spelled space a is rest =
    let names = map (variable_name space) a.indicators in
    let behind = 41 ∷ 59 ∷ rest in
    associated (target_name space a.target) (qualifier_text space a.qualifier) (indicators_text space a.indicators) rest _ _ is.target
    (qualifier_first space a.qualifier (indicators_text space a.indicators ++ behind))
    (qualifier_spelled space a.qualifier (indicators_text space a.indicators ++ behind) is.qualifier (further_ends names behind (before_close (59 ∷ rest))))
    (further_spelled names behind (All-map IsName (variable_name space) a.indicators is.indicators) (before_close (59 ∷ rest)))

-- ---- steps

step_word_spelled : (b : Bool) → SpellsAlways (step_word b) (token.Keyword (spelled.step_word b) ∷ [])
unfolding class_of is_spaced keyword_of same_word
step_word_spelled false rest = reserved_spaced (codes "STEP") rest 32 keyword.Step refl refl refl
step_word_spelled true rest = reserved_spaced (codes "INITIAL_STEP") rest 32 keyword.InitialStep refl refl refl

-- a word, a name and a colon
pub titled : (word name : List ℕ) (k : Keyword) → SpellsAlways word (token.Keyword k ∷ []) → IsName name → SpellsLine (word ++ name ++ codes ":") (token.Keyword k ∷ token.Name name ∷ token.Delimiter sign.Colon ∷ [])
titled word name k h is rest =
    joined (word ++ name) (codes ":") (10 ∷ rest) (token.Keyword k ∷ token.Name name ∷ []) (token.Delimiter sign.Colon ∷ [])
    (joined word name (58 ∷ 10 ∷ rest) (token.Keyword k ∷ []) (token.Name name ∷ []) (h (name ++ (58 ∷ 10 ∷ rest))) (named name (58 ∷ 10 ∷ rest) is (before_colon (10 ∷ rest))))
    (colon_line rest)

end_step_spelled : SpellsLine (codes "END_STEP") (token.Keyword keyword.EndStep ∷ [])
unfolding class_of is_spaced keyword_of same_word
end_step_spelled rest = alone (codes "END_STEP") (10 ∷ rest) (token.Keyword keyword.EndStep) (reserved_spells (codes "END_STEP") (10 ∷ rest) keyword.EndStep refl refl refl refl)

pub step_spelled : (space : Space) (s : Step) → CanSpellStep space s → SpellsAlways (step_text space s) (step_tokens (step_tree space s))
step_spelled space s is =
    framed 1 (step_head s) (flat_map (λ a. line 2 (association_text space a)) s.associations) (codes "END_STEP")
    (token.Keyword (spelled.step_word s.is_initial) ∷ token.Name s.name ∷ token.Delimiter sign.Colon ∷ [])
    (flat_map association_tokens (map (association_tree space) s.associations)) (token.Keyword keyword.EndStep)
    (titled (step_word s.is_initial) s.name (spelled.step_word s.is_initial) (step_word_spelled s.is_initial) is.name)
    (each_line_spelled 2 (association_text space) (association_tree space) association_tokens (CanSpellAssociation space)
    (λ a can rest. association_spelled space a can (10 ∷ rest)) s.associations is.associations)
    end_step_spelled
