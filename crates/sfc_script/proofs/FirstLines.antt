-- The first line, by its instant and its command.
use Rattle.std.proofs.Common.{◌≡◌, ℕ, ℤ, ◌<◌, ◌==◌, true, false, ◌&&◌, if◌then◌else◌, List, [], ◌∷◌, ◌++◌, length, Option, Some, None, refl, sym, ap, subst, ◌∙◌, arith, length-append}
use Rattle.std.specs.Option.{option_map}
use Rattle.std.proofs.lemmas.Bool.Decides.{nat_tests}
use Rattle.sfc_tokens.specs.Lexing.DurationWords.{duration_value}
use Rattle.sfc_plant.specs.Plants.{PlantData}
use Rattle.sfc_events.specs.declared.command.Command.{Command}
use Rattle.sfc_script.specs.declared.repeated.Repeated.{Repeated}
use Rattle.sfc_script.specs.Lines.{in_line, begins_with_lf, lines_of, is_blank, split_before, first_word}
use Rattle.sfc_script.specs.Commands.{Nothing, Plain, command_of, conditional_of, said_by, said_at, said_behind, said_of}
use Rattle.sfc_script.specs.Private.Splitting.{begins_with_blank}
use Rattle.sfc_script.specs.Private.Repeating.{command_first, Repeats, IsLast, Begins}
use Rattle.sfc_script.proofs.Splits.{split_more, split_stop}
use Rattle.sfc_script.proofs.PlainInstants.{IsPlain, ArePlain, IsInstant}

-- ---- a word in front of a line

-- a byte that ends no line
pub byte_in_line : (b : ℕ) (bytes : List ℕ) → (b == 10) ≡ false → (b == 13) ≡ false → lines_of (b ∷ bytes) ≡ in_line b (lines_of bytes)
byte_in_line b bytes e f =
    ap (λ t. if t then [] ∷ lines_of bytes else if b == 13 && begins_with_lf bytes then lines_of bytes else in_line b (lines_of bytes)) e
    ∙ ap (λ t. if t && begins_with_lf bytes then lines_of bytes else in_line b (lines_of bytes)) f

word_in_line : (word bytes text : List ℕ) (lines : List (List ℕ)) → ArePlain word → lines_of bytes ≡ text ∷ lines → lines_of (word ++ bytes) ≡ (word ++ text) ∷ lines
word_in_line [] bytes text lines plain e = e
word_in_line (b ∷ word) bytes text lines plain e = byte_in_line b (word ++ bytes) plain.0.lf plain.0.cr ∙ ap (in_line b) (word_in_line word bytes text lines plain.1 e)

-- a word before a blank
word_split : (word text : List ℕ) → ArePlain word → begins_with_blank text ≡ true → split_before is_blank (word ++ text) ≡ (word, text)
word_split [] [] plain blank = absurd cc
word_split [] (b ∷ text) plain blank = split_stop is_blank b text blank
word_split (b ∷ word) text plain blank = split_more is_blank b (word ++ text) plain.0.blank ∙ ap (λ s. (b ∷ s.0, s.1)) (word_split word text plain.1 blank)

-- ---- what begins with a blank

-- bytes that begin with a blank have a line that does
record BlankLine (bytes : List ℕ) : Type 0 where
  text : List ℕ
  others : List (List ℕ)
  lines : lines_of bytes ≡ text ∷ others
  blank : begins_with_blank text ≡ true

blank_no_lf : (b : ℕ) → is_blank b ≡ true → (b == 10) ≡ false
blank_no_lf b e = grind (arith, nat_tests)

blank_no_cr : (b : ℕ) → is_blank b ≡ true → (b == 13) ≡ false
blank_no_cr b e = grind (arith, nat_tests)

blank_line : (bytes : List ℕ) → begins_with_blank bytes ≡ true → BlankLine bytes
blank_line [] blank = absurd cc
blank_line (b ∷ bytes) blank = by (lines_of bytes) refl
  where
    by : (lines : List (List ℕ)) → lines_of bytes ≡ lines → BlankLine (b ∷ bytes)
    by [] e = record { text = b ∷ []; others = []; lines = byte_in_line b bytes (blank_no_lf b blank) (blank_no_cr b blank) ∙ ap (in_line b) e; blank = blank }
    by (line ∷ lines) e = record { text = b ∷ line; others = lines; lines = byte_in_line b bytes (blank_no_lf b blank) (blank_no_cr b blank) ∙ ap (in_line b) e; blank = blank }

-- ---- lines

-- the line that an instant and what stands behind it are
pub timed_line : (plant : PlantData) (first : ℕ) (word text : List ℕ) (t : ℤ) → IsPlain first → ArePlain word → duration_value (first ∷ word) ≡ Some t → begins_with_blank text ≡ true
    → said_of plant (first ∷ (word ++ text)) ≡ said_at plant (Some t) text
timed_line plant first word text t plain others value blank =
    ap (λ s. said_behind plant (if s then first_word (word ++ text) else Some (split_before is_blank (first ∷ (word ++ text))))) plain.blank
    ∙ ap (λ s. said_behind plant (Some s)) (word_split (first ∷ word) text (plain, others) blank)
    ∙ ap (λ s. if s then Nothing else said_at plant (duration_value (first ∷ word)) text) plain.comment
    ∙ ap (λ o. said_at plant o text) value

-- the line that begins with an instant
record Timed (plant : PlantData) (bytes : List ℕ) (t : ℤ) (behind : List ℕ) : Type 0 where
  line : List ℕ
  text : List ℕ
  others : List (List ℕ)
  first : lines_of bytes ≡ line ∷ others
  behind_first : lines_of behind ≡ text ∷ others
  is : said_of plant line ≡ said_at plant (Some t) text

timed_is : (plant : PlantData) (bytes : List ℕ) (t : ℤ) (behind : List ℕ) → IsInstant bytes t behind → Timed plant bytes t behind
timed_is plant bytes t behind i =
    let b = blank_line behind i.blank in
    record {
      line = i.first ∷ (i.word ++ b.text);
      text = b.text;
      others = b.others;
      first = ap lines_of i.split ∙ word_in_line (i.first ∷ i.word) behind b.text b.others (i.first_plain, i.plain) b.lines;
      behind_first = b.lines;
      is = timed_line plant i.first i.word b.text t i.first_plain i.plain i.value b.blank;
    }

-- the command behind an instant
command_by : (o : Option Command) (command : Command) (others lines : List (List ℕ)) → option_map {U = Command × List (List ℕ)} (λ c. (c, others)) o ≡ Some (command, lines) → (o ≡ Some command) × (others ≡ lines)
command_by None command others lines e = absurd cc
command_by (Some x) command others lines e = let same : ◌≡◌ {A = Command × List (List ℕ)} (x, others) (command, lines) = cc in (ap (λ p. Some p.0) same, ap (λ p. p.1) same)

pub plain_first : (plant : PlantData) (bytes : List ℕ) (t : ℤ) (behind : List ℕ) (command : Command) (rest : List ℕ) → IsInstant bytes t behind → command_first plant (lines_of behind) ≡ Some (command, lines_of rest) → Begins plant bytes (Plain command t) rest
plain_first plant bytes t behind command rest i e =
    let l = timed_is plant bytes t behind i in
    let o = command_by (command_of plant l.text) command l.others (lines_of rest) (sym (ap (command_first plant) l.behind_first) ∙ e) in
    record {
      line = l.line;
      lines = l.first ∙ ap (λ lines. l.line ∷ lines) o.1;
      is = l.is ∙ ap (λ c. said_by c (conditional_of plant l.text) t) o.0;
    }

-- ---- what is said again

-- what is kept is not nothing
last_some : (plant : PlantData) (command : Command) → Repeats plant [] command → ⊥
last_some plant command repeats = let none : ◌≡◌ {A = Option (Command × List (List ℕ))} None (Some (command, [])) = repeats [] in cc

-- where the bytes begin with what is kept, the command is the kept one
pub command_again : (plant : PlantData) (last : Option Repeated) (r : Repeated) (behind rest : List ℕ) → last ≡ Some r → IsLast plant last → behind ≡ r.tail.now ++ rest → command_first plant (lines_of behind) ≡ Some (r.command, lines_of rest)
command_again plant None r behind rest e is_last split = absurd cc
command_again plant (Some x) r behind rest e is_last split =
    let same : x ≡ r = cc in
    ap (λ (b : List ℕ). command_first plant (lines_of b)) split ∙ subst (λ (y : Repeated). Repeats plant y.tail.now y.command) same is_last rest

-- and what follows is shorter
pub rest_shorter : (plant : PlantData) (last : Option Repeated) (r : Repeated) (behind rest : List ℕ) → last ≡ Some r → IsLast plant last → behind ≡ r.tail.now ++ rest → length rest < length behind
rest_shorter plant None r behind rest e is_last split = absurd cc
rest_shorter plant (Some x) r behind rest e is_last split =
    let same : x ≡ r = cc in
    by r.tail.now (subst (λ (y : Repeated). Repeats plant y.tail.now y.command) same is_last) split
  where
    by : (tail : List ℕ) → Repeats plant tail r.command → behind ≡ tail ++ rest → length rest < length behind
    by [] repeats is = absurd (last_some plant r.command repeats)
    by (b ∷ tail) repeats is = rw is (omega (arith, length-append tail rest))
