-- What a line at a prompt says (our choice of format).
use Rattle.std.specs.Prelude.{ℕ, if◌then◌else◌, List, codes, ℤ, Option, Some, None, option_map, option_and_then}
use Rattle.std.specs.Option.{option_or}
use Rattle.sfc_base.specs.Case.{same_word}
use Rattle.sfc_tokens.specs.Lexing.DurationWords.{duration_value}
use Rattle.sfc_asking.specs.sfc_script.Commands.{begins_comment}
use Rattle.sfc_asking.specs.sfc_script.Lines.{first_word}
use Rattle.sfc_prompt.specs.declared.line.Line.{Line}
use Rattle.sfc_prompt.specs.declared.line.Line.TheVariants as line
use Rattle.sfc_prompt.specs.declared.line.Word.{Word}
use Rattle.sfc_prompt.specs.declared.line.Word.TheVariants as words
use Rattle.sfc_prompt.specs.Words.{before_lf, trimmed}

-- What a line says.
pub data Said : Type 0 where
  -- it has no words
  Nothing : Said
  -- it begins with a semicolon
  Remark : Said
  -- it should be a command of a script, at this instant, if it has one
  Says : Option ℤ → List ℕ → Said
  -- a word of the prompt's own, and what stands behind it
  Asks : Word → List ℕ → Said

-- a word that shows how something stands
abbrev pub showing_word : List ℕ → Option Word
showing_word word =
    if same_word word (codes "SHOW") then Some words.Show else
    if same_word word (codes "IMAGE") then Some words.Image else
    if same_word word (codes "POINTS") then Some words.Points else
    if same_word word (codes "TRACE") then Some words.Trace else
    if same_word word (codes "LIST") then Some words.List else
    if same_word word (codes "WHY") then Some words.Why else None

-- a word that scans on, saves or ends
abbrev pub doing_word : List ℕ → Option Word
doing_word word =
    if same_word word (codes "UNTIL") then Some words.Until else
    if same_word word (codes "AGAIN") then Some words.Again else
    if same_word word (codes "SAVE") then Some words.Save else
    if same_word word (codes "QUIT") then Some words.Quit else
    if same_word word (codes "EXIT") then Some words.Quit else None

-- a word that explains
abbrev pub telling_word : List ℕ → Option Word
telling_word word =
    if same_word word (codes "EXPLAIN") then Some words.Explain else
    if same_word word (codes "HELP") then Some words.Help else
    if same_word word (codes "?") then Some words.Help else None

-- a word of the prompt's own, in any case of its letters
abbrev pub own_word : List ℕ → Option Word
own_word word = option_or (showing_word word) (option_or (doing_word word) (telling_word word))

-- a word behind ALL
abbrev pub all_word : List ℕ → Option Word
all_word word =
    if same_word word (codes "UNTIL") then Some words.AllUntil else
    if same_word word (codes "AGAIN") then Some words.AllAgain else None

-- the word behind ALL, if it is such a one, with what stands behind it
abbrev pub first_of_all : List ℕ → Option (Word × List ℕ)
first_of_all rest = option_and_then (λ w. option_map (λ word. (word, w.1)) (all_word w.0)) (first_word rest)

abbrev pub said_of_all : List ℕ → Option (Word × List ℕ) → Said
said_of_all text None = Says None text
said_of_all text (Some w) = Asks w.0 (trimmed w.1)

-- ALL and such a word, or what should be a command
abbrev pub said_otherwise : List ℕ → List ℕ → List ℕ → Said
said_otherwise text first rest = if same_word first (codes "ALL") then said_of_all text (first_of_all rest) else Says None text

-- by what its first word is: an instant, or else a word of the prompt's own
abbrev pub said_by : List ℕ → List ℕ → List ℕ → Option ℤ → Option Word → Said
said_by text first rest (Some instant) word = Says (Some instant) (trimmed rest)
said_by text first rest None (Some word) = Asks word (trimmed rest)
said_by text first rest None None = said_otherwise text first rest

abbrev pub said_behind : List ℕ → Option (List ℕ × List ℕ) → Said
said_behind text None = Nothing
said_behind text (Some w) =
    if begins_comment w.0 then Remark else said_by text w.0 w.1 (duration_value w.0) (own_word w.0)

abbrev pub text_said : List ℕ → Said
text_said text = said_behind text (first_word text)

-- A line ends before its first LF, if it has one. Neither blanks at its end nor a CR there say anything.
abbrev pub line_said : List ℕ → Said
line_said line = text_said (trimmed (before_lf line))

-- ---- what is read of it

-- the same of a line in running form, whose texts stand in its bytes
abbrev pub as_said : Line → Said
as_said line.Empty = Nothing
as_said line.Comment = Remark
as_said (line.Says instant text) = Says instant text.now
as_said (line.Asks word text) = Asks word text.now
