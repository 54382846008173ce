-- What a client is told of a message (Debug Adapter Protocol). What is sent to it is numbered.
use Rattle.std.specs.Prelude.{◌≡◌, ⊤, ℕ, ◌+◌, ◌-◌, ◌^◌, min, List, [], ◌∷◌, Option, Some, None, codes, IsUtf8}
use Rattle.sfc_frames.specs.declared.serving.Flow.{Flow}
use Rattle.sfc_frames.specs.declared.serving.Flow.TheVariants.{GoesOn}
use Rattle.serde_json.specs.Data.{Data, number, string, unsigned}
use Rattle.serde_json.specs.Find.{get}
use Rattle.serde_json.specs.Read.{read}
use Rattle.sfc_wire.specs.Dap.{Request, request_of}
use Rattle.sfc_wire.specs.Texts.{IsWritten, Reads}

-- the number behind this one; the greatest of 64 bits stays
abbrev pub next_number : ℕ → ℕ
next_number seq = min (seq + 1) (2 ^ 64 - 1)

-- the number behind those of these texts, of which the first has this one
abbrev pub number_behind : ℕ → List (List ℕ) → ℕ
number_behind seq [] = seq
number_behind seq (text ∷ texts) = number_behind (next_number seq) texts

-- the response with this number to this request
pub record IsResponse (seq : ℕ) (request : Request) (message : Data) : Type 0 where
  pub is_response : get (codes "type") message ≡ Some (string (codes "response"))
  pub numbered : get (codes "seq") message ≡ Some (number (unsigned seq))
  pub answers : get (codes "request_seq") message ≡ Some (number (unsigned request.seq))
  pub names : get (codes "command") message ≡ Some (string request.command)

-- an event with this number
pub record IsEvent (seq : ℕ) (message : Data) : Type 0 where
  pub is_event : get (codes "type") message ≡ Some (string (codes "event"))
  pub numbered : get (codes "seq") message ≡ Some (number (unsigned seq))

-- a text that says such a thing
abbrev pub Says : (Data → Type 0) → List ℕ → Type 0
Says IsSuch text = (message : Data) × IsWritten message text × IsSuch message

-- events, with the numbers from this one on
abbrev pub AreEvents : ℕ → List (List ℕ) → Type 0
AreEvents seq [] = ⊤
AreEvents seq (text ∷ texts) = Says (IsEvent seq) text × AreEvents (next_number seq) texts

-- first the one response to this request, and then events, with the numbers from this one on
abbrev pub Responds : Request → ℕ → List (List ℕ) → Type 0
Responds request seq [] = ⊥
Responds request seq (text ∷ texts) = Says (IsResponse seq request) text × AreEvents (next_number seq) texts

-- The same, where this number comes behind them.
abbrev pub RespondsTo : Request → ℕ → ℕ → List (List ℕ) → Type 0
RespondsTo request old new told = Responds request old told × (new ≡ number_behind old told)

abbrev pub TellsEvents : ℕ → ℕ → List (List ℕ) → Type 0
TellsEvents old new told = AreEvents old told × (new ≡ number_behind old told)

-- What is told of a message: a request has its response, first; what is none has none, and ends no client.
abbrev pub AnswersMessage : Option Request → ℕ → ℕ → List (List ℕ) → Flow → Type 0
AnswersMessage None old new told flow = TellsEvents old new told × (flow ≡ GoesOn)
AnswersMessage (Some request) old new told flow = RespondsTo request old new told

-- what is told of a text, which may be no JSON, and whether more are taken
pub record Answers (old new : ℕ) (text : List ℕ) (told : List (List ℕ)) (flow : Flow) : Type 0 where
  pub json : (message : Data) → Reads text message → AnswersMessage (request_of message) old new told flow
  pub other : (IsUtf8 text → read text ≡ None) → TellsEvents old new told × (flow ≡ GoesOn)
