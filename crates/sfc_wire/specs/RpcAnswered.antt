-- What a client is told of a message (JSON-RPC).
use Rattle.std.specs.Prelude.{◌≡◌, ⊤, ℕ, List, [], ◌∷◌, Option, None, unwrap_or, IsUtf8}
use Rattle.sfc_frames.specs.declared.serving.Flow.{Flow}
use Rattle.sfc_frames.specs.declared.serving.Flow.TheVariants.{GoesOn}
use Rattle.serde_json.specs.Data.{Data, null}
use Rattle.serde_json.specs.Read.{read}
use Rattle.sfc_wire.specs.Rpc.{Message, request, notification, success, failure, invalid, message_of}
use Rattle.sfc_wire.specs.RpcAnswers.{failure_of}
use Rattle.sfc_wire.specs.Texts.{IsOne, IsWritten, Reads}
use Rattle.sfc_wire.specs.declared.error_code.ErrorCode.{ErrorCode}
use Rattle.sfc_wire.specs.declared.error_code.ErrorCode.TheVariants.{InvalidRequest, ParseError}

-- the response to what was asked for under this id
abbrev pub IsResponseTo : Data → Message → Type 0
IsResponseTo id (request other method params) = ⊥
IsResponseTo id (notification method params) = ⊥
IsResponseTo id (success other value) = other ≡ id
IsResponseTo id (failure other error) = other ≡ id
IsResponseTo id (invalid other) = ⊥

-- a request or a notification
abbrev pub IsCall : Message → Type 0
IsCall (request id method params) = ⊤
IsCall (notification method params) = ⊤
IsCall (success id value) = ⊥
IsCall (failure id error) = ⊥
IsCall (invalid id) = ⊥

-- a text that is read as such a message
abbrev pub Says : (Message → Type 0) → List ℕ → Type 0
Says IsSuch text = (message : Data) × IsWritten message text × IsSuch (message_of message)

abbrev pub AreCalls : List (List ℕ) → Type 0
AreCalls [] = ⊤
AreCalls (text ∷ texts) = Says IsCall text × AreCalls texts

-- first the one response to what was asked for under this id, and then no response
abbrev pub Responds : Data → List (List ℕ) → Type 0
Responds id [] = ⊥
Responds id (text ∷ texts) = Says (IsResponseTo id) text × AreCalls texts

-- one response, with this error and this id, which is null where it isn't known
abbrev pub Refuses : Option Data → ErrorCode → List (List ℕ) → Type 0
Refuses id code told = (reason : List ℕ) × IsOne (IsWritten (failure_of (unwrap_or id null) code reason)) told

-- A request has its response, first; nothing else has one but what is no message. Nothing but a notification ends a client.
abbrev pub AnswersMessage : Message → List (List ℕ) → Flow → Type 0
AnswersMessage (request id method params) told flow = Responds id told × (flow ≡ GoesOn)
AnswersMessage (notification method params) told flow = AreCalls told
AnswersMessage (success id value) told flow = (told ≡ []) × (flow ≡ GoesOn)
AnswersMessage (failure id error) told flow = (told ≡ []) × (flow ≡ GoesOn)
AnswersMessage (invalid id) told flow = Refuses id InvalidRequest told × (flow ≡ GoesOn)

-- what is told of a text, and whether more are taken: a text that is no JSON is refused too
pub record Answers (text : List ℕ) (told : List (List ℕ)) (flow : Flow) : Type 0 where
  pub json : (message : Data) → Reads text message → AnswersMessage (message_of message) told flow
  pub other : (IsUtf8 text → read text ≡ None) → Refuses None ParseError told × (flow ≡ GoesOn)
