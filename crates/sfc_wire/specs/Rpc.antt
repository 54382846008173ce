-- What a message is (JSON-RPC). Members of other names are passed over, and they may be in any order.
use Rattle.std.specs.Prelude.{◌≡◌, ⊤, ℕ, Bool, true, false, if◌then◌else◌, List, Option, Some, None, option_and_then, codes, nat_eq}
use Rattle.std.specs.Cmp.Lexicographic.{pointwise}
use Rattle.serde_json.specs.Data.{Data, null, boolean, number, string, array, object}
use Rattle.serde_json.specs.Find.{as_str, get}

-- what is asked for under an id, with its parameters; what is told; the result or the error of what was asked for under an
-- id; none of these, with its id
pub data Message : Type 0 where
  request : Data → List ℕ → Option Data → Message
  notification : List ℕ → Option Data → Message
  success : Data → Data → Message
  failure : Data → Data → Message
  invalid : Option Data → Message

-- an id is a number or a text
abbrev pub is_id : Data → Bool
is_id null = false
is_id (boolean b) = false
is_id (number n) = true
is_id (string s) = true
is_id (array ds) = false
is_id (object ms) = false

abbrev pub IsId : Data → Type 0
IsId id = is_id id ≡ true

-- the same where there is a value
abbrev pub MayBeId : Option Data → Type 0
MayBeId None = ⊤
MayBeId (Some id) = IsId id

-- the value, if it can be an id
abbrev pub as_id : Data → Option Data
as_id id = if is_id id then Some id else None

abbrev pub id_of : Data → Option Data
id_of message = option_and_then as_id (get (codes "id") message)

abbrev pub is_two : Option (List ℕ) → Bool
is_two None = false
is_two (Some version) = pointwise nat_eq version (codes "2.0")

-- it says the version of the protocol
abbrev pub has_version : Data → Bool
has_version message = is_two (option_and_then as_str (get (codes "jsonrpc") message))

-- with a method and these parameters, by what stands for the id
abbrev pub calling_by : List ℕ → Option Data → Option Data → Message
calling_by method params None = notification method params
calling_by method params (Some id) = if is_id id then request id method params else invalid None

abbrev pub calling : Data → List ℕ → Message
calling message method = calling_by method (get (codes "params") message) (get (codes "id") message)

-- without a method, by what stands for the error and the result
abbrev pub answering_by : Data → Option Data → Option Data → Message
answering_by id (Some error) value = failure id error
answering_by id None (Some value) = success id value
answering_by id None None = invalid (Some id)

abbrev pub answering : Data → Data → Message
answering message id = answering_by id (get (codes "error") message) (get (codes "result") message)

-- by the id
abbrev pub answering_under : Data → Option Data → Message
answering_under message None = invalid None
answering_under message (Some id) = answering message id

abbrev pub answering_any : Data → Message
answering_any message = answering_under message (id_of message)

-- by the text of the method
abbrev pub named : Data → Option (List ℕ) → Message
named message None = invalid (id_of message)
named message (Some method) = calling message method

-- by what stands for the method
abbrev pub by_method : Data → Option Data → Message
by_method message None = answering_any message
by_method message (Some method) = named message (as_str method)

-- What a message is: a request or a notification where it has a method, and a response where it has none.
unfoldable pub message_of : Data → Message
message_of message = if has_version message then by_method message (get (codes "method") message) else invalid (id_of message)

-- the id of what is asked for is one, and that of what is no message too, where it has one
abbrev pub HasId : Message → Type 0
HasId (request id method params) = IsId id
HasId (notification method params) = ⊤
HasId (success id value) = ⊤
HasId (failure id error) = ⊤
HasId (invalid id) = MayBeId id
