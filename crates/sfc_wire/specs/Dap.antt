-- Requests, responses and events (Debug Adapter Protocol, base protocol). The members of what is written are in the order of
-- their keys.
use Rattle.std.specs.Prelude.{ℕ, Bool, true, false, if◌then◌else◌, List, codes, nat_eq, Option, Some, None, option_and_then}
use Rattle.std.specs.Cmp.Lexicographic.{pointwise}
use Rattle.serde_json.specs.Data.{Data, boolean, member, no_members, number, object, string, unsigned}
use Rattle.serde_json.specs.Find.{as_number, as_str, as_u64, get}

-- a request: its number, its command, and its arguments, if there are any
pub record Request : Type 0 where
  pub seq : ℕ
  pub command : List ℕ
  pub arguments : Option Data

abbrev pub is_word : List ℕ → Option (List ℕ) → Bool
is_word word None = false
is_word word (Some text) = pointwise nat_eq text word

abbrev pub has_type : List ℕ → Data → Bool
has_type word message = is_word word (option_and_then as_str (get (codes "type") message))

-- with this number and this command
abbrev pub with_command : Option Data → ℕ → Option (List ℕ) → Option Request
with_command arguments seq None = None
with_command arguments seq (Some command) = Some (record { seq = seq; command = command; arguments = arguments })

abbrev pub with_number : Data → Option ℕ → Option Request
with_number message None = None
with_number message (Some seq) = with_command (get (codes "arguments") message) seq (option_and_then as_str (get (codes "command") message))

-- the request that a message is
unfoldable pub request_of : Data → Option Request
request_of message = if has_type (codes "request") message then with_number message (option_and_then as_u64 (option_and_then as_number (get (codes "seq") message))) else None

-- ---- what is written

-- the request with this number and this command was done, with this body
abbrev pub success_of : ℕ → ℕ → List ℕ → Data → Data
success_of seq request command value = object
    (member (codes "body") value
    (member (codes "command") (string command)
    (member (codes "request_seq") (number (unsigned request))
    (member (codes "seq") (number (unsigned seq))
    (member (codes "success") (boolean true)
    (member (codes "type") (string (codes "response")) no_members))))))

-- what a client shows of a reason: the reason itself, whatever signs it has
abbrev pub reason_of : List ℕ → Data
reason_of reason = object
    (member (codes "error") (object
    (member (codes "format") (string (codes "{reason}"))
    (member (codes "id") (number (unsigned 1))
    (member (codes "variables") (object (member (codes "reason") (string reason) no_members)) no_members))))
    no_members)

-- it was not done, for this reason
abbrev pub failure_of : ℕ → ℕ → List ℕ → List ℕ → Data
failure_of seq request command reason = object
    (member (codes "body") (reason_of reason)
    (member (codes "command") (string command)
    (member (codes "message") (string reason)
    (member (codes "request_seq") (number (unsigned request))
    (member (codes "seq") (number (unsigned seq))
    (member (codes "success") (boolean false)
    (member (codes "type") (string (codes "response")) no_members)))))))

abbrev pub event_of : ℕ → List ℕ → Data → Data
event_of seq event value = object
    (member (codes "body") value
    (member (codes "event") (string event)
    (member (codes "seq") (number (unsigned seq))
    (member (codes "type") (string (codes "event")) no_members))))
