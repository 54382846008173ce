-- Responses, notifications and requests (JSON-RPC). The members are in the order of their keys.
use Rattle.std.specs.Prelude.{ℕ, List, codes}
use Rattle.serde_json.specs.Data.{Data, member, no_members, number, object, string, unsigned}
use Rattle.serde_json.specs.Find.{of_integer}
use Rattle.sfc_wire.specs.Errors.{number_of}
use Rattle.sfc_wire.specs.declared.error_code.ErrorCode.{ErrorCode}

-- what a request under this id gave
abbrev pub success_of : Data → Data → Data
success_of id value = object
    (member (codes "id") id
    (member (codes "jsonrpc") (string (codes "2.0"))
    (member (codes "result") value no_members)))

-- why it was not done
abbrev pub error_of : ErrorCode → List ℕ → Data
error_of code reason = object
    (member (codes "code") (number (of_integer (number_of code)))
    (member (codes "message") (string reason) no_members))

abbrev pub failure_of : Data → ErrorCode → List ℕ → Data
failure_of id code reason = object
    (member (codes "error") (error_of code reason)
    (member (codes "id") id
    (member (codes "jsonrpc") (string (codes "2.0")) no_members)))

abbrev pub notification_of : List ℕ → Data → Data
notification_of method params = object
    (member (codes "jsonrpc") (string (codes "2.0"))
    (member (codes "method") (string method)
    (member (codes "params") params no_members)))

abbrev pub request_of : ℕ → List ℕ → Data → Data
request_of id method params = object
    (member (codes "id") (number (unsigned id))
    (member (codes "jsonrpc") (string (codes "2.0"))
    (member (codes "method") (string method)
    (member (codes "params") params no_members))))
