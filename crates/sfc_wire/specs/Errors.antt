-- The numbers of errors (JSON-RPC, and the Language Server Protocol).
use Rattle.std.specs.Prelude.{ℤ, negsuc}
use Rattle.sfc_wire.specs.declared.error_code.ErrorCode.{ErrorCode}
use Rattle.sfc_wire.specs.declared.error_code.ErrorCode.TheVariants as codes

-- -32700, .. ; `negsuc n` is -(n + 1)
abbrev pub number_of : ErrorCode → ℤ
number_of codes.ParseError = negsuc 32699
number_of codes.InvalidRequest = negsuc 32599
number_of codes.MethodNotFound = negsuc 32600
number_of codes.InvalidParams = negsuc 32601
number_of codes.InternalError = negsuc 32602
number_of codes.ServerNotInitialized = negsuc 32001
number_of codes.RequestCancelled = negsuc 32799
