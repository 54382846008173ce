-- the numbers of errors
pub mod Errors
-- texts of messages
pub mod Texts
-- what a message of JSON-RPC is
pub mod Rpc
-- its responses, notifications and requests
pub mod RpcAnswers
-- what a client of it is told
pub mod RpcAnswered
-- requests, responses and events of the Debug Adapter Protocol
pub mod Dap
-- what a client of it is told
pub mod DapAnswered
-- what is returned, as the rules have it
pub mod Views
pub mod DapViews
