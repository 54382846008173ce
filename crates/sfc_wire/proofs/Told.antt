-- What was put behind other texts.
use Rattle.std.proofs.Common.{◌≡◌, ℕ, ◌≤◌, arith, Option, Some, None, if◌then◌else◌, List, [], ◌∷◌, ◌++◌, refl, sym, ap, ◌∙◌, subst, append_assoc, append-nil}
use Rattle.std.specs.Prelude.{unwrap_or}
use Rattle.sfc_frames.specs.Serving.{Puts}
use Rattle.serde_json.specs.Data.{Data, null, boolean, number, string, array, object, depth}
use Rattle.sfc_wire.specs.Rpc.{IsId, MayBeId, answering_under, failure, message_of, notification, success}
use Rattle.sfc_wire.specs.RpcAnswered.{AreCalls, IsCall, IsResponseTo, Refuses, Responds}
use Rattle.sfc_wire.specs.RpcAnswers.{error_of, failure_of, notification_of, request_of, success_of}
use Rattle.sfc_wire.specs.Texts.{IsOne, IsWritten, PutsMessage}
use Rattle.sfc_wire.specs.declared.error_code.ErrorCode.{ErrorCode}

-- ---- what is written is read as what it is

read_success : (id value : Data) → IsId id → message_of (success_of id value) ≡ success id value
unfolding message_of
read_success id value h = ap (λ t. answering_under (success_of id value) (if t then Some id else None)) h

read_failure : (id : Data) (code : ErrorCode) (reason : List ℕ) → IsId id → message_of (failure_of id code reason) ≡ failure id (error_of code reason)
unfolding message_of
read_failure id code reason h = ap (λ t. answering_under (failure_of id code reason) (if t then Some id else None)) h

read_notification : (method : List ℕ) (params : Data) → message_of (notification_of method params) ≡ notification method (Some params)
unfolding message_of
read_notification method params = refl

is_request : (id : ℕ) (method : List ℕ) (params : Data) → IsCall (message_of (request_of id method params))
unfolding message_of
is_request id method params = tt

-- ---- one text

pub one : (P : List ℕ → Type 0) (Q : List (List ℕ) → Type 0) → ((text : List ℕ) → P text → Q (text ∷ [])) → (told : List (List ℕ)) → IsOne P told → Q told
one P Q h [] p = absurd p
one P Q h (text ∷ []) p = h text p
one P Q h (text ∷ next ∷ others) p = absurd p

pub responds_success : (before behind : List (List ℕ)) (id value : Data) → IsId id → PutsMessage before behind (success_of id value) → Puts before behind (Responds id)
responds_success before behind id value h p = (
  p.0,
  p.1,
  one (IsWritten (success_of id value)) (Responds id)
      (λ text w. ((success_of id value, w, subst (IsResponseTo id) (sym (read_success id value h)) refl), tt)) p.0 p.2,
)

pub responds_failure : (before behind : List (List ℕ)) (id : Data) (code : ErrorCode) (reason : List ℕ) → IsId id
    → PutsMessage before behind (failure_of id code reason) → Puts before behind (Responds id)
responds_failure before behind id code reason h p = (
  p.0,
  p.1,
  one (IsWritten (failure_of id code reason)) (Responds id)
      (λ text w. ((failure_of id code reason, w, subst (IsResponseTo id) (sym (read_failure id code reason h)) refl), tt)) p.0 p.2,
)

pub tells_notification : (before behind : List (List ℕ)) (method : List ℕ) (params : Data) → PutsMessage before behind (notification_of method params)
    → Puts before behind AreCalls
tells_notification before behind method params p = (
  p.0,
  p.1,
  one (IsWritten (notification_of method params)) AreCalls
      (λ text w. ((notification_of method params, w, subst IsCall (sym (read_notification method params)) tt), tt)) p.0 p.2,
)

pub tells_request : (before behind : List (List ℕ)) (id : ℕ) (method : List ℕ) (params : Data) → PutsMessage before behind (request_of id method params)
    → Puts before behind AreCalls
tells_request before behind id method params p = (
  p.0,
  p.1,
  one (IsWritten (request_of id method params)) AreCalls (λ text w. ((request_of id method params, w, is_request id method params), tt)) p.0 p.2,
)

pub refuses : (before behind : List (List ℕ)) (id : Option Data) (code : ErrorCode) (reason : List ℕ) (message : Data)
    → message ≡ failure_of (unwrap_or id null) code reason → PutsMessage before behind message → Puts before behind (Refuses id code)
refuses before behind id code reason message e p =
    (p.0, p.1, (reason, subst (λ (d : Data). IsOne (IsWritten d) p.0) e p.2))

-- ---- texts behind others

pub are_calls : (xs ys : List (List ℕ)) → AreCalls xs → AreCalls ys → AreCalls (xs ++ ys)
are_calls [] ys h k = k
are_calls (x ∷ xs) ys h k = (h.0, are_calls xs ys h.1 k)

responds_and : (id : Data) (xs ys : List (List ℕ)) → Responds id xs → AreCalls ys → Responds id (xs ++ ys)
responds_and id [] ys h k = absurd h
responds_and id (x ∷ xs) ys h k = (h.0, are_calls xs ys h.1 k)

-- what else there is to tell stands behind a response
pub responds_then : (id : Data) (before middle behind : List (List ℕ)) → Puts before middle (Responds id) → Puts middle behind AreCalls → Puts before behind (Responds id)
responds_then id before middle behind p q =
    (p.0 ++ q.0, q.1 ∙ ap (λ m. m ++ q.0) p.1 ∙ append_assoc before p.0 q.0, responds_and id p.0 q.0 p.2 q.2)

pub tells_then : (before middle behind : List (List ℕ)) → Puts before middle AreCalls → Puts middle behind AreCalls → Puts before behind AreCalls
tells_then before middle behind p q =
    (p.0 ++ q.0, q.1 ∙ ap (λ m. m ++ q.0) p.1 ∙ append_assoc before p.0 q.0, are_calls p.0 q.0 p.2 q.2)

pub puts_none : (before : List (List ℕ)) (P : List (List ℕ) → Type 0) → P [] → Puts before before P
puts_none before P h = ([], sym (append-nil before), h)

-- ---- how deep they nest

depth_id : (id : Data) → IsId id → depth id ≤ 0
depth_id null h = cc
depth_id (boolean b) h = cc
depth_id (number n) h = omega arith
depth_id (string s) h = omega arith
depth_id (array ds) h = cc
depth_id (object ms) h = cc

pub depth_success : (id value : Data) → IsId id → depth value ≤ 100 → depth (success_of id value) ≤ 127
depth_success id value h k = omega (arith, depth_id id h)

pub depth_failure : (id : Data) (code : ErrorCode) (reason : List ℕ) → IsId id → depth (failure_of id code reason) ≤ 127
depth_failure id code reason h = omega (arith, depth_id id h)

pub depth_refusal : (id : Option Data) (code : ErrorCode) (reason : List ℕ) → MayBeId id → depth (failure_of (unwrap_or id null) code reason) ≤ 127
depth_refusal None code reason h = omega arith
depth_refusal (Some id) code reason h = depth_failure id code reason h
