use denote.Param.Send.{sendable}
use Rattle.sfc_control.proofs.Crosses.{controller_sync}
use Rattle.sfc_control.proofs.post.Post.TheSendSync as post
use Rattle.sfc_control.proofs.Manned.{ends_push, kept_for}
use Rattle.sfc_control.proofs.crews.+crew_of+fn-crew_of-scope.Goals as goal

pub returns : goal.returns
returns g t c = rw c.in-Some.ensures.items c.scoped.ensures.1

pub scope-returns : goal.scope-returns
scope-returns g t c =
    let is = kept_for c.captures.post c.promise_of-promise.result c.in_ok-child.child.promise c.join-end.result c.in_ok-child.ensures.ok
    c.promise_of-promise.ensures.task c.promise_of-promise.ensures.seat c.join-end.ensures in
    rw c.in_ok-push.ensures.items (ends_push c.captures.posts.items c.in_ok-ends.ends.items c.captures.post c.join-end.result c.in_ok-ends.ensures is)

pub scope-spawn_with-requires-send-F : goal.scope-spawn_with-requires-send-F
scope-spawn_with-requires-send-F g t c κs within = search (sendable, controller_sync, post.the_send) depth 12
