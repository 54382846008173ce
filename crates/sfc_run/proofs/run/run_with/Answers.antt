use Rattle.std.proofs.Common.{arith, ◌≡◌, ◌+◌, ◌∷◌, [], ◌∙◌, ap, length, length-append}
use Rattle.sfc_plant.specs.Plants.{PlantData}
use Rattle.sfc_control.specs.sfc_debug.Agreement.{plant_of}
use Rattle.sfc_run.proofs.Ends.{if_some}
use Rattle.sfc_run.proofs.run.run_with.Goals as goal

pub finish-requires : goal.finish-requires
finish-requires g c =
    let posts = length c.in_ok-posts.posts.items in
    let popped : length c.in_ok-controller.seats.items ≡ length c.pop.new.self.items + 1 =
    ap length c.in-Some.ensures.items ∙ length-append c.pop.new.self.items (c.in-Some.seat ∷ []) in
    let others : length c.pop.new.self.items ≡ length c.pop-2.new.self.items + 1 =
    ap length c.in-Some-pop.ensures.items ∙ length-append c.pop-2.new.self.items (c.in-Some-pop.own ∷ []) in
    let tasks : length c.tasks.result.now ≡ length (plant_of c.args.opened.debugger).tasks =
    ap length c.tasks.ensures.value ∙ ap (λ (p : PlantData). length p.tasks) (c.plant.ensures ∙ c.resource.ensures.plant) in
    let seats : posts + 2 ≡ g.L.Ledger.parts = omega (arith, c.in_ok-posts.ensures, popped, others, tasks, c.in_ok-controller.ensures.seats.0, c.requires.parts, c.requires.one_each) in
    if_some (λ ends. length ends.items ≡ posts) (λ ends. length ends.items + 2 ≡ g.L.Ledger.parts) c.run_threads-left.result.ends
    (λ ends same. omega (arith, same, seats)) c.run_threads-left.ensures
