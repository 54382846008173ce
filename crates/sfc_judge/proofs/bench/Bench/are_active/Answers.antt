use Rattle.std.proofs.Common.{◌≡◌, ◌∙◌, ◌<◌, sym, ap, subst, ℕ, Bool, length}
use Rattle.sfc_plant.specs.Finding.{chart_of}
use Rattle.sfc_replay.specs.sfc_debug.Steered.{Steered}
use Rattle.sfc_replay.specs.sfc_instance.Answers.{is_step_active}
use Rattle.sfc_replay.specs.sfc_instance.Life.{InstanceState}
use Rattle.sfc_replay.specs.sfc_tables.Tables.{Tabled, tables_of}
use Rattle.sfc_judge.specs.Holding.{instance_at, is_as_told}
use Rattle.sfc_judge.specs.Moments.{Moment, agree, plant_at}
use Rattle.sfc_judge.specs.Running.Benches.{IsWindow, Stands, steered_in}
use Rattle.sfc_judge.proofs.Active.{all_but, none_of}
use Rattle.sfc_judge.proofs.bench.Bench.are_active.Goals as goal

pub returns-then-not-agree : goal.returns-then-not-agree
returns-then-not-agree c = λ m stands.
    let st : Steered = steered_in c.args.self.now in
    let p = c.args.program in
    let view = c.in-Some.view in
    let window : IsWindow st p view = c.in-Some.ensures.some in
    let inst : InstanceState = instance_at st m p in
    let k : ℕ = c.steps.number in
    let n : ℕ = length (tables_of (chart_of st.plant p)).initial in
    let size : c.steps-number-end.result ≡ n = c.steps-number-end.ensures.count
    ∙ ap (λ (t : Tabled). length t.initial) c.tables.ensures
    ∙ (λ i. length (tables_of (chart_of (window.plant i) (window.instance i))).initial) in
    let less : k < n = subst (λ (s : ℕ). k < s) size c.steps-test.true in
    let is : c.active.result ≡ is_step_active (tables_of (chart_of st.plant p)) inst k =
    c.active.ensures (plant_at st m).changes inst (c.in-Some.ensures.shows m stands)
    ∙ (λ i. is_step_active (tables_of (chart_of (window.plant i) (window.instance i))) inst k) in
    let told : agree c.active.result c.is_among.result ≡ is_as_told st m p c.args.steps.now k = (λ i. agree (is i) (c.is_among.ensures i)) in
    sym (c.steps.invariant m stands ∙ none_of (is_as_told st m p c.args.steps.now) k n less
    (sym told ∙ sym c.agree.ensures ∙ c.if-not-agree.true))

pub steps-preserved : goal.steps-preserved
steps-preserved c = λ m stands.
    let st : Steered = steered_in c.args.self.now in
    let p = c.args.program in
    let view = c.in-Some.view in
    let window : IsWindow st p view = c.in-Some.ensures.some in
    let inst : InstanceState = instance_at st m p in
    let k : ℕ = c.steps.number in
    let n : ℕ = length (tables_of (chart_of st.plant p)).initial in
    let size : c.steps-number-end.result ≡ n = c.steps-number-end.ensures.count
    ∙ ap (λ (t : Tabled). length t.initial) c.tables.ensures
    ∙ (λ i. length (tables_of (chart_of (window.plant i) (window.instance i))).initial) in
    let less : k < n = subst (λ (s : ℕ). k < s) size c.steps-test.true in
    let is : c.active.result ≡ is_step_active (tables_of (chart_of st.plant p)) inst k =
    c.active.ensures (plant_at st m).changes inst (c.in-Some.ensures.shows m stands)
    ∙ (λ i. is_step_active (tables_of (chart_of (window.plant i) (window.instance i))) inst k) in
    let told : agree c.active.result c.is_among.result ≡ is_as_told st m p c.args.steps.now k = (λ i. agree (is i) (c.is_among.ensures i)) in
    c.steps.invariant m stands ∙ all_but (is_as_told st m p c.args.steps.now) k n less
    (sym told ∙ sym c.agree.ensures ∙ c.if-not-agree.false)
