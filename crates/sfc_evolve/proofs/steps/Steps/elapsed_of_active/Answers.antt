use Rattle.std.proofs.Common.{◌≡◌, ◌<◌, length, sym, ap, subst, ◌∙◌, arith, cond, true, ℕ, ℤ, pos, Bool, ◌-ℤ◌, ◌≤ℤ◌, ◌^◌, to_z, of_z, w64}
use Rattle.std.proofs.lemmas.List.{get_or_read}
use Rattle.sfc_flags.specs.Flags.{flag}
use Rattle.sfc_evolve.specs.Agreement.{StepsAgree, shown_time, since_of, held_times_of}
use Rattle.sfc_evolve.specs.Clearing.{step_count}
use Rattle.sfc_evolve.specs.Private.Keeping.{number}
use Rattle.sfc_evolve.proofs.Instants.{instant_low, instant_high, time_is}
use Rattle.sfc_evolve.proofs.steps.Steps.elapsed_of_active.Goals as goal

pub index-requires : goal.index-requires
index-requires c = omega (arith, c.requires.place, c.args.self.now.since_len, c.args.self.now.since.ok.0)

pub time_since-requires-clause-low : goal.time_since-requires-clause-low
time_since-requires-clause-low c = instant_low c.args.t c.requires.low c.requires.high

pub time_since-requires-clause-high : goal.time_since-requires-clause-high
time_since-requires-clause-high c = instant_high c.args.t c.requires.low c.requires.high

pub time_since-requires-clause-since_low : goal.time_since-requires-clause-since_low
time_since-requires-clause-since_low c =
    let self = c.args.self.now in
    let s = c.args.step.0 in
    let instant = self.instants s in
    let within : s < length self.since.items = omega (arith, c.requires.place, self.since_len) in
    let read = get_or_read self.since.items s c.index.result.now within c.index.ensures (pos 0) in
    subst (λ (x : ℤ). pos 0 ≤ℤ to_z w64 (of_z w64 x)) (sym read) (instant_low (number self.since.items s) instant.0 instant.1)

pub time_since-requires-clause-since_high : goal.time_since-requires-clause-since_high
time_since-requires-clause-since_high c =
    let self = c.args.self.now in
    let s = c.args.step.0 in
    let instant = self.instants s in
    let within : s < length self.since.items = omega (arith, c.requires.place, self.since_len) in
    let read = get_or_read self.since.items s c.index.result.now within c.index.ensures (pos 0) in
    subst (λ (x : ℤ). to_z w64 (of_z w64 x) ≤ℤ pos (2 ^ 62)) (sym read) (instant_high (number self.since.items s) instant.0 instant.1)

pub returns : goal.returns
unfolding shown_time StepsAgree since_of held_times_of
returns c tables scans k on =
    let self = c.args.self.now in
    let s = c.args.step.0 in
    let t = c.args.t in
    let instant = self.instants s in
    let within : s < length self.since.items = omega (arith, c.requires.place, self.since_len) in
    let read = get_or_read self.since.items s c.index.result.now within c.index.ensures (pos 0) in
    let lt : s < step_count tables = subst (λ (n : ℕ). s < n) k.size.same_steps c.requires.place in
    let active : flag self.active s ≡ true = k.fields.activity s lt ∙ on in
    time_is t (number self.since.items s) c.time_since.result c.requires.low c.requires.high instant.0 instant.1
    (c.time_since.ensures ∙ ap (λ (x : ℤ). to_z w64 (of_z w64 t) -ℤ to_z w64 (of_z w64 x)) read)
    ∙ ap (λ (b : Bool). cond b (t -ℤ number self.since.items s) (number self.held_times.items s)) (sym active)
    ∙ sym (k.fields.time s lt t)
