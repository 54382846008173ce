use Rattle.std.proofs.Common.{◌≡◌, Bool, true, false, not, ◌&&◌, refl}
use Rattle.sfc_action.specs.ActionControl.{SD, DS, SL, input, stored, delayed, stored_then_delayed}
use Rattle.sfc_action.proofs.Elapsed.{and_left, and_right}
use Rattle.sfc_action.proofs.Numbers.{calls, reads, stored_since, set_since}
use Rattle.sfc_action.proofs.StoredTimes.{been_stored, runs_since, once_delayed, delayed_once}
use Rattle.sfc_action.proofs.laws.stored_and_delayed.Goals as goal

pub returns-clause-stored_delayed : goal.returns-clause-stored_delayed
returns-clause-stored_delayed c tables a h = (
  λ e. (let (m, since) = (c.delayed.ensures (reads tables a (stored tables a SD) h)).0 e in (m, been_stored tables a SD h m since)),
  λ (m, since). (c.delayed.ensures (reads tables a (stored tables a SD) h)).1 (m, runs_since tables a SD h m since),
)

pub returns-clause-delayed_stored : goal.returns-clause-delayed_stored
returns-clause-delayed_stored c tables a h = (
  λ e. (let (j, since) = (c.held.ensures (calls tables a (delayed tables a DS) h)).0 e in (j, once_delayed tables a h j since)),
  λ (j, since). (c.held.ensures (calls tables a (delayed tables a DS) h)).1 (j, delayed_once tables a h j since),
)

not_true : (b : Bool) → not b ≡ true → b ≡ true → ⊥
not_true true off on = absurd cc
not_true false off on = absurd cc

both_by : (x y : Bool) → x ≡ true → (y ≡ true → ⊥) → (x && not y) ≡ true
both_by true true e none = absurd (none refl)
both_by true false e none = refl
both_by false y e none = absurd cc

pub returns-clause-stored_limited : goal.returns-clause-stored_limited
returns-clause-stored_limited c tables a h =
    let is_stored = stored tables a SL h in
    let has_elapsed = stored_then_delayed tables a SL h in (
      λ e. (
        (let (j, since) = (c.held.ensures (calls tables a (input tables a SL) h)).0 (and_left is_stored (not has_elapsed) e) in
            (j, stored_since tables a SL h j since)),
        λ m since. not_true has_elapsed (and_right is_stored (not has_elapsed) e)
            ((c.delayed.ensures (reads tables a (stored tables a SL) h)).1 (m, runs_since tables a SL h m since)),
      ),
      λ ((j, since), none). both_by is_stored has_elapsed
          ((c.held.ensures (calls tables a (input tables a SL) h)).1 (j, set_since tables a SL h j since))
          (λ on. (let (m, run) = (c.delayed.ensures (reads tables a (stored tables a SL) h)).0 on in
          none m (been_stored tables a SL h m run))),
    )
