-- The receipts that a worker keeps.
use Rattle.std.proofs.Common.{◌≡◌, ℕ, ◌<◌, ◌≤◌, List, [], ◌∷◌, ◌++◌, Bool, true, false, cond, All, None, refl, sym, ◌∙◌, ap, subst, append_assoc, append-nil, arith}
use Rattle.std.proofs.lemmas.Bool.{le-leb, lt-leb, leb-false}
use Rattle.std.proofs.lemmas.List.Elements.{All-nil, All-push, All-head, All-tail, filter-append, filter_passes}
use Rattle.std.proofs.Math.Nat.{max-le}
use Rattle.std.specs.Prelude.{filter, nat_le, max, Result, Ok, Err, IfOk, OnOk}
use Rattle.sfc_base.specs.declared.ids.TaskId.{TaskId}
use Rattle.sfc_events.specs.declared.command.Command.{Command}
use Rattle.sfc_events.specs.declared.command.Command.TheVariants as commands
use Rattle.sfc_control.specs.declared.given.AcceptedCall.{AcceptedCall}
use Rattle.sfc_control.specs.declared.receipt.Receipt.{Receipt}
use Rattle.sfc_control.specs.Calls.{last_of, receipts_of}
use Rattle.sfc_control.specs.Holding.{first_after}
use Rattle.sfc_control.specs.Working.{IsScanOf, Receives, Rise, held_from, last_index, index_after}
use Rattle.sfc_control.proofs.Calls.{receipts_push, last_or_more, index_of_last}
use Rattle.sfc_control.proofs.Indices.{rise_push}

-- nothing is let go where each has the property
pub all_stay : (test : Receipt → Bool) (rs : List Receipt) → All (λ r. test r ≡ true) rs → filter test rs ≡ rs
all_stay test [] all = refl
all_stay test (r ∷ rs) all =
    ap (λ b. cond b (r ∷ filter test rs) (filter test rs)) (All-head (λ r. test r ≡ true) r rs all)
    ∙ ap (λ l. r ∷ l) (all_stay test rs (All-tail (λ r. test r ≡ true) r rs all))

-- what is let go stays so, as the first entry that is held moves on
pub held_twice : (a b : ℕ) (rs : List Receipt) → a ≤ b → held_from b (held_from a rs) ≡ held_from b rs
held_twice a b [] low = refl
held_twice a b (r ∷ rs) low = by (nat_le a r.index) refl (held_twice a b rs low)
  where
    by : (kept : Bool) → nat_le a r.index ≡ kept → held_from b (held_from a rs) ≡ held_from b rs →
        held_from b (cond kept (r ∷ held_from a rs) (held_from a rs)) ≡ cond (nat_le b r.index) (r ∷ held_from b rs) (held_from b rs)
    by true e rest = ap (λ l. cond (nat_le b r.index) (r ∷ l) l) rest
    by false e rest =
        let below : r.index < b = omega (arith, leb-false a r.index e, low) in
        rest ∙ sym (ap (λ k. cond k (r ∷ held_from b rs) (held_from b rs)) (lt-leb b r.index below))

-- an accepted call more, behind which those receipts are let go that are no longer held
abbrev pub receives_push : (number : ℕ) (task : TaskId) (before after next : List AcceptedCall) (first later : ℕ) (kept now : List Receipt) (call : AcceptedCall) →
    Receives number task before after first kept → IsScanOf number task call.receipt → last_index (last_of after) < call.receipt.index →
    next ≡ after ++ call ∷ [] → first ≤ later → now ≡ held_from later (kept ++ call.receipt ∷ []) → Receives number task before next later now
receives_push number task before after next first later kept now call was scan below put rises is =
    let r = call.receipt in
    let all = receipts_of was.more in
    let low = last_index (last_of before) in
    let grown : receipts_of (was.more ++ call ∷ []) ≡ all ++ r ∷ [] = receipts_push was.more call in
    let test : Receipt → Bool = λ x. nat_le later x.index in
    let place : last_index (last_of after) ≡ index_after low all =
    ap (λ calls. last_index (last_of calls)) was.behind ∙ ap last_index (last_or_more None before was.more) ∙ index_of_last (last_of before) was.more in
    let above : index_after low all < r.index = subst (λ (k : ℕ). k < r.index) place below in
    record {
      more = was.more ++ call ∷ [];
      behind = put ∙ ap (λ calls. calls ++ call ∷ []) was.behind ∙ append_assoc before was.more (call ∷ []);
      scans = subst (λ (rs : List Receipt). All (IsScanOf number task) rs) (sym grown) (All-push (IsScanOf number task) all r was.scans scan);
      rising = subst (λ (rs : List Receipt). Rise low rs) (sym grown) (rise_push low all r was.rising above);
      held = is ∙ filter-append test kept (r ∷ [])
          ∙ ap (λ l. l ++ held_from later (r ∷ [])) (ap (held_from later) was.held ∙ held_twice first later all rises)
          ∙ sym (filter-append test all (r ∷ [])) ∙ ap (held_from later) (sym grown);
    }

-- none of those that are kept, and of one more, is from before the first entry that is held
pub kept_and_one : (first : ℕ) (all kept : List Receipt) (r : Receipt) → kept ≡ held_from first all → first ≤ r.index →
    All (λ x. nat_le first x.index ≡ true) (kept ++ r ∷ [])
kept_and_one first all kept r is low =
    All-push (λ x. nat_le first x.index ≡ true) kept r (rw is (filter_passes (λ x. nat_le first x.index) all)) (le-leb first r.index low)

-- none was let go where none was given
abbrev pub receives_none : (number : ℕ) (task : TaskId) (calls : List AcceptedCall) (first : ℕ) (kept : List Receipt) → kept ≡ [] →
    Receives number task calls calls first kept
receives_none number task calls first kept none =
    record { more = []; behind = sym (append-nil calls); scans = All-nil (IsScanOf number task); rising = tt; held = none }

-- nothing has changed
abbrev pub receives_same : (number : ℕ) (task : TaskId) (before after other : List AcceptedCall) (first later : ℕ) (kept now : List Receipt) →
    Receives number task before after first kept → other ≡ after → later ≡ first → now ≡ kept → Receives number task before other later now
receives_same number task before after other first later kept now was same at is = record {
  more = was.more;
  behind = same ∙ was.behind;
  scans = was.scans;
  rising = was.rising;
  held = is ∙ was.held ∙ ap (λ f. held_from f (receipts_of was.more)) (sym at);
}

-- the first entry that is held after an accepted command is no later than the command's own
pub first_within : (command : Command) (first index : ℕ) → first ≤ index → first_after command first index ≤ index
first_within commands.Epoch first index low = omega arith
first_within (commands.Scan task) first index low = low
first_within (commands.Single task delta) first index low = low
first_within (commands.Input id v) first index low = low
first_within (commands.Force id v) first index low = low
first_within (commands.Release id) first index low = low
first_within (commands.Reset p) first index low = low
first_within (commands.Read id) first index low = low
first_within (commands.Break p point) first index low = low
first_within (commands.BreakIf p point id) first index low = low
first_within (commands.Unbreak p point) first index low = low
first_within commands.Stop first index low = low
first_within commands.Go first index low = low
first_within commands.End first index low = low

-- nor is the one that a seat keeps
pub met_after : (command : Command) (was first next index : ℕ) → was < index → first ≤ index → next ≡ first_after command first index →
    max was next ≤ index
met_after command was first next index below low is =
    let early : was ≤ index = omega (arith, below) in
    max-le early (rw is (first_within command first index low))

-- what a seat keeps of a call, by what the book says of it
pub met_by : {E : Type 0} (res : Result Receipt E) (command : Command) (was now first next : ℕ) {cut : ℕ} → first ≡ cut → OnOk res (now ≡ max was next) →
    IfOk res (λ r. next ≡ first_after command first r.index) → IfOk res (λ r. now ≡ max was (first_after command cut r.index))
met_by (Ok r) command was now first next at kept is = kept ∙ ap (max was) (is ∙ ap (λ n. first_after command n r.index) at)
met_by (Err e) command was now first next at kept is = tt
