-- Scans of tasks that are tried one after the other.
use Rattle.std.proofs.Common.{◌≡◌, ◌∙◌, refl, sym, ap, true, false, ℕ, ◌+◌, ◌<◌, ◌≤◌, List, length, Option, None, ℤ}
use Rattle.sfc_events.specs.declared.command.Command.TheVariants.{Scan}
use Rattle.sfc_output.specs.sfc_debug.Histories.{CommandHistory}
use Rattle.sfc_output.specs.sfc_debug.Steered.{Steered}
use Rattle.sfc_output.specs.Output.{Verdict}
use Rattle.sfc_session.specs.declared.scanning.Tried.TheVariants.{Answered, NoTurn}
use Rattle.sfc_session.specs.declared.session.Session.{Session}
use Rattle.sfc_session.specs.Scanning.{earlier, is_out_of_turn, next_among, release_in, scan_at, scan_verdict, tasks_of, turn_among, turn_scan}
use Rattle.sfc_session.specs.Sessions.{HasSaid, IsTaken, Stays, steered_in}
use Rattle.sfc_session.specs.Trying.{IsTried, TriesAll}
use Rattle.sfc_session.proofs.Given.{stays_on, stays_same, taken_behind, taken_from}
use Rattle.sfc_session.proofs.Turns.{begins, from, next_later, next_none, turn_here, turn_later, turn_none}

-- The tasks below a number were tried at a raw instant, and it is the turn of none of them.
pub record GoesThrough (old new : Session) (before behind : List ℕ) (h : CommandHistory) (lines : List ℕ) (raw : ℤ) (number : ℕ)
    (earliest : Option ℤ) : Type 0 where
  pub stays : Stays old new h lines
  pub text : behind ≡ before
  pub turn : turn_among (steered_in old) h raw (tasks_of (steered_in old))
      ≡ turn_among (steered_in old) h raw (from (steered_in old) h raw number)
  pub next : next_among (steered_in old) h raw None (tasks_of (steered_in old))
      ≡ next_among (steered_in old) h raw earliest (from (steered_in old) h raw number)

pub through_none : (old : Session) (before : List ℕ) (h : CommandHistory) (lines : List ℕ) (raw : ℤ) → HasSaid old h lines
    → GoesThrough old old before before h lines raw 0 None
through_none old before h lines raw said =
    let none = sym (begins (steered_in old) h raw) in
    record {
      stays = stays_same old h lines said;
      text = refl;
      turn = ap (turn_among (steered_in old) h raw) none;
      next = ap (next_among (steered_in old) h raw None) none;
    }

module _ (a b d : Session) (x y z : List ℕ) (told : Verdict) (h : CommandHistory) (lines : List ℕ) (raw : ℤ) (number : ℕ) (earliest : Option ℤ)
    (less : number < length (steered_in a).plant.tasks) (through : GoesThrough a b x y h lines raw number earliest)
    (tried : IsTried b d y z told h lines (Scan (record { 0 = number }), raw)) where
  abbrev st : Steered
  st = steered_in a

  answered : told ≡ scan_verdict st h raw number
  answered = tried.answer ∙ ap (λ (s : Steered). scan_verdict s h raw number) through.stays.steered

  -- it isn't this task's turn either
  pub through_more : is_out_of_turn told ≡ true → GoesThrough a d x z h lines raw (number + 1) (earlier earliest (release_in told))
  through_more out =
      let no : is_out_of_turn (scan_verdict st h raw number) ≡ true = sym (ap is_out_of_turn answered) ∙ out in
      record {
        stays = stays_on a b d h lines through.stays (tried.stays out);
        text = tried.text out ∙ through.text;
        turn = through.turn ∙ turn_later st h raw number less no;
        next = through.next ∙ next_later st h raw earliest number less
            ∙ ap (λ (v : Verdict). next_among st h raw (earlier earliest (release_in v)) (from st h raw (number + 1))) (sym answered);
      }

  -- it is
  pub through_here : is_out_of_turn told ≡ false → TriesAll a d x z h lines raw (Answered told)
  through_here turn = (
    number,
    through.turn ∙ turn_here st h raw number less (sym (ap is_out_of_turn answered) ∙ turn),
    taken_from a d x y z told h lines (Scan (record { 0 = number }), raw) (Scan (record { 0 = number }), raw) through.text refl
        (taken_behind a b d y z told h lines through.stays (Scan (record { 0 = number }), raw) (tried.turn turn)),
  )

-- it is nobody's
pub through_all : (a b : Session) (x y : List ℕ) (h : CommandHistory) (lines : List ℕ) (raw : ℤ) (number : ℕ) (earliest : Option ℤ)
    → length (steered_in a).plant.tasks ≤ number → GoesThrough a b x y h lines raw number earliest
    → TriesAll a b x y h lines raw (NoTurn earliest)
through_all a b x y h lines raw number earliest all through =
    let st : Steered = steered_in a in (
      through.turn ∙ turn_none st h raw number all,
      through.next ∙ next_none st h raw earliest number all,
      through.stays,
      through.text,
    )

-- the scan that was given is that of the task whose turn it is
pub turn_taken : (a d : Session) (x z : List ℕ) (told : Verdict) (h : CommandHistory) (lines : List ℕ) (raw : ℤ)
    → TriesAll a d x z h lines raw (Answered told) → IsTaken a d x z told h lines (scan_at (steered_in a) h raw)
turn_taken a d x z told h lines raw tries =
    taken_from a d x x z told h lines (Scan (record { 0 = tries.0 }), raw) (scan_at (steered_in a) h raw) refl
    (ap (λ (o : Option ℕ). turn_scan o raw) (sym tries.1)) tries.2
