-- What comes next: a scan, or the command of a stimulus.
use Rattle.std.proofs.Common.{◌≡◌, ◌∙◌, refl, sym, ap, subst, true, false, if◌then◌else◌, ℤ, int_le, Option, Some, None}
use Rattle.std.specs.Prelude.{option_map}
use Rattle.std.specs.Option.{option_and_then}
use Rattle.sfc_replay.specs.sfc_debug.Histories.{TimedCommand}
use Rattle.sfc_replay.specs.sfc_debug.Steered.{Steered}
use Rattle.sfc_judge.specs.declared.bench.Bench.{Bench}
use Rattle.sfc_judge.specs.declared.due.Due.{Due}
use Rattle.sfc_judge.specs.declared.given.Given.{Given}
use Rattle.sfc_judge.specs.Moments.{Moment, Step, plain_step}
use Rattle.sfc_judge.specs.Running.Benches.{GivesScan, GivesStep, Stands}
use Rattle.sfc_judge.specs.Scans.{before, next_by, next_scan, next_step, scan_or}
use Rattle.sfc_judge.specs.Dues.{due_by, first_due, given_at, if_by, stimulus_step}

module _ (st : Steered) (m : Moment) where
  -- no stimulus comes
  plain : (o : Option TimedCommand) (given : Option Given) (new : Bench) → GivesScan st m o given new → GivesStep st m (option_map (plain_step m) o) given new
  plain None None new stands = stands
  plain None (Some given) new bad = absurd bad
  plain (Some timed) None new bad = absurd bad
  plain (Some timed) (Some given) new gives = gives

  pub without : (limit : ℤ) (given : Option Given) (new : Bench) → due_by m limit ≡ None → GivesScan st m (next_scan st limit m) given new
      → GivesStep st m (next_step st limit m) given new
  without limit given new none gives =
      subst (λ (o : Option Due). GivesStep st m (next_by st limit m o) given new) (sym none) (plain (next_scan st limit m) given new gives)

  module _ (limit : ℤ) (due : Due) (comes : due_by m limit ≡ Some due) where
    abbrev pub scan : Option TimedCommand
    scan = next_scan st (before (given_at m due)) m

    next : next_step st limit m ≡ scan_or m due scan
    next = ap (next_by st limit m) comes

    -- a scan comes before it
    scanned : (o : Option TimedCommand) (given : Given) (new : Bench) → GivesScan st m o (Some given) new → GivesStep st m (scan_or m due o) (Some given) new
    scanned None given new bad = absurd bad
    scanned (Some timed) given new gives = gives

    pub scan_first : (given : Given) (new : Bench) → GivesScan st m scan (Some given) new → GivesStep st m (next_step st limit m) (Some given) new
    scan_first given new gives = subst (λ (o : Option Step). GivesStep st m o (Some given) new) (sym next) (scanned scan given new gives)

    -- none does
    no_scan : (o : Option TimedCommand) (new : Bench) → GivesScan st m o None new → (o ≡ None) × Stands new m
    no_scan None new stands = (refl, stands)
    no_scan (Some timed) new bad = absurd bad

    pub none_before : (new : Bench) → GivesScan st m scan None new → Stands new m
    none_before new gives = (no_scan scan new gives).1

    pub stirred : (old new : Bench) (given : Given) → GivesScan st m scan None old → GivesStep st m (Some (stimulus_step m due)) (Some given) new
        → GivesStep st m (next_step st limit m) (Some given) new
    stirred old new given gives stirs =
        subst (λ (o : Option Step). GivesStep st m o (Some given) new) (sym (next ∙ ap (scan_or m due) (no_scan scan old gives).0)) stirs

-- ---- which comes

module _ (m : Moment) (limit : ℤ) where
  pub none_due : first_due m.clock None 0 m.stimuli ≡ None → due_by m limit ≡ None
  none_due e = ap (λ o. option_and_then (λ due. if_by limit (given_at m due) due) o) e

  module _ (due : Due) (first : first_due m.clock None 0 m.stimuli ≡ Some due) where
    by : due_by m limit ≡ if_by limit (given_at m due) due
    by = ap (λ o. option_and_then (λ due. if_by limit (given_at m due) due) o) first

    pub is_due : int_le (given_at m due) limit ≡ true → due_by m limit ≡ Some due
    is_due e = by ∙ ap (λ t. if t then Some due else None) e

    pub not_due : int_le (given_at m due) limit ≡ false → due_by m limit ≡ None
    not_due e = by ∙ ap (λ t. if t then Some due else None) e
