-- Commands that were given, and what stays where they are refused.
use Rattle.std.proofs.Common.{◌≡◌, ◌∙◌, refl, sym, ap, subst, true, false, ℕ, List, ◌++◌, Some, None, Result, Ok, Err, ℤ}
use Rattle.std.specs.Prelude.{IfOk, OnOk}
use Rattle.sfc_events.specs.declared.refusal.Refusal.{Refusal}
use Rattle.sfc_output.specs.sfc_debug.Histories.{CommandHistory, TimedCommand}
use Rattle.sfc_output.specs.sfc_debug.Verdict.{history_by}
use Rattle.sfc_output.specs.sfc_debug.Steered.{Steered}
use Rattle.sfc_output.specs.Output.{Verdict, command_lines, debugger_of, text_of}
use Rattle.sfc_session.specs.declared.session.Session.{Session}
use Rattle.sfc_session.specs.Scanning.{is_out_of_turn, release_in}
use Rattle.sfc_session.specs.Trying.{IsTried}
use Rattle.sfc_session.specs.Sessions.{HasSaid, IsGiven, IsTaken, Stays, script_after, script_in, steered_in, with_lines, words_of}

module _ (old new : Session) (before behind : List ℕ) (h : CommandHistory) (lines : List ℕ) (timed : TimedCommand) (words : List ℕ) where
  abbrev st : Steered
  st = steered_in old

  abbrev v : Verdict
  v = (debugger_of st).verdict h timed

  abbrev more : List ℕ
  more = command_lines (debugger_of st) (text_of st) h timed

  pub given_by : {E : Type 0} (result : Result Verdict E) → steered_in new ≡ st → IfOk result (λ told. told ≡ v)
      → OnOk result (behind ≡ before ++ more)
      → OnOk result (HasSaid new ((debugger_of st).after h timed) (with_lines v lines more))
      → IfOk result (λ told. script_in new ≡ script_after told (script_in old) timed.1 words)
      → IfOk result (λ told. IsGiven old new before behind told h lines timed words)
  given_by (Ok told) steered answer written said script =
      record { steered = steered; answer = answer; written = written; said = said; script = script }
  given_by (Err error) steered answer written said script = tt

  refused_stays : (refusal : Refusal) → IsGiven old new before behind (Err refusal) h lines timed words → Stays old new h lines
  refused_stays refusal given = record {
    steered = given.steered;
    said = subst (λ (w : Verdict). HasSaid new (history_by w timed h) (with_lines w lines more)) (sym given.answer) given.said;
    script = given.script;
  }

  pub turned_away : (told : Verdict) → is_out_of_turn told ≡ true → IsGiven old new before behind told h lines timed words → Stays old new h lines
  turned_away (Ok answer) out given = let e : false ≡ true = out in absurd (cc)
  turned_away (Err refusal) out given = refused_stays refusal given

  pub not_due : (told : Verdict) (next : ℤ) → release_in told ≡ Some next → IsGiven old new before behind told h lines timed words
      → Stays old new h lines
  not_due (Ok answer) next is given = let e : None ≡ Some next = is in absurd (cc)
  not_due (Err refusal) next is given = refused_stays refusal given

  pub given_at : (told : Verdict) (other : TimedCommand) → timed ≡ other → steered_in new ≡ st → told ≡ v → behind ≡ before ++ more
      → HasSaid new ((debugger_of st).after h timed) (with_lines v lines more)
      → script_in new ≡ script_after told (script_in old) timed.1 words → IsGiven old new before behind told h lines other words
  given_at told other same steered answer written said script =
      subst (λ (t : TimedCommand). IsGiven old new before behind told h lines t words) same
      (record { steered = steered; answer = answer; written = written; said = said; script = script })

-- ---- behind what stayed

module _ (a b d : Session) (x y : List ℕ) (told : Verdict) (h : CommandHistory) (lines : List ℕ) (stays : Stays a b h lines) where
  pub given_behind : (timed : TimedCommand) (words : List ℕ) → IsGiven b d x y told h lines timed words
      → IsGiven a d x y told h lines timed words
  given_behind timed words given = record {
    steered = given.steered ∙ stays.steered;
    answer = given.answer ∙ ap (λ (s : Steered). (debugger_of s).verdict h timed) stays.steered;
    written = given.written ∙ ap (λ (s : Steered). x ++ command_lines (debugger_of s) (text_of s) h timed) stays.steered;
    said = subst (λ (s : Steered). HasSaid d ((debugger_of s).after h timed) (with_lines ((debugger_of s).verdict h timed) lines
        (command_lines (debugger_of s) (text_of s) h timed))) stays.steered given.said;
    script = given.script ∙ ap (λ text. script_after told text timed.1 words) stays.script;
  }

  pub taken_behind : (timed : TimedCommand) → IsTaken b d x y told h lines timed → IsTaken a d x y told h lines timed
  taken_behind timed taken =
      subst (λ (s : Steered). IsGiven a d x y told h lines timed (words_of s timed.0)) stays.steered
      (given_behind timed (words_of (steered_in b) timed.0) taken)

pub stays_on : (a b d : Session) (h : CommandHistory) (lines : List ℕ) → Stays a b h lines → Stays b d h lines → Stays a d h lines
stays_on a b d h lines first second = record {
  steered = second.steered ∙ first.steered;
  said = second.said;
  script = second.script ∙ first.script;
}

pub stays_same : (session : Session) (h : CommandHistory) (lines : List ℕ) → HasSaid session h lines → Stays session session h lines
stays_same session h lines said = record { steered = refl; said = said; script = refl }

-- the same at an equal text or an equal instant
pub taken_from : (a d : Session) (x w y : List ℕ) (told : Verdict) (h : CommandHistory) (lines : List ℕ) (timed other : TimedCommand)
    → w ≡ x → timed ≡ other → IsTaken a d w y told h lines timed → IsTaken a d x y told h lines other
taken_from a d x w y told h lines timed other same is taken =
    subst (λ (t : TimedCommand). IsTaken a d x y told h lines t) is
    (subst (λ (text : List ℕ). IsTaken a d text y told h lines timed) same taken)

-- ---- of what a call returned

pub each_ok : {A E : Type 0} (result : Result A E) (P Q : A → Type 0) → ((a : A) → P a → Q a) → IfOk result P → IfOk result Q
each_ok (Ok a) P Q every has = every a has
each_ok (Err error) P Q every has = tt

pub whatever : {A E : Type 0} (result : Result A E) (P : Type 0) → P → OnOk result P
whatever (Ok a) P has = has
whatever (Err error) P has = tt

-- a command that was given behind what stayed, in place of a text that was cut off
pub ok_behind : {E : Type 0} (result : Result Verdict E) (a b d : Session) (x w y : List ℕ) (h : CommandHistory) (lines : List ℕ)
    (timed other : TimedCommand) → Stays a b h lines → w ≡ x → timed ≡ other
    → IfOk result (λ told. IsTaken b d w y told h lines timed) → IfOk result (λ told. IsTaken a d x y told h lines other)
ok_behind result a b d x w y h lines timed other stays same is has =
    each_ok result (λ told. IsTaken b d w y told h lines timed) (λ told. IsTaken a d x y told h lines other)
    (λ (told : Verdict) (taken : IsTaken b d w y told h lines timed). taken_from a d x w y told h lines timed other same is
    (taken_behind a b d w y told h lines stays timed taken)) has

-- ---- scans that are tried

pub tried_away : (old new : Session) (before behind cut : List ℕ) (told : Verdict) (h : CommandHistory) (lines : List ℕ) (timed : TimedCommand)
    → is_out_of_turn told ≡ true → cut ≡ before → IsTaken old new before behind told h lines timed
    → IsTried old new before cut told h lines timed
tried_away old new before behind cut told h lines timed out same taken =
    record {
      answer = taken.answer;
      turn = λ (no : is_out_of_turn told ≡ false). let e : true ≡ false = sym out ∙ no in absurd (cc);
      stays = λ (_ : is_out_of_turn told ≡ true). turned_away old new before behind h lines timed (words_of (steered_in old) timed.0) told out taken;
      text = λ (_ : is_out_of_turn told ≡ true). same;
    }

pub tried_in_turn : (old new : Session) (before behind : List ℕ) (told : Verdict) (h : CommandHistory) (lines : List ℕ) (timed : TimedCommand)
    → is_out_of_turn told ≡ false → IsTaken old new before behind told h lines timed → IsTried old new before behind told h lines timed
tried_in_turn old new before behind told h lines timed turn taken =
    record {
      answer = taken.answer;
      turn = λ (_ : is_out_of_turn told ≡ false). taken;
      stays = λ (out : is_out_of_turn told ≡ true). let e : true ≡ false = sym out ∙ turn in absurd (cc);
      text = λ (out : is_out_of_turn told ≡ true). let e : true ≡ false = sym out ∙ turn in absurd (cc);
    }
