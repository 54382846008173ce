-- A session whose answers are written one after the other.
use Rattle.std.proofs.Common.{◌≡◌, sym, subst, ℕ, List, [], ◌++◌, Option, Result, Ok, Err}
use Rattle.std.proofs.lemmas.List.{append-nil}
use Rattle.std.specs.Io.KnownBytes.{Appends}
use Rattle.sfc_base.specs.Writing.{AppendsFront, Writes}
use Rattle.sfc_base.proofs.Written.{Appends-none, Appends-more, front_second}
use Rattle.sfc_asking.specs.sfc_debug.Histories.{CommandHistory}
use Rattle.sfc_session.specs.declared.session.Session.{Session}
use Rattle.sfc_prompt.specs.Desks.{Told, BreaksOff, Tells}
use Rattle.sfc_prompt.specs.Pieces.{history_after, said}
use Rattle.sfc_session.specs.Sessions.{HasSaid, script_in, steered_in}
use Rattle.sfc_prompt.specs.Transcripts.{HasGoneOn, Puts}
use Rattle.sfc_prompt.proofs.Telling.{goes_then, puts_nothing}

-- what was put of a session that went on
gone : (old new : Session) (text : List ℕ) → Puts old new [] text → (h : CommandHistory) (lines : List ℕ) → HasSaid old h lines
    → HasGoneOn (steered_in old) h lines (script_in old) text new
gone old new text puts h lines has =
    let goes = puts h lines has in
    subst (λ (t : List ℕ). HasGoneOn (steered_in old) h lines (script_in old) t new) (sym goes.1) goes.2

-- all that was put was written, or a front of it
pub tells_put : {X E : Type 0} (old new : Session) (text : List ℕ) (before behind : Option (List ℕ)) (result : Result X E)
    → Puts old new [] text → Writes before behind result text → Tells old new before behind result
tells_put old new text before behind (Ok x) puts writes = λ h lines has. (text, gone old new text puts h lines has, writes)
tells_put old new text before behind (Err e) puts writes = λ h lines has. (new, text, gone old new text puts h lines has, writes)

-- nothing was
pub told_nothing : (session : Session) (known : Option (List ℕ)) → Told session session known known
told_nothing session known h lines has = ([], gone session session [] (puts_nothing session []) h lines has, Appends-none known)

-- where an error follows, all was written
pub breaks_behind : (old new : Session) (before behind : Option (List ℕ)) → Told old new before behind → BreaksOff old before behind
breaks_behind old new before behind told h lines has =
    let all = told h lines has in
    (new, all.0, all.1, (all.0, [], sym (append-nil all.0), all.2))

pub breaks_nothing : (session : Session) (known : Option (List ℕ)) → BreaksOff session known known
breaks_nothing session known = breaks_behind session session known known (told_nothing session known)

-- ---- one after the other

module _ (a b d : Session) (w x y : Option (List ℕ)) (first : Told a b w x) where
  pub told_then : Told b d x y → Told a d w y
  told_then second h lines has =
      let one = first h lines has in
      let two = second (history_after h one.1.pieces) (lines ++ said one.1.pieces) one.1.said in
      (one.0 ++ two.0, goes_then (steered_in a) b d h lines (script_in a) one.0 two.0 one.1 two.1, Appends-more w x y one.0 two.0 one.2 two.2)

  pub breaks_then : BreaksOff b x y → BreaksOff a w y
  breaks_then second h lines has =
      let one = first h lines has in
      let two = second (history_after h one.1.pieces) (lines ++ said one.1.pieces) one.1.said in (
        two.0,
        one.0 ++ two.1,
        goes_then (steered_in a) b two.0 h lines (script_in a) one.0 two.1 one.1 two.2,
        front_second w x y one.0 two.1 one.2 two.3,
      )

  pub tells_then : {X E : Type 0} (result : Result X E) → Tells b d x y result → Tells a d w y result
  tells_then (Ok second) tells = told_then tells
  tells_then (Err e) tells = breaks_then tells

-- ---- what was put and is passed on

module _ (a b : Session) (before text : List ℕ) (w x : Option (List ℕ)) (none : before ≡ []) (puts : Puts a b before text) where
  from_nothing : Puts a b [] text
  from_nothing = subst (λ (t : List ℕ). Puts a b t text) none puts

  pub passed : (d : Session) → d ≡ b → {X E : Type 0} (result : Result X E) → Writes w x result text → Tells a d w x result
  passed d same result writes =
      subst (λ (s : Session). Tells a s w x result) (sym same) (tells_put a b text w x result from_nothing writes)

  pub told_passed : (d : Session) → d ≡ b → Appends w x text → Told a d w x
  told_passed d same writes h lines has =
      subst (λ (s : Session). (t : List ℕ) × HasGoneOn (steered_in a) h lines (script_in a) t s × Appends w x t) (sym same)
      (text, gone a b text from_nothing h lines has, writes)

  pub breaks_passed : AppendsFront w x text → BreaksOff a w x
  breaks_passed writes h lines has = (b, text, gone a b text from_nothing h lines has, writes)
