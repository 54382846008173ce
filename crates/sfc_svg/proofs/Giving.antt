-- Commands that were given, one after the other.
use Rattle.std.proofs.Common.{◌≡◌, ℕ, ◌+◌, ◌<◌, List, [], ◌∷◌, ◌++◌, length, take, get_or, refl, sym, ap, ◌∙◌, subst}
use Rattle.std.proofs.lemmas.List.{take_more}
use Rattle.sfc_replay.specs.sfc_debug.declared.debugger.Debugger.{Debugger}
use Rattle.sfc_replay.specs.sfc_debug.Agreement.{Agrees}
use Rattle.sfc_replay.specs.sfc_debug.Histories.{CommandHistory, TimedCommand}
use Rattle.sfc_replay.specs.sfc_debug.Steered.{Steered}
use Rattle.sfc_replay.specs.sfc_output.Output.{Session, debugger_of, session_after}

session_behind : {C A S : Type 0} (session : Session C A S) (h cs : List C) (c : C)
    → session_after session h (cs ++ c ∷ []) ≡ session.after (session_after session h cs) c
session_behind session h [] c = refl
session_behind session h (d ∷ cs) c = session_behind session (session.after h d) cs c

session_more : {C A S : Type 0} (session : Session C A S) (h cs : List C) (i : ℕ) (d : C) → i < length cs
    → session_after session h (take (i + 1) cs) ≡ session.after (session_after session h (take i cs)) (get_or cs i d)
session_more session h cs i d lt =
    ap (session_after session h) (take_more cs i d lt) ∙ session_behind session h (take i cs) (get_or cs i d)

-- one command more
pub given_more : (steered here : Steered) (next : Debugger) (h : CommandHistory) (cs : List TimedCommand) (i : ℕ) (c : TimedCommand)
    → i < length cs → c ≡ get_or cs i c → here ≡ steered
    → Agrees next ((debugger_of here).after (session_after (debugger_of steered) h (take i cs)) c)
    → Agrees next (session_after (debugger_of steered) h (take (i + 1) cs))
given_more steered here next h cs i c lt is same agrees =
    let before = session_after (debugger_of steered) h (take i cs) in
    subst (λ (k : CommandHistory). Agrees next k) (sym (session_more (debugger_of steered) h cs i c lt))
    (subst (λ (d : TimedCommand). Agrees next ((debugger_of steered).after before d)) is
    (subst (λ (s : Steered). Agrees next ((debugger_of s).after before c)) same agrees))
