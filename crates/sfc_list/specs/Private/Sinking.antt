-- Writing that stops at the first fault.
use Rattle.std.specs.Prelude.{◌≡◌, ℕ, List, [], ◌∷◌, ◌++◌, Bool, true, false, Option}
use denote.Ref.{Bor}
use Rattle.std.specs.Io.KnownBytes.{Appends}
use Rattle.sfc_base.specs.Writing.{AppendsFront}
use Rattle.sfc_list.specs.declared.sink.Sink.{Sink}

-- Whether there was a fault, before and after; what the writer holds, before and after. After a fault nothing is written.
abbrev pub Written : Bool → Bool → Option (List ℕ) → Option (List ℕ) → List ℕ → Type 0
Written true broken old new text = (broken ≡ true) × Appends old new []
Written false true old new text = AppendsFront old new text
Written false false old new text = Appends old new text

-- the same writer is there
pub record Put {W : Type 0} (contents : W → Option (List ℕ)) (old new : Sink W) (text : List ℕ) : Type 0 where
  pub same : new.writer.ghost_name ≡ old.writer.ghost_name
  pub written : Written old.is_broken new.is_broken (contents old.writer.now) (contents new.writer.now) text

-- the text was put into the sink
unfoldable pub Puts : {W : Type 0} → (W → Option (List ℕ)) → Sink W → Sink W → List ℕ → Type 0
Puts contents old new text = Put contents old new text

-- a text and the parts behind it
abbrev pub joined : List ℕ → List (Bor (List ℕ)) → List ℕ
joined text [] = text
joined text (part ∷ parts) = joined (text ++ part.now) parts
