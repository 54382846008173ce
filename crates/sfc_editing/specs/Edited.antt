-- What a session has written since it was opened on a chart.
use Rattle.std.specs.Prelude.{◌≡◌, ℕ, List, []}
use Rattle.sfc_plant.specs.Plants.{PlantData}
use Rattle.sfc_prompt.specs.Transcripts.{HasGoneOn, opened_on}
use Rattle.sfc_replay.specs.sfc_load.Accepted.{IsAccepted}
use Rattle.sfc_session.specs.declared.session.Session.{Session}
use Rattle.sfc_session.specs.Sessions.{HasSaid, script_in, steered_in}

-- a session with the plant that a chart is, to which nothing was said
pub record IsOpenedOn (chart : List ℕ) (session : Session) : Type 0 where
  pub loaded : IsAccepted chart (steered_in session).plant
  pub table : (steered_in session).table ≡ []
  pub said : HasSaid session [] []
  pub script : script_in session ≡ []

-- A session was opened on a chart, and since then this text was written: pieces of which those of accepted commands are what a replay
-- writes for them.
pub record HasWritten (chart : List ℕ) (session : Session) (text : List ℕ) : Type 0 where
  pub plant : PlantData
  pub loaded : IsAccepted chart plant
  pub gone : HasGoneOn (opened_on plant) [] [] [] text session

-- a session that was opened on a chart, and whatever was written since then
abbrev pub IsPlayedOn : List ℕ → Session → Type 0
IsPlayedOn chart session = (text : List ℕ) × HasWritten chart session text
