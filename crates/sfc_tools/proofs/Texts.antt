-- The texts that are told: by what was written.
use Rattle.std.proofs.Common.{◌≡◌, ℕ, List, [], Option, Some, None, Ok, sym, subst}
use Rattle.sfc_plant.specs.Plants.{PlantData}
use Rattle.sfc_replay.specs.Acceptance.{Answers}
use Rattle.sfc_replay.specs.Replay.{IsOutput, Replays}
use Rattle.sfc_replay.specs.sfc_load.Accepted.{IsAccepted}
use Rattle.sfc_replay.specs.sfc_output.sfc_list.Listing.{listing}
use Rattle.sfc_svg.specs.Drawn.{IsDrawingOf}
use Rattle.sfc_svg.specs.Played.{DrawsAfter, IsLeft, state_after}
use Rattle.sfc_svg.specs.Standing.{IsDrawingAt}
use Rattle.sfc_svg.specs.Types.{DrawsTypes}
use Rattle.sfc_tools.specs.Drawings.{IsDrawing, IsDrawingBehind}
use Rattle.sfc_tools.specs.Listings.{IsListing}
use Rattle.sfc_tools.specs.Told.{read_of}
use Rattle.sfc_tools.proofs.Taken.{of_both, of_chart}

-- what is written to no text is that text
module _ (chart : List ℕ) (rest : Option (List ℕ)) (old text : List ℕ) (done : Unit {0}) (e : old ≡ []) where
  pub listed : Answers listing (Some chart, rest) (Some old, Some text) (Ok done) → IsListing (read_of chart) text
  listed h =
      of_chart (λ t. IsListing t text) chart rest
      (subst (λ before. Answers listing (Some chart, rest) (Some before, Some text) (Ok done)) e h)

  pub drawn : DrawsTypes None (Some chart, rest) (Some old, Some text) (Ok done) → IsDrawing (read_of chart) text
  drawn h =
      let given = of_chart (λ t. (plant : PlantData) × IsAccepted t plant × ((x : List ℕ) × IsDrawingOf plant None x × (text ≡ x))) chart rest
      (subst (λ before. DrawsTypes None (Some chart, rest) (Some before, Some text) (Ok done)) e h) in
      (given.0, given.1, subst (IsDrawingOf given.0 None) (sym given.2.2) given.2.1)

  module _ (script : List ℕ) (left : Option (List ℕ)) where
    pub played : Replays (Some chart, rest) (Some script, left) (Some old, Some text) (Ok done)
        → IsOutput (read_of chart) (read_of script) text
    played h =
        let given = of_both (λ t s. (output : List ℕ) × IsOutput t s output × (text ≡ output)) chart script rest left
        (subst (λ before. Replays (Some chart, rest) (Some script, left) (Some before, Some text) (Ok done)) e h) in
        subst (IsOutput (read_of chart) (read_of script)) (sym given.2) given.1

    pub drawn_behind : DrawsAfter None (Some chart, rest) (Some script, left) (Some old, Some text) (Ok done)
        → IsDrawingBehind (read_of chart) (read_of script) text
    drawn_behind h =
        let given = of_both (λ t s. IsLeft t s (λ plant state. (x : List ℕ) × IsDrawingAt plant state None x × (text ≡ x))) chart script rest left
        (subst (λ before. DrawsAfter None (Some chart, rest) (Some script, left) (Some before, Some text) (Ok done)) e h) in
        record {
          plant = given.plant;
          loaded = given.loaded;
          said = given.said;
          parsed = given.parsed;
          holds = subst (IsDrawingAt given.plant (state_after given.plant given.said) None) (sym given.holds.2) given.holds.1;
        }
