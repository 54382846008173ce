-- Points of program instances.
use Rattle.std.proofs.Common.{◌≡◌, List, ℕ, Some, sym, ap, ◌∙◌}
use Rattle.std.specs.Option.{option_map, option_and_then}
use Rattle.sfc_base.specs.declared.ids.ProgId.{ProgId}
use Rattle.sfc_plant.specs.Plants.{PlantData}
use Rattle.sfc_events.specs.declared.command.Point.{Point}
use Rattle.sfc_script.specs.declared.point.Place.{Place}
use Rattle.sfc_script.specs.Commands.{first_place, place_in}
use Rattle.sfc_script.specs.Lines.{first_word}
use Rattle.sfc_script.specs.Names.{program_of}
use Rattle.sfc_script.specs.Points.{first_point}

-- a program instance and then a point of it
pub place_is : (plant : PlantData) (rest name behind after : List ℕ) (p : ProgId) (point : Point) → first_word rest ≡ Some (name, behind)
    → p ≡ program_of plant name → first_point plant p behind ≡ Some (point, after)
    → first_place plant rest ≡ Some (record { program = p; point = point }, after)
place_is plant rest name behind after p point e f g =
    ap (option_and_then (λ w. place_in plant (program_of plant w.0) w.1)) e
    ∙ ap (λ q. place_in plant q behind) (sym f)
    ∙ ap (option_map {U = Place × List ℕ} (λ k. (record { program = p; point = k.0 }, k.1))) g
