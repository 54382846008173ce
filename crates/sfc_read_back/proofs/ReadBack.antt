-- The listing of a plant that a text loads as loads as that plant.
use Rattle.std.proofs.Common.{◌≡◌, ◌≤◌, ℕ, List, [], length, All, None, Ok, subst}
use Rattle.sfc_tokens.specs.Spelling.{CanStand}
use Rattle.sfc_tokens.specs.Texts.{longest}
use Rattle.sfc_tokens.specs.Tokens.{Kinds}
use Rattle.sfc_tokens.proofs.Spellings.{text_lexes}
use Rattle.sfc_tokens.proofs.Standing.{tokens_stand}
use Rattle.sfc_text.specs.Limits.{ours}
use Rattle.sfc_text.specs.Reads as reads
use Rattle.sfc_text.specs.Reads.{IsSource, TextReads}
use Rattle.sfc_text.specs.SpelledSources.{source_tokens, KeepsSource}
use Rattle.sfc_text.specs.Trees.{SourceTree}
use Rattle.sfc_text.proofs.Declaring.{declares}
use Rattle.sfc_text.proofs.Keeping.{keeps}
use Rattle.sfc_text.proofs.SpelledSources.{source_derives}
use Rattle.sfc_load.specs.Accepted.{IsAccepted}
use Rattle.sfc_load.specs.Built.{source_check, plant_of}
use Rattle.sfc_plant.specs.Plants.{PlantData}
use Rattle.sfc_list.specs.Listing.{listing}
use Rattle.sfc_read_back.specs.SpelledPlants.{CanSpellPlant}
use Rattle.sfc_read_back.specs.Written.{written}
use Rattle.sfc_read_back.proofs.SpellablePlants.{plant_spelled}
use Rattle.sfc_read_back.proofs.SpelledConfigurations.{listing_spelled}
use Rattle.sfc_read_back.proofs.WrittenKeeping.{written_keeps}
use Rattle.sfc_read_back.proofs.WrittenPlants.{loads_again}

-- what follows of the tokens of the text
from_tokens : (ts : Kinds) (tree : SourceTree) → All CanStand ts → IsSource ours ts tree → source_check tree ≡ None
    → length (listing (plant_of tree)) ≤ longest → TextReads (listing (plant_of tree)) (Ok (written (plant_of tree)))
from_tokens ts tree stand derives passes short =
    let plant : PlantData = plant_of tree in
    let kept : KeepsSource ours tree = keeps ours ts tree derives in
    let spells : CanSpellPlant plant = plant_spelled ours tree (declares CanStand ours ts tree stand derives) kept passes in
    reads.tree (text_lexes (listing plant) (source_tokens (written plant)) short (listing_spelled plant spells []))
    (source_derives ours (written plant) (written_keeps ours tree passes kept))

listing_reads : (text : List ℕ) (tree : SourceTree) → TextReads text (Ok tree) → source_check tree ≡ None
    → length (listing (plant_of tree)) ≤ longest → TextReads (listing (plant_of tree)) (Ok (written (plant_of tree)))
listing_reads text tree (reads.tree {ts = ts} lexes derives) passes short =
    from_tokens ts tree (tokens_stand text ts lexes) derives passes short

pub loads_back : (text : List ℕ) (plant : PlantData) → IsAccepted text plant → length (listing plant) ≤ longest → IsAccepted (listing plant) plant
loads_back text plant is short =
    let tree : SourceTree = is.tree in
    let again = loads_again tree is.passes in
    let back : length (listing (plant_of tree)) ≤ longest → IsAccepted (listing (plant_of tree)) (plant_of tree) = λ fits. record {
      tree = written (plant_of tree);
      read = listing_reads text tree is.read is.passes fits;
      passes = again.checks;
      built = again.built;
    } in
    subst (λ (p : PlantData). length (listing p) ≤ longest → IsAccepted (listing p) p) is.built back short
