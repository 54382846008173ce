use Rattle.std.proofs.Common.{◌≡◌, ℕ, List, [], Result, Ok, refl, sym, ap, subst, ◌∙◌}
use Rattle.sfc_plant.specs.Plants.{PlantData}
use Rattle.sfc_script.specs.sfc_load.Built.{plant_of}
use Rattle.sfc_script.specs.Scripts.{ScriptData, ScriptReads}
use Rattle.sfc_output.specs.Output.{lines_of_play, debugger_of, text_of}
use Rattle.sfc_replay.specs.Replay.{played_on}
use Rattle.sfc_replay.proofs.laws.one_output.Goals as goal

same_said : (a b : ScriptData) (x y : Result ScriptData ℕ) → x ≡ Ok a → y ≡ Ok b → x ≡ y → a ≡ b
same_said a b x y e f g = cc

lines : PlantData → ScriptData → List ℕ
lines plant said = lines_of_play (debugger_of (played_on plant said)) (text_of (played_on plant said)) [] said.commands

pub returns : goal.returns
unfolding lines
returns c = λ text script output other first second.
    let one = first.loaded in
    let two = second.loaded in
    let tree : one.tree ≡ two.tree = c.one_reading.ensures text (Ok one.tree) (Ok two.tree) one.read two.read in
    let plant : first.plant ≡ second.plant = sym one.built ∙ ap (λ t. plant_of t) tree ∙ two.built in
    let parsed : ScriptReads second.plant script (Ok first.said) = subst (λ (p : PlantData). ScriptReads p script (Ok first.said)) plant first.parsed in
    let said : first.said ≡ second.said = same_said first.said second.said (Ok first.said) (Ok second.said) refl refl
    (c.one_script.ensures second.plant script (Ok first.said) (Ok second.said) parsed second.parsed) in
    first.lines ∙ (λ i. lines (plant i) (said i)) ∙ sym second.lines
