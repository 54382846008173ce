use Rattle.std.proofs.Common.{◌≡◌, ◌∙◌, ◌++◌, ◌∷◌, [], refl, sym, ap, subst, List}
use Rattle.std.specs.Prelude.{OnOk}
use Rattle.sfc_cases.specs.declared.line.Line.{Line}
use Rattle.sfc_cases.specs.Files.{line_of}
use Rattle.sfc_cases.specs.Reading.{Adds}
use Rattle.sfc_cases.proofs.Lines.{adds_line, adds_waiting, then_table}
use Rattle.sfc_cases.proofs.test_file.TestFile.add.Goals as goal

pub returns-in-Does : goal.returns-in-Does
returns-in-Does c =
    let names = c.args.names.now.items in
    subst (λ said. Adds c.args.number said names names c.args.self.now c.add_line.new.self c.add_line.result) (sym c.in-Does.is)
    (adds_line c.args.number names c.in-Does.instant c.in-Does.deed c.args.self.now c.add_line.new.self c.add_line.result
    c.add_line.ensures.lines c.add_line.ensures.table c.add_line.ensures.memory)

pub returns-in_ok-deed-in-Waits : goal.returns-in_ok-deed-in-Waits
returns-in_ok-deed-in-Waits c =
    let names = c.args.names.now.items in
    let middle = c.await_condition.new.self in
    let added = c.in_ok-deed-in-Waits.ensures in
    let deed = c.in_ok-deed-in-Waits.deed in
    let result = c.add_line-in-Waits.result in
    subst (λ said. Adds c.args.number said names names c.args.self.now c.add_line-in-Waits.new.self result) (sym c.in-Waits.is)
    (adds_waiting c.args.number names c.in-Waits.instant deed c.args.self.now c.add_line-in-Waits.new.self c.in-Waits.point c.in-Waits.condition result
    (added.room refl) added.deed
    (subst (λ (ls : List Line). OnOk result (c.add_line-in-Waits.new.self.lines.items ≡ ls ++ line_of c.args.number c.in-Waits.instant deed ∷ []))
    (ap (λ v. v.items) added.lines) c.add_line-in-Waits.ensures.lines)
    (then_table result middle c.add_line-in-Waits.new.self (c.args.self.now.table.items ++ c.in-Waits.condition ∷ []) c.add_line-in-Waits.ensures.table
    added.table)
    c.add_line-in-Waits.ensures.memory)
