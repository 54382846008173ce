use Rattle.std.proofs.Common.{◌≡◌, ◌∙◌, None, Some, ap, slice_get, List}
use Rattle.sfc_plant.specs.Image.{image_numbering}
use Rattle.sfc_plant.specs.declared.image_variable.ImageVariable.{ImageVariable}
use Rattle.sfc_plant.specs.declared.image_variable.ImageVariable.TheVariants.{Global, Local}
use Rattle.sfc_plant.specs.declared.variable.Variable.{Variable}
use Rattle.sfc_plant.proofs.Places.{variable_there}
use Rattle.sfc_plant.proofs.plant.Plant.variable.Goals as goal

pub returns-in-Some-Global : goal.returns-in-Some-Global
returns-in-Some-Global c =
    let there : Some (Global c.in-Some-Global.global) ≡ slice_get (image_numbering c.args.self.now) c.args.id.0 = cc in
    c.at.ensures ∙ ap (λ (vs : List Variable). slice_get vs c.in-Some-Global.global.0) c.globals.ensures.value
    ∙ variable_there c.args.self.now c.args.id.0 (Some (Global c.in-Some-Global.global)) there

pub returns-in-Some-Local : goal.returns-in-Some-Local
returns-in-Some-Local c =
    let variable : ImageVariable = Local c.in-Some-Local.instance c.in-Some-Local.local in
    let there : Some variable ≡ slice_get (image_numbering c.args.self.now) c.args.id.0 = cc in
    c.at-in-Some-Local.ensures ∙ ap (λ (vs : List Variable). slice_get vs c.in-Some-Local.local.0) c.locals.ensures
    ∙ variable_there c.args.self.now c.args.id.0 (Some variable) there

pub returns-in-None : goal.returns-in-None
returns-in-None c =
    let there : None ≡ slice_get (image_numbering c.args.self.now) c.args.id.0 = cc in
    variable_there c.args.self.now c.args.id.0 None there
