-- The write is to the place of the variable, which is there.
use Rattle.std.proofs.Common.{rules, ◌<◌, length}
use Rattle.expressions.proofs.Writes.{written}
use Rattle.expressions.proofs.values.ValuesStore.assign.Goals as goal

pub returns-in-Some-clause-after : goal.returns-in-Some-clause-after
returns-in-Some-clause-after c =
    let there : c.in-Global.field-0.0 < length c.args.self.now.values.items = search rules in
    rw c.in-Global.is (written c.args.self.now.values.items c.in-Global.field-0 c.args.value there)
