use Rattle.std.proofs.Common.{◌≡◌}
use Rattle.bpl_sorts.specs.TypeNames.{users_before}
use Rattle.bpl_sorts.proofs.NestedTypes.{number_is}
use Rattle.bpl_sorts.proofs.type_names.TypeNames.number_of.Goals as goal

pub returns : goal.returns
returns c =
    let held : c.deref.result.now ≡ users_before 0 c.args.self.now = cc in
    number_is c.deref.result.now c.args.self.now c.args.name.now c.place-at.result c.number_at.result held c.place-at.ensures c.number_at.ensures
