use Rattle.std.proofs.Common.{◌≡◌, ◌∙◌, ap, bytes_eq}
use Rattle.std.specs.List.{list_any}
use Rattle.bpl_model.specs.Names.{names_seen}
use Rattle.bpl_model.proofs.NamesPut.{any_seen}
use Rattle.bpl_model.proofs.name_set.NameSet.contains.Goals as goal

pub returns : goal.returns
returns c =
    let seen : names_seen c.self.inside.keys.keys ≡ c.args.self.now = cc in
    c.contains.ensures ∙ (any_seen (bytes_eq c.args.name.now) c.self.inside.keys.keys ∙ ap (list_any (bytes_eq c.args.name.now)) seen)
