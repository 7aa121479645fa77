use Rattle.std.proofs.Common.{◌≡◌, ◌∙◌, ap, sym, length}
use Rattle.bpl_model.specs.Names.{names_seen}
use Rattle.bpl_model.proofs.NamesPut.{seen_length}
use Rattle.bpl_model.proofs.name_set.NameSet.len.Goals as goal

pub returns : goal.returns
returns c =
    let seen : names_seen c.self.inside.keys.keys ≡ c.args.self.now = cc in
    c.len.ensures.len ∙ (sym (seen_length c.self.inside.keys.keys) ∙ ap length seen)
