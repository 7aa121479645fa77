use Rattle.std.proofs.Common.{◌≡◌, ◌∙◌, ap}
use Rattle.bpl_model.specs.Names.{names_seen, with_name}
use Rattle.bpl_model.proofs.NamesPut.{seen_put}
use Rattle.bpl_model.proofs.name_set.NameSet.put.Goals as goal

pub returns : goal.returns
returns c =
    let seen : names_seen c.self.inside.keys.keys ≡ c.args.self.now = cc in
    ap names_seen c.in_ok-insert.ensures.keys ∙ (seen_put c.self.inside.keys.keys c.args.name ∙ ap (λ ns. with_name ns c.args.name.now) seen)
