use Rattle.std.proofs.Common.{◌≡◌, ◌∙◌, ap}
use Rattle.std.specs.Option.{unwrap_or}
use Rattle.bpl_model.specs.Names.{names_seen, place}
use Rattle.bpl_model.proofs.NamesPut.{place_seen}
use Rattle.bpl_model.proofs.name_set.NameSet.place.Goals as goal

pub returns : goal.returns
returns c =
    let seen : names_seen c.self.inside.keys.keys ≡ c.args.self.now = cc in
    c.unwrap_or.ensures ∙ ((λ i. unwrap_or (c.get_index_of.ensures.index i) (c.len.ensures.len i)) ∙ (place_seen c.args.name.now c.self.inside.keys.keys ∙ ap (λ ns. place ns c.args.name.now) seen))
