use Rattle.std.proofs.Common.{◌∙◌, eqb}
use Rattle.std.proofs.lemmas.List.Filters.{dedup_is}
use Rattle.bpl_dependencies.specs.AppliedView.{texts_seen}
use Rattle.bpl_texts.proofs.RisingLeads.{leads_are}
use Rattle.bpl_texts.proofs.leads.leads_of.Goals as goal

pub returns : goal.returns
returns c =
    let decls = c.in_ok-leads.leads.items in
    let sorted = c.sort_unstable.new.self.items in
    dedup_is eqb sorted c.dedup.new.self.items c.dedup.ensures.filtered
    ∙ leads_are c.args.table.now c.args.count (texts_seen c.args.names.now) decls sorted c.in_ok-leads.ensures c.sort_unstable.ensures.permutation c.sort_unstable.ensures.sorted
