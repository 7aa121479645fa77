use Rattle.std.proofs.Common.{◌∙◌, sym}
use Rattle.vc_rebuild.proofs.change.same_contract_leads.Goals as goal

pub returns : goal.returns
returns c told = sym c.contract_leads_of-before.ensures ∙ c.same_positions.ensures told ∙ c.contract_leads_of-after.ensures
