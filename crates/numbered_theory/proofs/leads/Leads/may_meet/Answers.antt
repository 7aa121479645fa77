use Rattle.numbered_theory.proofs.LeadsNoted.{apart}
use Rattle.numbered_theory.proofs.leads.Leads.may_meet.Goals as goal

pub returns : goal.returns
returns c = apart c.args.terms.now c.are_stored.ensures c.args.self.now.above c.args.self.now.below c.args.entry.now c.lead-found.result c.meets.result c.lead-found.ensures.is c.lead-found.ensures.within c.meets.ensures
