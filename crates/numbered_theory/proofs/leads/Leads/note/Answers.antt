use Rattle.std.proofs.lemmas.Result.{on_ok_weaker}
use Rattle.numbered_theory.proofs.leads.Leads.note.Goals as goal

pub returns-clause-noted : goal.returns-clause-noted
returns-clause-noted c = on_ok_weaker c.put_lead.result (λ p. record { first = c.lead-found.result; is = c.lead-found.ensures.is; within = c.lead-found.ensures.within; put = p }) c.put_lead.ensures.put
