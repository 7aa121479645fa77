use Rattle.clause_search.proofs.rules.Tables.new.Goals as goal

pub returns : goal.returns
returns c = λ ts. record { apart = c.new.ensures ts; counted = c.new-2.ensures ts; tried = c.new-6.ensures ts }
