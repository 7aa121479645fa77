use Rattle.plain_search.proofs.past.first_access.Goals as goal

pub returns : goal.returns
returns c = rw c.term.ensures at c.first_outside.ensures
