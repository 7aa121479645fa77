use Rattle.tableau.proofs.Refuting as refuting
use Rattle.tableau.proofs.laws.finds_accepted.Goals as goal

pub returns : goal.returns
returns c = refuting.finds_accepted
