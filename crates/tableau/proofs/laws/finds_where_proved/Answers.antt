use Rattle.tableau.proofs.FoundWhereProved as found
use Rattle.tableau.proofs.laws.finds_where_proved.Goals as goal

pub returns : goal.returns
returns c = found.finds_where_proved
