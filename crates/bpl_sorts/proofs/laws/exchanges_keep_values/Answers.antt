use Rattle.bpl_sorts.proofs.ExchangedValues.{exchanges_keep_values}
use Rattle.bpl_sorts.proofs.laws.exchanges_keep_values.Goals as goal

pub returns : goal.returns
returns c = exchanges_keep_values
