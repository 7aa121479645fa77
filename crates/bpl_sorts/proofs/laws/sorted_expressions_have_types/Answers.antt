use Rattle.bpl_sorts.proofs.TypedTerms.{expressions_have_types}
use Rattle.bpl_sorts.proofs.laws.sorted_expressions_have_types.Goals as goal

pub returns : goal.returns
returns c = expressions_have_types
