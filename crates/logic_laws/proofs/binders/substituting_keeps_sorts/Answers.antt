use Rattle.logic_laws.proofs.SubstitutedValues.{substituted_sort}
use Rattle.logic_laws.proofs.binders.substituting_keeps_sorts.Goals as goal

pub returns : goal.returns
returns c = λ vars defs ss body terms k s h. substituted_sort vars defs ss terms body k s h
