use Rattle.linear_certs.proofs.CombinedSorts.{combined_sort}
use Rattle.linear_certs.proofs.laws.combining_keeps_sorts.Goals as goal

pub returns : goal.returns
returns c = λ vars defs bound f g a d s p q sf sg ea ed e. combined_sort vars defs f g a d s p q bound sf sg ea ed e
