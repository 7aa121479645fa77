use Rattle.std.proofs.Common.{length}
use Rattle.bpl_terms.proofs.stores.+stored.Given as goal

abbrev pub decreases-stored : goal.decreases-stored
decreases-stored l = length l.indices.now
