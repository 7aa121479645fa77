use Rattle.logic_laws.proofs.WrittenTables.{look_put_other, other_index}
use Rattle.logic_laws.proofs.writes.others_stay.Goals as goal

pub returns : goal.returns
returns c = λ m i x n ne. look_put_other m i x n (other_index n i ne)
