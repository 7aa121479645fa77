use Rattle.logic_laws.proofs.WrittenTables.{look_put}
use Rattle.logic_laws.proofs.writes.writes_are_read.Goals as goal

pub returns : goal.returns
returns c = λ k m i x h. look_put k m i x h
