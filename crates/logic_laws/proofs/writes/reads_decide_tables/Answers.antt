use Rattle.logic_laws.proofs.WrittenTables.{same_by_reads}
use Rattle.logic_laws.proofs.writes.reads_decide_tables.Goals as goal

pub returns : goal.returns
returns c = λ k v w h g e. same_by_reads k v w h g e
