use Rattle.std.proofs.Common.{append_assoc}
use Rattle.std.proofs.lemmas.Result.{IfOk-equal}
use Rattle.proof_text.proofs.writing.put_fact_node.Goals as goal

pub returns : goal.returns
returns c = IfOk-equal c.put.result _ _ _ c.put.ensures (rw c.in_ok-open_fact.ensures (simp append_assoc))
