use Rattle.std.proofs.Common.{◌↔◌, List, subst}
use Rattle.std.specs.Prelude.{IsTrue}
use Rattle.flow_core.specs.declared.block.Block.{Block}
use Rattle.flow_core.specs.Plain.{IsRising}
use Rattle.flow_core.proofs.graph.Graph.rising.Goals as goal

pub returns : goal.returns
returns c = let P : List Block → Type 0 = λ bs. (IsTrue c.edges_rise.result) ↔ IsRising bs in subst P c.blocks-2.ensures c.edges_rise.ensures
