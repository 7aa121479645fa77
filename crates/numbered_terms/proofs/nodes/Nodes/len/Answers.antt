use Rattle.std.proofs.Common.{arith}
use Rattle.numbered_terms.proofs.Stores.{as_many}
use Rattle.numbered_terms.proofs.nodes.Nodes.len.Goals as goal

pub returns : goal.returns
returns c = omega (arith, c.len.ensures, as_many c.args.self.now c.self.inside.nodes.items c.self.view_is)
