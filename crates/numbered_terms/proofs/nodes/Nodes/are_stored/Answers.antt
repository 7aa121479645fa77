use Rattle.std.proofs.Common.{subst, true}
use Rattle.term_bank.specs.declared.node.Node.TheVariants.{Truth}
use Rattle.numbered_terms.specs.Stored.{AreStored}
use Rattle.numbered_terms.proofs.Stores.{are_stored}
use Rattle.numbered_terms.proofs.nodes.Nodes.are_stored.Goals as goal

pub returns : goal.returns
returns c = subst AreStored c.self.view_is (are_stored c.self.inside.nodes.items c.self.inside.index (Truth true) c.self.invariant)
