use Rattle.std.proofs.Common.{◌∙◌, ap, get_or, arith}
use Rattle.numbered_terms.proofs.Stores.{as_many, node_seen}
use Rattle.numbered_terms.proofs.nodes.Nodes.node.Goals as goal

pub index-requires : goal.index-requires
index-requires c = omega (arith, c.requires, as_many c.args.self.now c.self.inside.nodes.items c.self.view_is)

pub returns-clause-node : goal.returns-clause-node
returns-clause-node c = (node_seen c.args.self.now c.self.inside.nodes.items c.self.inside.index c.args.id c.index.result.now c.self.view_is c.self.invariant c.requires (c.index.ensures ∙ ap (λ k. get_or c.self.inside.nodes.items k c.index.result.now) c.id.view_is)).0

pub returns-clause-lower : goal.returns-clause-lower
returns-clause-lower c = (node_seen c.args.self.now c.self.inside.nodes.items c.self.inside.index c.args.id c.index.result.now c.self.view_is c.self.invariant c.requires (c.index.ensures ∙ ap (λ k. get_or c.self.inside.nodes.items k c.index.result.now) c.id.view_is)).1
