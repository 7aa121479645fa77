use Rattle.std.proofs.Common.{◌≡◌, ◌∙◌, ap, List, [], ◌∷◌, ◌++◌}
use Rattle.term_bank.specs.declared.node.Node.{Node}
use Rattle.numbered_terms.proofs.Stores.{next_node, next_terms}
use Rattle.numbered_terms.proofs.nodes.Nodes.push.Goals as goal

pub invariant_of-self-2 : goal.invariant_of-self-2
invariant_of-self-2 c =
    let r : c.reserve.new.self.items ≡ c.self.inside.nodes.items = c.in_ok-reserve.ensures.items in
    let q : c.put_node.new.nodes.items ≡ c.self.inside.nodes.items ++ c.args.node ∷ [] = c.put_node.ensures ∙ ap (λ (xs : List Node). xs ++ c.args.node ∷ []) r in
    next_node c.args.self.now c.self.inside.nodes.items c.put_node.new.nodes.items c.self.inside.index c.push.new.self c.args.node c.args.hash c.self.view_is c.self.invariant c.requires.lower c.requires.new c.requires.hash q c.in_ok-push.ensures.ok

pub returns-clause-ok : goal.returns-clause-ok
returns-clause-ok c =
    let r : c.reserve.new.self.items ≡ c.self.inside.nodes.items = c.in_ok-reserve.ensures.items in
    let q : c.put_node.new.nodes.items ≡ c.self.inside.nodes.items ++ c.args.node ∷ [] = c.put_node.ensures ∙ ap (λ (xs : List Node). xs ++ c.args.node ∷ []) r in
    next_terms c.args.self.now c.self.inside.nodes.items c.put_node.new.nodes.items c.args.node c.self.view_is q
