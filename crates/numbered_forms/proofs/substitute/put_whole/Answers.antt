use Rattle.std.proofs.Common.{IfOk, subst}
use Rattle.term_bank.specs.Table.{IsNodeAt}
use Rattle.numbered_terms.specs.At.{IsAt}
use Rattle.numbered_terms.specs.Lists.{terms_at}
use Rattle.numbered_forms.proofs.Substituting.{rebuilt}
use Rattle.numbered_forms.proofs.substitute.put_whole.Goals as goal

pub make-requires : goal.make-requires
make-requires c = let is : IsNodeAt c.args.terms.now c.args.id c.node.result.now = (c.node.ensures.node, c.node.ensures.lower) in
    (rebuilt c.args.terms.now (terms_at c.args.terms.now c.args.args.now) c.args.depth c.args.deeper c.args.id c.args.found.now.entries c.node.result.now c.in_ok-node.node is c.requires.other c.requires.deeper (c.requires.parts c.node.result.now is) c.in_ok-node.ensures).0

pub returns-clause-gives : goal.returns-clause-gives
returns-clause-gives c = let is : IsNodeAt c.args.terms.now c.args.id c.node.result.now = (c.node.ensures.node, c.node.ensures.lower) in
    let r = rebuilt c.args.terms.now (terms_at c.args.terms.now c.args.args.now) c.args.depth c.args.deeper c.args.id c.args.found.now.entries c.node.result.now c.in_ok-node.node is c.requires.other c.requires.deeper (c.requires.parts c.node.result.now is) c.in_ok-node.ensures in
    subst (λ t. IfOk c.make.result (λ i. IsAt c.make.new.self i t)) r.1 c.make.ensures.number
