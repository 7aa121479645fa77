use Rattle.std.proofs.Common.{◌≡◌, ◌∙◌, sym, ap, FitsSigned, rules}
use Rattle.std.specs.Int.{w128}
use Rattle.std.proofs.lemmas.Int.{to_z-of_z}
use Rattle.logic_terms.specs.Tree.{linear}
use Rattle.logic_core.specs.View.{parts_of}
use Rattle.logic_core.specs.TermView.{tree_of}
use Rattle.logic_core.proofs.sum.Linear.add_term.Goals as goal

pub returns-in-Sum : goal.returns-in-Sum
returns-in-Sum c =
    let fits : FitsSigned w128 c.in-Sum.c = search rules in
    let shape : c.args.t ≡ linear (parts_of c.in-Sum.parts.items) c.in-Sum.c = sym c.into_node.ensures ∙ ap tree_of c.in-Sum.is in
    rw shape (rw (to_z-of_z w128 c.args.k c.ranges.k, to_z-of_z w128 c.in-Sum.c fits) at c.add_sum.ensures)
