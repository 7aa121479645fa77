use Rattle.std.proofs.Common.{◌≡◌, ◌∙◌, sym, ap, FitsSigned, rules}
use Rattle.std.specs.Int.{w128}
use Rattle.std.proofs.lemmas.Int.{to_z-of_z}
use Rattle.logic_core.specs.Tree.{linear}
use Rattle.logic_core.specs.View.{parts_of}
use Rattle.term_bank.specs.Numbered.{at}
use Rattle.term_bank.specs.Node.{tree_over}
use Rattle.numbered_terms.specs.Lists.{atoms_at}
use Rattle.numbered_forms.proofs.sum.NumberedSum.add_term.Goals as goal

pub returns-in-Sum-clause-gives : goal.returns-in-Sum-clause-gives
returns-in-Sum-clause-gives c =
    let ts = c.args.terms.now in
    let fits : FitsSigned w128 c.in-Sum.c = search rules in
    let shape : at ts c.args.id ≡ linear (parts_of (atoms_at ts c.in-Sum.parts.items)) c.in-Sum.c = sym c.node.ensures.node ∙ ap (tree_over (at ts)) c.in-Sum.is in
    rw shape (rw (to_z-of_z w128 c.args.k c.ranges.k, c.deref.ensures.value, to_z-of_z w128 c.in-Sum.c fits) at c.add_sum.ensures.gives)
