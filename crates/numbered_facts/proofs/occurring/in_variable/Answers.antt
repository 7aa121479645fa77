use Rattle.std.proofs.Common.{◌∙◌, sym, ap}
use Rattle.logic_core.specs.Same.{same_term}
use Rattle.logic_core.specs.Subterm.{occurs}
use Rattle.term_bank.specs.Numbered.{at}
use Rattle.term_bank.specs.Node.{tree_over}
use Rattle.numbered_facts.proofs.occurring.in_variable.Goals as goal

pub returns-in-Free : goal.returns-in-Free
returns-in-Free c = let ts = c.args.terms.now in let t = at ts c.args.part in
    let e = sym c.node.ensures.node ∙ ap (tree_over (at ts)) c.in-Free.is in
    c.is_same.ensures ∙ ap (same_term t) e ∙ sym (ap (occurs t) e)
