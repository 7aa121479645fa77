use Rattle.std.proofs.Common.{◌≡◌, ◌∙◌, ◌<◌, sym, ap, subst, option_map, arith}
use Rattle.std.specs.List.{AllByRecursion}
use Rattle.logic_core.specs.Tree.{Tree}
use Rattle.term_bank.specs.Numbered.{at}
use Rattle.term_bank.specs.Node.{tree_over, numbers_in}
use Rattle.quantifier_triggers.specs.Match.{as_read}
use Rattle.numbered_instances.proofs.Passing.{reads_find}
use Rattle.numbered_instances.proofs.passed.found_alone.Goals as goal

pub returns-in-Read-clause-finds : goal.returns-in-Read-clause-finds
returns-in-Read-clause-finds c = let ts = c.args.terms.now in
    reads_find (at ts c.args.pattern) (at ts c.args.term) (at ts c.in-Read.index) (sym c.reads_bound.ensures ∙ c.if-not-reads_bound.false)
    (ap (λ (t : Tree). option_map (λ (r : Tree × Tree). r.1) (as_read t)) (sym c.node.ensures.node ∙ ap (tree_over (at ts)) c.in-Read.is))

pub returns-in-Read-clause-within : goal.returns-in-Read-clause-within
returns-in-Read-clause-within c = omega (arith, c.requires.term, (subst (λ m. AllByRecursion (λ j. j < c.args.term) (numbers_in m)) c.in-Read.is c.node.ensures.lower).1.0)
