use Rattle.std.proofs.Common.{ap, ◌∙◌}
use Rattle.std.proofs.lemmas.List.{take_all}
use Rattle.logic_core.specs.View.{trees_of}
use Rattle.bpl_faults.specs.ScopeView.{scope_seen}
use Rattle.bpl_terms.specs.TermParts.{each_term}
use Rattle.bpl_terms.proofs.TermLists.{terms_are}
use Rattle.bpl_terms.proofs.terms.+terms.Goals as goal

pub terms_in-returns-clause-tree : goal.terms_in-returns-clause-tree
terms_in-returns-clause-tree t c =
    let S = scope_seen c.args.scope.now in
    let xs = c.args.xs.now in
    ap trees_of (c.loop-x.invariant.made ∙ ap (each_term S c.args.in_old) (take_all c.loop-x.x-index xs c.loop-x-test.false)) ∙ terms_are S c.args.in_old xs
