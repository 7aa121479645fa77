use Rattle.std.proofs.Common.{◌≡◌, ◌∙◌, sym, subst, false}
use Rattle.logic_core.specs.Subterm.{occurs}
use Rattle.term_bank.specs.Numbered.{at}
use Rattle.numbered_branches.specs.Branches.{NumberedFact}
use Rattle.numbered_branches.proofs.Unpicked.{passed, plain_atom}
use Rattle.numbered_branches.proofs.passing.is_passed.Goals as goal

pub is_without-requires-clause-kind : goal.is_without-requires-clause-kind
is_without-requires-clause-kind c = (plain_atom c.args.store.now.terms c.args.replacing.now (c.requires.plain c.if-not-plain.false)).1

pub returns : goal.returns
returns c = λ e. let n = c.args.store.now in let r = c.args.replacing.now in
    passed n r c.requires.replacing c.args.made.now c.requires.made c.args.place c.args.fact.now c.requires.fact c.requires.vars (c.requires.plain c.if-not-plain.false)
    (subst (λ (f : NumberedFact). occurs (at n.terms r.left) (at n.terms f.term) ≡ false) c.fact.view_is (c.is_without.ensures e))
