use Rattle.std.proofs.Common.{ap, subst}
use Rattle.logic_core.specs.Subterm.{outside}
use Rattle.tableau_branch.specs.Branch.{first_attempt}
use Rattle.tableau_branch.specs.Shapes.{is_access}
use Rattle.term_bank.specs.Numbered.{at}
use Rattle.numbered_theory.specs.Reads.{ReadsBackAt}
use Rattle.numbered_theory.proofs.Once.{none_picked}
use Rattle.numbered_theory.proofs.ReadsTried.{tries, fact_later}
use Rattle.numbered_facts.proofs.Growing.{then}
use Rattle.numbered_theory.proofs.back.read_back_in.Goals as goal

pub returns-in-Some-clause-reads : goal.returns-in-Some-clause-reads
returns-in-Some-clause-reads c =
    λ number. subst (ReadsBackAt c.read_back_among.new.store.terms c.read_back_among.result)
    (fact_later c.args.store.now c.access.new.self c.in_ok-first.ensures.grows c.args.fact number c.requires) (c.read_back_among.ensures.reads number)

pub returns-in-None-clause-reads : goal.returns-in-None-clause-reads
returns-in-None-clause-reads c =
    let n = c.args.store.now in
    let nothing = rw c.in-None.is at c.in_ok-first.ensures.gives in
    λ number. ap (first_attempt (tries n)) (none_picked is_access (outside (at n.terms c.args.fact)) nothing)

pub returns-in_err-first-clause-grows : goal.returns-in_err-first-clause-grows
returns-in_err-first-clause-grows c = c.access.ensures.grows

pub returns-in-Some-clause-grows : goal.returns-in-Some-clause-grows
returns-in-Some-clause-grows c = then c.args.store.now c.access.new.self c.read_back_among.new.store c.in_ok-first.ensures.grows c.read_back_among.ensures.grows

pub returns-in-None-clause-grows : goal.returns-in-None-clause-grows
returns-in-None-clause-grows c = c.in_ok-first.ensures.grows
