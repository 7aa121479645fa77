use Rattle.std.proofs.Common.{◌∙◌, ◌-◌, ap, get_or, arith}
use Rattle.term_bank.proofs.Numbers.{begins_length}
use Rattle.numbered_instances.specs.Shared.{times}
use Rattle.numbered_instances.proofs.SharedAtoms.{atoms_less}
use Rattle.numbered_facts.proofs.Growing.{same}
use Rattle.numbered_instances.proofs.shared.leave_fact.Goals as goal

pub returns-in-Some-clause-less : goal.returns-in-Some-clause-less
returns-in-Some-clause-less c = atoms_less c.args.store.now.terms c.args.id c.in-Some.kept.now c.args.counts.now.items c.take_each.new.counts.items c.requires c.in-Some.ensures c.take_each.ensures

pub returns-clause-less : goal.returns-clause-less
returns-clause-less c = let us = c.atoms.new.self.terms in let old = c.args.counts.now.items in
    atoms_less us c.args.id c.in_ok-atoms.atoms.items old c.take_each-2.new.counts.items (omega (arith, c.requires, begins_length c.args.store.now.terms us c.in_ok-atoms.ensures.grows.terms)) c.in_ok-atoms.ensures.atoms
    (λ j. c.take_each-2.ensures j ∙ ap (λ xs. get_or old j 0 - times j xs) c.deref.ensures.value)

pub returns-in-Some-clause-grows : goal.returns-in-Some-clause-grows
returns-in-Some-clause-grows c = same c.args.store.now
