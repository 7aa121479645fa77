use Rattle.std.proofs.Common.{◌∙◌, ◌+◌, ap, get_or, arith}
use Rattle.std.proofs.lemmas.Result.{on_ok_weaker}
use Rattle.term_bank.proofs.Numbers.{begins_length}
use Rattle.numbered_instances.specs.Shared.{times}
use Rattle.numbered_instances.proofs.SharedAtoms.{atoms_more}
use Rattle.numbered_facts.proofs.Growing.{same}
use Rattle.numbered_instances.proofs.shared.count_fact.Goals as goal

pub returns-in-Some-clause-more : goal.returns-in-Some-clause-more
returns-in-Some-clause-more c =
    on_ok_weaker c.add_each.result (λ more. atoms_more c.args.store.now.terms c.args.id c.in-Some.kept.now c.args.counts.now.items c.add_each.new.counts.items c.requires c.in-Some.ensures more) c.add_each.ensures

pub returns-clause-more : goal.returns-clause-more
returns-clause-more c = let us = c.atoms.new.self.terms in let old = c.args.counts.now.items in
    atoms_more us c.args.id c.in_ok-atoms.atoms.items old c.add_each-2.new.counts.items (omega (arith, c.requires, begins_length c.args.store.now.terms us c.in_ok-atoms.ensures.grows.terms)) c.in_ok-atoms.ensures.atoms
    (λ j. c.in_ok-add_each.ensures j ∙ ap (λ xs. get_or old j 0 + times j xs) c.deref.ensures.value)

pub returns-in-Some-clause-grows : goal.returns-in-Some-clause-grows
returns-in-Some-clause-grows c = same c.args.store.now
