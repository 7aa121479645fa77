use Rattle.std.proofs.Common.{subst}
use Rattle.term_bank.specs.Numbered.{at}
use Rattle.numbered_theory.specs.Reads.{ReadsBackAt}
use Rattle.numbered_theory.proofs.ReadsTried.{read_among}
use Rattle.numbered_facts.proofs.Growing.{then}
use Rattle.numbered_theory.proofs.back.read_back_among.Goals as goal

pub first_read_back-requires : goal.first_read_back-requires
first_read_back-requires c = rw c.deref.ensures.value c.in_ok-ids.ensures.gives.0

pub returns-clause-reads : goal.returns-clause-reads
returns-clause-reads c =
    let n = c.args.store.now in
    λ number. subst (ReadsBackAt c.first_read_back.new.store.terms c.first_read_back.result)
    (read_among n c.ground.new.self c.in_ok-ids.ensures.grows c.deref.result.now c.in_ok-ids.ids.items (at n.terms c.args.fact) c.deref.ensures.value c.in_ok-ids.ensures.gives) c.first_read_back.ensures.reads

pub returns-in_err-ids-clause-grows : goal.returns-in_err-ids-clause-grows
returns-in_err-ids-clause-grows c = c.ground.ensures.grows

pub returns-clause-grows : goal.returns-clause-grows
returns-clause-grows c = then c.args.store.now c.ground.new.self c.first_read_back.new.store c.in_ok-ids.ensures.grows c.first_read_back.ensures.grows
