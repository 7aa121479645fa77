use Rattle.term_bank.specs.Numbered.{at}
use Rattle.numbered_branches.proofs.OneBranch.{begun_over, case_of, fact_now, made_now, added_now}
use Rattle.numbered_branches.proofs.cases.case.Goals as goal

pub append_one-requires : goal.append_one-requires
append_one-requires c = record { term = c.requires.term; made = begun_over c.args.store.now.terms c.args.branch c.begun-made.result c.begun-made.ensures c.requires.branch }

pub add-requires : goal.add-requires
add-requires c = record {
  fact = fact_now c.append_one.new.store.terms c.terms.result.now c.terms.ensures c.in_ok-fact.fact _ c.in_ok-fact.ensures.fact;
  made = made_now c.append_one.new.store.terms c.terms.result.now c.terms.ensures c.append_one.new.made _ c.in_ok-fact.ensures.made;
}

pub returns-clause-made : goal.returns-clause-made
returns-clause-made c = let us = c.append_one.new.store.terms in
    case_of c.args.store.now.terms us c.args.branch c.begun-made.result c.add.new.made c.begun-made.ensures (at c.args.store.now.terms c.args.term)
    (added_now us c.terms.result.now c.terms.ensures c.append_one.new.made c.add.new.made _ c.in_ok-fact.ensures.made c.in_ok-fact.fact _ c.in_ok-fact.ensures.fact c.in_ok-add.ensures)
