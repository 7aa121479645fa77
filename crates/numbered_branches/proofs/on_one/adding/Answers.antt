use Rattle.term_bank.specs.Numbered.{at}
use Rattle.numbered_branches.specs.Branches.{step_at}
use Rattle.numbered_branches.specs.StepView.{step_seen}
use Rattle.numbered_branches.specs.View.{move_seen}
use Rattle.numbered_branches.proofs.OneBranch.{begun_over, moved, adds_one, fact_now, made_now, added_now}
use Rattle.numbered_branches.proofs.on_one.adding.Goals as goal

pub append_by-requires : goal.append_by-requires
append_by-requires c = record { term = c.requires.term; step = c.requires.step; made = begun_over c.args.store.now.terms c.args.branch c.begun-made.result c.begun-made.ensures c.requires.branch }

pub add-requires : goal.add-requires
add-requires c = record {
  fact = fact_now c.append_by.new.store.terms c.terms.result.now c.terms.ensures c.in_ok-fact.fact _ c.in_ok-fact.ensures.fact;
  made = made_now c.append_by.new.store.terms c.terms.result.now c.terms.ensures c.append_by.new.made _ c.in_ok-fact.ensures.made;
}

pub returns-clause-step : goal.returns-clause-step
returns-clause-step c = let us = c.append_by.new.store.terms in
    moved move_seen c.on_one.result us c.add.new.made _ (adds_one c.args.store.now.terms us c.args.branch c.begun-made.result c.add.new.made c.begun-made.ensures (step_at c.args.store.now.terms (step_seen c.args.step)) (at c.args.store.now.terms c.args.term)
    (added_now us c.terms.result.now c.terms.ensures c.append_by.new.made c.add.new.made _ c.in_ok-fact.ensures.made c.in_ok-fact.fact _ c.in_ok-fact.ensures.fact c.in_ok-add.ensures)) c.on_one.ensures
