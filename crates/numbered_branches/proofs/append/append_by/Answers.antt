use Rattle.term_bank.specs.Numbered.{at}
use Rattle.numbered_branches.specs.StepView.{step_seen}
use Rattle.numbered_branches.proofs.Appending.{by_over, by_fact, by_made}
use Rattle.numbered_branches.proofs.append.append_by.Goals as goal

pub append_one-requires : goal.append_one-requires
append_one-requires c = record { term = c.requires.term; made = by_over c.args.store.now.terms c.args.store.now.terms (step_seen c.args.step) c.args.made.now c.add_step.new.made c.in_ok-add_step.ensures c.requires.step c.requires.made }

pub returns-clause-fact : goal.returns-clause-fact
returns-clause-fact c = by_fact c.args.store.now.terms c.append_one.new.store.terms (step_seen c.args.step) c.args.made.now c.add_step.new.made c.in_ok-add_step.ensures c.append_one.result (at c.args.store.now.terms c.args.term) c.append_one.ensures.fact

pub returns-clause-made : goal.returns-clause-made
returns-clause-made c = by_made c.args.store.now.terms c.append_one.new.store.terms (step_seen c.args.step) c.args.made.now c.add_step.new.made c.in_ok-add_step.ensures c.append_one.result (at c.args.store.now.terms c.args.term) c.append_one.new.made c.append_one.ensures.made
