use Rattle.std.proofs.Common.{Vec, map}
use Rattle.std.specs.declared.alloc.Global.{Global}
use Rattle.term_bank.specs.Numbered.{at}
use Rattle.numbered_branches.specs.Branches.{NumberedFact}
use Rattle.numbered_branches.specs.StepView.{step_seen}
use Rattle.numbered_branches.proofs.Appending.{by_over, each_facts, each_made}
use Rattle.numbered_branches.proofs.append.append_each.Goals as goal

pub append_all-requires : goal.append_all-requires
append_all-requires c = record { terms = c.requires.terms; made = by_over c.args.store.now.terms c.args.store.now.terms (step_seen c.args.step) c.args.made.now c.add_step.new.made c.in_ok-add_step.ensures c.requires.step c.requires.made }

pub returns-clause-facts : goal.returns-clause-facts
returns-clause-facts c = each_facts c.args.store.now.terms c.append_all.new.store.terms (step_seen c.args.step) c.args.made.now c.add_step.new.made c.in_ok-add_step.ensures (λ (v : Vec NumberedFact Global). v.items) c.append_all.result (map (at c.args.store.now.terms) c.args.terms.now) c.append_all.ensures.facts

pub returns-clause-made : goal.returns-clause-made
returns-clause-made c = each_made c.args.store.now.terms c.append_all.new.store.terms (step_seen c.args.step) c.args.made.now c.add_step.new.made c.in_ok-add_step.ensures c.append_all.result (map (at c.args.store.now.terms) c.args.terms.now) c.append_all.new.made c.append_all.ensures.made
