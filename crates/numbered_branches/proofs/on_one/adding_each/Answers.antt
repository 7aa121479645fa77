use Rattle.std.proofs.Common.{List, length, map, sym, subst}
use Rattle.std.specs.List.{AllByRecursion}
use Rattle.tableau_branch.specs.Change.{added_each}
use Rattle.term_bank.specs.Numbered.{at}
use Rattle.numbered_branches.specs.Branches.{NumberedFact, IsFactBelow, fact_at, made_at, step_at}
use Rattle.numbered_branches.specs.Standing.{IsMadeAt}
use Rattle.numbered_branches.specs.StepView.{step_seen}
use Rattle.numbered_branches.specs.View.{move_seen}
use Rattle.numbered_branches.proofs.OneBranch.{begun_over, moved, adds_each, facts_now, made_now, all_added_now}
use Rattle.numbered_branches.proofs.on_one.adding_each.Goals as goal

pub append_each-requires : goal.append_each-requires
append_each-requires c = record { terms = c.requires.terms; step = c.requires.step; made = begun_over c.args.store.now.terms c.args.branch c.begun-made.result c.begun-made.ensures c.requires.branch }

pub add_each-requires : goal.add_each-requires
add_each-requires c = let us = c.append_each.new.store.terms in
    record {
      facts = subst (λ (fs : List NumberedFact). AllByRecursion (IsFactBelow (length c.terms.result.now)) fs) (sym c.deref.ensures.value) (facts_now us c.terms.result.now c.terms.ensures c.in_ok-facts.facts.items _ c.in_ok-facts.ensures.facts);
      made = made_now us c.terms.result.now c.terms.ensures c.append_each.new.made _ c.in_ok-facts.ensures.made;
    }

pub returns-clause-step : goal.returns-clause-step
returns-clause-step c = let us = c.append_each.new.store.terms in let ws = c.terms.result.now in
    moved move_seen c.on_one.result us c.add_each.new.made _ (adds_each c.args.store.now.terms us c.args.branch c.begun-made.result c.add_each.new.made c.begun-made.ensures (step_at c.args.store.now.terms (step_seen c.args.step)) (map (at c.args.store.now.terms) c.args.terms.now)
    (all_added_now us ws c.terms.ensures c.append_each.new.made c.add_each.new.made _ c.in_ok-facts.ensures.made c.in_ok-facts.facts.items _ c.in_ok-facts.ensures.facts
    (subst (λ (fs : List NumberedFact). IsMadeAt ws c.add_each.new.made (added_each (map (fact_at ws) fs) (made_at ws c.append_each.new.made))) c.deref.ensures.value c.in_ok-add_each.ensures))) c.on_one.ensures
