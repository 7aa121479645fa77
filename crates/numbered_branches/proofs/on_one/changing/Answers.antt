use Rattle.std.proofs.Common.{[], ◌∷◌, arith}
use Rattle.term_bank.specs.Numbered.{at}
use Rattle.numbered_branches.specs.Branches.{step_at}
use Rattle.numbered_branches.specs.StepView.{step_seen}
use Rattle.numbered_branches.specs.View.{move_seen}
use Rattle.numbered_branches.proofs.OneBranch.{begun_over, moved, as_many, changes_one, fact_now, made_now, changed_now}
use Rattle.numbered_branches.proofs.on_one.changing.Goals as goal

pub append_by-requires : goal.append_by-requires
append_by-requires c = record { term = c.requires.term; step = c.requires.step; made = begun_over c.args.store.now.terms c.args.branch c.begun-made.result c.begun-made.ensures c.requires.branch }

pub change_at-requires : goal.change_at-requires
change_at-requires c = let same = as_many c.args.store.now.terms c.append_by.new.store.terms c.args.branch c.begun-made.result c.append_by.new.made (step_at c.args.store.now.terms (step_seen c.args.step) ∷ []) (at c.args.store.now.terms c.args.term) c.begun-made.ensures c.in_ok-fact.ensures.made in
    record {
      at = omega (arith, c.requires.place, same);
      fact = fact_now c.append_by.new.store.terms c.terms.result.now c.terms.ensures c.in_ok-fact.fact _ c.in_ok-fact.ensures.fact;
      made = made_now c.append_by.new.store.terms c.terms.result.now c.terms.ensures c.append_by.new.made _ c.in_ok-fact.ensures.made;
    }

pub returns-clause-step : goal.returns-clause-step
returns-clause-step c = let us = c.append_by.new.store.terms in
    moved move_seen c.on_one.result us c.change_at.new.made _ (changes_one c.args.store.now.terms us c.args.branch c.begun-made.result c.change_at.new.made c.begun-made.ensures c.args.place (step_at c.args.store.now.terms (step_seen c.args.step)) (at c.args.store.now.terms c.args.term)
    (changed_now us c.terms.result.now c.terms.ensures c.append_by.new.made c.change_at.new.made _ c.in_ok-fact.ensures.made c.args.place c.in_ok-fact.fact _ c.in_ok-fact.ensures.fact c.change_at.ensures.made)) c.on_one.ensures
