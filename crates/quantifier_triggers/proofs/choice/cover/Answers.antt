use Rattle.std.proofs.Common.{rules, ap}
use mathlib.Core.Path.{sym, ◌∙◌}
use Rattle.quantifier_triggers.specs.Candidates.{covers}
use Rattle.quantifier_triggers.proofs.Choosing.{cover_step, cover_ends, cover_end}
use Rattle.quantifier_triggers.proofs.choice.cover.Goals as goal

pub returns-then-covers : goal.returns-then-covers
returns-then-covers c =
    cover_ends c.args.variables c.loop-candidate.covered.items c.loop-candidate.taken.items _ _ c.loop-candidate.invariant (ap (covers c.args.variables) (sym c.deref.ensures.value) ∙ sym c.covers.ensures ∙ c.if-covers.true)

pub loop-candidate-preserved : goal.loop-candidate-preserved
loop-candidate-preserved c =
    cover_step (λ x. x.now) c.args.candidates.now c.loop-candidate.candidate-index c.candidate-item.result (search rules) (search rules) c.args.variables c.loop-candidate.covered.items c.loop-candidate.taken.items _ c.loop-candidate.invariant
    (ap (covers c.args.variables) (sym c.deref.ensures.value) ∙ sym c.covers.ensures ∙ c.if-covers.false) _ _ c.in_ok-take_new.ensures.covered c.in_ok-take_new.ensures.taken

pub returns : goal.returns
returns c =
    c.if_covering.ensures ∙ cover_end c.args.variables c.loop-candidate.covered.items c.loop-candidate.taken.items _ (λ x. x.now) c.args.candidates.now c.loop-candidate.candidate-index (search rules) c.loop-candidate.invariant
