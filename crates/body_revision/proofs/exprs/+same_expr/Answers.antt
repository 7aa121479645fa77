use Rattle.std.proofs.Common.{sym, ◌∙◌, ap, arith}
use Rattle.bpl_ast.specs.declared.expr.Group.{Group}
use Rattle.bpl_ast.specs.declared.expr.Trigger.{Trigger}
use Rattle.body_revision.proofs.Injective.{same_there}
use Rattle.body_revision.proofs.exprs.+same_expr.Goals as goal

pub same_triggers-returns-then-not-same_trigger-clause-told : goal.same_triggers-returns-then-not-same_trigger-clause-told
same_triggers-returns-then-not-same_trigger-clause-told t c e =
    let s = same_there (λ (r : Trigger). (r.at, r.patterns.items)) c.args.mine.now c.args.theirs.now c.loop-i.i c.index-mine-i.result c.index-theirs-i.result (omega arith) (omega arith) c.index-mine-i.is c.index-theirs-i.is e in
    sym c.if-not-same_trigger.true ∙ c.same_trigger.ensures.told (ap (λ p. p.0) s, ap (λ p. p.1) s)

pub same_groups-returns-then-not-same_group-clause-told : goal.same_groups-returns-then-not-same_group-clause-told
same_groups-returns-then-not-same_group-clause-told t c e =
    let s = same_there (λ (g : Group). (g.names.items, (g.of, g.condition))) c.args.mine.now c.args.theirs.now c.loop-i.i c.index-mine-i.result c.index-theirs-i.result (omega arith) (omega arith) c.index-mine-i.is c.index-theirs-i.is e in
    sym c.if-not-same_group.true ∙ c.same_group.ensures.told (ap (λ p. p.0) s, (ap (λ p. p.1.0) s, ap (λ p. p.1.1) s))
