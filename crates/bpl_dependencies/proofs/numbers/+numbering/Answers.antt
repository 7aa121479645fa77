use Rattle.std.proofs.Common.{ap, sym, ◌∙◌, [], arith}
use Rattle.bpl_scopes.specs.Positions.{beside}
use Rattle.bpl_dependencies.specs.Reach.{edges_seen}
use Rattle.bpl_dependencies.proofs.NextNumbers.{number_made}
use Rattle.bpl_dependencies.proofs.numbers.+numbering.Goals as goal

pub number-returns : goal.number-returns
number-returns t c =
    let E = edges_seen c.args.edges.now in
    c.in_ok-push.ensures.pushed
    ∙ number_made c.args.table.now E c.args.name.now c.args.room c.args.order.now c.number_each.new.order c.edges_at-next.result.now c.requires (omega (arith, c.if-room-eq0.false)) (sym c.contains.ensures ∙ c.if-contains.false) (c.edges_at-next.ensures ∙ ap (beside [] E) c.find.ensures) c.in_ok-number_each.ensures
