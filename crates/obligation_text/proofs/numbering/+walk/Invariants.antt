use Rattle.std.proofs.Common.{◌≡◌, ◌+◌, ◌*◌, fold, drop}
use Rattle.obligation_text.specs.Numbering.{visited}
use Rattle.obligation_text.proofs.numbering.+walk.Given as goal

abbrev pub decreases-visit : goal.decreases-visit
decreases-visit l = 2 * l.depth

abbrev pub decreases-visit_each : goal.decreases-visit_each
decreases-visit_each l = 2 * l.depth + 1

-- with those that are left comes the order after all
abbrev pub invariant-visit_each-loop-f : goal.invariant-visit_each-loop-f
invariant-visit_each-loop-f l = fold (visited l.defs l.depth) l.order (drop l.f-index l.called) ≡ fold (visited l.defs l.depth) l.fn.order l.called
