use Rattle.std.proofs.Common.{sym, subst, ◌∙◌}
use Rattle.bpl_dependencies.specs.Reach.{edges_seen, AreEdges}
use Rattle.bpl_dependencies.specs.Ranks.{NeverFall}
use Rattle.bpl_dependencies.proofs.dependencies.Dependencies.of.Goals as goal

pub invariant_of-result : goal.invariant_of-result
invariant_of-result c = (
  subst (λ t. AreEdges t (edges_seen c.in_ok-edges.edges.items)) (c.table.ensures ∙ sym c.new.ensures) c.in_ok-edges.ensures,
  subst (λ es. NeverFall c.in_ok-ranks.ranks.items (edges_seen es)) c.deref-2.ensures.value c.in_ok-ranks.ensures,
)
