use Rattle.std.proofs.Common.{subst, sym}
use Rattle.bpl_dependencies.specs.Reach.{edges_seen}
use Rattle.bpl_dependencies.specs.Ranks.{NeverFall}
use Rattle.bpl_dependencies.proofs.NeverFalling.{flat_never}
use Rattle.bpl_dependencies.proofs.ranks.ranks.Goals as goal

pub returns-then-never_fall : goal.returns-then-never_fall
returns-then-never_fall c = subst (λ rs. NeverFall rs (edges_seen c.args.edges.now)) c.deref.ensures.value (c.never_fall.ensures c.if-never_fall.true)

pub returns : goal.returns
returns c = subst (λ rs. NeverFall rs (edges_seen c.args.edges.now)) (sym c.new.ensures.items) (flat_never (edges_seen c.args.edges.now))
