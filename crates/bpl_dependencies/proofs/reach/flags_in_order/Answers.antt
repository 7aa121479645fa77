use Rattle.std.proofs.Common.{subst, sym, length}
use Rattle.std.specs.Prelude.{[]}
use Rattle.bpl_dependencies.specs.Rounds.{IsUnder}
use Rattle.bpl_dependencies.proofs.InOrder.{none_under}
use Rattle.bpl_dependencies.proofs.reach.flags_in_order.Goals as goal

pub put_flags-requires : goal.put_flags-requires
put_flags-requires c = subst (λ fs. IsUnder fs []) (sym (c.in_ok-flags.ensures.items_if_clones_equal (λ y e. e))) (none_under (length c.args.base.now))
