use Rattle.std.proofs.Common.{arith}
use Rattle.std.proofs.lemmas.Grind.{common_steps}
use Rattle.bpl_scopes.proofs.FirstAt.{has_first_new, has_first_again}
use Rattle.bpl_scopes.proofs.names.Positions.push.Goals as goal

pub invariant_of-self-then-is_new : goal.invariant_of-self-then-is_new
invariant_of-self-then-is_new c =
    has_first_new c.self.inside.first.entries c.put_first.new.first.entries c.self.inside.names.items c.push.new.self.items c.args.name c.len-at.result c.self.invariant
    (grind (arith, common_steps)) (grind (arith, common_steps)) (grind (arith, common_steps))

pub invariant_of-self-else-is_new : goal.invariant_of-self-else-is_new
invariant_of-self-else-is_new c =
    has_first_again c.self.inside.first.entries c.reserve.new.self.entries c.self.inside.names.items c.push.new.self.items c.args.name c.self.invariant
    (grind (arith, common_steps)) (grind (arith, common_steps)) (grind (arith, common_steps))
