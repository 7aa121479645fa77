use Rattle.std.proofs.Common.{sym, subst}
use Rattle.term_bank.specs.Standing.{AreBehind}
use Rattle.term_bank.proofs.Led.{behind_take, led_fewer}
use Rattle.term_bank.proofs.places.Places.truncate.Goals as goal

pub invariant_of-self : goal.invariant_of-self
invariant_of-self c = subst (AreBehind 0) (sym c.truncate.ensures.items) (behind_take 0 c.args.len c.self.inside.steps.items c.self.invariant)

pub returns : goal.returns
returns c = led_fewer c.self.inside.steps.items c.truncate.new.self.items c.args.len c.args.self.now c.self.view_is c.truncate.ensures.items
