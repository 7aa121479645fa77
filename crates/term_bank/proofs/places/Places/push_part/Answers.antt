use Rattle.std.proofs.Common.{◌≡◌, ap, length, arith}
use Rattle.term_bank.specs.declared.places.Step.TheVariants.{Within}
use Rattle.term_bank.specs.Standing.{all_led}
use Rattle.term_bank.proofs.Led.{length_led, behind_next, led_next}
use Rattle.term_bank.proofs.places.Places.push_part.Goals as goal

pub invariant_of-self-2 : goal.invariant_of-self-2
invariant_of-self-2 c = let v : all_led c.self.inside.steps.items ≡ c.args.self.now = c.self.view_is in behind_next c.self.inside.steps.items c.push.new.self.items (Within c.args.of c.args.way) c.self.invariant (omega (arith, c.requires, length_led c.self.inside.steps.items, ap length v)) c.in_ok-push.ensures.items

pub returns-clause-place : goal.returns-clause-place
returns-clause-place c = let v : all_led c.self.inside.steps.items ≡ c.args.self.now = c.self.view_is in omega (arith, c.len-place.ensures, length_led c.self.inside.steps.items, ap length v)

pub returns-clause-ok : goal.returns-clause-ok
returns-clause-ok c = led_next c.self.inside.steps.items c.push.new.self.items (Within c.args.of c.args.way) c.args.self.now c.self.view_is c.in_ok-push.ensures.items
