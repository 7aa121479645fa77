use Rattle.std.proofs.Common.{◌≡◌, ap, length, arith}
use Rattle.term_bank.specs.Standing.{all_led}
use Rattle.term_bank.proofs.Led.{length_led}
use Rattle.term_bank.proofs.places.Places.len.Goals as goal

pub returns : goal.returns
returns c = let v : all_led c.self.inside.steps.items ≡ c.args.self.now = c.self.view_is in omega (arith, c.len.ensures, length_led c.self.inside.steps.items, ap length v)
