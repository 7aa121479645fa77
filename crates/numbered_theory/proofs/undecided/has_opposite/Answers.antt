use Rattle.std.proofs.Common.{ℕ, ◌<◌, Option, length}
use Rattle.numbered_branches.proofs.Listing.{all_at}
use Rattle.numbered_theory.specs.Leads.{IsLed}
use Rattle.numbered_theory.proofs.LeadAtoms.{zip_at}
use Rattle.numbered_theory.proofs.undecided.has_opposite.Goals as goal

pub is_opposite_led-requires-clause-other : goal.is_opposite_led-requires-clause-other
is_opposite_led-requires-clause-other c = all_at (λ (d : ℕ). d < length c.args.terms.now) c.args.sides.now c.loop-i.i c.index-sides-i.result c.requires.sides c.loop-i-test.true c.index-sides-i.is

pub is_opposite_led-requires-clause-theirs : goal.is_opposite_led-requires-clause-theirs
is_opposite_led-requires-clause-theirs c = zip_at (λ (s : ℕ) (o : Option ℕ). IsLed c.args.terms.now s o) c.args.sides.now c.args.atoms.now c.loop-i.i c.index-sides-i.result c.index-atoms-i.result c.requires.led c.loop-i-test.true c.index-sides-i.is c.index-atoms-i.is
