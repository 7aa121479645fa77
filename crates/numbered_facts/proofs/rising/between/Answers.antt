use Rattle.std.proofs.Common.{◌-◌, ◌/◌, ◌<◌, arith}
use Rattle.std.proofs.lemmas.Nat.{div_below}
use Rattle.numbered_facts.proofs.rising.between.Goals as goal

pub returns : goal.returns
returns c = let d : (c.args.high - c.args.low) / 2 < c.args.high - c.args.low = div_below (c.args.high - c.args.low) 2 (c.args.high - c.args.low) (omega arith) (omega (arith, c.requires)) in (omega arith, omega (arith, d, c.requires))
