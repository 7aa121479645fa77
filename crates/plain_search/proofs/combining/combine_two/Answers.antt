use Rattle.std.proofs.Common.{◌≡◌, arith}
use Rattle.logic_core.specs.Tighten.{gcd}
use Rattle.theory_rules.specs.Combining.{lead_size}
use Rattle.theory_rules.proofs.Multipliers.{divisor_positive}
use Rattle.plain_search.proofs.combining.combine_two.Goals as goal

pub nonzero_div-first_times : goal.nonzero_div-first_times
nonzero_div-first_times c = let g : c.gcd-g.result ≡ gcd (lead_size c.args.d.now) (lead_size c.args.e.now) = cc in let above = divisor_positive c.args.d.now c.args.e.now c.requires in omega (arith, g, above)

pub nonzero_div-second_times : goal.nonzero_div-second_times
nonzero_div-second_times c = let g : c.gcd-g.result ≡ gcd (lead_size c.args.d.now) (lead_size c.args.e.now) = cc in let above = divisor_positive c.args.d.now c.args.e.now c.requires in omega (arith, g, above)
