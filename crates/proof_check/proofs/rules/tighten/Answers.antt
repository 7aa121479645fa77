use Rattle.std.proofs.Common.{sym, subst}
use Rattle.linear_certs.specs.FallingLaws.{EachSumFalls}
use Rattle.linear_certs.proofs.TightFalls.{tightening_falls}
use Rattle.proof_check.proofs.rules.tighten.Goals as goal

pub new-tight-requires : goal.new-tight-requires
new-tight-requires c = subst EachSumFalls (sym c.in_ok-tighten.ensures) (tightening_falls c.args.fact.now c.requires)
