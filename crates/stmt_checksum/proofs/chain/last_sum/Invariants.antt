use Rattle.std.proofs.Common.{◌≡◌, drop}
use Rattle.stmt_checksum.specs.Chain.{first_sum, last_sum}
use Rattle.stmt_checksum.proofs.chain.last_sum.Given as goal

abbrev pub invariant-loop-link : goal.invariant-loop-link
invariant-loop-link l = last_sum l.sum (drop l.link-index l.links) ≡ last_sum first_sum l.links
