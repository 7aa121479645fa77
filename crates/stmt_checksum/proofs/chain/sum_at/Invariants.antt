use Rattle.std.proofs.Common.{◌≡◌, drop}
use Rattle.stmt_checksum.specs.Chain.{first_sum, sum_at}
use Rattle.stmt_checksum.proofs.chain.sum_at.Given as goal

abbrev pub invariant-loop-link : goal.invariant-loop-link
invariant-loop-link l = sum_at l.place l.sum (drop l.link-index l.links) ≡ sum_at l.place first_sum l.links
