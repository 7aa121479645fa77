use Rattle.std.proofs.Common.{◌≡◌, ◌++◌, drop}
use Rattle.std.specs.Prelude.{flat_map}
use Rattle.stmt_checksum.specs.ContractDigests.{digest_at}
use Rattle.stmt_checksum.proofs.digests.push_digests.Given as goal

abbrev pub invariant-loop-at : goal.invariant-loop-at
invariant-loop-at l = l.bytes.items ++ flat_map (digest_at l.digests) (drop l.at-index l.positions) ≡ l.fn.bytes.items ++ flat_map (digest_at l.digests) l.positions
