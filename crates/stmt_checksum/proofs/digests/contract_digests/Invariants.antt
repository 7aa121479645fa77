use Rattle.std.proofs.Common.{◌≡◌, take}
use Rattle.stmt_checksum.specs.ContractDigests.{digests_of}
use Rattle.stmt_checksum.proofs.digests.contract_digests.Given as goal

abbrev pub invariant-loop-text : goal.invariant-loop-text
invariant-loop-text l = l.digests.items ≡ digests_of (take l.text-index l.texts)
