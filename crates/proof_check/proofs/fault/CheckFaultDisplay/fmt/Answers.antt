use Rattle.proof_check.proofs.fault.CheckFaultDisplay.fmt.Goals as goal

pub returns-in-Rejected-clause-writes : goal.returns-in-Rejected-clause-writes
returns-in-Rejected-clause-writes g c = rw c.in-Rejected.is c.write-in-Rejected.ensures.writes
