use Rattle.term_bank.specs.Candidate.{IsCandidate, followers}
use Rattle.term_bank.proofs.table.Table.find.Given as goal

abbrev pub invariant-loop-latest : goal.invariant-loop-latest
invariant-loop-latest l = IsCandidate l.self.terms l.term l.latest

abbrev pub decreases-loop-latest : goal.decreases-loop-latest
decreases-loop-latest l = followers l.latest
