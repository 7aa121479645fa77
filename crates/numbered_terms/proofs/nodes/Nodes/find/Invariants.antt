use Rattle.numbered_terms.specs.Stored.{shape}
use Rattle.term_bank.specs.Candidate.{IsCandidate, followers}
use Rattle.numbered_terms.specs.Store.{shapes}
use Rattle.numbered_terms.proofs.nodes.Nodes.find.Given as goal

abbrev pub invariant-loop-latest : goal.invariant-loop-latest
invariant-loop-latest l = IsCandidate (shapes l.self-inside.nodes.items) (shape l.node) l.latest

abbrev pub decreases-loop-latest : goal.decreases-loop-latest
decreases-loop-latest l = followers l.latest
