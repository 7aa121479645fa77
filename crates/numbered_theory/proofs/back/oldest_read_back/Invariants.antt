use Rattle.std.proofs.Common.{◌≡◌, drop, flat_map, map}
use Rattle.tableau_branch.specs.Branch.{first_attempt}
use Rattle.numbered_terms.specs.Stored.{Grows}
use Rattle.numbered_branches.specs.Branches.{fact_at}
use Rattle.theory_rules.specs.Back.{accesses_in}
use Rattle.theory_rules.specs.ReadsBack.{moved_back}
use Rattle.numbered_theory.specs.Places.{over}
use Rattle.numbered_theory.proofs.back.oldest_read_back.Given as goal

abbrev pub invariant-loop-fact : goal.invariant-loop-fact
invariant-loop-fact l = record {
  grows : Grows l.fn.store l.store;
  first : first_attempt (moved_back l.fn.store.defs (over l.fn.store.vars)) (flat_map accesses_in (map (fact_at l.fn.store.terms) (drop l.fact-index l.facts))) ≡ first_attempt (moved_back l.fn.store.defs (over l.fn.store.vars)) (flat_map accesses_in (map (fact_at l.fn.store.terms) l.facts));
}
