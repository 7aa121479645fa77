use Rattle.std.proofs.Common.{◌≡◌, drop, filter}
use Rattle.tableau_branch.specs.Branch.{first_attempt}
use Rattle.tableau_branch.specs.Shapes.{is_access}
use Rattle.numbered_terms.specs.Lists.{terms_at}
use Rattle.numbered_terms.specs.Stored.{Grows}
use Rattle.theory_rules.specs.ReadsBack.{moved_back}
use Rattle.numbered_theory.specs.Places.{over}
use Rattle.numbered_theory.proofs.back.first_read_back.Given as goal

abbrev pub invariant-loop-id : goal.invariant-loop-id
invariant-loop-id l = record {
  grows : Grows l.fn.store l.store;
  first : first_attempt (moved_back l.fn.store.defs (over l.fn.store.vars)) (filter is_access (terms_at l.fn.store.terms (drop l.id-index l.ids))) ≡ first_attempt (moved_back l.fn.store.defs (over l.fn.store.vars)) (filter is_access (terms_at l.fn.store.terms l.ids));
}
