use Rattle.std.proofs.lemmas.Result.{IfOk-weaker}
use Rattle.theory_rules.specs.Ways.{outer_of}
use Rattle.numbered_branches.specs.Branches.{branch_at}
use Rattle.numbered_theory.specs.Places.{place_at}
use Rattle.numbered_theory.proofs.TrichotomyMove.{case_made}
use Rattle.numbered_theory.proofs.trichotomy.outer_case.Goals as goal

pub case-requires-clause-branch : goal.case-requires-clause-branch
case-requires-clause-branch c = (rw c.terms.ensures at c.in_ok-outer.ensures).0

pub returns-clause-made : goal.returns-clause-made
returns-clause-made c =
    let ts = c.args.store.now.terms in
    let outer = rw c.terms.ensures at c.in_ok-outer.ensures in
    IfOk-weaker c.case.result _ _ (λ m made. case_made ts c.case.new.store.terms c.in_ok-outer.outer (outer_of (branch_at ts c.args.branch.now) (place_at ts c.args.place.now)) c.args.way m outer made) c.case.ensures.made
