use Rattle.std.proofs.Common.{◌∙◌, sym, ap, subst, ◌≡◌, None, List, [], map, length}
use Rattle.std.specs.List.{AllByRecursion}
use Rattle.numbered_terms.proofs.Results.{on_ok}
use Rattle.tableau_branch.specs.Branch.{Branch}
use Rattle.logic_rules.specs.Closing.{pair_from, close}
use Rattle.numbered_branches.specs.Applied.{TriesAt}
use Rattle.numbered_branches.specs.Branches.{NumberedBranch, NumberedFact, IsFactBelow, fact_at}
use Rattle.numbered_branches.proofs.Changing.{branch_more}
use Rattle.numbered_logic.proofs.Closed.{apart_passes}
use Rattle.numbered_logic.proofs.Later.{grows_then}
use Rattle.numbered_logic.proofs.NoPair.{apart_later}
use Rattle.numbered_logic.proofs.closing.close.Goals as goal

pub are_apart-requires-clause-facts : goal.are_apart-requires-clause-facts
are_apart-requires-clause-facts c = subst (AllByRecursion (IsFactBelow (length c.args.store.now.terms))) (sym (c.deref.ensures.value ∙ ap (λ (d : NumberedBranch). d.facts) c.branch.view_is)) c.requires.branch.facts

pub returns-then-branch-clause-tries : goal.returns-then-branch-clause-tries
returns-then-branch-clause-tries c = let m = c.are_apart.new.store in let b = c.args.branch in
    apart_passes c.args.store.now m c.in_ok-are_apart.ensures.grows b c.requires.branch
    (subst (λ (fs : List NumberedFact). pair_from [] (map (fact_at m.terms) fs) ≡ None) (c.deref.ensures.value ∙ ap (λ (d : NumberedBranch). d.facts) c.branch.view_is) (c.in_ok-are_apart.ensures.none c.if-branch.true))

pub close_among-requires-clause-apart : goal.close_among-requires-clause-apart
close_among-requires-clause-apart c = c.in_ok-are_apart.ensures.apart

pub close_among-requires-clause-branch : goal.close_among-requires-clause-branch
close_among-requires-clause-branch c = (branch_more c.args.store.now.terms c.are_apart.new.store.terms c.in_ok-are_apart.ensures.grows.terms c.args.branch c.requires.branch).0

pub returns-clause-grows : goal.returns-clause-grows
returns-clause-grows c = grows_then c.args.store.now c.are_apart.new.store c.close_among.new.store c.in_ok-are_apart.ensures.grows c.close_among.ensures.grows

pub returns-clause-apart : goal.returns-clause-apart
returns-clause-apart c = let new = c.are_apart.new.self in
    on_ok c.close_among.result (apart_later c.are_apart.new.store.terms c.close_among.new.store.terms c.close_among.ensures.grows.terms new.facts new.negations c.in_ok-are_apart.ensures.apart)

pub returns-clause-tries : goal.returns-clause-tries
returns-clause-tries c = subst (λ (b : Branch). TriesAt c.close_among.new.store.terms b c.close_among.result (close b)) (branch_more c.args.store.now.terms c.are_apart.new.store.terms c.in_ok-are_apart.ensures.grows.terms c.args.branch c.requires.branch).1 c.close_among.ensures.tries
