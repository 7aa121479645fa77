use Rattle.std.proofs.Common.{◌≡◌, ◌∙◌, sym, ap, subst, ℕ, List, option_map}
use Rattle.logic_core.specs.Tree.{Tree}
use Rattle.tableau_branch.specs.Branch.{At, oldest}
use Rattle.logic_rules.specs.Rewriting.{left_in_another, rewritten_by}
use Rattle.numbered_branches.specs.Branches.{branch_at}
use Rattle.numbered_branches.proofs.Changing.{branch_more}
use Rattle.numbered_instances.specs.Lefts.{left_at}
use Rattle.numbered_instances.specs.Shared.{AreShared}
use Rattle.numbered_instances.proofs.Attempted.{rule_passes, rule_gives, rule_leaves}
use Rattle.numbered_instances.proofs.SharedAtoms.{counted_on}
use Rattle.numbered_facts.proofs.Growing.{then}
use Rattle.numbered_instances.proofs.rewriting.rewrite.Goals as goal

pub rewrite_by-requires-clause-branch : goal.rewrite_by-requires-clause-branch
rewrite_by-requires-clause-branch c = (branch_more c.args.store.now.terms c.oldest_left.new.store.terms c.in_ok-found.ensures.grows.terms c.args.branch c.requires.branch).0

pub rewrite_by-requires-clause-vars : goal.rewrite_by-requires-clause-vars
rewrite_by-requires-clause-vars c = c.in_ok-found.ensures.grows.vars ∙ c.requires.vars

pub rewrite_by-requires-clause-fact : goal.rewrite_by-requires-clause-fact
rewrite_by-requires-clause-fact c = (rw c.in-Some.is at c.in_ok-found.ensures.over).0

pub rewrite_by-requires-clause-left : goal.rewrite_by-requires-clause-left
rewrite_by-requires-clause-left c = (rw c.in-Some.is at c.in_ok-found.ensures.over).1

pub rewrite_by-requires-clause-shared : goal.rewrite_by-requires-clause-shared
rewrite_by-requires-clause-shared c = let s = c.oldest_left.new.shared in
    subst (λ (is : List ℕ). AreShared c.oldest_left.new.store.terms is s.counts.items) c.in_ok-found.ensures.listed c.in_ok-found.ensures.counted.1

pub returns-in_err-made-in-Some-clause-tries : goal.returns-in_err-made-in-Some-clause-tries
returns-in_err-made-in-Some-clause-tries c =
    let n = c.args.store.now in let m = c.oldest_left.new.store in let b = c.args.branch in let found = c.in_ok-found.ensures in let B = branch_at n.terms b in
    rule_leaves (λ d x (a : At Tree). rewritten_by d x a.fact a.what) n m found.grows b c.requires.branch c.rewrite_by.new.store.terms (oldest (left_in_another n.defs B) B)
    c.from_residual-in_err-made-in-Some.result (left_at m.terms c.in-Some.found) c.in_err-made-in-Some.field-0.0 (sym found.left ∙ ap (option_map (left_at m.terms)) c.in-Some.is) c.from_residual-in_err-made-in-Some.ensures.1 c.in_err-made-in-Some.ensures.gives

pub returns-in_ok-made-in-Some-clause-tries : goal.returns-in_ok-made-in-Some-clause-tries
returns-in_ok-made-in-Some-clause-tries c =
    let n = c.args.store.now in let m = c.oldest_left.new.store in let b = c.args.branch in let found = c.in_ok-found.ensures in let B = branch_at n.terms b in
    rule_gives (λ d x (a : At Tree). rewritten_by d x a.fact a.what) n m found.grows b c.requires.branch c.rewrite_by.new.store.terms (oldest (left_in_another n.defs B) B)
    c.in_ok-made-in-Some.made (left_at m.terms c.in-Some.found) (sym found.left ∙ ap (option_map (left_at m.terms)) c.in-Some.is) c.in_ok-made-in-Some.ensures.gives

pub returns-in-None-clause-tries : goal.returns-in-None-clause-tries
returns-in-None-clause-tries c =
    let n = c.args.store.now in let m = c.oldest_left.new.store in let b = c.args.branch in let found = c.in_ok-found.ensures in let B = branch_at n.terms b in
    rule_passes (λ d x (a : At Tree). rewritten_by d x a.fact a.what) n m found.grows b c.requires.branch m.terms (oldest (left_in_another n.defs B) B) (sym found.left ∙ ap (option_map (left_at m.terms)) c.in-None.is)

pub returns-in_ok-made-in-Some-clause-counted : goal.returns-in_ok-made-in-Some-clause-counted
returns-in_ok-made-in-Some-clause-counted c = counted_on c.oldest_left.new.store.terms c.rewrite_by.new.store.terms c.in_ok-made-in-Some.ensures.grows.terms c.oldest_left.new.shared c.in_ok-found.ensures.counted

pub returns-in_err-made-in-Some-clause-grows : goal.returns-in_err-made-in-Some-clause-grows
returns-in_err-made-in-Some-clause-grows c = then c.args.store.now c.oldest_left.new.store c.rewrite_by.new.store c.oldest_left.ensures.grows c.rewrite_by.ensures.grows

pub returns-in_ok-made-in-Some-clause-grows : goal.returns-in_ok-made-in-Some-clause-grows
returns-in_ok-made-in-Some-clause-grows c = then c.args.store.now c.oldest_left.new.store c.rewrite_by.new.store c.oldest_left.ensures.grows c.rewrite_by.ensures.grows
