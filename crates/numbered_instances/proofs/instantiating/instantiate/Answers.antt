use Rattle.std.proofs.Common.{◌≡◌, ◌∙◌, sym, ap, find, option_map}
use Rattle.logic_rules.specs.Instantiating.{Candidate, instantiated_by, is_unmarked, candidates}
use Rattle.numbered_branches.specs.Branches.{branch_at}
use Rattle.numbered_branches.proofs.Changing.{branch_more}
use Rattle.numbered_instances.specs.Candidates.{candidate_at}
use Rattle.numbered_instances.proofs.Attempted.{rule_passes, rule_gives, rule_leaves}
use Rattle.numbered_facts.proofs.Growing.{then}
use Rattle.numbered_instances.proofs.instantiating.instantiate.Goals as goal

pub instantiate_by-requires-clause-branch : goal.instantiate_by-requires-clause-branch
instantiate_by-requires-clause-branch c = (branch_more c.args.store.now.terms c.first_candidate.new.store.terms c.in_ok-found.ensures.grows.terms c.args.branch c.requires.branch).0

pub instantiate_by-requires-clause-vars : goal.instantiate_by-requires-clause-vars
instantiate_by-requires-clause-vars c = c.in_ok-found.ensures.grows.vars ∙ c.requires.vars

pub instantiate_by-requires-clause-fact : goal.instantiate_by-requires-clause-fact
instantiate_by-requires-clause-fact c = (rw c.in-Some.is at c.in_ok-found.ensures.within).0

pub instantiate_by-requires-clause-tuple : goal.instantiate_by-requires-clause-tuple
instantiate_by-requires-clause-tuple c = (rw c.in-Some.is at c.in_ok-found.ensures.within).1

pub instantiate_by-requires-clause-ands : goal.instantiate_by-requires-clause-ands
instantiate_by-requires-clause-ands c = (rw c.in-Some.is at c.in_ok-found.ensures.within).2

pub returns-in_err-made-in-Some-clause-tries : goal.returns-in_err-made-in-Some-clause-tries
returns-in_err-made-in-Some-clause-tries c =
    let n = c.args.store.now in let m = c.first_candidate.new.store in let b = c.args.branch in let found = c.in_ok-found.ensures in
    rule_leaves (λ d x (a : Candidate). instantiated_by d x a) n m found.grows b c.requires.branch c.instantiate_by.new.store.terms (find (is_unmarked (branch_at n.terms b)) (candidates n.defs (branch_at n.terms b)))
    c.from_residual-in_err-made-in-Some.result (candidate_at m.terms c.in-Some.found) c.in_err-made-in-Some.field-0.0 (sym found.first ∙ ap (option_map (candidate_at m.terms)) c.in-Some.is) c.from_residual-in_err-made-in-Some.ensures.1 c.in_err-made-in-Some.ensures.gives

pub returns-in_ok-made-in-Some-clause-tries : goal.returns-in_ok-made-in-Some-clause-tries
returns-in_ok-made-in-Some-clause-tries c =
    let n = c.args.store.now in let m = c.first_candidate.new.store in let b = c.args.branch in let found = c.in_ok-found.ensures in
    rule_gives (λ d x (a : Candidate). instantiated_by d x a) n m found.grows b c.requires.branch c.instantiate_by.new.store.terms (find (is_unmarked (branch_at n.terms b)) (candidates n.defs (branch_at n.terms b)))
    c.in_ok-made-in-Some.made (candidate_at m.terms c.in-Some.found) (sym found.first ∙ ap (option_map (candidate_at m.terms)) c.in-Some.is) c.in_ok-made-in-Some.ensures.gives

pub returns-in-None-clause-tries : goal.returns-in-None-clause-tries
returns-in-None-clause-tries c =
    let n = c.args.store.now in let m = c.first_candidate.new.store in let b = c.args.branch in let found = c.in_ok-found.ensures in
    rule_passes (λ d x (a : Candidate). instantiated_by d x a) n m found.grows b c.requires.branch m.terms (find (is_unmarked (branch_at n.terms b)) (candidates n.defs (branch_at n.terms b))) (sym found.first ∙ ap (option_map (candidate_at m.terms)) c.in-None.is)

pub returns-in_err-made-in-Some-clause-grows : goal.returns-in_err-made-in-Some-clause-grows
returns-in_err-made-in-Some-clause-grows c = then c.args.store.now c.first_candidate.new.store c.instantiate_by.new.store c.first_candidate.ensures.grows c.instantiate_by.ensures.grows

pub returns-in_ok-made-in-Some-clause-grows : goal.returns-in_ok-made-in-Some-clause-grows
returns-in_ok-made-in-Some-clause-grows c = then c.args.store.now c.first_candidate.new.store c.instantiate_by.new.store c.first_candidate.ensures.grows c.instantiate_by.ensures.grows
