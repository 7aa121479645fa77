use Rattle.std.proofs.Common.{◌++◌, List, ℕ, subst, drop}
use Rattle.numbered_instances.specs.Shared.{AreShared}
use Rattle.numbered_instances.proofs.SharedAtoms.{shared_in}
use Rattle.numbered_instances.proofs.shared.count_next.Goals as goal

pub returns-in-Some-clause-counted : goal.returns-in-Some-clause-counted
returns-in-Some-clause-counted c = λ before h. subst (λ (ys : List ℕ). AreShared c.leave_until.new.store.terms (before ++ ys) c.leave_until.new.counts.items) c.in-Some.ensures.found (c.in_ok-leave_until.ensures.left before h)

pub returns-clause-counted : goal.returns-clause-counted
returns-clause-counted c = λ before h.
    shared_in c.args.store.now.terms c.count_fact.new.store.terms c.in_ok-count_fact.ensures.grows.terms before (drop c.args.at c.args.listed.now) c.args.counts.now.items c.count_fact.new.counts.items c.args.id h c.in_ok-count_fact.ensures.more
