use Rattle.clause_search.specs.Rare.{rare_of}
use Rattle.numbered_branches.specs.Branches.{branch_at}
use Rattle.clause_search.proofs.FirstAt.{tries_err}
use Rattle.clause_search.proofs.by_trees.through_trees.Goals as goal

pub returns-in_err-same-clause-tries : goal.returns-in_err-same-clause-tries
returns-in_err-same-clause-tries c = let b = branch_at c.args.store.now.terms c.args.branch in
    tries_err c.args.store.now.terms b c.from_residual.result c.in_err-same.field-0.0 (rare_of c.args.store.now.defs c.args.rule b) c.from_residual.ensures.1 c.in_err-same.ensures
