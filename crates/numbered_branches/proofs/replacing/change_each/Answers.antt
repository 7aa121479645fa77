use Rattle.std.proofs.Common.{arith}
use Rattle.numbered_branches.specs.Replacing.{IsPassed}
use Rattle.numbered_branches.proofs.Between.{none_behind}
use Rattle.numbered_branches.proofs.replacing.change_each.Goals as goal

pub change_between-requires-clause-rest : goal.change_between-requires-clause-rest
change_between-requires-clause-rest c = none_behind c.args.store.now.terms (IsPassed c.args.store.now.terms c.args.replacing.now) c.args.made.now.branch.facts c.count_facts-count.result (omega (arith, c.count_facts-count.ensures))
