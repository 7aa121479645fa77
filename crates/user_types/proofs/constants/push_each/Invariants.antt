use Rattle.std.proofs.Common.{◌≡◌, ◌++◌, take, map}
use Rattle.user_types.specs.Views.{uniques_seen}
use Rattle.user_types.proofs.constants.push_each.Given as goal

abbrev pub invariant-loop-name : goal.invariant-loop-name
invariant-loop-name l = uniques_seen l.found.items ≡ uniques_seen l.fn.found.items ++ map (λ n. (l.user, n)) (take l.name-index l.names)
