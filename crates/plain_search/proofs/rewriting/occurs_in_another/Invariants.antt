use Rattle.std.proofs.Common.{◌≡◌, drop}
use Rattle.std.specs.List.{list_any}
use Rattle.tableau_branch.specs.Replacing.{rewrites}
use Rattle.plain_search.proofs.rewriting.occurs_in_another.Given as goal

abbrev pub invariant-loop-other : goal.invariant-loop-other
invariant-loop-other l = list_any (rewrites l.number l.left) (drop l.other-index l.facts) ≡ list_any (rewrites l.number l.left) l.facts
