use Rattle.std.proofs.Common.{◌≡◌, ◌+◌, [], ◌∷◌, ◌++◌, rules}
use Rattle.logic_core.specs.Tree.{free}
use Rattle.logic_rules.proofs.NewVariables.{variables_more, variables_end}
use Rattle.plain_search.proofs.skolem.new_variables.Goals as goal

pub loop-sort-preserved : goal.loop-sort-preserved
loop-sort-preserved c =
    let next : c.in_ok-number.number ≡ c.loop-sort.number + 1 = search rules in
    let pushed : c.push.new.self.items ≡ c.loop-sort.variables.items ++ free c.loop-sort.number ∷ [] = search rules in
    rw next (variables_more c.args.sorts.now c.loop-sort._sort-index c.loop-sort.number c.loop-sort.variables.items c.push.new.self.items _ c.loop-sort-test.true pushed c.loop-sort.invariant)

pub returns : goal.returns
returns c = variables_end c.args.sorts.now c.loop-sort._sort-index c.loop-sort.number c.loop-sort.variables.items _ c.loop-sort-test.false c.loop-sort.invariant
