use Rattle.std.proofs.Common.{◌≡◌, ◌+◌, map, rules}
use Rattle.term_bank.specs.Numbered.{at}
use Rattle.logic_rules.proofs.NewVariables.{variables_end}
use Rattle.numbered_logic.proofs.Later.{grows_same, grows_then}
use Rattle.numbered_logic.proofs.Several.{given_low}
use Rattle.numbered_logic.proofs.Witnesses.{variables_next}
use Rattle.numbered_facts.proofs.Growing.{then}
use Rattle.numbered_logic.proofs.skolemizing.new_variables.Goals as goal

pub loop-sort-preserved : goal.loop-sort-preserved
loop-sort-preserved c =
    let m = c.loop-sort.store in let o = c.make.new.self in let h = c.make.ensures.grows in let made = c.in_ok-variable.ensures.gives in
    let next : c.in_ok-number.number ≡ c.loop-sort.number + 1 = search rules in
    record {
      grows = grows_then c.args.store.now m o c.loop-sort.invariant.grows h;
      low = given_low m.terms o.terms c.loop-sort.variables.items _ c.in_ok-variable.variable h.terms c.loop-sort.invariant.low made.0 c.in_ok-push.ensures.items;
      ahead = rw next (variables_next m.terms o.terms c.args.sorts.now c.loop-sort._sort-index c.loop-sort.number c.loop-sort.variables.items _ c.in_ok-variable.variable _ h.terms c.loop-sort.invariant.low c.loop-sort-test.true made.1 c.in_ok-push.ensures.items c.loop-sort.invariant.ahead);
    }

pub returns-clause-are : goal.returns-clause-are
returns-clause-are c = (c.loop-sort.invariant.low, variables_end c.args.sorts.now c.loop-sort._sort-index c.loop-sort.number (map (at (c.loop-sort.store).terms) c.loop-sort.variables.items) _ c.loop-sort-test.false c.loop-sort.invariant.ahead)

pub returns-in_err-variable-clause-grows : goal.returns-in_err-variable-clause-grows
returns-in_err-variable-clause-grows c = then c.args.store.now c.loop-sort.store c.make.new.self c.loop-sort.invariant.grows c.make.ensures.grows

pub returns-in_err-push-clause-grows : goal.returns-in_err-push-clause-grows
returns-in_err-push-clause-grows c = then c.args.store.now c.loop-sort.store c.make.new.self c.loop-sort.invariant.grows c.make.ensures.grows
