use Rattle.std.proofs.Common.{◌<◌, ◌≤◌, rules, arith, nat_eq}
use Rattle.std.specs.List.{list_any}
use mathlib.Core.Path.{sym, ◌∙◌}
use Rattle.quantifier_triggers.proofs.Lists.{all_from, not_all_from}
use Rattle.quantifier_triggers.proofs.choice.covers.Goals as goal

pub returns-then-not-is_among : goal.returns-then-not-is_among
returns-then-not-is_among c =
    let lt : c.loop-variable.variable < c.args.variables = search rules in
    sym (not_all_from (λ v. list_any (nat_eq v) c.args.numbers.now) 0 c.args.variables c.loop-variable.variable (omega arith) (omega (arith, lt)) (sym c.is_among.ensures ∙ c.if-not-is_among.true))

pub returns : goal.returns
returns c =
    let done : c.args.variables ≤ c.loop-variable.variable = search rules in
    sym (all_from (λ v. list_any (nat_eq v) c.args.numbers.now) 0 c.args.variables (λ v lt. c.loop-variable.invariant v (omega (arith, done, lt))))
