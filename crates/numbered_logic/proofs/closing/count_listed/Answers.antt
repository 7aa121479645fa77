use Rattle.std.proofs.Common.{◌∙◌, sym, subst, ◌∷◌, [], length, take, arith}
use Rattle.std.specs.List.{AllByRecursion}
use Rattle.std.proofs.lemmas.List.{take_all}
use Rattle.logic_core.proofs.EachOf.{every_append}
use Rattle.tableau_branch.proofs.Lists.{take_item}
use Rattle.numbered_logic.specs.Apart.{IsListed}
use Rattle.numbered_logic.specs.declared.closing.Denied.{Denied}
use Rattle.numbered_logic.proofs.closing.count_listed.Goals as goal

pub loop-i-init : goal.loop-i-init
loop-i-init c = tt

pub loop-i-preserved : goal.loop-i-preserved
loop-i-preserved c =
    let ns = c.args.numbers.now in let ds = c.args.denied.now in let d = c.index-denied-i.result in
    subst (AllByRecursion (λ (x : Denied). IsListed ns x.fact)) (sym (take_item ds c.loop-i.i d c.loop-i-test.true c.index-denied-i.is))
    (every_append (λ (x : Denied). IsListed ns x.fact) (take c.loop-i.i ds) (d ∷ []) c.loop-i.invariant (sym c.is_listed-listed.ensures ∙ c.if-not-listed.false, tt))

pub returns : goal.returns
returns c =
    let ds = c.args.denied.now in
    subst (AllByRecursion (λ (x : Denied). IsListed c.args.numbers.now x.fact)) (take_all c.loop-i.i ds (omega (arith, c.loop-i-test.false)) ∙ sym (take_all (length ds) ds (omega arith))) c.loop-i.invariant
