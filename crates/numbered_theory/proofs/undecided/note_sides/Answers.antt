use Rattle.std.proofs.Common.{sym, subst, ap, ◌∷◌, [], ℕ, take, arith}
use Rattle.std.specs.List.{AllByRecursion}
use Rattle.std.proofs.lemmas.List.{take_all}
use Rattle.logic_core.proofs.EachOf.{every_append, every_map}
use Rattle.tableau_branch.proofs.Lists.{take_item}
use Rattle.numbered_theory.specs.Leads.{side_entry, IsNoted}
use Rattle.numbered_theory.proofs.LeadsNoted.{noted_more}
use Rattle.numbered_theory.proofs.undecided.note_sides.Goals as goal

pub loop-side-init : goal.loop-side-init
loop-side-init c = tt

pub loop-side-preserved : goal.loop-side-preserved
loop-side-preserved c =
    let ts = c.args.terms.now in let old = c.loop-side.leads in let new = c.note.new.self in let i = c.loop-side.side-index in let ss = c.args.sides.now in let s = c.side-item.result in
    let here = rw c.side_entry.ensures at c.in_ok-note.ensures.noted in
    subst (AllByRecursion (λ (j : ℕ). IsNoted ts new.above new.below (side_entry j))) (sym (take_item ss i s c.loop-side-test.true c.side-item.is))
    (every_append (λ (j : ℕ). IsNoted ts new.above new.below (side_entry j)) (take i ss) (s ∷ [])
    (every_map (λ (j : ℕ). IsNoted ts old.above old.below (side_entry j)) (λ (j : ℕ). IsNoted ts new.above new.below (side_entry j)) (λ j. noted_more old.above old.below new.above new.below c.in_ok-note.ensures.above c.in_ok-note.ensures.below ts (side_entry j)) (take i ss) c.loop-side.invariant) (here, tt))

pub returns : goal.returns
returns c = subst (AllByRecursion (λ (j : ℕ). IsNoted c.args.terms.now c.loop-side.leads.above c.loop-side.leads.below (side_entry j))) (take_all c.loop-side.side-index c.args.sides.now (omega (arith, c.loop-side-test.false))) c.loop-side.invariant
