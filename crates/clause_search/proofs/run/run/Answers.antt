use Rattle.std.proofs.Common.{◌≡◌, ◌≤◌, ◌∙◌, refl, sym, ap, subst, List, [], ◌∷◌, ◌++◌, map, length, reverse, arith}
use Rattle.std.specs.List.{AllByRecursion}
use Rattle.std.proofs.lemmas.List.{nil_from_length}
use Rattle.term_bank.proofs.Numbers.{begins_same, begins_then}
use Rattle.tableau.specs.RunView.{verdict_of}
use Rattle.tableau.specs.Search.{run}
use Rattle.tableau.proofs.Turns.{before_run}
use Rattle.numbered_branches.specs.Branches.{NumberedBranch, IsBranchOver, branch_at}
use Rattle.numbered_branches.specs.Moves.{IsPlayedBelow, played_at, cost}
use Rattle.clause_search.specs.Packed.{packed_move}
use Rattle.clause_search.proofs.Running.{top_over, still_below, end_last, next_over, next_below, next_run, end_proved}
use Rattle.clause_search.proofs.run.run.Goals as goal

pub loop-branch-init : goal.loop-branch-init
loop-branch-init c =
    let ts = c.args.store.now.terms in let first = c.args.first in let turns = c.args.turns in
    let one : c.push.new.self.items ≡ first ∷ [] = c.in_ok-push.ensures.items ∙ ap (λ (bs : List NumberedBranch). bs ++ first ∷ []) c.new-stack.ensures.items in
    record {
      terms = begins_same ts;
      defs = refl;
      tables = c.new-tables.ensures ts;
      over = subst (λ (bs : List NumberedBranch). AllByRecursion (IsBranchOver ts) (reverse bs)) (sym one) (c.requires, tt);
      below = subst (λ ms. AllByRecursion (IsPlayedBelow (length ts)) (map packed_move ms)) (sym c.new-moves.ensures.items) tt;
      run = λ k. before_run (map (played_at ts) (map packed_move (c.new-moves.ensures.items k))) (run c.args.store.now.defs turns turns (map (branch_at ts) (reverse (one k))));
    }

pub advance-requires : goal.advance-requires
advance-requires c = record {
  branch = (top_over c.loop-branch.store.terms c.in-Some.branch c.pop.new.self.items c.loop-branch.stack.items c.in-Some.ensures.items c.loop-branch.invariant.over).0;
  tables = c.loop-branch.invariant.tables;
}

pub overflow_sub-left : goal.overflow_sub-left
overflow_sub-left c = let comes = rw c.in-Taken.is at c.in_ok-next.ensures.comes in let paid : c.in-Taken.cost ≤ c.loop-branch.left = comes.1.1.1.0 in omega (arith, paid)

pub loop-branch-smaller : goal.loop-branch-smaller
loop-branch-smaller c = let comes = rw c.in-Taken.is at c.in_ok-next.ensures.comes in
    let paid : c.in-Taken.cost ≤ c.loop-branch.left = comes.1.1.1.0 in let price : c.in-Taken.cost ≡ cost comes.0 = comes.1.1.0 in omega (arith, paid, price)

pub loop-branch-preserved : goal.loop-branch-preserved
loop-branch-preserved c =
    let i = c.loop-branch.invariant in
    let ts = c.loop-branch.store.terms in
    let us = c.advance.new.store.terms in
    let kept = c.loop-branch.store.defs in
    let defs = c.args.store.now.defs in
    let rest = c.pop.new.self.items in
    let ms = map packed_move c.loop-branch.moves.items in
    let moves = map packed_move c.advance.new.moves.items in
    let stack = c.advance.new.stack.items in
    let comes = rw c.in-Taken.is at c.in_ok-next.ensures.comes in
    let taken = comes.1.1 in
    record {
      terms = begins_then c.args.store.now.terms ts us i.terms c.in_ok-next.ensures.terms;
      defs = (rw c.in-Taken.is at c.in_ok-next.ensures.defs) ∙ i.defs;
      tables = rw c.in-Taken.is at c.in_ok-next.ensures.tables;
      over = next_over ts c.in-Some.branch rest c.loop-branch.stack.items c.in-Some.ensures.items us c.in_ok-next.ensures.terms kept defs i.defs c.loop-branch.left ms _ i.over i.below i.run comes.0 c.in-Taken.cost taken.0 comes.1.0 taken.1.0 stack moves taken.1.1.0 taken.1.1.1;
      below = next_below ts c.in-Some.branch rest c.loop-branch.stack.items c.in-Some.ensures.items us c.in_ok-next.ensures.terms kept defs i.defs c.loop-branch.left ms _ i.over i.below i.run comes.0 c.in-Taken.cost taken.0 comes.1.0 taken.1.0 stack moves taken.1.1.0 taken.1.1.1;
      run = next_run ts c.in-Some.branch rest c.loop-branch.stack.items c.in-Some.ensures.items us c.in_ok-next.ensures.terms kept defs i.defs c.loop-branch.left ms _ i.over i.below i.run comes.0 c.in-Taken.cost taken.0 comes.1.0 taken.1.0 stack moves taken.1.1.0 taken.1.1.1;
    }

pub returns-in_err-next-clause-terms : goal.returns-in_err-next-clause-terms
returns-in_err-next-clause-terms c = begins_then c.args.store.now.terms c.loop-branch.store.terms c.advance.new.store.terms c.loop-branch.invariant.terms c.advance.ensures.terms

pub returns-in-Ended-clause-terms : goal.returns-in-Ended-clause-terms
returns-in-Ended-clause-terms c = begins_then c.args.store.now.terms c.loop-branch.store.terms c.advance.new.store.terms c.loop-branch.invariant.terms c.in_ok-next.ensures.terms

pub returns-in-Ended-clause-below : goal.returns-in-Ended-clause-below
returns-in-Ended-clause-below c = let i = c.loop-branch.invariant in
    let comes = rw c.in-Ended.is at c.in_ok-next.ensures.comes in
    subst (AllByRecursion (IsPlayedBelow (length c.advance.new.store.terms))) (sym comes.1)
    (still_below c.loop-branch.store.terms c.in-Some.branch c.pop.new.self.items c.loop-branch.stack.items c.in-Some.ensures.items c.advance.new.store.terms c.in_ok-next.ensures.terms c.loop-branch.store.defs c.args.store.now.defs i.defs c.loop-branch.left (map packed_move c.loop-branch.moves.items) _ i.over i.below i.run)

pub returns-in-Ended-clause-run : goal.returns-in-Ended-clause-run
returns-in-Ended-clause-run c = let i = c.loop-branch.invariant in
    let comes = rw c.in-Ended.is at c.in_ok-next.ensures.comes in
    (λ k. record { verdict = verdict_of c.in-Ended.verdict; moves = map (played_at c.advance.new.store.terms) (comes.1 k) })
    ∙ end_last c.loop-branch.store.terms c.in-Some.branch c.pop.new.self.items c.loop-branch.stack.items c.in-Some.ensures.items c.advance.new.store.terms c.in_ok-next.ensures.terms c.loop-branch.store.defs c.args.store.now.defs i.defs c.loop-branch.left (map packed_move c.loop-branch.moves.items) _ i.over i.below i.run
    c.in-Ended.verdict comes.0

pub returns-clause-run : goal.returns-clause-run
returns-clause-run c = let i = c.loop-branch.invariant in
    let empty : c.loop-branch.stack.items ≡ [] = nil_from_length c.loop-branch.stack.items (omega (arith, c.in_default.ensures.cases)) in
    end_proved c.args.store.now.defs c.loop-branch.store.terms c.loop-branch.left c.loop-branch.stack.items (map packed_move c.loop-branch.moves.items) _ empty i.run
