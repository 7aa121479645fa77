use Rattle.std.proofs.Common.{◌≡◌, ◌++◌, drop, length, map, reverse, vec_len}
use Rattle.tableau.specs.Search.{begin_each}
use Rattle.tableau_branch.specs.View.{each_steps}
use Rattle.tableau.specs.PartialView.{partial_of, partials_of}
use Rattle.tableau.proofs.assembly.begin_each.Given as goal

abbrev pub invariant-loop-first : goal.invariant-loop-first
invariant-loop-first l = record {
  begun : map partial_of l.begun.items ++ begin_each (each_steps (reverse l.steps.items)) (partials_of l.stack.items) ≡ begin_each (each_steps l.fn.steps.items) (partials_of l.fn.stack.items);
  left : drop (length (reverse l.steps.items)) (partials_of l.stack.items) ≡ drop (length l.fn.steps.items) (partials_of l.fn.stack.items);
}

abbrev pub decreases-loop-first : goal.decreases-loop-first
decreases-loop-first l = vec_len l.steps
