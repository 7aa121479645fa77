-- Graphs of procedures: one with an early return, and one with a loop that is left by a break.
use Rattle.std.specs.Prelude.{◌≡◌, refl, true, false, [], ◌∷◌, Some}
use Rattle.logic_core.specs.Tree.{free, equal, negation, truth, at_most}
use Rattle.flow_core.specs.declared.mark.GoalKind.TheVariants as kind
use Rattle.flow_core.specs.declared.command.Command.TheVariants.{Assert, Assume, Assign}
use Rattle.flow_core.specs.Graph.{Graph}
use Rattle.bpl_model.specs.Module.{Proc}
use Rattle.bpl_model.specs.Cut.{cut_calls}
use Rattle.bpl_model.proofs.Spelled.{at, marked, n, sum, program}
use Rattle.bpl_model.proofs.Programs.{breaks_out, returns_early}
use Rattle.bpl_blocks.specs.Blocks.{block, to_blocks}

abbrev graph : Proc → Graph
graph p = let m = program [] (p ∷ []) in to_blocks m (cut_calls m p)

-- the end, block 5, checks the postcondition also after the early return
returns_early_graph : graph returns_early ≡ record {
  blocks = block (Assign ((1, n 0) ∷ []) ∷ []) (1 ∷ 3 ∷ [])
      ∷ block (Assume (free 0) ∷ []) (5 ∷ [])
      ∷ block [] (4 ∷ [])
      ∷ block (Assume (negation (free 0)) ∷ []) (4 ∷ [])
      ∷ block (Assign ((1, n 1) ∷ []) ∷ []) (5 ∷ [])
      ∷ block (Assert (marked 2 3 kind.Ensures) (equal (free 1) (n 1)) ∷ []) []
      ∷ [];
  own = 2;
  olds = [];
}
returns_early_graph = refl

-- the head is block 1, the body 2 to 6, the exit 7, and 8 comes after
breaks_out_graph : graph breaks_out ≡ record {
  blocks = block (Assign ((0, n 0) ∷ []) ∷ []) (1 ∷ [])
      ∷ record { commands = []; next = 2 ∷ 7 ∷ []; head = Some (record { invariants = record { free = false; place = at 5 5; formula = at_most (free 0) (n 3) } ∷ []; targets = 0 ∷ [] }) }
      ∷ block (Assume (truth true) ∷ Assign ((0, sum (free 0) (n 1)) ∷ []) ∷ []) (3 ∷ 5 ∷ [])
      ∷ block (Assume (equal (free 0) (n 4)) ∷ []) (8 ∷ [])
      ∷ block [] (6 ∷ [])
      ∷ block (Assume (negation (equal (free 0) (n 4))) ∷ []) (6 ∷ [])
      ∷ block [] (1 ∷ [])
      ∷ block (Assume (negation (truth true)) ∷ []) (8 ∷ [])
      ∷ block (Assert (marked 10 3 kind.Assert) (equal (free 0) (n 4)) ∷ Assert (marked 11 3 kind.Assert) (at_most (free 0) (n 3)) ∷ []) (9 ∷ [])
      ∷ block [] []
      ∷ [];
  own = 1;
  olds = [];
}
breaks_out_graph = refl
