-- A graph with a loop that is left by a break, and the same cut.
use Rattle.std.specs.Prelude.{◌≡◌, refl, ℕ, pos, true, false, List, [], ◌∷◌, Some, None}
use Rattle.logic_core.specs.Tree.{Tree, num, free, linear, part, no_parts, equal, negation, truth, at_most}
use Rattle.flow_core.specs.declared.mark.Mark.{Mark}
use Rattle.flow_core.specs.declared.mark.GoalKind.{GoalKind}
use Rattle.flow_core.specs.declared.mark.GoalKind.TheVariants as kind
use Rattle.flow_core.specs.declared.command.Command.{Command}
use Rattle.flow_core.specs.declared.command.Command.TheVariants.{Assert, Assume, Assign, Havoc}
use Rattle.flow_core.specs.declared.block.Block.{Block}
use Rattle.flow_core.specs.Graph.{Graph}
use Rattle.loop_cut.specs.Cut.{cut}

abbrev pub marked : ℕ → ℕ → GoalKind → Mark
marked l c k = record { place = record { line = l; col = c }; kind = k }

abbrev pub n : ℕ → Tree
n k = num (pos k)

abbrev pub plus_one : Tree → Tree
plus_one t = linear (part (pos 1) t (part (pos 1) (n 1) no_parts)) (pos 0)

abbrev pub block : List Command → List ℕ → Block
block cs next = record { commands = cs; next = next; head = None }

-- i := 0; while (true) invariant i <= 3; { i := i + 1; if (i == 4) { break; } } assert i == 4; assert i <= 3;
-- the head is block 1, the body 2 to 6, the exit 7, and 8 comes after
abbrev breaks_out : Graph
breaks_out = record {
  blocks = block (Assign ((0, n 0) ∷ []) ∷ []) (1 ∷ [])
      ∷ record { commands = []; next = 2 ∷ 7 ∷ []; head = Some (record { invariants = record { free = false; place = record { line = 5; col = 5 }; formula = at_most (free 0) (n 3) } ∷ []; targets = 0 ∷ [] }) }
      ∷ block (Assume (truth true) ∷ Assign ((0, plus_one (free 0)) ∷ []) ∷ []) (3 ∷ 5 ∷ [])
      ∷ block (Assume (equal (free 0) (n 4)) ∷ []) (8 ∷ [])
      ∷ block [] (6 ∷ [])
      ∷ block (Assume (negation (equal (free 0) (n 4))) ∷ []) (6 ∷ [])
      ∷ block [] (1 ∷ [])
      ∷ block (Assume (negation (truth true)) ∷ []) (8 ∷ [])
      ∷ block (Assert (marked 10 3 kind.Assert) (equal (free 0) (n 4)) ∷ Assert (marked 11 3 kind.Assert) (at_most (free 0) (n 3)) ∷ []) (9 ∷ [])
      ∷ block [] []
      ∷ [];
  own = 1;
  olds = [];
}

-- the invariant is read before both edges to the head, and the edge back is gone
abbrev breaks_out_cut : Graph
breaks_out_cut = record {
  blocks = block (Assign ((0, n 0) ∷ []) ∷ Assert (marked 5 5 kind.InvariantEntry) (at_most (free 0) (n 3)) ∷ []) (1 ∷ [])
      ∷ block (Havoc (0 ∷ []) ∷ Assume (at_most (free 0) (n 3)) ∷ []) (2 ∷ 7 ∷ [])
      ∷ block (Assume (truth true) ∷ Assign ((0, plus_one (free 0)) ∷ []) ∷ []) (3 ∷ 5 ∷ [])
      ∷ block (Assume (equal (free 0) (n 4)) ∷ []) (8 ∷ [])
      ∷ block [] (6 ∷ [])
      ∷ block (Assume (negation (equal (free 0) (n 4))) ∷ []) (6 ∷ [])
      ∷ block (Assert (marked 5 5 kind.InvariantKept) (at_most (free 0) (n 3)) ∷ []) []
      ∷ block (Assume (negation (truth true)) ∷ []) (8 ∷ [])
      ∷ block (Assert (marked 10 3 kind.Assert) (equal (free 0) (n 4)) ∷ Assert (marked 11 3 kind.Assert) (at_most (free 0) (n 3)) ∷ []) (9 ∷ [])
      ∷ block [] []
      ∷ [];
  own = 1;
  olds = [];
}

is_cut : cut breaks_out ≡ breaks_out_cut
is_cut = refl
