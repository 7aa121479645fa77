-- Graphs with loops, before and after they are cut: a loop whose body calls, a loop over a variable with a clause, and a loop with two invariants. A graph without loops stays as it is.
use Rattle.std.specs.Prelude.{◌≡◌, refl, false, List, [], ◌∷◌, Some}
use Rattle.logic_core.specs.Tree.{int, Tree, free, bound, read, write, equal, negation, all, some, at_most, for_all, no_trees, tree, no_patterns, pattern}
use Rattle.flow_core.specs.declared.mark.GoalKind.{GoalKind}
use Rattle.flow_core.specs.declared.mark.GoalKind.TheVariants as kind
use Rattle.flow_core.specs.declared.command.Command.{Command}
use Rattle.flow_core.specs.declared.command.Command.TheVariants.{Assert, Assume, Assign, Havoc}
use Rattle.flow_core.specs.declared.block.Block.{Block}
use Rattle.flow_core.specs.declared.block.Invariant.{Invariant}
use Rattle.flow_core.specs.Graph.{Graph}
use Rattle.loop_cut.specs.Cut.{cut}
use Rattle.loop_cut.proofs.Loop.{marked, n, plus_one, block}

abbrev less : Tree → Tree → Tree
less a b = at_most (plus_one a) b

-- i := 0; while (i < 2) { call Bump(); i := i + 1; } assert g == old(g): g is 0, its entry value 1, i is 2, and 3 keeps g at the call
abbrev calls : List Command
calls = Assume (less (free 2) (n 2)) ∷ Assign [] ∷ Assign ((3, free 0) ∷ []) ∷ Havoc (0 ∷ []) ∷ Assign [] ∷ Assign ((2, plus_one (free 2)) ∷ []) ∷ []

abbrev behind_calls : List Block
behind_calls = block (Assume (negation (less (free 2) (n 2))) ∷ []) (4 ∷ []) ∷ block (Assert (marked 11 3 kind.Assert) (equal (free 0) (free 1)) ∷ []) (5 ∷ []) ∷ block [] [] ∷ []

calls_cut : cut (record {
  blocks = block (Assign ((2, n 0) ∷ []) ∷ []) (1 ∷ []) ∷ record { commands = []; next = 2 ∷ 3 ∷ []; head = Some (record { invariants = []; targets = 0 ∷ 2 ∷ [] }) } ∷ block calls (1 ∷ []) ∷ behind_calls;
  own = 3;
  olds = (0, 1) ∷ [];
}) ≡ record {
  blocks = block (Assign ((2, n 0) ∷ []) ∷ []) (1 ∷ []) ∷ block (Havoc (0 ∷ 2 ∷ []) ∷ []) (2 ∷ 3 ∷ []) ∷ block calls [] ∷ behind_calls;
  own = 3;
  olds = (0, 1) ∷ [];
}
calls_cut = refl

-- var i: int where 0 <= i; i := 0; while (*) { i := i + 1; } assert 0 <= i: nothing is assumed of i at the head
abbrev enters : Block
enters = block (Assume (at_most (n 0) (free 0)) ∷ Assign ((0, n 0) ∷ []) ∷ []) (1 ∷ [])

abbrev steps : List Command
steps = Assign ((0, plus_one (free 0)) ∷ []) ∷ []

abbrev behind_steps : List Block
behind_steps = block [] (4 ∷ []) ∷ block (Assert (marked 5 3 kind.Assert) (at_most (n 0) (free 0)) ∷ []) (5 ∷ []) ∷ block [] [] ∷ []

steps_cut : cut (record {
  blocks = enters ∷ record { commands = []; next = 2 ∷ 3 ∷ []; head = Some (record { invariants = []; targets = 0 ∷ [] }) } ∷ block steps (1 ∷ []) ∷ behind_steps;
  own = 1;
  olds = [];
}) ≡ record { blocks = enters ∷ block (Havoc (0 ∷ []) ∷ []) (2 ∷ 3 ∷ []) ∷ block steps [] ∷ behind_steps; own = 1; olds = [] }
steps_cut = refl

-- i := 0; while (i < n) invariant 0 <= i && i <= n; invariant a is filled up to i; { a[i] := i; i := i + 1; }: n is 0, a is 1, i is 2
abbrev is_filled : Tree → Tree
is_filled end = for_all (int ∷ []) (pattern (tree (read (free 1) (bound 0)) no_trees) no_patterns)
    (some (tree (negation (all (tree (at_most (n 0) (bound 0)) (tree (less (bound 0) end) no_trees)))) (tree (equal (read (free 1) (bound 0)) (bound 0)) no_trees)))

abbrev within : Tree
within = all (tree (at_most (n 0) (free 2)) (tree (at_most (free 2) (free 0)) no_trees))

abbrev invariants : List Invariant
invariants = record { free = false; place = record { line = 8; col = 5 }; formula = within } ∷ record { free = false; place = record { line = 9; col = 5 }; formula = is_filled (free 2) } ∷ []

abbrev asserted : GoalKind → List Command
asserted k = Assert (marked 8 5 k) within ∷ Assert (marked 9 5 k) (is_filled (free 2)) ∷ []

abbrev behind_fills : List Block
behind_fills = block (Assume (negation (less (free 2) (free 0))) ∷ []) (4 ∷ []) ∷ block [] (5 ∷ []) ∷ block (Assert (marked 3 3 kind.Ensures) (is_filled (free 0)) ∷ []) [] ∷ []

fills_cut : cut (record {
  blocks = block (Assume (at_most (n 0) (free 0)) ∷ Assign ((2, n 0) ∷ []) ∷ []) (1 ∷ [])
      ∷ record { commands = []; next = 2 ∷ 3 ∷ []; head = Some (record { invariants = invariants; targets = 1 ∷ 2 ∷ [] }) }
      ∷ block (Assume (less (free 2) (free 0)) ∷ Assign ((1, write (free 1) (free 2) (free 2)) ∷ []) ∷ Assign ((2, plus_one (free 2)) ∷ []) ∷ []) (1 ∷ [])
      ∷ behind_fills;
  own = 3;
  olds = [];
}) ≡ record {
  blocks = block (Assume (at_most (n 0) (free 0)) ∷ Assign ((2, n 0) ∷ []) ∷ asserted kind.InvariantEntry) (1 ∷ [])
      ∷ block (Havoc (1 ∷ 2 ∷ []) ∷ Assume within ∷ Assume (is_filled (free 2)) ∷ []) (2 ∷ 3 ∷ [])
      ∷ block (Assume (less (free 2) (free 0)) ∷ Assign ((1, write (free 1) (free 2) (free 2)) ∷ []) ∷ Assign ((2, plus_one (free 2)) ∷ []) ∷ asserted kind.InvariantKept) []
      ∷ behind_fills;
  own = 3;
  olds = [];
}
fills_cut = refl

-- if (v0 == 1) { return; } assert v0 == 2, with a postcondition
abbrev returns : Graph
returns = record {
  blocks = block [] (1 ∷ 3 ∷ [])
      ∷ block (Assume (equal (free 0) (n 1)) ∷ []) (5 ∷ [])
      ∷ block [] (4 ∷ [])
      ∷ block (Assume (negation (equal (free 0) (n 1))) ∷ []) (4 ∷ [])
      ∷ block (Assert (marked 4 3 kind.Assert) (equal (free 0) (n 2)) ∷ []) (5 ∷ [])
      ∷ block (Assert (marked 2 3 kind.Ensures) (at_most (n 0) (free 0)) ∷ []) []
      ∷ [];
  own = 1;
  olds = [];
}

returns_stay : cut returns ≡ returns
returns_stay = refl
