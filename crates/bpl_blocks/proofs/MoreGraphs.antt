-- Graphs of procedures that call others, of a loop whose body calls, and of loops with a clause and with invariants.
use Rattle.std.specs.Prelude.{◌≡◌, refl, false, List, [], ◌∷◌, codes, Some}
use Rattle.logic_core.specs.Tree.{int, map, Tree, free, bound, read, write, equal, negation, some, at_most, for_all, no_trees, tree, no_patterns, pattern}
use Rattle.flow_core.specs.declared.mark.GoalKind.TheVariants as kind
use Rattle.flow_core.specs.declared.command.Command.TheVariants.{Assert, Assume, Assign, Havoc}
use Rattle.flow_core.specs.declared.block.Invariant.{Invariant}
use Rattle.flow_core.specs.Graph.{Graph}
use Rattle.bpl_model.specs.Module.{assign, while, requires, ensures, Proc, Module}
use Rattle.bpl_model.specs.Cut.{cut_calls}
use Rattle.bpl_model.proofs.Spelled.{at, marked, n, less, sum, and, list, local, global, program, proc}
use Rattle.bpl_model.proofs.Programs.{inc, main, bump, bumps_twice, need, needs_twice}
use Rattle.bpl_model.proofs.WithClauses as clauses
use Rattle.bpl_blocks.specs.Blocks.{block, to_blocks}

abbrev graph : Module → Proc → Graph
graph m p = to_blocks m (cut_calls m p)

-- the call's argument is 1 and its result 2
main_graph : graph (program [] (inc ∷ main ∷ [])) main ≡ record {
  blocks = block (
      Assign ((0, n 5) ∷ [])
      ∷ Assign ((1, free 0) ∷ []) ∷ Assign [] ∷ Havoc (2 ∷ []) ∷ Assume (equal (free 2) (sum (free 1) (n 1))) ∷ Assign ((0, free 2) ∷ [])
      ∷ Assert (marked 4 3 kind.Assert) (equal (free 0) (n 6)) ∷ []) (1 ∷ [])
      ∷ block (Assert (marked 2 3 kind.Ensures) (less (n 5) (free 0)) ∷ []) []
      ∷ [];
  own = 1;
  olds = [];
}
main_graph = refl

-- the global 0, which the callee modifies, is a target with the counter 2; 3 keeps its old value and is none
bumps_twice_graph : graph (program (global (codes "g") int ∷ []) (bump ∷ bumps_twice ∷ [])) bumps_twice ≡ record {
  blocks = block (Assign ((2, n 0) ∷ []) ∷ []) (1 ∷ [])
      ∷ record { commands = []; next = 2 ∷ 3 ∷ []; head = Some (record { invariants = []; targets = 0 ∷ 2 ∷ [] }) }
      ∷ block (
      Assume (less (free 2) (n 2))
      ∷ Assign [] ∷ Assign ((3, free 0) ∷ []) ∷ Havoc (0 ∷ []) ∷ Assign []
      ∷ Assign ((2, sum (free 2) (n 1)) ∷ []) ∷ []) (1 ∷ [])
      ∷ block (Assume (negation (less (free 2) (n 2))) ∷ []) (4 ∷ [])
      ∷ block (Assert (marked 11 3 kind.Assert) (equal (free 0) (free 1)) ∷ []) (5 ∷ [])
      ∷ block [] []
      ∷ [];
  own = 3;
  olds = (0, 1) ∷ [];
}
bumps_twice_graph = refl

needs_twice_graph : graph (program [] (need ∷ needs_twice ∷ [])) needs_twice ≡ record {
  blocks = block (
      Assign ((0, n 1) ∷ []) ∷ Assert (marked 2 3 (kind.Requires 1)) (less (n 0) (free 0)) ∷ Assign [] ∷ Havoc [] ∷ Assign []
      ∷ Assign ((1, n 0) ∷ []) ∷ Assert (marked 3 3 (kind.Requires 1)) (less (n 0) (free 1)) ∷ Assign [] ∷ Havoc [] ∷ Assign [] ∷ []) (1 ∷ [])
      ∷ block [] []
      ∷ [];
  own = 0;
  olds = [];
}
needs_twice_graph = refl

-- the clause is assumed at entry, and not at the head
loop_graph : graph clauses.loop clauses.c ≡ record {
  blocks = block (Assume (at_most (n 0) (free 0)) ∷ Assign ((0, n 0) ∷ []) ∷ []) (1 ∷ [])
      ∷ record { commands = []; next = 2 ∷ 3 ∷ []; head = Some (record { invariants = []; targets = 0 ∷ [] }) }
      ∷ block (Assign ((0, sum (free 0) (n 1)) ∷ []) ∷ []) (1 ∷ [])
      ∷ block [] (4 ∷ [])
      ∷ block (Assert (marked 5 3 kind.Assert) (at_most (n 0) (free 0)) ∷ []) (5 ∷ [])
      ∷ block [] []
      ∷ [];
  own = 1;
  olds = [];
}
loop_graph = refl

-- (forall k: int :: {a[k]} 0 <= k && k < end ==> a[k] == k), the map being variable 1
abbrev is_filled : Tree → Tree
is_filled end = for_all (int ∷ []) (pattern (tree (read (free 1) (bound 0)) no_trees) no_patterns)
    (some (tree (negation (and (at_most (n 0) (bound 0)) (less (bound 0) end))) (tree (equal (read (free 1) (bound 0)) (bound 0)) no_trees)))

abbrev within : List Invariant
within = record { free = false; place = at 8 5; formula = and (at_most (n 0) (free 2)) (at_most (free 2) (free 0)) } ∷ record { free = false; place = at 9 5; formula = is_filled (free 2) } ∷ []

-- Fill(n) returns (a) requires 0 <= n ensures a is filled up to n: i := 0; while (i < n) .. { a[i] := i; i := i + 1; }
abbrev fill : Proc
fill = proc (codes "Fill") (local (codes "n") int ∷ []) (local (codes "a") (map int) ∷ []) (local (codes "i") int ∷ []) (requires false (at 2 3) (at_most (n 0) (free 0)) ∷ ensures false (at 3 3) (is_filled (free 0)) ∷ []) (Some (list (
    assign (at 6 3) ((2, n 0) ∷ [])
    ∷ while (at 7 3) (Some (less (free 2) (free 0))) within (list (assign (at 11 5) ((1, write (free 1) (free 2) (free 2)) ∷ []) ∷ assign (at 12 5) ((2, sum (free 2) (n 1)) ∷ []) ∷ [])) ∷ [])))

fill_graph : graph (program [] (fill ∷ [])) fill ≡ record {
  blocks = block (Assume (at_most (n 0) (free 0)) ∷ Assign ((2, n 0) ∷ []) ∷ []) (1 ∷ [])
      ∷ record { commands = []; next = 2 ∷ 3 ∷ []; head = Some (record { invariants = within; targets = 1 ∷ 2 ∷ [] }) }
      ∷ block (Assume (less (free 2) (free 0)) ∷ Assign ((1, write (free 1) (free 2) (free 2)) ∷ []) ∷ Assign ((2, sum (free 2) (n 1)) ∷ []) ∷ []) (1 ∷ [])
      ∷ block (Assume (negation (less (free 2) (free 0))) ∷ []) (4 ∷ [])
      ∷ block [] (5 ∷ [])
      ∷ block (Assert (marked 3 3 kind.Ensures) (is_filled (free 0)) ∷ []) []
      ∷ [];
  own = 3;
  olds = [];
}
fill_graph = refl
