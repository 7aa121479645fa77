-- Where the blocks assume clauses: at entry, after a havoc, and after a replaced call.
use Rattle.std.specs.Prelude.{◌≡◌, refl, true, [], ◌∷◌, map, codes, Some}
use Rattle.logic_core.specs.Tree.{int, free, at_most, equal}
use Rattle.flow_core.specs.declared.mark.GoalKind.TheVariants.{Assert as asserted}
use Rattle.flow_core.specs.declared.command.Command.TheVariants.{Assert, Assume, Assign, Havoc}
use Rattle.bpl_model.specs.Module.{havoc, modifies, requires, Proc, Module}
use Rattle.bpl_model.specs.Cut.{cut_calls}
use Rattle.bpl_model.proofs.Spelled.{at, marked, n, less, list, global_where, local_where, proc}
use Rattle.bpl_model.proofs.WithClauses.{b, calls}
use Rattle.bpl_blocks.specs.Blocks.{block, to_blocks}

-- x is 0 and the result 1
b_blocks : (to_blocks calls (cut_calls calls b)).blocks ≡
    block (
    Assume (less (n 0) (free 0))
    ∷ Assign [] ∷ Assign [] ∷ Havoc (1 ∷ []) ∷ Assume (at_most (n 0) (free 1)) ∷ Assign ((0, free 1) ∷ [])
    ∷ Assert (marked 4 3 asserted) (at_most (n 0) (free 0))
    ∷ Assert (marked 5 3 asserted) (less (n 0) (free 0))
    ∷ Havoc (0 ∷ []) ∷ Assume (less (n 0) (free 0))
    ∷ Assert (marked 7 3 asserted) (less (n 0) (free 0)) ∷ []) (1 ∷ [])
    ∷ block [] [] ∷ []
b_blocks = refl

-- of the declarations "var g, h: int where ..;", "var k: int where ..;" and P the last names h alone: the clauses of g and h are assumed, and that of k isn't
abbrev p : Proc
p = proc (codes "P") (local_where (codes "a") int (less (n 1) (free 6)) ∷ []) (local_where (codes "r") int (less (n 2) (free 7)) ∷ []) (local_where (codes "x") int (less (n 3) (free 8)) ∷ [])
    (modifies (0 ∷ 1 ∷ []) ∷ requires true (at 2 3) (equal (free 0) (n 4)) ∷ []) (Some (list (havoc (at 4 3) (8 ∷ 0 ∷ []) ∷ [])))

abbrev m : Module
m = record {
  consts = [];
  axioms = [];
  functions = [];
  globals = global_where (codes "g") int (less (n 0) (free 0)) ∷ global_where (codes "h") int (less (n 0) (free 1)) ∷ global_where (codes "k") int (less (n 0) (free 2)) ∷ [];
  procs = p ∷ [];
  texts =
      record { name = codes "g"; text = []; contract = []; leads = []; contract_leads = [] }
      ∷ record { name = codes "k"; text = []; contract = []; leads = []; contract_leads = [] }
      ∷ record { name = codes "P"; text = []; contract = []; leads = 0 ∷ []; contract_leads = 0 ∷ [] } ∷ [];
}

-- after the havoc the clause of the global stands first
p_first : map (λ k. k.commands) (to_blocks m (cut_calls m p)).blocks ≡
    (
    Assume (less (n 0) (free 0)) ∷ Assume (less (n 0) (free 1)) ∷ Assume (less (n 1) (free 6)) ∷ Assume (less (n 2) (free 7)) ∷ Assume (less (n 3) (free 8)) ∷ Assume (equal (free 0) (n 4))
    ∷ Havoc (8 ∷ 0 ∷ []) ∷ Assume (less (n 0) (free 0)) ∷ Assume (less (n 3) (free 8)) ∷ []
    ) ∷ [] ∷ []
p_first = refl
