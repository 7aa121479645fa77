-- The equations of the early return's postcondition, and an assignment that makes their goal false.
use Rattle.std.specs.Prelude.{◌≡◌, refl, true, false, ℕ, pos, List, [], ◌∷◌}
use Rattle.logic_core.specs.Tree.{Tree, boolean, int, free, equal, negation, some, all, call, no_trees}
use Rattle.logic_core.specs.Def.{Def}
use Rattle.logic_core.specs.Value.{whole, flag}
use Rattle.flow_core.specs.State.{State, HoldsIn}
use Rattle.flow_core.proofs.Samples.{n, returns_early}
use Rattle.passive_form.specs.declared.passive.Passive.{Passive}
use Rattle.passive_form.specs.Incarnations.{passify}
use Rattle.block_wp.specs.declared.sequent.Sequent.{Sequent}
use Rattle.block_wp.specs.Equations.{equations, block_definition}
use Rattle.logic_core.specs.View.{trees_of}

abbrev passive : Passive
passive = passify returns_early (boolean ∷ int ∷ [])

abbrev either : List Tree → Def
either ts = block_definition (some (trees_of ts))

abbrev f : ℕ → Tree
f k = call k no_trees

abbrev no : Tree → Tree
no t = negation t

-- blocks 5 to 0; block 2, which nothing reaches, leads there too
abbrev expected : Sequent
expected = record {
  defs = either (equal (free 5) (n 1) ∷ [])
      ∷ either (no (equal (free 4) (n 1)) ∷ no (equal (free 5) (free 4)) ∷ f 0 ∷ [])
      ∷ either (no (negation (free 0)) ∷ no (equal (free 3) (free 2)) ∷ f 1 ∷ [])
      ∷ either (no (equal (free 3) (free 1)) ∷ f 1 ∷ [])
      ∷ either (no (free 0) ∷ no (equal (free 5) (free 2)) ∷ f 0 ∷ [])
      ∷ either (no (equal (free 2) (n 0)) ∷ all (trees_of (f 4 ∷ f 2 ∷ [])) ∷ [])
      ∷ [];
  goal = f 5;
}

are_the_equations : equations passive [] 5 0 ≡ expected
are_the_equations = refl

abbrev frees : State
frees = flag true ∷ whole (pos 8) ∷ whole (pos 0) ∷ whole (pos 3) ∷ whole (pos 1) ∷ whole (pos 0) ∷ []

is_false : ¬ HoldsIn (equations passive [] 5 0).defs frees (equations passive [] 5 0).goal
is_false = λ h. cc

-- where b is false the goal holds
abbrev other : State
other = flag false ∷ whole (pos 8) ∷ whole (pos 0) ∷ whole (pos 0) ∷ whole (pos 1) ∷ whole (pos 1) ∷ []

holds : HoldsIn (equations passive [] 5 0).defs other (equations passive [] 5 0).goal
holds = refl
