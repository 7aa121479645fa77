-- The definitions and the goal over the blocks that were found are the equations.
use Rattle.std.specs.Prelude.{◌≡◌, ℕ, true, cond, List, ◌++◌, map, length, ◌==◌}
use Rattle.std.specs.List.{list_any}
use Rattle.logic_core.specs.Tree.{truth}
use Rattle.logic_core.specs.Def.{Def}
use Rattle.passive_form.specs.declared.passive.Passive.{Passive}
use Rattle.block_wp.specs.declared.sequent.Sequent.{Sequent}
use Rattle.block_wp.specs.declared.reached.Reached.{Reached}
use Rattle.block_wp.specs.Equations.{block_call, block_definition, body_of, equations}
use Rattle.block_wp.specs.Numbers.{IsReached}

abbrev pub over : Passive → List Def → ℕ → Reached → Sequent
over g defs at r = record {
  defs = defs ++ map (λ b. block_definition (body_of g r.given r.blocks r.last at b)) r.blocks;
  goal = cond (list_any (λ y. y == 0) r.blocks) (block_call r.given r.blocks 0) (truth true);
}

pub are_equations : (g : Passive) (defs : List Def) (k at : ℕ) (r : Reached) → IsReached g (length defs) k r → over g defs at r ≡ equations g defs k at
are_equations g defs k at r h = λ j. over g defs at (record { given = h.given j; last = h.last j; blocks = h.blocks j; table = r.table })
