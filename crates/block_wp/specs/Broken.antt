-- An assignment that breaks an assertion along a path from block 0 makes the goal of its equations false.
use Rattle.std.specs.Prelude.{ℕ, ◌<◌, List, ◌∷◌, All, Contains}
use Rattle.logic_core.specs.Def.{Def}
use Rattle.logic_core.specs.WellSorted.{IsFormula}
use Rattle.flow_core.specs.declared.mark.Mark.{Mark}
use Rattle.flow_core.specs.State.{State, HoldsIn}
use Rattle.passive_form.specs.declared.passive.PassiveBlock.{PassiveBlock}
use Rattle.passive_form.specs.declared.passive.Passive.{Passive}
use Rattle.passive_form.specs.Passive.{passive_block_at, formula_in, BreaksAlong}
use Rattle.block_wp.specs.Equations.{equations}

-- every edge goes to a higher number
abbrev pub EdgesRise : List PassiveBlock → Type 0
EdgesRise blocks = (b c : ℕ) → Contains (passive_block_at blocks b).next c → b < c

abbrev pub FormulasAreSorted : List Def → Passive → Type 0
FormulasAreSorted defs g = All (λ b. All (λ c. IsFormula g.vars defs (formula_in c)) b.commands) g.blocks

abbrev pub EquationsBreak : Type 0
EquationsBreak =
    (g : Passive) (defs : List Def) → EdgesRise g.blocks → FormulasAreSorted defs g
    → (frees : State) (path : List ℕ) (k at : ℕ) (m : Mark) → BreaksAlong defs g frees (0 ∷ path) k at m
    → ¬ HoldsIn (equations g defs k at).defs frees (equations g defs k at).goal
