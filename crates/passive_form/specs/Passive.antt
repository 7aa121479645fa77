-- Passive graphs, and assignments of incarnations that break an assertion along a path.
use Rattle.std.specs.Prelude.{◌≡◌, ℕ, true, List, [], ◌∷◌, map, take, slice_index_or, slice_get, Some, Contains}
use Rattle.logic_core.specs.Tree.{Tree, truth}
use Rattle.logic_core.specs.Def.{Def}
use Rattle.flow_core.specs.declared.mark.Mark.{Mark}
use Rattle.flow_core.specs.declared.command.Command.{Command}
use Rattle.flow_core.specs.declared.command.Command.TheVariants.{Assert, Assume, Assign, Havoc}
use Rattle.passive_form.specs.declared.passive.PassiveBlock.{PassiveBlock}
use Rattle.passive_form.specs.declared.passive.Passive.{Passive}
use Rattle.flow_core.specs.State.{State, HoldsIn, AllHold}

abbrev pub passive_block_at : List PassiveBlock → ℕ → PassiveBlock
passive_block_at blocks b = slice_index_or blocks b (record { commands = []; next = [] })

-- the asserted or assumed formula
abbrev pub formula_in : Command → Tree
formula_in (Assert m E) = E
formula_in (Assume E) = E
formula_in (Assign ps) = truth true
formula_in (Havoc xs) = truth true

abbrev pub formulas : List Command → List Tree
formulas cs = map formula_in cs

module _ (defs : List Def) (g : Passive) (frees : State) where
  -- the assertion at this place of the block doesn't hold, and all before it does
  pub record BreaksIn (b at : ℕ) (m : Mark) : Type 0 where
    pub formula : Tree
    pub asserted : slice_get (passive_block_at g.blocks b).commands at ≡ Some (Assert m formula)
    pub before : AllHold defs frees (formulas (take at (passive_block_at g.blocks b).commands))
    pub breaks : ¬ HoldsIn defs frees formula

  -- along a path of blocks everything holds, up to an assertion of its last block
  abbrev pub BreaksAlong : List ℕ → ℕ → ℕ → Mark → Type 0
  BreaksAlong [] k at m = ⊥
  BreaksAlong (b ∷ []) k at m = (b ≡ k) × BreaksIn k at m
  BreaksAlong (b ∷ c ∷ bs) k at m = AllHold defs frees (formulas (passive_block_at g.blocks b).commands) × Contains (passive_block_at g.blocks b).next c × BreaksAlong (c ∷ bs) k at m
