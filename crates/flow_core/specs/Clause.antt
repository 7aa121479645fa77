-- Formulas that are read one after another at a point of a program: each is checked or only assumed.
use Rattle.std.specs.Prelude.{◌≡◌, cond, List, [], ◌∷◌, ◌⊎◌}
use Rattle.std.specs.List.{AllByRecursion}
use Rattle.logic_core.specs.Tree.{Tree}
use Rattle.logic_core.specs.Def.{Def}
use Rattle.flow_core.specs.declared.mark.GoalKind.{GoalKind}
use Rattle.flow_core.specs.declared.mark.Mark.{Mark}
use Rattle.flow_core.specs.declared.block.Invariant.{Invariant}
use Rattle.flow_core.specs.State.{State, HoldsIn}

-- checked, with the mark of its failure, or only assumed
pub data Clause : Type 0 where
  checked : Mark → Tree → Clause
  assumed : Tree → Clause

abbrev pub formula_of : Clause → Tree
formula_of (checked m E) = E
formula_of (assumed E) = E

-- an invariant as it is read at an arrival of this kind; a free one is only assumed
abbrev pub read_invariant : GoalKind → Invariant → Clause
read_invariant kind i = cond i.free (assumed i.formula) (checked (record { place = i.place; kind = kind }) i.formula)

module _ (defs : List Def) (σ : State) where
  -- every formula holds
  abbrev pub Pass : List Clause → Type 0
  Pass cs = AllByRecursion (λ c. HoldsIn defs σ (formula_of c)) cs

  -- a checked one doesn't hold, and all before it do; this is its mark
  abbrev pub Breaks : List Clause → Mark → Type 0
  Breaks [] m = ⊥
  Breaks (checked n E ∷ cs) m = ((¬ HoldsIn defs σ E) × (n ≡ m)) ⊎ (HoldsIn defs σ E × Breaks cs m)
  Breaks (assumed E ∷ cs) m = HoldsIn defs σ E × Breaks cs m
