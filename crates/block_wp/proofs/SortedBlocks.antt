-- In a graph whose formulas are well sorted, each command of a block has a formula.
use Rattle.std.specs.Prelude.{◌≡◌, ℕ, zero, suc, List, [], ◌∷◌, take, slice_get, Some, All}
use Rattle.std.specs.List.{AllByRecursion}
use Rattle.std.proofs.lemmas.List.Elements.{recursion_from_All}
use mathlib.Core.Path.{subst}
use Rattle.logic_core.specs.Tree.{Kind}
use Rattle.logic_core.specs.Def.{Def}
use Rattle.logic_core.specs.WellSorted.{IsFormula}
use Rattle.flow_core.specs.declared.command.Command.{Command}
use Rattle.passive_form.specs.declared.passive.PassiveBlock.{PassiveBlock}
use Rattle.passive_form.specs.declared.passive.Passive.{Passive}
use Rattle.passive_form.specs.Passive.{passive_block_at, formula_in}
use Rattle.block_wp.specs.Broken.{FormulasAreSorted}

-- the block's commands have formulas
pub sorted_block : (defs : List Def) (g : Passive) → FormulasAreSorted defs g → (b : ℕ) → AllByRecursion (λ c. IsFormula g.vars defs (formula_in c)) (passive_block_at g.blocks b).commands
sorted_block defs g sorted b = by_blocks g.blocks (recursion_from_All (λ k. All (λ c. IsFormula g.vars defs (formula_in c)) k.commands) g.blocks sorted) b
  where
    by_blocks : (ks : List PassiveBlock) → AllByRecursion (λ k. All (λ c. IsFormula g.vars defs (formula_in c)) k.commands) ks → (b : ℕ) → AllByRecursion (λ c. IsFormula g.vars defs (formula_in c)) (passive_block_at ks b).commands
    by_blocks [] h b = tt
    by_blocks (k ∷ ks) h zero = recursion_from_All (λ c. IsFormula g.vars defs (formula_in c)) k.commands h.0
    by_blocks (k ∷ ks) h (suc b) = by_blocks ks h.1 b

-- the first of them, and one of them
module _ (vars : List Kind) (defs : List Def) where
  abbrev HasFormula : Command → Type 0
  HasFormula c = IsFormula vars defs (formula_in c)

  pub sorted_take : (n : ℕ) (cs : List Command) → AllByRecursion HasFormula cs → AllByRecursion HasFormula (take n cs)
  sorted_take zero cs s = tt
  sorted_take (suc n) [] s = tt
  sorted_take (suc n) (c ∷ cs) s = (s.0, sorted_take n cs s.1)

  pub sorted_at : (n : ℕ) (cs : List Command) (c : Command) → slice_get cs n ≡ Some c → AllByRecursion HasFormula cs → HasFormula c
  sorted_at n [] c e s = absurd cc
  sorted_at zero (d ∷ cs) c e s = let same : d ≡ c = cc in subst HasFormula same s.0
  sorted_at (suc n) (d ∷ cs) c e s = sorted_at n cs c e s.1
