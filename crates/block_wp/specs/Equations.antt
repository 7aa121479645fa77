-- The equations of the blocks from which an assertion is reached, one definition for each block.
use Rattle.std.specs.Prelude.{ℕ, zero, suc, ◌+◌, nat_eq, ◌==◌, true, cond, List, [], ◌∷◌, ◌++◌, map, length, reverse, take, position, filter, unwrap_or, slice_get, Option, Some, None}
use Rattle.std.specs.List.{list_any}
use Rattle.logic_core.specs.Tree.{boolean, Tree, truth, call, negation, all, some, no_trees}
use Rattle.logic_core.specs.View.{trees_of}
use Rattle.logic_core.specs.Def.{Def}
use Rattle.flow_core.specs.declared.command.Command.{Command}
use Rattle.block_wp.specs.declared.sequent.Sequent.{Sequent}
use Rattle.passive_form.specs.declared.passive.PassiveBlock.{PassiveBlock}
use Rattle.passive_form.specs.declared.passive.Passive.{Passive}
use Rattle.passive_form.specs.Passive.{passive_block_at, formula_in, formulas}

-- of the n blocks of lowest number, those with an edge to one of bs join bs, the highest first
abbrev pub reaching_from : Passive → ℕ → List ℕ → List ℕ
reaching_from g zero bs = bs
reaching_from g (suc n) bs = reaching_from g n (cond (list_any (λ x. list_any (λ y. y == x) (passive_block_at g.blocks n).next) bs) (bs ++ n ∷ []) bs)

-- the blocks from which k is reached, k among them, the highest first; every edge rises
abbrev pub reaching : Passive → ℕ → List ℕ
reaching g k = reaching_from g k (k ∷ [])

-- the formulas' conjunction, or the one alone
abbrev pub conjunction : List Tree → Tree
conjunction [] = all no_trees
conjunction (t ∷ []) = t
conjunction (t ∷ u ∷ ts) = all (trees_of (t ∷ u ∷ ts))

-- over the number of definitions given before, and the blocks that have one
module _ (given : ℕ) (blocks : List ℕ) where
  -- the application of a block's definition
  abbrev pub block_call : ℕ → Tree
  block_call b = call (given + unwrap_or (position (nat_eq b) blocks) 0) no_trees

  -- the successors among these blocks, in rising order: their conjunction, or the one alone
  abbrev pub successors : PassiveBlock → Tree
  successors b = conjunction (map block_call (filter (λ x. list_any (λ y. y == x) b.next) (reverse blocks)))

abbrev pub negations : List Tree → List Tree
negations ts = map negation ts

-- some formula of the block doesn't hold, or what comes after it is so
abbrev pub block_equation : List Tree → Tree → Tree
block_equation assumed then = some (trees_of (negations assumed ++ then ∷ []))

abbrev pub formula_of : Option Command → Tree
formula_of None = truth true
formula_of (Some c) = formula_in c

-- of the block of the assertion: the formulas before it are assumed, and the assertion is what comes after
abbrev pub assertion_equation : PassiveBlock → ℕ → Tree
assertion_equation b at = block_equation (formulas (take at b.commands)) (formula_of (slice_get b.commands at))

-- a block's definition is logical and has no parameters
abbrev pub block_definition : Tree → Def
block_definition body = record { params = []; sort = boolean; logical = true; body = body }

-- what the definition of block b says: that of the assertion's block k, or of another
abbrev pub equation_of : ℕ → List ℕ → ℕ → ℕ → ℕ → PassiveBlock → Tree
equation_of given blocks k at b block =
    cond (nat_eq b k) (assertion_equation block at) (block_equation (formulas block.commands) (successors given blocks block))

abbrev pub body_of : Passive → ℕ → List ℕ → ℕ → ℕ → ℕ → Tree
body_of g given blocks k at b = equation_of given blocks k at b (passive_block_at g.blocks b)

-- the given definitions, and those of the blocks from which k is reached; the goal is block 0's, or true where k isn't reached from it
abbrev pub equations : Passive → List Def → ℕ → ℕ → Sequent
equations g defs k at =
    let blocks = reaching g k in
    record {
      defs = defs ++ map (λ b. block_definition (body_of g (length defs) blocks k at b)) blocks;
      goal = cond (list_any (λ y. y == 0) blocks) (block_call (length defs) blocks 0) (truth true);
    }
