-- A graph as far as it is drawn, and one more statement or list drawn.
use Rattle.std.specs.Prelude.{ℕ, List, [], ◌∷◌, ◌++◌, length, slice_index_or, Option, None, filter_map}
use Rattle.bv_base.specs.declared.place.Place.{Place}
use Rattle.logic_core.specs.Tree.{Tree}
use Rattle.flow_core.specs.declared.command.Command.{Command}
use Rattle.flow_core.specs.declared.block.Block.{Block}
use Rattle.bpl_model.specs.Module.{Name, Stmt, Stmts}
use Rattle.bpl_model.specs.Rising.{inside}
use Rattle.bpl_blocks.specs.Blocks.{Scope, block, Made, stmt_blocks, list_blocks}

-- the clauses of these variables, by a table of all variables' clauses
abbrev pub clauses_in : List (Option Tree) → List ℕ → List Tree
clauses_in table xs = filter_map (λ v. slice_index_or table v None) (inside 0 (length table) xs)

-- the blocks that are finished, and the commands of the current block, whose number is that of the blocks before it
pub record Drawn : Type 0 where
  pub blocks : List Block
  pub commands : List Command

-- the current block ends with these edges, and the next one begins
abbrev pub ended : Drawn → List ℕ → Drawn
ended d next = record { blocks = d.blocks ++ block d.commands next ∷ []; commands = [] }

abbrev pub and_made : Drawn → Made → Drawn
and_made d made = record { blocks = d.blocks ++ made.0; commands = made.1 }

-- a statement's blocks don't tell its place
abbrev pub anywhere : Place
anywhere = record { line = 0; col = 0 }

-- what is the same throughout a body: the variables' clauses, the number from which on they stand for calls, and the last block
pub record Setting : Type 0 where
  pub clauses : List (Option Tree)
  pub own : ℕ
  pub last : ℕ

module _ (setting : Setting) (scopes : List Scope) where
  abbrev pub with_stmt : Drawn → List Name → Stmt → Drawn
  with_stmt d labels s = and_made d (stmt_blocks (clauses_in setting.clauses) setting.own setting.last labels scopes (length d.blocks) d.commands s)

  abbrev pub with_list : Drawn → Stmts → Drawn
  with_list d ss = and_made d (list_blocks (clauses_in setting.clauses) setting.own setting.last scopes (length d.blocks) d.commands ss)
