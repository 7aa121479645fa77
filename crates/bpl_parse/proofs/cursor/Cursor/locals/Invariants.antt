use Rattle.std.proofs.Common.{◌≡◌, ◌++◌, length, codes}
use Rattle.bpl_ast.specs.ExprView.{each_groups_of}
use Rattle.bpl_grammar.specs.Terminal.{fixed, sees}
use Rattle.bpl_grammar.specs.Reading.{read_as, repeated}
use Rattle.bpl_grammar.specs.ReadStatements.{var_with, vars_with}
use Rattle.bpl_parse.proofs.cursor.Cursor.locals.Given as goal

-- the declarations are those so far and those that are still to be read
abbrev pub invariant-loop-alloc : goal.invariant-loop-alloc
invariant-loop-alloc l = vars_with l.room l.fn.self ≡ read_as (λ xs. each_groups_of l.found.items ++ xs) (repeated (sees (fixed (codes "var"))) (var_with l.room) l.self)

abbrev pub decreases-loop-alloc : goal.decreases-loop-alloc
decreases-loop-alloc l = length l.self
