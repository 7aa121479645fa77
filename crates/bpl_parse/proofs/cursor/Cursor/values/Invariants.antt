use Rattle.std.proofs.Common.{◌≡◌, ◌++◌, length, codes}
use Rattle.bpl_grammar.specs.Terminal.{fixed}
use Rattle.bpl_grammar.specs.Reading.{read_as, read_behind}
use Rattle.bpl_grammar.specs.ReadExpressions.{e_with, read_inner}
use Rattle.bpl_grammar.specs.ReadStatements.{values_with}
use Rattle.bpl_parse.proofs.cursor.Cursor.values.Given as goal

-- the values are those so far and those that are still to be read
abbrev pub invariant-loop-alloc : goal.invariant-loop-alloc
invariant-loop-alloc l = values_with l.room l.fn.self ≡ read_as (λ xs. l.found.items ++ xs) (read_behind (fixed (codes ",")) (e_with l.room (read_inner l.room)) l.self)

abbrev pub decreases-loop-alloc : goal.decreases-loop-alloc
decreases-loop-alloc l = length l.self
