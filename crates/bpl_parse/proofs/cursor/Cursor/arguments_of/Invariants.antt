use Rattle.std.proofs.Common.{◌≡◌, ◌++◌, length, codes}
use Rattle.bpl_grammar.specs.Terminal.{fixed}
use Rattle.bpl_grammar.specs.Reading.{read_as, read_behind}
use Rattle.bpl_grammar.specs.ReadDeclarations.{farg_with, fargs_with}
use Rattle.bpl_parse.proofs.cursor.Cursor.arguments_of.Given as goal

-- the parameters are those so far and those that are still to be read
abbrev pub invariant-loop-alloc : goal.invariant-loop-alloc
invariant-loop-alloc l = fargs_with l.room l.fn.self ≡ read_as (λ xs. l.found.items ++ xs) (read_behind (fixed (codes ",")) (farg_with l.room) l.self)

abbrev pub decreases-loop-alloc : goal.decreases-loop-alloc
decreases-loop-alloc l = length l.self
