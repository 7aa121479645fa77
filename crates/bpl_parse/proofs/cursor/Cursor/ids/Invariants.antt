use Rattle.std.proofs.Common.{◌≡◌, ◌++◌, length, codes}
use Rattle.bpl_grammar.specs.Terminal.{fixed}
use Rattle.bpl_grammar.specs.Reading.{read_as, read_behind, read_name, read_ids}
use Rattle.bpl_parse.proofs.cursor.Cursor.ids.Given as goal

-- the names are those so far and those that are still to be read
abbrev pub invariant-loop-alloc : goal.invariant-loop-alloc
invariant-loop-alloc l = read_ids l.fn.self ≡ read_as (λ xs. l.names.items ++ xs) (read_behind (fixed (codes ",")) read_name l.self)

abbrev pub decreases-loop-alloc : goal.decreases-loop-alloc
decreases-loop-alloc l = length l.self
