use Rattle.std.proofs.Common.{◌≡◌, ◌+◌, ◌*◌, ◌++◌, length, codes}
use Rattle.bpl_grammar.specs.Terminal.{fixed}
use Rattle.bpl_grammar.specs.Reading.{read_as, read_behind, listed}
use Rattle.bpl_grammar.specs.ReadTypes.{read_type}
use Rattle.bpl_parse.proofs.cursor.Cursor.+types.Given as goal

abbrev pub decreases-type_ : goal.decreases-type_
decreases-type_ l = 4 * l.room

abbrev pub decreases-types : goal.decreases-types
decreases-types l = 4 * l.room + 1

abbrev pub decreases-enclosed_type : goal.decreases-enclosed_type
decreases-enclosed_type l = 4 * l.room + 2

abbrev pub decreases-type_of_map : goal.decreases-type_of_map
decreases-type_of_map l = 4 * l.room + 2

abbrev pub decreases-roomy_type : goal.decreases-roomy_type
decreases-roomy_type l = 4 * l.room + 3

-- the types are those so far and those that are still to be read
abbrev pub invariant-types-loop-alloc : goal.invariant-types-loop-alloc
invariant-types-loop-alloc l = listed (read_type l.room) l.fn.self ≡ read_as (λ xs. l.found.items ++ xs) (read_behind (fixed (codes ",")) (read_type l.room) l.self)

abbrev pub decreases-types-loop-alloc : goal.decreases-types-loop-alloc
decreases-types-loop-alloc l = length l.self
