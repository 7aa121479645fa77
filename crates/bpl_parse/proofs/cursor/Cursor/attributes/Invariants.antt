use Rattle.std.proofs.Common.{◌≡◌, length, codes}
use Rattle.bpl_grammar.specs.Terminal.{fixed, sees}
use Rattle.bpl_grammar.specs.Reading.{read_as, repeated}
use Rattle.bpl_grammar.specs.ReadExpressions.{attr_with, attrs_with, read_inner}
use Rattle.bpl_parse.proofs.cursor.Cursor.attributes.Given as goal

-- what is still to be read decides
abbrev pub invariant-loop-alloc : goal.invariant-loop-alloc
invariant-loop-alloc l = attrs_with l.room (read_inner l.room) l.fn.self ≡ read_as (λ us. tt {0}) (repeated (sees (fixed (codes "{"))) (attr_with l.room (read_inner l.room)) l.self)

abbrev pub decreases-loop-alloc : goal.decreases-loop-alloc
decreases-loop-alloc l = length l.self
