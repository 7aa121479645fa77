use Rattle.std.proofs.Common.{◌≡◌, ◌++◌, length, codes, ◌||◌}
use Rattle.bpl_grammar.specs.Terminal.{fixed, sees}
use Rattle.bpl_grammar.specs.Reading.{read_as, repeated}
use Rattle.bpl_grammar.specs.ReadStatements.{inv_with, invs_with}
use Rattle.bpl_parse.proofs.cursor.Cursor.invariants.Given as goal

-- the invariants are those so far and those that are still to be read
abbrev pub invariant-loop-alloc : goal.invariant-loop-alloc
invariant-loop-alloc l = invs_with l.room l.fn.self ≡ read_as (λ xs. l.found.items ++ xs) (repeated (λ us. sees (fixed (codes "free")) us || sees (fixed (codes "invariant")) us) (inv_with l.room) l.self)

abbrev pub decreases-loop-alloc : goal.decreases-loop-alloc
decreases-loop-alloc l = length l.self
