use Rattle.std.proofs.Common.{◌≡◌, ◌++◌, length, codes, ◌||◌}
use Rattle.bpl_grammar.specs.Terminal.{fixed, sees}
use Rattle.bpl_grammar.specs.Reading.{read_as, repeated}
use Rattle.bpl_grammar.specs.ReadDeclarations.{spec_with, specs_with}
use Rattle.bpl_parse.proofs.cursor.Cursor.specs.Given as goal

-- the clauses are those so far and those that are still to be read
abbrev pub invariant-loop-alloc : goal.invariant-loop-alloc
invariant-loop-alloc l = specs_with 199 l.fn.self ≡ read_as (λ xs. l.found.items ++ xs) (repeated (λ us. sees (fixed (codes "free")) us || (sees (fixed (codes "requires")) us || (sees (fixed (codes "ensures")) us || sees (fixed (codes "modifies")) us))) (spec_with 199) l.self)

abbrev pub decreases-loop-alloc : goal.decreases-loop-alloc
decreases-loop-alloc l = length l.self
