use Rattle.std.proofs.Common.{◌≡◌, ◌++◌, length, codes, drop, ◌&&◌}
use Rattle.bpl_lex.specs.Token.{id}
use Rattle.bpl_grammar.specs.Terminal.{kind, fixed, sees}
use Rattle.bpl_grammar.specs.Reading.{read_as, repeated}
use Rattle.bpl_grammar.specs.ReadStatements.{read_label, read_labels}
use Rattle.bpl_parse.proofs.cursor.Cursor.labels.Given as goal

-- the labels are those so far and those that are still to be read
abbrev pub invariant-loop-alloc : goal.invariant-loop-alloc
invariant-loop-alloc l = read_labels l.fn.self ≡ read_as (λ xs. l.found.items ++ xs) (repeated (λ us. sees (kind id) us && sees (fixed (codes ":")) (drop 1 us)) (read_label) l.self)

abbrev pub decreases-loop-alloc : goal.decreases-loop-alloc
decreases-loop-alloc l = length l.self
