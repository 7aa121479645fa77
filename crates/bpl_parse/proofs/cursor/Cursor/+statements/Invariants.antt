use Rattle.std.proofs.Common.{◌≡◌, ◌+◌, ◌*◌, ◌++◌, ◌&&◌, length, codes, drop, map}
use Rattle.bpl_grammar.specs.Terminal.{fixed, sees}
use Rattle.bpl_grammar.specs.Reading.{read_as, repeated, sees_one}
use Rattle.bpl_grammar.specs.ReadStatements.{stmt_firsts, branch_with, branches_with, stmt_with, stmts_with, read_stmts}
use Rattle.bpl_parse.specs.SeenStatements.{branch_seen}
use Rattle.bpl_parse.proofs.cursor.Cursor.+statements.Given as goal

abbrev pub decreases-inner_statements : goal.decreases-inner_statements
decreases-inner_statements l = 8 * l.room

abbrev pub decreases-block : goal.decreases-block
decreases-block l = 8 * l.room + 1

abbrev pub decreases-if_branch : goal.decreases-if_branch
decreases-if_branch l = 8 * l.room + 2

abbrev pub decreases-last_branch : goal.decreases-last_branch
decreases-last_branch l = 8 * l.room + 2

abbrev pub decreases-while_ : goal.decreases-while_
decreases-while_ l = 8 * l.room + 2

abbrev pub decreases-branches : goal.decreases-branches
decreases-branches l = 8 * l.room + 3

abbrev pub decreases-if_ : goal.decreases-if_
decreases-if_ l = 8 * l.room + 4

abbrev pub decreases-action : goal.decreases-action
decreases-action l = 8 * l.room + 5

abbrev pub decreases-statement : goal.decreases-statement
decreases-statement l = 8 * l.room + 6

abbrev pub decreases-statements : goal.decreases-statements
decreases-statements l = 8 * l.room + 7

-- the statements are those so far and those that are still to be read
abbrev pub invariant-statements-loop-alloc : goal.invariant-statements-loop-alloc
invariant-statements-loop-alloc l = stmts_with l.room (read_stmts l.room) l.fn.self ≡ read_as (λ xs. l.found.items ++ xs) (repeated (sees_one stmt_firsts) (stmt_with l.room (read_stmts l.room)) l.self)

abbrev pub decreases-statements-loop-alloc : goal.decreases-statements-loop-alloc
decreases-statements-loop-alloc l = length l.self

-- the branches are those so far and those that are still to be read
abbrev pub invariant-branches-loop-alloc : goal.invariant-branches-loop-alloc
invariant-branches-loop-alloc l = branches_with l.room (read_stmts l.room) l.fn.self ≡ read_as (λ xs. map branch_seen l.found.items ++ xs)
    (repeated (λ us. sees (fixed (codes "else")) us && sees (fixed (codes "if")) (drop 1 us)) (λ us. branch_with l.room (read_stmts l.room) (drop 1 us)) l.self)

abbrev pub decreases-branches-loop-alloc : goal.decreases-branches-loop-alloc
decreases-branches-loop-alloc l = length l.self
