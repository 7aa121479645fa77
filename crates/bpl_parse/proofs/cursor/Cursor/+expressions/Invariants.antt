use Rattle.std.proofs.Common.{◌≡◌, ◌<◌, ◌≤◌, ◌+◌, ◌*◌, ◌++◌, length, codes, map}
use Rattle.bpl_grammar.specs.Terminal.{fixed, sees}
use Rattle.bpl_grammar.specs.Reading.{read_as, repeated, read_run, read_behind, listed}
use Rattle.bpl_grammar.specs.ReadExpressions.{whole, kept, arg_with, un_with, factors_with, terms_with, indices_with, rel_with, rels_with, log_with, imp_with, group_with, groups_with, mark_with, marks_with, read_inner}
use Rattle.bpl_parse.specs.Seen.{group_seen, trigger_seen}
use Rattle.bpl_parse.proofs.cursor.Cursor.+expressions.Given as goal

abbrev pub decreases-expression : goal.decreases-expression
decreases-expression l = 32 * l.room

abbrev pub decreases-operand : goal.decreases-operand
decreases-operand l = 32 * l.room

abbrev pub decreases-enclosed : goal.decreases-enclosed
decreases-enclosed l = 32 * l.room

abbrev pub decreases-attribute_argument : goal.decreases-attribute_argument
decreases-attribute_argument l = 32 * l.room + 2

abbrev pub decreases-attribute_arguments : goal.decreases-attribute_arguments
decreases-attribute_arguments l = 32 * l.room + 3

abbrev pub decreases-named_attribute : goal.decreases-named_attribute
decreases-named_attribute l = 32 * l.room + 4

abbrev pub decreases-expressions : goal.decreases-expressions
decreases-expressions l = 32 * l.room + 4

abbrev pub decreases-attribute_inside : goal.decreases-attribute_inside
decreases-attribute_inside l = 32 * l.room + 5

abbrev pub decreases-arguments : goal.decreases-arguments
decreases-arguments l = 32 * l.room + 5

abbrev pub decreases-attribute : goal.decreases-attribute
decreases-attribute l = 32 * l.room + 6

abbrev pub decreases-named : goal.decreases-named
decreases-named l = 32 * l.room + 6

abbrev pub decreases-old_value : goal.decreases-old_value
decreases-old_value l = 32 * l.room + 6

abbrev pub decreases-choice : goal.decreases-choice
decreases-choice l = 32 * l.room + 6

abbrev pub decreases-parenthesized : goal.decreases-parenthesized
decreases-parenthesized l = 32 * l.room + 6

abbrev pub decreases-trigger : goal.decreases-trigger
decreases-trigger l = 32 * l.room + 6

abbrev pub decreases-index : goal.decreases-index
decreases-index l = 32 * l.room + 6

abbrev pub decreases-mark : goal.decreases-mark
decreases-mark l = 32 * l.room + 7

abbrev pub decreases-indices : goal.decreases-indices
decreases-indices l = 32 * l.room + 7

abbrev pub decreases-atom : goal.decreases-atom
decreases-atom l = 32 * l.room + 7

abbrev pub decreases-postfix : goal.decreases-postfix
decreases-postfix l = 32 * l.room + 8

abbrev pub decreases-marks : goal.decreases-marks
decreases-marks l = 32 * l.room + 8

abbrev pub decreases-unary : goal.decreases-unary
decreases-unary l = 32 * l.room + 9

abbrev pub decreases-factors : goal.decreases-factors
decreases-factors l = 32 * l.room + 10

abbrev pub decreases-product : goal.decreases-product
decreases-product l = 32 * l.room + 11

abbrev pub decreases-term : goal.decreases-term
decreases-term l = 32 * l.room + 12

abbrev pub decreases-terms : goal.decreases-terms
decreases-terms l = 32 * l.room + 13

abbrev pub decreases-sum : goal.decreases-sum
decreases-sum l = 32 * l.room + 14

abbrev pub decreases-comparison : goal.decreases-comparison
decreases-comparison l = 32 * l.room + 15

abbrev pub decreases-comparisons : goal.decreases-comparisons
decreases-comparisons l = 32 * l.room + 16

abbrev pub decreases-junction : goal.decreases-junction
decreases-junction l = 32 * l.room + 17

abbrev pub decreases-consequents : goal.decreases-consequents
decreases-consequents l = 32 * l.room + 18

abbrev pub decreases-implication : goal.decreases-implication
decreases-implication l = 32 * l.room + 19

abbrev pub decreases-equivalents : goal.decreases-equivalents
decreases-equivalents l = 32 * l.room + 20

abbrev pub decreases-equivalence : goal.decreases-equivalence
decreases-equivalence l = 32 * l.room + 21

abbrev pub decreases-group : goal.decreases-group
decreases-group l = 32 * l.room + 22

abbrev pub decreases-groups : goal.decreases-groups
decreases-groups l = 32 * l.room + 23

abbrev pub decreases-bound : goal.decreases-bound
decreases-bound l = 32 * l.room + 24

abbrev pub decreases-quantified : goal.decreases-quantified
decreases-quantified l = 32 * l.room + 25

-- the parts are those so far and those that are still to be read
abbrev pub invariant-equivalents-loop-alloc : goal.invariant-equivalents-loop-alloc
invariant-equivalents-loop-alloc l = record {
  some : 0 < length l.found.items;
  reads : read_run (fixed (codes "<==>")) (imp_with l.room (read_inner l.room)) l.fn.self ≡ read_as (λ xs. l.found.items ++ xs) (read_behind (fixed (codes "<==>")) (imp_with l.room (read_inner l.room)) l.self);
}

abbrev pub decreases-equivalents-loop-alloc : goal.decreases-equivalents-loop-alloc
decreases-equivalents-loop-alloc l = length l.self

-- likewise
abbrev pub invariant-consequents-loop-alloc : goal.invariant-consequents-loop-alloc
invariant-consequents-loop-alloc l = record {
  some : 0 < length l.found.items;
  reads : read_run (fixed (codes "==>")) (log_with l.room (read_inner l.room)) l.fn.self ≡ read_as (λ xs. l.found.items ++ xs) (read_behind (fixed (codes "==>")) (log_with l.room (read_inner l.room)) l.self);
}

abbrev pub decreases-consequents-loop-alloc : goal.decreases-consequents-loop-alloc
decreases-consequents-loop-alloc l = length l.self

-- likewise
abbrev pub invariant-factors-loop-alloc : goal.invariant-factors-loop-alloc
invariant-factors-loop-alloc l = record {
  some : 0 < length l.found.items;
  reads : factors_with l.room (read_inner l.room) l.fn.self ≡ read_as (λ xs. l.found.items ++ xs) (read_behind (fixed (codes "*")) (un_with l.room (read_inner l.room)) l.self);
}

abbrev pub decreases-factors-loop-alloc : goal.decreases-factors-loop-alloc
decreases-factors-loop-alloc l = length l.self

-- likewise
abbrev pub invariant-comparisons-loop-alloc : goal.invariant-comparisons-loop-alloc
invariant-comparisons-loop-alloc l = record {
  more : length l.fn.found.items ≤ length l.found.items;
  reads : read_as (λ xs. l.fn.found.items ++ xs) (rels_with l.room (read_inner l.room) l.sign l.fn.self) ≡ read_as (λ xs. l.found.items ++ xs) (read_behind (fixed l.sign) (rel_with l.room (read_inner l.room)) l.self);
}

abbrev pub decreases-comparisons-loop-alloc : goal.decreases-comparisons-loop-alloc
decreases-comparisons-loop-alloc l = length l.self

-- likewise
abbrev pub invariant-expressions-loop-alloc : goal.invariant-expressions-loop-alloc
invariant-expressions-loop-alloc l = listed (read_inner l.room whole) l.fn.self ≡ read_as (λ xs. l.found.items ++ xs) (read_behind (fixed (codes ",")) (read_inner l.room whole) l.self)

abbrev pub decreases-expressions-loop-alloc : goal.decreases-expressions-loop-alloc
decreases-expressions-loop-alloc l = length l.self

-- likewise
abbrev pub invariant-groups-loop-alloc : goal.invariant-groups-loop-alloc
invariant-groups-loop-alloc l = groups_with l.room (read_inner l.room) l.fn.self ≡ read_as (λ xs. map group_seen l.found.items ++ xs) (read_behind (fixed (codes ",")) (group_with l.room (read_inner l.room)) l.self)

abbrev pub decreases-groups-loop-alloc : goal.decreases-groups-loop-alloc
decreases-groups-loop-alloc l = length l.self

-- likewise
abbrev pub invariant-terms-loop-alloc : goal.invariant-terms-loop-alloc
invariant-terms-loop-alloc l = terms_with l.room (read_inner l.room) l.fn.self ≡ read_as (λ xs. l.found.items ++ xs) (terms_with l.room (read_inner l.room) l.self)

abbrev pub decreases-terms-loop-alloc : goal.decreases-terms-loop-alloc
decreases-terms-loop-alloc l = length l.self

-- likewise
abbrev pub invariant-indices-loop-alloc : goal.invariant-indices-loop-alloc
invariant-indices-loop-alloc l = indices_with l.room (read_inner l.room) l.fn.self ≡ read_as (λ xs. l.found.items ++ xs) (indices_with l.room (read_inner l.room) l.self)

abbrev pub decreases-indices-loop-alloc : goal.decreases-indices-loop-alloc
decreases-indices-loop-alloc l = length l.self

-- the triggers are those so far and those among what is still to be read
abbrev pub invariant-marks-loop-alloc : goal.invariant-marks-loop-alloc
invariant-marks-loop-alloc l = marks_with l.room (read_inner l.room) l.fn.self ≡ read_as (λ xs. map trigger_seen l.found.items ++ kept xs) (repeated (sees (fixed (codes "{"))) (mark_with l.room (read_inner l.room)) l.self)

abbrev pub decreases-marks-loop-alloc : goal.decreases-marks-loop-alloc
decreases-marks-loop-alloc l = length l.self

-- what is still to be read decides
abbrev pub invariant-attribute_arguments-loop-alloc : goal.invariant-attribute_arguments-loop-alloc
invariant-attribute_arguments-loop-alloc l = read_as (λ xs. tt {0}) (listed (arg_with (read_inner l.room)) l.fn.self) ≡ read_as (λ xs. tt {0}) (read_behind (fixed (codes ",")) (arg_with (read_inner l.room)) l.self)

abbrev pub decreases-attribute_arguments-loop-alloc : goal.decreases-attribute_arguments-loop-alloc
decreases-attribute_arguments-loop-alloc l = length l.self
