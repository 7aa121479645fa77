use Rattle.std.proofs.Common.{◌∙◌, ◌++◌, ◌||◌, length, [], ◌∷◌, codes, map, option_map, ap, sym, refl, append-nil}
use Rattle.bpl_grammar.specs.Terminal.{fixed, sees}
use Rattle.bpl_grammar.specs.Reading.{read_as, read_run, read_behind, listed}
use Rattle.bpl_grammar.specs.ReadExpressions.{whole, kept, arg_with, un_with, factors_with, term_with, terms_with, index_with, indices_with, rel_with, rels_with, log_with, imp_with, group_with, groups_with, mark_with, marks_with, read_inner}
use Rattle.bpl_grammar.proofs.Loops.{behind_more, behind_smaller, behind_end, behind_stuck, loop_more, loop_end, loop_stuck}
use Rattle.bpl_grammar.proofs.Rooms.{room_whole, room_operand, room_enclosed, room_attr}
use Rattle.bpl_grammar.proofs.ExprShrinks.{whole_shrinks, un_shrinks, term_shrinks, index_shrinks, rel_shrinks, log_shrinks, imp_shrinks, group_shrinks, mark_shrinks, arg_shrinks}
use Rattle.bpl_parse.proofs.Refused.{refused_as}
use Rattle.bpl_parse.proofs.SeenLaws.{map_append}
use Rattle.bpl_parse.proofs.Turns.{none_yet, some_more, still_most, kept_more, kept_end, kept_stuck}
use Rattle.bpl_parse.specs.Seen.{group_seen, trigger_seen}
use Rattle.bpl_parse.proofs.cursor.Cursor.+expressions.Goals as goal

pub equivalents-returns-in_err-further-clause-reads : goal.equivalents-returns-in_err-further-clause-reads
equivalents-returns-in_err-further-clause-reads t c = refused_as (λ n. n) (λ v. v.items) (imp_with c.args.room (read_inner c.args.room) c.skip.new.self) (read_run (fixed (codes "<==>")) (imp_with c.args.room (read_inner c.args.room)) c.args.self.now) c.from_residual-in_err-further.result c.in_err-further.field-0.0 c.implication-in-loop-alloc.new.self c.implication-in-loop-alloc.new.self
    c.from_residual-in_err-further.ensures.1 c.in_err-further.ensures refl
    (λ x h. behind_stuck (fixed (codes "<==>")) (imp_with c.args.room (read_inner c.args.room)) (λ xs. xs) c.loop-alloc.found.items (read_run (fixed (codes "<==>")) (imp_with c.args.room (read_inner c.args.room)) c.args.self.now) c.loop-alloc.self c.skip.new.self x c.loop-alloc.invariant.reads (sym c.sees.ensures ∙ c.loop-alloc-test.true) c.skip.ensures h)

pub equivalents-loop-alloc-smaller : goal.equivalents-loop-alloc-smaller
equivalents-loop-alloc-smaller t c = behind_smaller (fixed (codes "<==>")) (imp_with c.args.room (read_inner c.args.room)) (λ xs. xs) c.loop-alloc.found.items (read_run (fixed (codes "<==>")) (imp_with c.args.room (read_inner c.args.room)) c.args.self.now) (imp_shrinks c.args.room) c.loop-alloc.self c.skip.new.self c.in_ok-further.further c.implication-in-loop-alloc.new.self c.skip.ensures c.in_ok-further.ensures

pub equivalents-loop-alloc-preserved : goal.equivalents-loop-alloc-preserved
equivalents-loop-alloc-preserved t c = record {
  some = rw c.in_ok-push-2.ensures.items (some_more c.loop-alloc.found.items c.in_ok-further.further);
  reads = rw c.in_ok-push-2.ensures.items (behind_more (fixed (codes "<==>")) (imp_with c.args.room (read_inner c.args.room)) (λ xs. xs) c.loop-alloc.found.items (read_run (fixed (codes "<==>")) (imp_with c.args.room (read_inner c.args.room)) c.args.self.now) (imp_shrinks c.args.room) c.loop-alloc.self c.skip.new.self c.in_ok-further.further c.implication-in-loop-alloc.new.self c.loop-alloc.invariant.reads (sym c.sees.ensures ∙ c.loop-alloc-test.true) c.skip.ensures c.in_ok-further.ensures);
}

pub equivalents-returns-clause-reads : goal.equivalents-returns-clause-reads
equivalents-returns-clause-reads t c = behind_end (fixed (codes "<==>")) (imp_with c.args.room (read_inner c.args.room)) (λ xs. xs) c.loop-alloc.found.items (read_run (fixed (codes "<==>")) (imp_with c.args.room (read_inner c.args.room)) c.args.self.now) c.loop-alloc.self c.loop-alloc.invariant.reads (sym c.sees.ensures ∙ c.loop-alloc-test.false)

pub consequents-returns-in_err-further-clause-reads : goal.consequents-returns-in_err-further-clause-reads
consequents-returns-in_err-further-clause-reads t c = refused_as (λ n. n) (λ v. v.items) (log_with c.args.room (read_inner c.args.room) c.skip.new.self) (read_run (fixed (codes "==>")) (log_with c.args.room (read_inner c.args.room)) c.args.self.now) c.from_residual-in_err-further.result c.in_err-further.field-0.0 c.junction-in-loop-alloc.new.self c.junction-in-loop-alloc.new.self
    c.from_residual-in_err-further.ensures.1 c.in_err-further.ensures refl
    (λ x h. behind_stuck (fixed (codes "==>")) (log_with c.args.room (read_inner c.args.room)) (λ xs. xs) c.loop-alloc.found.items (read_run (fixed (codes "==>")) (log_with c.args.room (read_inner c.args.room)) c.args.self.now) c.loop-alloc.self c.skip.new.self x c.loop-alloc.invariant.reads (sym c.sees.ensures ∙ c.loop-alloc-test.true) c.skip.ensures h)

pub consequents-loop-alloc-smaller : goal.consequents-loop-alloc-smaller
consequents-loop-alloc-smaller t c = behind_smaller (fixed (codes "==>")) (log_with c.args.room (read_inner c.args.room)) (λ xs. xs) c.loop-alloc.found.items (read_run (fixed (codes "==>")) (log_with c.args.room (read_inner c.args.room)) c.args.self.now) (log_shrinks c.args.room) c.loop-alloc.self c.skip.new.self c.in_ok-further.further c.junction-in-loop-alloc.new.self c.skip.ensures c.in_ok-further.ensures

pub consequents-loop-alloc-preserved : goal.consequents-loop-alloc-preserved
consequents-loop-alloc-preserved t c = record {
  some = rw c.in_ok-push-2.ensures.items (some_more c.loop-alloc.found.items c.in_ok-further.further);
  reads = rw c.in_ok-push-2.ensures.items (behind_more (fixed (codes "==>")) (log_with c.args.room (read_inner c.args.room)) (λ xs. xs) c.loop-alloc.found.items (read_run (fixed (codes "==>")) (log_with c.args.room (read_inner c.args.room)) c.args.self.now) (log_shrinks c.args.room) c.loop-alloc.self c.skip.new.self c.in_ok-further.further c.junction-in-loop-alloc.new.self c.loop-alloc.invariant.reads (sym c.sees.ensures ∙ c.loop-alloc-test.true) c.skip.ensures c.in_ok-further.ensures);
}

pub consequents-returns-clause-reads : goal.consequents-returns-clause-reads
consequents-returns-clause-reads t c = behind_end (fixed (codes "==>")) (log_with c.args.room (read_inner c.args.room)) (λ xs. xs) c.loop-alloc.found.items (read_run (fixed (codes "==>")) (log_with c.args.room (read_inner c.args.room)) c.args.self.now) c.loop-alloc.self c.loop-alloc.invariant.reads (sym c.sees.ensures ∙ c.loop-alloc-test.false)

pub factors-returns-in_err-further-clause-reads : goal.factors-returns-in_err-further-clause-reads
factors-returns-in_err-further-clause-reads t c = refused_as (λ n. n) (λ v. v.items) (un_with c.args.room (read_inner c.args.room) c.skip.new.self) (factors_with c.args.room (read_inner c.args.room) c.args.self.now) c.from_residual-in_err-further.result c.in_err-further.field-0.0 c.unary-in-loop-alloc.new.self c.unary-in-loop-alloc.new.self
    c.from_residual-in_err-further.ensures.1 c.in_err-further.ensures refl
    (λ x h. behind_stuck (fixed (codes "*")) (un_with c.args.room (read_inner c.args.room)) (λ xs. xs) c.loop-alloc.found.items (factors_with c.args.room (read_inner c.args.room) c.args.self.now) c.loop-alloc.self c.skip.new.self x c.loop-alloc.invariant.reads (sym c.sees.ensures ∙ c.loop-alloc-test.true) c.skip.ensures h)

pub factors-loop-alloc-smaller : goal.factors-loop-alloc-smaller
factors-loop-alloc-smaller t c = behind_smaller (fixed (codes "*")) (un_with c.args.room (read_inner c.args.room)) (λ xs. xs) c.loop-alloc.found.items (factors_with c.args.room (read_inner c.args.room) c.args.self.now) (un_shrinks c.args.room) c.loop-alloc.self c.skip.new.self c.in_ok-further.further c.unary-in-loop-alloc.new.self c.skip.ensures c.in_ok-further.ensures

pub factors-loop-alloc-preserved : goal.factors-loop-alloc-preserved
factors-loop-alloc-preserved t c = record {
  some = rw c.in_ok-push-2.ensures.items (some_more c.loop-alloc.found.items c.in_ok-further.further);
  reads = rw c.in_ok-push-2.ensures.items (behind_more (fixed (codes "*")) (un_with c.args.room (read_inner c.args.room)) (λ xs. xs) c.loop-alloc.found.items (factors_with c.args.room (read_inner c.args.room) c.args.self.now) (un_shrinks c.args.room) c.loop-alloc.self c.skip.new.self c.in_ok-further.further c.unary-in-loop-alloc.new.self c.loop-alloc.invariant.reads (sym c.sees.ensures ∙ c.loop-alloc-test.true) c.skip.ensures c.in_ok-further.ensures);
}

pub factors-returns-clause-reads : goal.factors-returns-clause-reads
factors-returns-clause-reads t c = behind_end (fixed (codes "*")) (un_with c.args.room (read_inner c.args.room)) (λ xs. xs) c.loop-alloc.found.items (factors_with c.args.room (read_inner c.args.room) c.args.self.now) c.loop-alloc.self c.loop-alloc.invariant.reads (sym c.sees.ensures ∙ c.loop-alloc-test.false)

pub comparisons-returns-in_err-further-clause-reads : goal.comparisons-returns-in_err-further-clause-reads
comparisons-returns-in_err-further-clause-reads t c = refused_as (λ n. n) (λ v. v.items) (rel_with c.args.room (read_inner c.args.room) c.skip.new.self) (read_as (λ xs. c.args.found.items ++ xs) (rels_with c.args.room (read_inner c.args.room) c.args.sign.now c.args.self.now)) c.from_residual.result c.in_err-further.field-0.0 c.comparison.new.self c.comparison.new.self
    c.from_residual.ensures.1 c.in_err-further.ensures refl
    (λ x h. behind_stuck (fixed c.args.sign.now) (rel_with c.args.room (read_inner c.args.room)) (λ xs. xs) c.loop-alloc.found.items (read_as (λ xs. c.args.found.items ++ xs) (rels_with c.args.room (read_inner c.args.room) c.args.sign.now c.args.self.now)) c.loop-alloc.self c.skip.new.self x c.loop-alloc.invariant.reads (sym c.sees.ensures ∙ c.loop-alloc-test.true) c.skip.ensures h)

pub comparisons-loop-alloc-smaller : goal.comparisons-loop-alloc-smaller
comparisons-loop-alloc-smaller t c = behind_smaller (fixed c.args.sign.now) (rel_with c.args.room (read_inner c.args.room)) (λ xs. xs) c.loop-alloc.found.items (read_as (λ xs. c.args.found.items ++ xs) (rels_with c.args.room (read_inner c.args.room) c.args.sign.now c.args.self.now)) (rel_shrinks c.args.room) c.loop-alloc.self c.skip.new.self c.in_ok-further.further c.comparison.new.self c.skip.ensures c.in_ok-further.ensures

pub comparisons-loop-alloc-preserved : goal.comparisons-loop-alloc-preserved
comparisons-loop-alloc-preserved t c = record {
  more = rw c.in_ok-push.ensures.items (still_most (length c.args.found.items) c.loop-alloc.found.items c.in_ok-further.further c.loop-alloc.invariant.more);
  reads = rw c.in_ok-push.ensures.items (behind_more (fixed c.args.sign.now) (rel_with c.args.room (read_inner c.args.room)) (λ xs. xs) c.loop-alloc.found.items (read_as (λ xs. c.args.found.items ++ xs) (rels_with c.args.room (read_inner c.args.room) c.args.sign.now c.args.self.now)) (rel_shrinks c.args.room) c.loop-alloc.self c.skip.new.self c.in_ok-further.further c.comparison.new.self c.loop-alloc.invariant.reads (sym c.sees.ensures ∙ c.loop-alloc-test.true) c.skip.ensures c.in_ok-further.ensures);
}

pub comparisons-returns-clause-reads : goal.comparisons-returns-clause-reads
comparisons-returns-clause-reads t c = behind_end (fixed c.args.sign.now) (rel_with c.args.room (read_inner c.args.room)) (λ xs. xs) c.loop-alloc.found.items (read_as (λ xs. c.args.found.items ++ xs) (rels_with c.args.room (read_inner c.args.room) c.args.sign.now c.args.self.now)) c.loop-alloc.self c.loop-alloc.invariant.reads (sym c.sees.ensures ∙ c.loop-alloc-test.false)

pub expressions-returns-in_err-further : goal.expressions-returns-in_err-further
expressions-returns-in_err-further t c = refused_as (λ n. n) (λ v. v.items) (read_inner c.args.room whole c.skip.new.self) (listed (read_inner c.args.room whole) c.args.self.now) c.from_residual-in_err-further.result c.in_err-further.field-0.0 c.expression-in-loop-alloc.new.self c.expression-in-loop-alloc.new.self
    c.from_residual-in_err-further.ensures.1 c.in_err-further.ensures refl
    (λ x h. behind_stuck (fixed (codes ",")) (read_inner c.args.room whole) (λ xs. xs) c.loop-alloc.found.items (listed (read_inner c.args.room whole) c.args.self.now) c.loop-alloc.self c.skip.new.self x c.loop-alloc.invariant (sym c.sees.ensures ∙ c.loop-alloc-test.true) c.skip.ensures h)

pub expressions-loop-alloc-smaller : goal.expressions-loop-alloc-smaller
expressions-loop-alloc-smaller t c = behind_smaller (fixed (codes ",")) (read_inner c.args.room whole) (λ xs. xs) c.loop-alloc.found.items (listed (read_inner c.args.room whole) c.args.self.now) (whole_shrinks c.args.room) c.loop-alloc.self c.skip.new.self c.in_ok-further.further c.expression-in-loop-alloc.new.self c.skip.ensures c.in_ok-further.ensures

pub expressions-loop-alloc-preserved : goal.expressions-loop-alloc-preserved
expressions-loop-alloc-preserved t c = rw c.in_ok-push-2.ensures.items (behind_more (fixed (codes ",")) (read_inner c.args.room whole) (λ xs. xs) c.loop-alloc.found.items (listed (read_inner c.args.room whole) c.args.self.now) (whole_shrinks c.args.room) c.loop-alloc.self c.skip.new.self c.in_ok-further.further c.expression-in-loop-alloc.new.self c.loop-alloc.invariant (sym c.sees.ensures ∙ c.loop-alloc-test.true) c.skip.ensures c.in_ok-further.ensures)

pub expressions-returns : goal.expressions-returns
expressions-returns t c = behind_end (fixed (codes ",")) (read_inner c.args.room whole) (λ xs. xs) c.loop-alloc.found.items (listed (read_inner c.args.room whole) c.args.self.now) c.loop-alloc.self c.loop-alloc.invariant (sym c.sees.ensures ∙ c.loop-alloc-test.false)

pub groups-returns-in_err-further : goal.groups-returns-in_err-further
groups-returns-in_err-further t c = refused_as group_seen (λ v. map group_seen v.items) (group_with c.args.room (read_inner c.args.room) c.skip.new.self) (groups_with c.args.room (read_inner c.args.room) c.args.self.now) c.from_residual-in_err-further.result c.in_err-further.field-0.0 c.group-in-loop-alloc.new.self c.group-in-loop-alloc.new.self
    c.from_residual-in_err-further.ensures.1 c.in_err-further.ensures refl
    (λ x h. behind_stuck (fixed (codes ",")) (group_with c.args.room (read_inner c.args.room)) (λ xs. xs) (map group_seen c.loop-alloc.found.items) (groups_with c.args.room (read_inner c.args.room) c.args.self.now) c.loop-alloc.self c.skip.new.self x c.loop-alloc.invariant (sym c.sees.ensures ∙ c.loop-alloc-test.true) c.skip.ensures h)

pub groups-loop-alloc-smaller : goal.groups-loop-alloc-smaller
groups-loop-alloc-smaller t c = behind_smaller (fixed (codes ",")) (group_with c.args.room (read_inner c.args.room)) (λ xs. xs) (map group_seen c.loop-alloc.found.items) (groups_with c.args.room (read_inner c.args.room) c.args.self.now) (group_shrinks c.args.room) c.loop-alloc.self c.skip.new.self (group_seen c.in_ok-further.further) c.group-in-loop-alloc.new.self c.skip.ensures c.in_ok-further.ensures

pub groups-loop-alloc-preserved : goal.groups-loop-alloc-preserved
groups-loop-alloc-preserved t c = behind_more (fixed (codes ",")) (group_with c.args.room (read_inner c.args.room)) (λ xs. xs) (map group_seen c.loop-alloc.found.items) (groups_with c.args.room (read_inner c.args.room) c.args.self.now) (group_shrinks c.args.room) c.loop-alloc.self c.skip.new.self (group_seen c.in_ok-further.further) c.group-in-loop-alloc.new.self c.loop-alloc.invariant (sym c.sees.ensures ∙ c.loop-alloc-test.true) c.skip.ensures c.in_ok-further.ensures
    ∙ ap (λ zs. read_as (λ ys. zs ++ ys) (read_behind (fixed (codes ",")) (group_with c.args.room (read_inner c.args.room)) c.group-in-loop-alloc.new.self)) (sym (ap (map group_seen) c.in_ok-push-2.ensures.items ∙ map_append group_seen c.loop-alloc.found.items (c.in_ok-further.further ∷ [])))

pub groups-returns : goal.groups-returns
groups-returns t c = behind_end (fixed (codes ",")) (group_with c.args.room (read_inner c.args.room)) (λ xs. xs) (map group_seen c.loop-alloc.found.items) (groups_with c.args.room (read_inner c.args.room) c.args.self.now) c.loop-alloc.self c.loop-alloc.invariant (sym c.sees.ensures ∙ c.loop-alloc-test.false)

pub expression-returns-then-room-gt0 : goal.expression-returns-then-room-gt0
expression-returns-then-room-gt0 t c = rw (room_whole c.args.room c.args.self.now c.if-room-gt0.true) c.equivalence.ensures

pub operand-returns-then-room-gt0 : goal.operand-returns-then-room-gt0
operand-returns-then-room-gt0 t c = rw (room_operand c.args.room c.args.self.now c.if-room-gt0.true) c.unary.ensures

pub enclosed-returns-then-room-gt0 : goal.enclosed-returns-then-room-gt0
enclosed-returns-then-room-gt0 t c = rw (room_enclosed c.args.room c.args.at c.args.self.now c.if-room-gt0.true) c.quantified.ensures

pub attribute_inside-returns-then-room-gt0 : goal.attribute_inside-returns-then-room-gt0
attribute_inside-returns-then-room-gt0 t c = rw (room_attr c.args.room c.args.self.now c.if-room-gt0.true) c.named_attribute.ensures

pub terms-loop-alloc-init : goal.terms-loop-alloc-init
terms-loop-alloc-init t c = none_yet (terms_with c.args.room (read_inner c.args.room) c.args.self.now) c.new-found.result.items c.new-found.ensures.items

pub terms-returns-in_err-further : goal.terms-returns-in_err-further
unfolding terms_with
terms-returns-in_err-further t c = refused_as (λ n. n) (λ v. v.items) (term_with c.args.room (read_inner c.args.room) c.loop-alloc.self) (terms_with c.args.room (read_inner c.args.room) c.args.self.now) c.from_residual.result c.in_err-further.field-0.0 c.term.new.self c.term.new.self
    c.from_residual.ensures.1 c.in_err-further.ensures refl
    (λ x h. loop_stuck (λ us. sees (fixed (codes "+")) us || sees (fixed (codes "-")) us) (term_with c.args.room (read_inner c.args.room)) (λ xs. xs) c.loop-alloc.found.items (terms_with c.args.room (read_inner c.args.room) c.args.self.now) c.loop-alloc.self x c.loop-alloc.invariant (sym c.starts_term.ensures ∙ c.loop-alloc-test.true) h)

pub terms-loop-alloc-smaller : goal.terms-loop-alloc-smaller
terms-loop-alloc-smaller t c = (term_shrinks c.args.room) c.loop-alloc.self c.in_ok-further.further c.term.new.self c.in_ok-further.ensures

pub terms-loop-alloc-preserved : goal.terms-loop-alloc-preserved
unfolding terms_with
terms-loop-alloc-preserved t c = rw c.in_ok-push.ensures.items (loop_more (λ us. sees (fixed (codes "+")) us || sees (fixed (codes "-")) us) (term_with c.args.room (read_inner c.args.room)) (λ xs. xs) c.loop-alloc.found.items (term_shrinks c.args.room) (terms_with c.args.room (read_inner c.args.room) c.args.self.now) c.loop-alloc.self c.in_ok-further.further c.term.new.self c.loop-alloc.invariant (sym c.starts_term.ensures ∙ c.loop-alloc-test.true) c.in_ok-further.ensures)

pub terms-returns : goal.terms-returns
unfolding terms_with
terms-returns t c = loop_end (λ us. sees (fixed (codes "+")) us || sees (fixed (codes "-")) us) (term_with c.args.room (read_inner c.args.room)) (λ xs. xs) c.loop-alloc.found.items (terms_with c.args.room (read_inner c.args.room) c.args.self.now) c.loop-alloc.self c.loop-alloc.invariant (sym c.starts_term.ensures ∙ c.loop-alloc-test.false)

pub indices-loop-alloc-init : goal.indices-loop-alloc-init
indices-loop-alloc-init t c = none_yet (indices_with c.args.room (read_inner c.args.room) c.args.self.now) c.new-found.result.items c.new-found.ensures.items

pub indices-returns-in_err-further : goal.indices-returns-in_err-further
unfolding indices_with
indices-returns-in_err-further t c = refused_as (λ n. n) (λ v. v.items) (index_with c.args.room (read_inner c.args.room) c.loop-alloc.self) (indices_with c.args.room (read_inner c.args.room) c.args.self.now) c.from_residual.result c.in_err-further.field-0.0 c.index.new.self c.index.new.self
    c.from_residual.ensures.1 c.in_err-further.ensures refl
    (λ x h. loop_stuck (sees (fixed (codes "["))) (index_with c.args.room (read_inner c.args.room)) (λ xs. xs) c.loop-alloc.found.items (indices_with c.args.room (read_inner c.args.room) c.args.self.now) c.loop-alloc.self x c.loop-alloc.invariant (sym c.sees.ensures ∙ c.loop-alloc-test.true) h)

pub indices-loop-alloc-smaller : goal.indices-loop-alloc-smaller
indices-loop-alloc-smaller t c = (index_shrinks c.args.room) c.loop-alloc.self c.in_ok-further.further c.index.new.self c.in_ok-further.ensures

pub indices-loop-alloc-preserved : goal.indices-loop-alloc-preserved
unfolding indices_with
indices-loop-alloc-preserved t c = rw c.in_ok-push.ensures.items (loop_more (sees (fixed (codes "["))) (index_with c.args.room (read_inner c.args.room)) (λ xs. xs) c.loop-alloc.found.items (index_shrinks c.args.room) (indices_with c.args.room (read_inner c.args.room) c.args.self.now) c.loop-alloc.self c.in_ok-further.further c.index.new.self c.loop-alloc.invariant (sym c.sees.ensures ∙ c.loop-alloc-test.true) c.in_ok-further.ensures)

pub indices-returns : goal.indices-returns
unfolding indices_with
indices-returns t c = loop_end (sees (fixed (codes "["))) (index_with c.args.room (read_inner c.args.room)) (λ xs. xs) c.loop-alloc.found.items (indices_with c.args.room (read_inner c.args.room) c.args.self.now) c.loop-alloc.self c.loop-alloc.invariant (sym c.sees.ensures ∙ c.loop-alloc-test.false)

pub marks-returns-in_err-trigger : goal.marks-returns-in_err-trigger
marks-returns-in_err-trigger t c = refused_as (option_map trigger_seen) (λ v. map trigger_seen v.items) (mark_with c.args.room (read_inner c.args.room) c.loop-alloc.self) (marks_with c.args.room (read_inner c.args.room) c.args.self.now) c.from_residual.result c.in_err-trigger.field-0.0 c.mark.new.self c.mark.new.self
    c.from_residual.ensures.1 c.in_err-trigger.ensures refl
    (λ x h. kept_stuck (sees (fixed (codes "{"))) (mark_with c.args.room (read_inner c.args.room)) (map trigger_seen c.loop-alloc.found.items) (marks_with c.args.room (read_inner c.args.room) c.args.self.now) c.loop-alloc.self x c.loop-alloc.invariant (sym c.sees.ensures ∙ c.loop-alloc-test.true) h)

pub marks-loop-alloc-smaller-in_default : goal.marks-loop-alloc-smaller-in_default
marks-loop-alloc-smaller-in_default t c = mark_shrinks c.args.room c.loop-alloc.self (option_map trigger_seen c.in_ok-trigger.field-0) c.mark.new.self c.in_ok-trigger.ensures

pub marks-loop-alloc-preserved-in_default : goal.marks-loop-alloc-preserved-in_default
marks-loop-alloc-preserved-in_default t c = kept_more (sees (fixed (codes "{"))) (mark_with c.args.room (read_inner c.args.room)) (map trigger_seen c.loop-alloc.found.items) (marks_with c.args.room (read_inner c.args.room) c.args.self.now) (mark_shrinks c.args.room) (map trigger_seen c.loop-alloc.found.items) c.loop-alloc.self (option_map trigger_seen c.in_ok-trigger.field-0) c.mark.new.self c.loop-alloc.invariant (sym c.sees.ensures ∙ c.loop-alloc-test.true) c.in_ok-trigger.ensures
    (sym (ap (λ o. (map trigger_seen c.loop-alloc.found.items) ++ kept (option_map trigger_seen o ∷ [])) c.in_default.is ∙ append-nil (map trigger_seen c.loop-alloc.found.items)))

pub marks-loop-alloc-smaller : goal.marks-loop-alloc-smaller
marks-loop-alloc-smaller t c = mark_shrinks c.args.room c.loop-alloc.self (option_map trigger_seen c.in_ok-trigger.field-0) c.mark.new.self c.in_ok-trigger.ensures

pub marks-loop-alloc-preserved : goal.marks-loop-alloc-preserved
marks-loop-alloc-preserved t c = kept_more (sees (fixed (codes "{"))) (mark_with c.args.room (read_inner c.args.room)) (map trigger_seen c.loop-alloc.found.items) (marks_with c.args.room (read_inner c.args.room) c.args.self.now) (mark_shrinks c.args.room) (map trigger_seen c.push.new.self.items) c.loop-alloc.self (option_map trigger_seen c.in_ok-trigger.field-0) c.mark.new.self c.loop-alloc.invariant (sym c.sees.ensures ∙ c.loop-alloc-test.true) c.in_ok-trigger.ensures
    (ap (map trigger_seen) c.in_ok-push.ensures.items ∙ (map_append trigger_seen c.loop-alloc.found.items (c.in-Some.trigger ∷ []) ∙ sym (ap (λ o. (map trigger_seen c.loop-alloc.found.items) ++ kept (option_map trigger_seen o ∷ [])) c.in-Some.is)))

pub marks-returns : goal.marks-returns
marks-returns t c = kept_end (sees (fixed (codes "{"))) (mark_with c.args.room (read_inner c.args.room)) (map trigger_seen c.loop-alloc.found.items) (marks_with c.args.room (read_inner c.args.room) c.args.self.now) c.loop-alloc.self c.loop-alloc.invariant (sym c.sees.ensures ∙ c.loop-alloc-test.false)

pub attribute_arguments-returns-in_err-attribute_argument-2 : goal.attribute_arguments-returns-in_err-attribute_argument-2
attribute_arguments-returns-in_err-attribute_argument-2 t c = refused_as (λ n. n) (λ n. n) (arg_with (read_inner c.args.room) c.skip.new.self) (read_as (λ xs. tt {0}) (listed (arg_with (read_inner c.args.room)) c.args.self.now)) c.from_residual-in_err-attribute_argument-2.result c.in_err-attribute_argument-2.field-0.0 c.attribute_argument-in-loop-alloc.new.self c.attribute_argument-in-loop-alloc.new.self
    c.from_residual-in_err-attribute_argument-2.ensures.1 c.in_err-attribute_argument-2.ensures refl
    (λ x h. behind_stuck (fixed (codes ",")) (arg_with (read_inner c.args.room)) (λ us. tt {0}) [] (read_as (λ xs. tt {0}) (listed (arg_with (read_inner c.args.room)) c.args.self.now)) c.loop-alloc.self c.skip.new.self x c.loop-alloc.invariant (sym c.sees.ensures ∙ c.loop-alloc-test.true) c.skip.ensures h)

pub attribute_arguments-loop-alloc-smaller : goal.attribute_arguments-loop-alloc-smaller
attribute_arguments-loop-alloc-smaller t c = behind_smaller (fixed (codes ",")) (arg_with (read_inner c.args.room)) (λ us. tt {0}) [] (read_as (λ xs. tt {0}) (listed (arg_with (read_inner c.args.room)) c.args.self.now)) (arg_shrinks c.args.room) c.loop-alloc.self c.skip.new.self (tt {0}) c.attribute_argument-in-loop-alloc.new.self c.skip.ensures c.in_ok-attribute_argument-2.ensures

pub attribute_arguments-loop-alloc-preserved : goal.attribute_arguments-loop-alloc-preserved
attribute_arguments-loop-alloc-preserved t c = behind_more (fixed (codes ",")) (arg_with (read_inner c.args.room)) (λ us. tt {0}) [] (read_as (λ xs. tt {0}) (listed (arg_with (read_inner c.args.room)) c.args.self.now)) (arg_shrinks c.args.room) c.loop-alloc.self c.skip.new.self (tt {0}) c.attribute_argument-in-loop-alloc.new.self c.loop-alloc.invariant (sym c.sees.ensures ∙ c.loop-alloc-test.true) c.skip.ensures c.in_ok-attribute_argument-2.ensures

pub attribute_arguments-returns : goal.attribute_arguments-returns
attribute_arguments-returns t c = behind_end (fixed (codes ",")) (arg_with (read_inner c.args.room)) (λ us. tt {0}) [] (read_as (λ xs. tt {0}) (listed (arg_with (read_inner c.args.room)) c.args.self.now)) c.loop-alloc.self c.loop-alloc.invariant (sym c.sees.ensures ∙ c.loop-alloc-test.false)
