use Rattle.std.proofs.Common.{◌≡◌, ◌∙◌, ◌<◌, sym, ap, arith, [], length, get_or, Some}
use Rattle.std.proofs.lemmas.List.{get_or_default}
use Rattle.logic_core.specs.Tree.{nodes}
use Rattle.term_bank.specs.Numbered.{number_of}
use Rattle.term_bank.specs.Standing.{triggers, row_of}
use Rattle.term_bank.specs.declared.places.Way.{Way}
use Rattle.term_bank.proofs.Numbers.{begins_then, begins_same}
use Rattle.term_bank.proofs.NumberedLists.{lists_kept}
use Rattle.term_bank.proofs.Smaller.{part_smaller}
use Rattle.term_bank.proofs.Steps.{numbers_next, lists_next, numbers_end, lists_end}
use Rattle.numbered_terms.proofs.number.+number.Goals as goal

pub number-number_lists-requires : goal.number-number_lists-requires
number-number_lists-requires t c = omega (arith, c.decreases)

pub number-number_row-requires : goal.number-number_row-requires
number-number_row-requires t c = omega (arith, c.decreases)

pub number-returns-in_err-parts-clause-grows : goal.number-returns-in_err-parts-clause-grows
number-returns-in_err-parts-clause-grows t c = begins_then c.args.terms.now c.number_lists.new.terms c.number_row.new.terms c.number_lists.ensures.grows c.number_row.ensures.grows

pub number-returns-in_err-node-clause-grows : goal.number-returns-in_err-node-clause-grows
number-returns-in_err-node-clause-grows t c = begins_then c.args.terms.now c.number_lists.new.terms c.number_row.new.terms c.number_lists.ensures.grows c.number_row.ensures.grows

pub number-make-requires : goal.number-make-requires
number-make-requires t c = (c.in_ok-node.ensures c.number_row.new.terms c.in_ok-parts.ensures.numbers (lists_kept c.number_lists.new.terms c.number_row.new.terms _ _ c.number_row.ensures.grows c.in_ok-lists.ensures.numbers)).1

pub number-returns-in_err-made-clause-grows : goal.number-returns-in_err-made-clause-grows
number-returns-in_err-made-clause-grows t c = begins_then c.args.terms.now c.number_row.new.terms c.make.new.self
    (begins_then c.args.terms.now c.number_lists.new.terms c.number_row.new.terms c.number_lists.ensures.grows c.number_row.ensures.grows) c.make.ensures.grows

pub number-returns-clause-grows : goal.number-returns-clause-grows
number-returns-clause-grows t c = begins_then c.args.terms.now c.number_row.new.terms c.make.new.self
    (begins_then c.args.terms.now c.number_lists.new.terms c.number_row.new.terms c.number_lists.ensures.grows c.number_row.ensures.grows) c.make.ensures.grows

pub number-returns-clause-number : goal.number-returns-clause-number
number-returns-clause-number t c =
    let n = (c.in_ok-node.ensures c.number_row.new.terms c.in_ok-parts.ensures.numbers (lists_kept c.number_lists.new.terms c.number_row.new.terms _ _ c.number_row.ensures.grows c.in_ok-lists.ensures.numbers)).0 in
    let made = c.in_ok-made.ensures.number in
    ap (number_of c.make.new.self) (sym (made.1 ∙ n)) ∙ c.are_stored.ensures.apart c.in_ok-made.made made.0

pub number_row-loop-item-init : goal.number_row-loop-item-init
number_row-loop-item-init t c = record { grows = begins_same c.args.terms.now; numbers = rw c.new-numbers.ensures.items tt }

pub number_row-number-requires : goal.number_row-number-requires
number_row-number-requires t c =
    let w : Way = record { pattern = c.args.pattern; item = c.loop-item.item } in
    let l : c.loop-item.item < length (row_of c.args.term.now c.args.pattern) = omega (arith, c.loop-item-test.true, c.row_len-item-end.ensures) in
    omega (arith, c.decreases, part_smaller c.args.term.now w l, ap nodes c.part_of.ensures)

pub number_row-returns-in_err-id-clause-grows : goal.number_row-returns-in_err-id-clause-grows
number_row-returns-in_err-id-clause-grows t c = begins_then c.args.terms.now c.loop-item.terms c.number.new.terms c.loop-item.invariant.grows c.number.ensures.grows

pub number_row-returns-in_err-push-clause-grows : goal.number_row-returns-in_err-push-clause-grows
number_row-returns-in_err-push-clause-grows t c = begins_then c.args.terms.now c.loop-item.terms c.number.new.terms c.loop-item.invariant.grows c.number.ensures.grows

pub number_row-loop-item-preserved : goal.number_row-loop-item-preserved
number_row-loop-item-preserved t c =
    let w : Way = record { pattern = c.args.pattern; item = c.loop-item.item } in
    let l : c.loop-item.item < length (row_of c.args.term.now c.args.pattern) = omega (arith, c.loop-item-test.true, c.row_len-item-end.ensures) in
    let e : c.part_of.result.now ≡ get_or (row_of c.args.term.now c.args.pattern) c.loop-item.item c.part_of.result.now = c.part_of.ensures ∙ get_or_default (row_of c.args.term.now c.args.pattern) c.loop-item.item c.args.term.now c.part_of.result.now l in
    record {
      grows = begins_then c.args.terms.now c.loop-item.terms c.number.new.terms c.loop-item.invariant.grows c.number.ensures.grows;
      numbers = numbers_next c.loop-item.terms c.number.new.terms c.loop-item.numbers.items c.push.new.self.items (row_of c.args.term.now c.args.pattern) c.loop-item.item c.in_ok-id.id c.part_of.result.now l e c.number.ensures.grows c.loop-item.invariant.numbers c.in_ok-id.ensures.number c.in_ok-push.ensures.items;
    }

pub number_row-returns-clause-numbers : goal.number_row-returns-clause-numbers
number_row-returns-clause-numbers t c = numbers_end c.loop-item.terms c.loop-item.numbers.items (row_of c.args.term.now c.args.pattern) c.loop-item.item (omega (arith, c.loop-item-test.false, c.row_len-item-end.ensures)) c.loop-item.invariant.numbers

pub number_lists-loop-pattern-init : goal.number_lists-loop-pattern-init
number_lists-loop-pattern-init t c = record { grows = begins_same c.args.terms.now; numbers = rw c.new-lists.ensures.items tt }

pub number_lists-number_row-requires : goal.number_lists-number_row-requires
number_lists-number_row-requires t c = omega (arith, c.decreases)

pub number_lists-returns-in_err-row-clause-grows : goal.number_lists-returns-in_err-row-clause-grows
number_lists-returns-in_err-row-clause-grows t c = begins_then c.args.terms.now c.loop-pattern.terms c.number_row.new.terms c.loop-pattern.invariant.grows c.number_row.ensures.grows

pub number_lists-returns-in_err-push-clause-grows : goal.number_lists-returns-in_err-push-clause-grows
number_lists-returns-in_err-push-clause-grows t c = begins_then c.args.terms.now c.loop-pattern.terms c.number_row.new.terms c.loop-pattern.invariant.grows c.number_row.ensures.grows

pub number_lists-loop-pattern-preserved : goal.number_lists-loop-pattern-preserved
number_lists-loop-pattern-preserved t c =
    let l : c.loop-pattern.pattern < length (triggers c.args.term.now) = omega (arith, c.loop-pattern-test.true, c.trigger_count-pattern-end.ensures) in
    let row = row_of c.args.term.now (Some c.loop-pattern.pattern) in
    let e : row ≡ get_or (triggers c.args.term.now) c.loop-pattern.pattern row = get_or_default (triggers c.args.term.now) c.loop-pattern.pattern [] row l in
    record {
      grows = begins_then c.args.terms.now c.loop-pattern.terms c.number_row.new.terms c.loop-pattern.invariant.grows c.number_row.ensures.grows;
      numbers = lists_next c.loop-pattern.terms c.number_row.new.terms c.loop-pattern.lists.items c.push.new.self.items (triggers c.args.term.now) c.loop-pattern.pattern c.in_ok-row.row row l e c.number_row.ensures.grows c.loop-pattern.invariant.numbers c.in_ok-row.ensures.numbers c.in_ok-push.ensures.items;
    }

pub number_lists-returns-clause-numbers : goal.number_lists-returns-clause-numbers
number_lists-returns-clause-numbers t c = lists_end c.loop-pattern.terms c.loop-pattern.lists.items (triggers c.args.term.now) c.loop-pattern.pattern (omega (arith, c.loop-pattern-test.false, c.trigger_count-pattern-end.ensures)) c.loop-pattern.invariant.numbers
