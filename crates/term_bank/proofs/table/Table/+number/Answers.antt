use Rattle.std.proofs.Common.{◌≡◌, ◌∙◌, ◌<◌, ◌≤◌, sym, ap, subst, refl, arith, List, [], length, get_or, Some}
use Rattle.std.proofs.lemmas.Result.{err_from_is_err_and}
use Rattle.std.proofs.lemmas.Grind.{common_steps}
use Rattle.std.proofs.lemmas.List.{get_or_default}
use Rattle.logic_core.specs.Tree.{Tree, nodes}
use Rattle.logic_core.specs.View.{trees_of, patterns_of}
use Rattle.term_bank.specs.Numbered.{at, with_term, with_whole, with_each, Begins}
use Rattle.term_bank.specs.Standing.{triggers, row_of, part_or_self}
use Rattle.term_bank.proofs.Numbers.{begins_then, begins_same, begins_equal, begins_patterns, begins_whole, begins_each}
use Rattle.term_bank.proofs.NumberedLists.{lists_kept}
use Rattle.term_bank.proofs.Rows.{after_parts, after_lists, inner_done, kept_parts, kept_both, front_of_whole, still_within, still_stands}
use Rattle.term_bank.specs.declared.places.Way.{Way}
use Rattle.term_bank.proofs.Smaller.{part_smaller}
use Rattle.term_bank.proofs.Steps.{each_next, each_stops, rows_next, rows_stop, row_refused, numbers_next, lists_next, each_ends, rows_end, numbers_end, lists_end}
use Rattle.term_bank.proofs.table.Table.+number.Goals as goal

pub number-number_lists-requires : goal.number-number_lists-requires
number-number_lists-requires t c = (omega (arith, c.decreases), (c.requires.within, c.requires.stands))

pub number-returns-in_err-lists : goal.number-returns-in_err-lists
number-returns-in_err-lists t c = let h = c.in_err-lists.ensures in
    rw (err_from_is_err_and c.from_residual.result c.from_residual.ensures.1).1 (h.0, (h.1.0, after_lists c.args.self.now.terms c.number_lists.new.self.terms c.args.term.now h.1.1))

pub number-number_row-requires : goal.number-number_row-requires
number-number_row-requires t c = let h = c.in_ok-lists.ensures in
    (omega (arith, c.decreases), (still_within c.args.self.now.standing c.number_lists.new.self.standing c.args.place h.0 c.requires.within, still_stands c.args.self.now.standing c.number_lists.new.self.standing c.args.place c.args.term.now h.0 c.requires.within c.requires.stands))

pub number-returns-in_err-parts : goal.number-returns-in_err-parts
number-returns-in_err-parts t c = let h = c.in_ok-lists.ensures in let g = c.in_err-parts.ensures in
    rw (err_from_is_err_and c.from_residual-in_err-parts.result c.from_residual-in_err-parts.ensures.1).1 (
      begins_then c.args.self.now.standing c.number_lists.new.self.standing c.number_row.new.self.standing h.0 g.0,
      (
        begins_then c.args.self.now.terms c.number_lists.new.self.terms c.number_row.new.self.terms (subst (Begins c.args.self.now.terms) (sym h.1.0) (begins_patterns c.args.self.now.terms (patterns_of (triggers c.args.term.now)))) g.1.0,
        after_parts c.args.self.now.terms c.number_row.new.self.terms c.number_lists.new.self.terms c.args.term.now h.1.0 g.1.1,
      ),
    )

pub number-returns-in_err-node : goal.number-returns-in_err-node
number-returns-in_err-node t c = let h = c.in_ok-lists.ensures in let g = c.in_ok-parts.ensures in
    rw (err_from_is_err_and c.from_residual-in_err-node.result c.from_residual-in_err-node.ensures.1).1 (
      begins_then c.args.self.now.standing c.number_lists.new.self.standing c.number_row.new.self.standing h.0 g.0,
      (
        kept_both c.args.self.now c.number_lists.new.self c.number_row.new.self c.args.term.now h.1.0 g.1.0,
        front_of_whole c.args.self.now c.number_lists.new.self c.number_row.new.self c.args.term.now h.1.0 g.1.0,
      ),
    )

pub number-add-requires-clause-within : goal.number-add-requires-clause-within
number-add-requires-clause-within t c = let h = c.in_ok-lists.ensures in let g = c.in_ok-parts.ensures in
    still_within c.args.self.now.standing c.number_row.new.self.standing c.args.place (begins_then c.args.self.now.standing c.number_lists.new.self.standing c.number_row.new.self.standing h.0 g.0) c.requires.within

pub number-add-requires-clause-stands : goal.number-add-requires-clause-stands
number-add-requires-clause-stands t c = let h = c.in_ok-lists.ensures in let g = c.in_ok-parts.ensures in
    still_stands c.args.self.now.standing c.number_row.new.self.standing c.args.place c.args.term.now (begins_then c.args.self.now.standing c.number_lists.new.self.standing c.number_row.new.self.standing h.0 g.0) c.requires.within c.requires.stands

pub number-add-requires-clause-node : goal.number-add-requires-clause-node
number-add-requires-clause-node t c = let h = c.in_ok-lists.ensures in let g = c.in_ok-parts.ensures in
    (c.in_ok-node.ensures c.number_row.new.self.terms g.1.1 (lists_kept c.number_lists.new.self.terms c.number_row.new.self.terms _ _ (kept_parts c.args.self.now c.number_lists.new.self c.number_row.new.self c.args.term.now h.1.0 g.1.0) h.1.1)).0

pub number-add-requires-clause-lower : goal.number-add-requires-clause-lower
number-add-requires-clause-lower t c = let h = c.in_ok-lists.ensures in let g = c.in_ok-parts.ensures in
    (c.in_ok-node.ensures c.number_row.new.self.terms g.1.1 (lists_kept c.number_lists.new.self.terms c.number_row.new.self.terms _ _ (kept_parts c.args.self.now c.number_lists.new.self c.number_row.new.self c.args.term.now h.1.0 g.1.0) h.1.1)).1

pub number-returns-in_err-id : goal.number-returns-in_err-id
number-returns-in_err-id t c = let h = c.in_ok-lists.ensures in let g = c.in_ok-parts.ensures in
    let d = inner_done c.args.self.now c.number_lists.new.self c.number_row.new.self c.args.term.now h.1.0 g.1.0 in
    rw (err_from_is_err_and c.from_residual-in_err-id.result c.from_residual-in_err-id.ensures.1).1 (
      subst (Begins c.args.self.now.standing) (sym c.in_err-id.ensures.standing) (begins_then c.args.self.now.standing c.number_lists.new.self.standing c.number_row.new.self.standing h.0 g.0),
      (
        begins_then c.args.self.now.terms c.number_row.new.self.terms c.add.new.self.terms (kept_both c.args.self.now c.number_lists.new.self c.number_row.new.self c.args.term.now h.1.0 g.1.0) c.in_err-id.ensures.kept,
        subst (λ (xs : List Tree). Begins c.add.new.self.terms (with_term xs c.args.term.now)) d c.in_err-id.ensures.memory,
      ),
    )

pub number-returns : goal.number-returns
number-returns t c = let h = c.in_ok-lists.ensures in let g = c.in_ok-parts.ensures in
    let d = inner_done c.args.self.now c.number_lists.new.self c.number_row.new.self c.args.term.now h.1.0 g.1.0 in (
      subst (Begins c.args.self.now.standing) (sym c.in_ok-id.ensures.standing) (begins_then c.args.self.now.standing c.number_lists.new.self.standing c.number_row.new.self.standing h.0 g.0),
      (c.in_ok-id.ensures.terms ∙ ap (λ (xs : List Tree). with_term xs c.args.term.now) d, c.in_ok-id.ensures.number),
    )

pub number_row-loop-item-init : goal.number_row-loop-item-init
number_row-loop-item-init t c = record { terms = refl; numbers = rw c.new-numbers.ensures.items tt; kept = begins_same c.args.self.now.terms; standing = begins_same c.args.self.now.standing }

pub number_row-place_part-requires : goal.number_row-place_part-requires
number_row-place_part-requires t c = still_within c.args.self.now.standing c.loop-item.self.standing c.args.of c.loop-item.invariant.standing c.requires.within

pub number_row-returns-in_err-place : goal.number_row-returns-in_err-place
number_row-returns-in_err-place t c = rw (err_from_is_err_and c.from_residual.result c.from_residual.ensures.1).1 (
  begins_then c.args.self.now.standing c.loop-item.self.standing c.place_part.new.self.standing c.loop-item.invariant.standing c.in_err-place.ensures.standing,
  (
    subst (Begins c.args.self.now.terms) (sym c.in_err-place.ensures.terms) c.loop-item.invariant.kept,
    row_refused c.loop-item.self.terms c.place_part.new.self.terms _ (row_of c.args.term.now c.args.pattern) c.loop-item.item c.loop-item.invariant.terms c.in_err-place.ensures.terms,
  ),
)

pub number_row-number-requires : goal.number_row-number-requires
number_row-number-requires t c =
    let w : Way = record { pattern = c.args.pattern; item = c.loop-item.item } in
    let l : c.loop-item.item < length (row_of c.args.term.now c.args.pattern) = omega (arith, c.loop-item-test.true, c.row_len-item-end.ensures) in
    let s = c.in_ok-place.ensures.place in
    let stood = still_stands c.args.self.now.standing c.loop-item.self.standing c.args.of c.args.term.now c.loop-item.invariant.standing c.requires.within c.requires.stands in (
      omega (arith, c.decreases, part_smaller c.args.term.now w l, ap nodes c.part_of.ensures),
      (s.0, s.1 ∙ ap (λ (u : Tree). part_or_self u w) stood ∙ sym c.part_of.ensures),
    )

pub number_row-returns-in_err-number : goal.number_row-returns-in_err-number
number_row-returns-in_err-number t c =
    let w : Way = record { pattern = c.args.pattern; item = c.loop-item.item } in
    let l : c.loop-item.item < length (row_of c.args.term.now c.args.pattern) = omega (arith, c.loop-item-test.true, c.row_len-item-end.ensures) in
    let e : c.part_of.result.now ≡ get_or (row_of c.args.term.now c.args.pattern) c.loop-item.item c.part_of.result.now = c.part_of.ensures ∙ get_or_default (row_of c.args.term.now c.args.pattern) c.loop-item.item c.args.term.now c.part_of.result.now l in
    let g = c.in_err-number.ensures in let q = c.in_ok-place.ensures.terms in
    rw (err_from_is_err_and c.from_residual-in_err-number.result c.from_residual-in_err-number.ensures.1).1 (
      begins_then c.args.self.now.standing c.place_part.new.self.standing c.number.new.self.standing (begins_then c.args.self.now.standing c.loop-item.self.standing c.place_part.new.self.standing c.loop-item.invariant.standing c.in_ok-place.ensures.standing) g.0,
      (
        begins_then c.args.self.now.terms c.loop-item.self.terms c.number.new.self.terms c.loop-item.invariant.kept (subst (λ (xs : List Tree). Begins xs c.number.new.self.terms) q g.1.0),
        each_stops c.loop-item.self.terms c.number.new.self.terms _ (row_of c.args.term.now c.args.pattern) c.loop-item.item c.part_of.result.now l e c.loop-item.invariant.terms
            (subst (λ (xs : List Tree). Begins c.number.new.self.terms (with_whole xs c.part_of.result.now)) q g.1.1),
      ),
    )

pub number_row-returns-in_err-push : goal.number_row-returns-in_err-push
number_row-returns-in_err-push t c =
    let w : Way = record { pattern = c.args.pattern; item = c.loop-item.item } in
    let l : c.loop-item.item < length (row_of c.args.term.now c.args.pattern) = omega (arith, c.loop-item-test.true, c.row_len-item-end.ensures) in
    let e : c.part_of.result.now ≡ get_or (row_of c.args.term.now c.args.pattern) c.loop-item.item c.part_of.result.now = c.part_of.ensures ∙ get_or_default (row_of c.args.term.now c.args.pattern) c.loop-item.item c.args.term.now c.part_of.result.now l in
    let g = c.in_ok-number.ensures in let q = c.in_ok-place.ensures.terms in
    let u = g.1.0 ∙ ap (λ (xs : List Tree). with_whole xs c.part_of.result.now) q in
    rw (err_from_is_err_and c.from_residual-in_err-push.result c.from_residual-in_err-push.ensures.1).1 (
      begins_then c.args.self.now.standing c.place_part.new.self.standing c.number.new.self.standing (begins_then c.args.self.now.standing c.loop-item.self.standing c.place_part.new.self.standing c.loop-item.invariant.standing c.in_ok-place.ensures.standing) g.0,
      (
        begins_then c.args.self.now.terms c.loop-item.self.terms c.number.new.self.terms c.loop-item.invariant.kept (subst (Begins c.loop-item.self.terms) (sym u) (begins_whole c.loop-item.self.terms c.part_of.result.now)),
        each_stops c.loop-item.self.terms c.number.new.self.terms _ (row_of c.args.term.now c.args.pattern) c.loop-item.item c.part_of.result.now l e c.loop-item.invariant.terms (begins_equal c.number.new.self.terms _ (sym u)),
      ),
    )

pub number_row-loop-item-smaller : goal.number_row-loop-item-smaller
number_row-loop-item-smaller t c = grind (arith, common_steps)

pub number_row-loop-item-preserved : goal.number_row-loop-item-preserved
number_row-loop-item-preserved t c =
    let w : Way = record { pattern = c.args.pattern; item = c.loop-item.item } in
    let l : c.loop-item.item < length (row_of c.args.term.now c.args.pattern) = omega (arith, c.loop-item-test.true, c.row_len-item-end.ensures) in
    let e : c.part_of.result.now ≡ get_or (row_of c.args.term.now c.args.pattern) c.loop-item.item c.part_of.result.now = c.part_of.ensures ∙ get_or_default (row_of c.args.term.now c.args.pattern) c.loop-item.item c.args.term.now c.part_of.result.now l in
    let g = c.in_ok-number.ensures in let q = c.in_ok-place.ensures.terms in
    let u = g.1.0 ∙ ap (λ (xs : List Tree). with_whole xs c.part_of.result.now) q in
    let b : Begins c.loop-item.self.terms c.number.new.self.terms = subst (Begins c.loop-item.self.terms) (sym u) (begins_whole c.loop-item.self.terms c.part_of.result.now) in
    record {
      terms = each_next c.loop-item.self.terms c.number.new.self.terms _ (row_of c.args.term.now c.args.pattern) c.loop-item.item c.part_of.result.now l e c.loop-item.invariant.terms u;
      numbers = numbers_next c.loop-item.self.terms c.number.new.self.terms c.loop-item.numbers.items c.push.new.self.items (row_of c.args.term.now c.args.pattern) c.loop-item.item c.in_ok-number.number c.part_of.result.now l e b c.loop-item.invariant.numbers g.1.1 c.in_ok-push.ensures.items;
      kept = begins_then c.args.self.now.terms c.loop-item.self.terms c.number.new.self.terms c.loop-item.invariant.kept b;
      standing = begins_then c.args.self.now.standing c.place_part.new.self.standing c.number.new.self.standing (begins_then c.args.self.now.standing c.loop-item.self.standing c.place_part.new.self.standing c.loop-item.invariant.standing c.in_ok-place.ensures.standing) g.0;
    }

pub number_row-returns : goal.number_row-returns
number_row-returns t c = let l : length (row_of c.args.term.now c.args.pattern) ≤ c.loop-item.item = omega (arith, c.loop-item-test.false, c.row_len-item-end.ensures) in (
  c.loop-item.invariant.standing,
  (
    each_ends c.loop-item.self.terms _ (row_of c.args.term.now c.args.pattern) c.loop-item.item l c.loop-item.invariant.terms,
    numbers_end c.loop-item.self.terms c.loop-item.numbers.items (row_of c.args.term.now c.args.pattern) c.loop-item.item l c.loop-item.invariant.numbers,
  ),
)

pub number_lists-loop-pattern-init : goal.number_lists-loop-pattern-init
number_lists-loop-pattern-init t c = record { terms = refl; numbers = rw c.new-lists.ensures.items tt; kept = begins_same c.args.self.now.terms; standing = begins_same c.args.self.now.standing }

pub number_lists-number_row-requires : goal.number_lists-number_row-requires
number_lists-number_row-requires t c = (
  omega (arith, c.decreases),
  (
    still_within c.args.self.now.standing c.loop-pattern.self.standing c.args.of c.loop-pattern.invariant.standing c.requires.within,
    still_stands c.args.self.now.standing c.loop-pattern.self.standing c.args.of c.args.term.now c.loop-pattern.invariant.standing c.requires.within c.requires.stands,
  ),
)

pub number_lists-returns-in_err-row : goal.number_lists-returns-in_err-row
number_lists-returns-in_err-row t c =
    let l : c.loop-pattern.pattern < length (triggers c.args.term.now) = omega (arith, c.loop-pattern-test.true, c.trigger_count-pattern-end.ensures) in
    let row = row_of c.args.term.now (Some c.loop-pattern.pattern) in
    let e : row ≡ get_or (triggers c.args.term.now) c.loop-pattern.pattern row = get_or_default (triggers c.args.term.now) c.loop-pattern.pattern [] row l in
    let g = c.in_err-row.ensures in
    rw (err_from_is_err_and c.from_residual.result c.from_residual.ensures.1).1 (
      begins_then c.args.self.now.standing c.loop-pattern.self.standing c.number_row.new.self.standing c.loop-pattern.invariant.standing g.0,
      (
        begins_then c.args.self.now.terms c.loop-pattern.self.terms c.number_row.new.self.terms c.loop-pattern.invariant.kept g.1.0,
        rows_stop c.loop-pattern.self.terms c.number_row.new.self.terms _ (triggers c.args.term.now) c.loop-pattern.pattern row l e c.loop-pattern.invariant.terms g.1.1,
      ),
    )

pub number_lists-returns-in_err-push : goal.number_lists-returns-in_err-push
number_lists-returns-in_err-push t c =
    let l : c.loop-pattern.pattern < length (triggers c.args.term.now) = omega (arith, c.loop-pattern-test.true, c.trigger_count-pattern-end.ensures) in
    let row = row_of c.args.term.now (Some c.loop-pattern.pattern) in
    let e : row ≡ get_or (triggers c.args.term.now) c.loop-pattern.pattern row = get_or_default (triggers c.args.term.now) c.loop-pattern.pattern [] row l in
    let g = c.in_ok-row.ensures in
    rw (err_from_is_err_and c.from_residual-in_err-push.result c.from_residual-in_err-push.ensures.1).1 (
      begins_then c.args.self.now.standing c.loop-pattern.self.standing c.number_row.new.self.standing c.loop-pattern.invariant.standing g.0,
      (
        begins_then c.args.self.now.terms c.loop-pattern.self.terms c.number_row.new.self.terms c.loop-pattern.invariant.kept (subst (Begins c.loop-pattern.self.terms) (sym g.1.0) (begins_each c.loop-pattern.self.terms (trees_of row))),
        rows_stop c.loop-pattern.self.terms c.number_row.new.self.terms _ (triggers c.args.term.now) c.loop-pattern.pattern row l e c.loop-pattern.invariant.terms (begins_equal c.number_row.new.self.terms _ (sym g.1.0)),
      ),
    )

pub number_lists-loop-pattern-smaller : goal.number_lists-loop-pattern-smaller
number_lists-loop-pattern-smaller t c = grind (arith, common_steps)

pub number_lists-loop-pattern-preserved : goal.number_lists-loop-pattern-preserved
number_lists-loop-pattern-preserved t c =
    let l : c.loop-pattern.pattern < length (triggers c.args.term.now) = omega (arith, c.loop-pattern-test.true, c.trigger_count-pattern-end.ensures) in
    let row = row_of c.args.term.now (Some c.loop-pattern.pattern) in
    let e : row ≡ get_or (triggers c.args.term.now) c.loop-pattern.pattern row = get_or_default (triggers c.args.term.now) c.loop-pattern.pattern [] row l in
    let g = c.in_ok-row.ensures in
    let b : Begins c.loop-pattern.self.terms c.number_row.new.self.terms = subst (Begins c.loop-pattern.self.terms) (sym g.1.0) (begins_each c.loop-pattern.self.terms (trees_of row)) in
    record {
      terms = rows_next c.loop-pattern.self.terms c.number_row.new.self.terms _ (triggers c.args.term.now) c.loop-pattern.pattern row l e c.loop-pattern.invariant.terms g.1.0;
      numbers = lists_next c.loop-pattern.self.terms c.number_row.new.self.terms c.loop-pattern.lists.items c.push.new.self.items (triggers c.args.term.now) c.loop-pattern.pattern c.in_ok-row.row row l e b c.loop-pattern.invariant.numbers g.1.1 c.in_ok-push.ensures.items;
      kept = begins_then c.args.self.now.terms c.loop-pattern.self.terms c.number_row.new.self.terms c.loop-pattern.invariant.kept b;
      standing = begins_then c.args.self.now.standing c.loop-pattern.self.standing c.number_row.new.self.standing c.loop-pattern.invariant.standing g.0;
    }

pub number_lists-returns : goal.number_lists-returns
number_lists-returns t c = let l : length (triggers c.args.term.now) ≤ c.loop-pattern.pattern = omega (arith, c.loop-pattern-test.false, c.trigger_count-pattern-end.ensures) in (
  c.loop-pattern.invariant.standing,
  (
    rows_end c.loop-pattern.self.terms _ (triggers c.args.term.now) c.loop-pattern.pattern l c.loop-pattern.invariant.terms,
    lists_end c.loop-pattern.self.terms c.loop-pattern.lists.items (triggers c.args.term.now) c.loop-pattern.pattern l c.loop-pattern.invariant.numbers,
  ),
)
