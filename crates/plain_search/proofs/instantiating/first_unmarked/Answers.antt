use Rattle.std.proofs.Common.{◌≡◌, ◌∙◌, sym, true, false, map, reverse, ap, Some}
use Rattle.std.proofs.lemmas.List.{reverse-append}
use Rattle.logic_core.specs.View.{each_items}
use Rattle.logic_rules.specs.Instantiating.{Candidate, is_unmarked}
use Rattle.logic_rules.proofs.Instances.{find_past, find_here, unmarked_by}
use Rattle.plain_search.proofs.instantiating.first_unmarked.Goals as goal

pub returns-then-is_unmarked : goal.returns-then-is_unmarked
returns-then-is_unmarked c =
    let b = c.args.branch.now in
    let item : Candidate = record { fact = c.args.fact.now; body = c.args.body.now; tuple = c.in-Some.tuple.items } in
    let before = rw (c.in-Some.ensures.items, reverse-append) at c.loop-tuple.invariant in
    let marked : is_unmarked b item ≡ true = unmarked_by b.marks _ _ _ _ c.is_unmarked.result true c.term.ensures c.deref.ensures.value c.is_unmarked.ensures c.if-is_unmarked.true in
    ap Some c.in_ok-make_candidate.ensures ∙ sym (find_here (is_unmarked b) item (map (λ ts. record { fact = c.args.fact.now; body = c.args.body.now; tuple = ts }) (each_items (reverse c.pop.new.self.items))) marked) ∙ before

pub loop-tuple-preserved : goal.loop-tuple-preserved
loop-tuple-preserved c =
    let b = c.args.branch.now in
    let item : Candidate = record { fact = c.args.fact.now; body = c.args.body.now; tuple = c.in-Some.tuple.items } in
    let before = rw (c.in-Some.ensures.items, reverse-append) at c.loop-tuple.invariant in
    let marked : is_unmarked b item ≡ false = unmarked_by b.marks _ _ _ _ c.is_unmarked.result false c.term.ensures c.deref.ensures.value c.is_unmarked.ensures c.if-is_unmarked.false in
    sym (find_past (is_unmarked b) item (map (λ ts. record { fact = c.args.fact.now; body = c.args.body.now; tuple = ts }) (each_items (reverse c.pop.new.self.items))) marked) ∙ before
