use Rattle.std.proofs.Common.{◌≡◌, ◌∙◌, ◌<◌, sym, ap, not, true, false, Some, length, map, reverse}
use Rattle.std.proofs.lemmas.List.{reverse-append}
use Rattle.logic_core.proofs.Mentioned.{all_left, all_right}
use Rattle.term_bank.specs.Numbered.{at}
use Rattle.term_bank.specs.Node.{in_lists}
use Rattle.term_bank.proofs.Numbers.{begins_then}
use Rattle.logic_rules.proofs.Instances.{find_past, find_here}
use Rattle.numbered_terms.specs.Lists.{terms_at, lists_at}
use Rattle.numbered_forms.proofs.LongerStores.{numbers_stay}
use Rattle.numbered_branches.specs.Branches.{mark_at}
use Rattle.numbered_instances.specs.Instances.{is_new}
use Rattle.numbered_facts.proofs.Growing.{then}
use Rattle.numbered_instances.proofs.NewTuples.{tuple_here, new_here}
use Rattle.numbered_instances.proofs.marks.first_unmarked.Goals as goal

pub make_tuple-requires : goal.make_tuple-requires
make_tuple-requires c =
    let ts = c.args.store.now.terms in
    let low = rw (c.in-Some.ensures.items, reverse-append) at c.loop-tuple.invariant.within in
    numbers_stay ts c.loop-tuple.store.terms c.loop-tuple.invariant.grows.terms c.in-Some.tuple.items (all_left (λ j. j < length ts) c.in-Some.tuple.items (in_lists (reverse c.pop.new.self.items)) low)

pub returns-then-not-contains-clause-first : goal.returns-then-not-contains-clause-first
returns-then-not-contains-clause-first c =
    let ts = c.args.store.now.terms in let us = c.loop-tuple.store.terms in let vs = c.make_tuple.new.store.terms in
    let rest = reverse c.pop.new.self.items in let ms = c.args.marks.now in let is = c.in-Some.tuple.items in
    let before = rw (c.in-Some.ensures.items, reverse-append) at c.loop-tuple.invariant.same in
    let low = rw (c.in-Some.ensures.items, reverse-append) at c.loop-tuple.invariant.within in
    let mine = all_left (λ j. j < length ts) is (in_lists rest) low in
    let b = c.loop-tuple.invariant.grows.terms in let d = begins_then ts us vs b c.make_tuple.ensures.grows.terms in
    let new : is_new (map (mark_at ts) ms) (at ts c.args.fact) (terms_at ts is) ≡ true =
    new_here ts us vs b d c.make_tuple.ensures.stored ms c.args.fact is c.in_ok-made.made c.requires.fact c.requires.marks mine c.in_ok-made.ensures.gives c.args.marked.now c.contains.result (c.requires.marked c.in_ok-made.made) c.contains.ensures ∙ ap not c.if-not-contains.true in
    ap Some (tuple_here ts us vs b d c.make_tuple.ensures.stored ms c.args.fact is c.in_ok-made.made c.requires.fact c.requires.marks mine c.in_ok-made.ensures.gives).0
    ∙ sym (find_here (is_new (map (mark_at ts) ms) (at ts c.args.fact)) (terms_at ts is) (lists_at ts rest) new) ∙ before

pub returns-then-not-contains-clause-tuple : goal.returns-then-not-contains-clause-tuple
returns-then-not-contains-clause-tuple c =
    let ts = c.args.store.now.terms in let us = c.loop-tuple.store.terms in let vs = c.make_tuple.new.store.terms in
    let low = rw (c.in-Some.ensures.items, reverse-append) at c.loop-tuple.invariant.within in
    let mine = all_left (λ j. j < length ts) c.in-Some.tuple.items (in_lists (reverse c.pop.new.self.items)) low in
    let b = c.loop-tuple.invariant.grows.terms in let d = begins_then ts us vs b c.make_tuple.ensures.grows.terms in (
      c.in_ok-made.ensures.gives.0,
      (tuple_here ts us vs b d c.make_tuple.ensures.stored c.args.marks.now c.args.fact c.in-Some.tuple.items c.in_ok-made.made c.requires.fact c.requires.marks mine c.in_ok-made.ensures.gives).1,
    )

pub loop-tuple-preserved : goal.loop-tuple-preserved
loop-tuple-preserved c =
    let ts = c.args.store.now.terms in let us = c.loop-tuple.store.terms in let vs = c.make_tuple.new.store.terms in
    let rest = reverse c.pop.new.self.items in let ms = c.args.marks.now in let is = c.in-Some.tuple.items in
    let before = rw (c.in-Some.ensures.items, reverse-append) at c.loop-tuple.invariant.same in
    let low = rw (c.in-Some.ensures.items, reverse-append) at c.loop-tuple.invariant.within in
    let mine = all_left (λ j. j < length ts) is (in_lists rest) low in
    let b = c.loop-tuple.invariant.grows.terms in let d = begins_then ts us vs b c.make_tuple.ensures.grows.terms in
    let old : is_new (map (mark_at ts) ms) (at ts c.args.fact) (terms_at ts is) ≡ false =
    new_here ts us vs b d c.make_tuple.ensures.stored ms c.args.fact is c.in_ok-made.made c.requires.fact c.requires.marks mine c.in_ok-made.ensures.gives c.args.marked.now c.contains.result (c.requires.marked c.in_ok-made.made) c.contains.ensures ∙ ap not c.if-not-contains.false in
    record {
      grows = then c.args.store.now c.loop-tuple.store c.make_tuple.new.store c.loop-tuple.invariant.grows c.make_tuple.ensures.grows;
      within = all_right (λ j. j < length ts) is (in_lists rest) low;
      same = sym (find_past (is_new (map (mark_at ts) ms) (at ts c.args.fact)) (terms_at ts is) (lists_at ts rest) old) ∙ before;
    }
