use Rattle.std.proofs.Common.{◌≡◌, ◌∙◌, ◌<◌, sym, ap, subst, true, map, length}
use Rattle.std.specs.List.{AllByRecursion}
use Rattle.term_bank.specs.Numbered.{at}
use Rattle.numbered_terms.proofs.Items.{row_below}
use Rattle.numbered_instances.proofs.Passing.{found_at_place}
use Rattle.numbered_instances.proofs.passed.is_new_at.Goals as goal

pub returns : goal.returns
returns c = λ e ts low. let n = length ts in let v = c.index-tuples-place.result in
    let mine = subst (AllByRecursion (λ j. j < n)) (sym c.deref.ensures.value) (row_below n c.args.tuples.now c.args.place v low c.requires c.index-tuples-place.is) in
    found_at_place ts c.args.passed.now c.args.tuples.now c.args.place v c.requires c.index-tuples-place.is
    (λ new h. subst (λ is. new (map (at ts) is) ≡ true) c.deref.ensures.value (c.is_unpassed.ensures e ts mine new h))
