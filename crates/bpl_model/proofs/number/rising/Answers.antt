use Rattle.std.proofs.Common.{◌≡◌, sym, ap, subst, ◌∙◌}
use Rattle.std.specs.Prelude.{IfOk}
use Rattle.std.specs.List.Sorted.{IsNonDecreasing}
use Rattle.std.proofs.lemmas.List.Sorted.{IsNonDecreasingBy-from_sort}
use Rattle.bpl_model.specs.Rising.{inside}
use Rattle.bpl_model.proofs.RisingNumbers.{inside_permuted}
use Rattle.bpl_model.proofs.number.rising.Goals as goal

pub each_once-requires : goal.each_once-requires
each_once-requires c = subst IsNonDecreasing (sym c.as_slice.ensures.value) (IsNonDecreasingBy-from_sort (λ x. x) c.sort.new.self.items c.in_ok-sort.ensures.sorted)

pub returns : goal.returns
returns c =
    let same = ap (inside c.args.low c.args.count) c.as_slice.ensures.value ∙ (inside_permuted c.args.low c.args.count c.in_ok-sorted.sorted.items c.sort.new.self.items c.in_ok-sort.ensures.permutation ∙ ap (inside c.args.low c.args.count) c.in_ok-sorted.ensures.items) in
    subst (λ xs. IfOk c.each_once.result (λ v. v.items ≡ xs)) same c.each_once.ensures
