use Rattle.std.proofs.Common.{◌≡◌, ◌∙◌, sym, ap, FitsSigned, [], rules}
use Rattle.std.specs.Int.{w128}
use Rattle.std.specs.Vec.Iter.{into_iter_items}
use Rattle.std.proofs.lemmas.Int.{to_z-of_z}
use Rattle.std.proofs.lemmas.List.{nil_from_length}
use Rattle.logic_core.specs.View.{parts_of}
use Rattle.logic_terms.specs.Wide.{◌>>=◌}
use Rattle.logic_core.specs.Sum.{add_parts}
use Rattle.logic_core.proofs.Refused.{gives_err}
use Rattle.logic_core.proofs.PartsAdded.{add_parts_first}
use Rattle.logic_core.proofs.sum.Linear.add_parts.Goals as goal

pub returns-in_err-sum : goal.returns-in_err-sum
returns-in_err-sum c = gives_err (λ s. s) c.from_residual.result c.in_err-sum.field-0.0 _ c.from_residual.ensures.1 (λ wide.
    let fits : FitsSigned w128 c.in-Some.j = search rules in
    let none = rw (to_z-of_z w128 c.args.k c.ranges.k, to_z-of_z w128 c.in-Some.j fits) at (c.in_err-sum.ensures wide) in
    let left = rw (to_z-of_z w128 c.args.k c.ranges.k) at c.loop-j.invariant.left in
    let rest = parts_of (into_iter_items c.next.new.self) in
    sym left
    ∙ ap (λ xs. add_parts c.args.k (parts_of xs) c.loop-j.sum) c.in-Some.ensures.steps.0
    ∙ add_parts_first c.args.k c.in-Some.j c.in-Some.t rest c.loop-j.sum
    ∙ ap (λ o. o >>= λ r. add_parts c.args.k rest r) none)

pub returns : goal.returns
returns c =
    let left = rw (to_z-of_z w128 c.args.k c.ranges.k) at c.loop-j.invariant.left in
    let none : into_iter_items c.loop-j.j-iterator ≡ [] = nil_from_length _ (sym c.loop-j.invariant.counted ∙ c.in-None.ensures.steps.0) in
    sym left ∙ ap (λ xs. add_parts c.args.k (parts_of xs) c.loop-j.sum) none
