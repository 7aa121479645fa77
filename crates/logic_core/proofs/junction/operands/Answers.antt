use Rattle.std.proofs.Common.{◌≡◌, ◌∙◌, sym, ap, []}
use Rattle.std.proofs.lemmas.List.{nil_from_length}
use Rattle.std.specs.Vec.Iter.{into_iter_items}
use Rattle.logic_core.specs.View.{trees_of}
use Rattle.logic_core.specs.Before.{before, tree_before}
use Rattle.logic_core.specs.Junction.{operands}
use Rattle.logic_core.proofs.Made.{trees_before_none}
use Rattle.logic_core.proofs.junction.operands.Goals as goal

pub returns : goal.returns
returns c =
    let none : into_iter_items c.loop-term.term-iterator ≡ [] = nil_from_length _ (sym c.loop-term.invariant.counted ∙ c.in-None.ensures.steps.0) in
    sym (trees_before_none c.loop-term.parts.items)
    ∙ ap (λ ts. before tree_before c.loop-term.parts.items (operands c.args.connective (trees_of ts))) (sym none)
    ∙ c.loop-term.invariant.made
