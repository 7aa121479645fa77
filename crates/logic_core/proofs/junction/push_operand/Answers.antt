use Rattle.std.proofs.Common.{◌∙◌, sym, ap}
use Rattle.logic_core.specs.View.{trees_of}
use Rattle.logic_core.specs.Before.{before, tree_before}
use Rattle.logic_core.specs.Junction.{is_truth, with_operand}
use Rattle.logic_core.proofs.Made.{before_push}
use Rattle.logic_core.proofs.Junctions.{taken_in, nested, dropped, other_operand}
use Rattle.logic_core.proofs.junction.push_operand.Goals as goal
use Rattle.logic_core.proofs.junction.push_operand.Goals.{in-Ok+in_ok-parts-in-Ok, in-Err+in_ok-parts-in-Err}

pub returns-then-is_truth : goal.returns-then-is_truth
returns-then-is_truth c = λ us. ap (before tree_before c.args.parts.items) (sym (dropped c.args.connective c.args.term us (ap (λ b. is_truth b c.args.term) (sym c.neutral.ensures) ∙ sym c.if-is_truth.ensures)))

pub returns : goal.returns
returns c = λ us. elim c.match-into_parts.branch [
  | in-Ok+in_ok-parts-in-Ok w ↦
      ap (λ v. before tree_before v.items us) w.parts-is
      ∙ ap (λ ts. before tree_before ts us) w.in_ok-parts-in-Ok.ensures
      ∙ taken_in c.args.parts.items w.in-Ok.nested.items us
      ∙ ap (before tree_before c.args.parts.items) (sym (nested c.args.connective (trees_of w.in-Ok.nested.items) us))
      ∙ ap (λ t. before tree_before c.args.parts.items (with_operand c.args.connective t us)) (sym w.in-Ok.ensures.nested)
  | in-Err+in_ok-parts-in-Err w ↦
      let same = w.in-Err.ensures.other.0 in
      let plain = other_operand c.args.connective c.args.term us w.in-Err.ensures.other.1 (ap (λ b. is_truth b c.args.term) (sym c.neutral.ensures) ∙ sym c.if-is_truth.ensures) in
      ap (λ v. before tree_before v.items us) w.parts-is
      ∙ ap (λ ts. before tree_before ts us) w.in_ok-parts-in-Err.ensures
      ∙ before_push tree_before c.args.parts.items w.in-Err.term us
      ∙ ap (λ t. before tree_before c.args.parts.items (tree_before t us)) same
      ∙ ap (before tree_before c.args.parts.items) (sym plain)
]
