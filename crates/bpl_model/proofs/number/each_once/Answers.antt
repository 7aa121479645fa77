use Rattle.std.proofs.Common.{◌++◌, [], ◌∷◌, get_or, sym, ap, ◌∙◌, arith}
use Rattle.bpl_model.proofs.RisingNumbers.{inside_none, step_new, step_again, step_out}
use Rattle.bpl_model.proofs.number.each_once.Goals as goal
use Rattle.bpl_model.proofs.number.each_once.Goals.{then-low-x+then-x-low+then-is_first+in_ok-push, else-low-x, else-low-x-via-then-low-x+then-x-low+else-is_first, else-low-x-via-then-low-x+else-x-low, else-low-x-via-else-low-x}

pub loop-i-init : goal.loop-i-init
loop-i-init c = c.new-kept.ensures.items ∙ sym (inside_none c.args.low c.args.count)

pub loop-i-preserved : goal.loop-i-preserved
loop-i-preserved c = elim c.if-low-x.branch [
  | then-low-x+then-x-low+then-is_first+in_ok-push w ↦
      let new = sym w.is_first.ensures ∙ w.if-is_first.true in
      ap (λ v. v.items) w.kept-is ∙ (w.in_ok-push.ensures.items ∙ (ap (λ ys. ys ++ get_or c.args.sorted.now c.loop-i.i 0 ∷ []) c.loop-i.invariant
      ∙ sym (step_new c.args.low c.args.count c.args.sorted.now c.loop-i.i c.requires c.loop-i-test.true w.if-low-x.true w.if-x-low.true new)))
  | else-low-x w ↦ elim w.else-low-x.branch [
    | else-low-x-via-then-low-x+then-x-low+else-is_first w' ↦
        let old = sym w'.is_first.ensures ∙ w'.if-is_first.false in
        ap (λ v. v.items) w.kept-is ∙ (c.loop-i.invariant ∙ sym (step_again c.args.low c.args.count c.args.sorted.now c.loop-i.i c.requires c.loop-i-test.true old))
    | else-low-x-via-then-low-x+else-x-low w' ↦
        let far = w'.if-x-low.false in
        let low = w'.if-low-x.true in
        ap (λ v. v.items) w.kept-is ∙ (c.loop-i.invariant ∙ sym (step_out c.args.low c.args.count c.args.sorted.now c.loop-i.i c.requires c.loop-i-test.true (λ r. let above = r.1 in omega (arith, above, far, low))))
    | else-low-x-via-else-low-x w' ↦
        let below = w'.if-low-x.false in
        ap (λ v. v.items) w.kept-is ∙ (c.loop-i.invariant ∙ sym (step_out c.args.low c.args.count c.args.sorted.now c.loop-i.i c.requires c.loop-i-test.true (λ r. let above = r.0 in omega (arith, above, below))))
  ]
]
