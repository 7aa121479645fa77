use Rattle.std.proofs.Common.{◌≡◌, ℕ, Bool, ◌∷◌, [], ◌++◌, ◌∙◌, ap, sym, not, nat_eq, slice_index_or}
use Rattle.std.specs.List.{list_all}
use Rattle.passive_form.specs.Incarnations.{incarnation, nothing_done, lasts}
use Rattle.passive_form.proofs.Ranges.{passes, falls_out}
use Rattle.passive_form.proofs.joins.disagree_with.Goals as goal
use Rattle.passive_form.proofs.joins.disagree_with.Goals.{then-not-agree+in_ok-push, else-not-agree}

pub loop-variable-preserved : goal.loop-variable-preserved
loop-variable-preserved c =
    let v = c.loop-variable.variable in
    let same : ℕ → ℕ → Bool = λ n v. list_all (λ j. nat_eq n (incarnation j v)) (lasts c.args.done.now c.args.others.now) in
    let test : ℕ → Bool = λ v. not (same (incarnation (slice_index_or c.args.done.now c.args.first nothing_done).last v) v) in
    let tested : test v ≡ not c.agree.result = ap (λ n. not (same n v)) (sym c.last_of.ensures) ∙ ap not (sym c.agree.ensures) in
    elim c.if-not-agree.branch [
      | then-not-agree+in_ok-push w ↦ rw w.variables-is (w.in_ok-push.ensures.items ∙ ap (λ xs. xs ++ v ∷ []) c.loop-variable.invariant ∙ sym (passes test v (tested ∙ ap not w.if-not-agree.true)))
      | else-not-agree w ↦ rw w.variables-is (c.loop-variable.invariant ∙ sym (falls_out test v (tested ∙ ap not w.if-not-agree.false)))
    ]
