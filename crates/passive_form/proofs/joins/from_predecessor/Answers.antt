use Rattle.std.proofs.Common.{ℕ, ◌∷◌, [], ◌++◌, ◌∙◌, ap, sym, map, cond, nat_lt, slice_index_or, arith}
use Rattle.std.specs.List.{range_with_len}
use Rattle.std.proofs.lemmas.List.FromFn.{map-range_with_len_more}
use Rattle.passive_form.specs.Incarnations.{incarnation, nothing_done}
use Rattle.passive_form.proofs.joins.from_predecessor.Goals as goal

pub loop-variable-preserved : goal.loop-variable-preserved
loop-variable-preserved c =
    let v = c.loop-variable.variable in
    let f : ℕ → ℕ = λ v. cond (nat_lt v c.args.own) (incarnation (slice_index_or c.args.done.now c.args.predecessor nothing_done).last v) v in
    c.in_ok-push.ensures.items
    ∙ ap (λ xs. xs ++ c.kept.result ∷ []) c.loop-variable.invariant
    ∙ ap (λ x. map f (range_with_len 0 v) ++ x ∷ []) c.kept.ensures
    ∙ sym (map-range_with_len_more f 0 v v (omega arith))
