use Rattle.std.proofs.Common.{◌∷◌, [], ◌++◌, ◌∙◌, ap, sym, arith}
use Rattle.std.proofs.lemmas.List.FromFn.{map-range_with_len_more}
use Rattle.passive_form.proofs.predecessors.empty_rows.Goals as goal

pub loop-place-preserved : goal.loop-place-preserved
loop-place-preserved c =
    let place = c.loop-place.place in
    c.in_ok-push.ensures.items
    ∙ ap (λ row. c.loop-place.rows.items ++ row ∷ []) c.new.ensures
    ∙ ap (λ rows. rows ++ [] ∷ []) c.loop-place.invariant
    ∙ sym (map-range_with_len_more (λ b. []) 0 place place (omega arith))
