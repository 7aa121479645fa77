use Rattle.std.proofs.Common.{◌≡◌, ◌∙◌, ap, subst, length, ℕ, List}
use Rattle.std.specs.Prelude.{OnOk}
use Rattle.std.specs.List.{flat_map}
use Rattle.bpl_model.specs.Marking.{follow, follow_on, mark_all}
use Rattle.bpl_model.specs.Walk.{on, rows_of}
use Rattle.bpl_model.proofs.reach.walk_on.Goals as goal

pub returns : goal.returns
returns c =
    let F : ℕ → List ℕ = on c.args.texts.now (rows_of c.args.rows.now) in
    let s = c.args.marking.now in
    let first : c.as_slice.result.now ≡ s.fresh = c.as_slice.ensures.value ∙ c.take_fresh-first.ensures.taken in
    let marks : c.mark_all.new.self ≡ mark_all (follow F s) c.args.free.now =
    c.in_ok-mark_all.ensures ∙ ap (λ u. mark_all u c.args.free.now) (c.in_ok-follow.ensures ∙ (λ i. mark_all (c.take_fresh-first.ensures.rest i) (flat_map F (first i)))) in
    subst (λ u. OnOk c.follow_on.result (c.follow_on.new.marking.marks ≡ (follow_on F (length c.args.texts.now) u).marks)) marks c.follow_on.ensures
