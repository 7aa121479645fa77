use Rattle.std.proofs.Common.{◌≡◌, ◌∙◌, ◌-◌, ◌+◌, length, arith, ap, sym, ℕ, List, []}
use Rattle.std.proofs.lemmas.List.{nil_from_length}
use Rattle.std.specs.List.{flat_map}
use Rattle.std.specs.Vec.{vec_len}
use Rattle.std.proofs.lemmas.Bool.{eqb-true}
use Rattle.bpl_model.specs.Marking.{Marking, mark_all, follow_on}
use Rattle.bpl_model.specs.Walk.{on, rows_of}
use Rattle.bpl_model.proofs.Marks.{follow_on_step, follow_on_end, follow_on_still}
use Rattle.bpl_model.proofs.walk.follow_on.Goals as goal

pub loop-round-preserved : goal.loop-round-preserved
loop-round-preserved c =
    let F : ℕ → List ℕ = on c.args.texts.now (rows_of c.args.rows.now) in
    let n = length c.args.texts.now in
    let s = c.loop-round.marking in
    let from : c.as_slice.result.now ≡ s.fresh = c.as_slice.ensures.value ∙ c.take_fresh-from.ensures.taken in
    let less : n - c.loop-round._round ≡ n - (c.loop-round._round + 1) + 1 = omega arith in
    ap (λ u. (follow_on F (n - (c.loop-round._round + 1)) u).marks) (c.in_ok-follow.ensures ∙ (λ i. mark_all (c.take_fresh-from.ensures.rest i) (flat_map F (from i))))
    ∙ (sym (ap (λ u. u.marks) (follow_on_step F (n - c.loop-round._round) (n - (c.loop-round._round + 1)) s less)) ∙ c.loop-round.invariant)

pub returns-then-is_empty : goal.returns-then-is_empty
returns-then-is_empty c =
    let F : ℕ → List ℕ = on c.args.texts.now (rows_of c.args.rows.now) in
    let s = c.loop-round.marking in
    let empty : vec_len c.take_fresh-from.result ≡ 0 = eqb-true (vec_len c.take_fresh-from.result) 0 (sym c.is_empty.ensures ∙ c.if-is_empty.true) in
    let none : length c.take_fresh-from.result.items ≡ 0 = omega (arith, empty) in
    let fresh : s.fresh ≡ [] = sym c.take_fresh-from.ensures.taken ∙ nil_from_length c.take_fresh-from.result.items none in
    ap (λ (u : Marking). u.marks) c.take_fresh-from.ensures.rest ∙ (sym (follow_on_still F (length c.args.texts.now - c.loop-round._round) s fresh) ∙ c.loop-round.invariant)

pub returns : goal.returns
returns c =
    let F : ℕ → List ℕ = on c.args.texts.now (rows_of c.args.rows.now) in
    let none : length c.args.texts.now - c.loop-round._round ≡ 0 = omega arith in
    sym (ap (λ u. u.marks) (follow_on_end F (length c.args.texts.now - c.loop-round._round) c.loop-round.marking none)) ∙ c.loop-round.invariant
