use Rattle.std.proofs.Common.{◌≡◌, ◌∙◌, ap, subst, length, arith}
use Rattle.std.specs.Prelude.{IfOk}
use Rattle.std.proofs.lemmas.Grind.{common_steps}
use Rattle.bpl_model.specs.Marking.{follow, follow_on, mark_all, unmarked}
use Rattle.bpl_model.specs.Reach.{positions}
use Rattle.bpl_model.specs.Walk.{on, own_leads, walk}
use Rattle.bpl_model.specs.Links.{free, mentions}
use Rattle.bpl_model.specs.Typed.{IsTypedModule}
use Rattle.bpl_model.proofs.ReachedByMarks.{reached_from}
use Rattle.bpl_model.proofs.reach.reached_by.Goals as goal

pub returns : goal.returns
returns c =
    let m = c.args.links.now in
    let p = c.args.proc.now in
    let texts : c.as_slice-texts.result.now ≡ m.texts = grind (arith, common_steps) in
    let name : c.as_bytes.result.now ≡ p.name = grind (arith, common_steps) in
    let own : c.in_ok-marking.marking ≡ mark_all (unmarked (length m.texts)) (own_leads m.texts (positions m) p.name) = c.in_ok-marking.ensures ∙ ap (λ n. mark_all (unmarked (length m.texts)) (own_leads m.texts (positions m) n)) name in
    let marks : c.walk_on.new.marking.marks ≡ (walk m.texts (mentions m) (own_leads m.texts (positions m) p.name) (free m)).marks =
    c.in_ok-walk_on.ensures ∙ (λ i. (follow_on (on (texts i) (c.mentions.ensures i)) (length (texts i)) (mark_all (follow (on (texts i) (c.mentions.ensures i)) (own i)) (c.free.ensures i))).marks) in
    subst (λ xs. IfOk c.positions.result (λ v. v.items ≡ xs)) (reached_from m (subst IsTypedModule c.parts.ensures.same c.parts.ensures.typed).texts p c.walk_on.new.marking.marks marks) c.positions.ensures
