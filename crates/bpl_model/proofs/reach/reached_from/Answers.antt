use Rattle.std.proofs.Common.{◌≡◌, ◌∙◌, ap, subst, length, arith}
use Rattle.std.specs.Prelude.{IfOk}
use Rattle.std.proofs.lemmas.Grind.{common_steps}
use Rattle.bpl_model.specs.Marking.{follow, follow_on, mark_all, unmarked}
use Rattle.bpl_model.specs.Walk.{on, walk}
use Rattle.bpl_model.specs.Links.{free, mentions}
use Rattle.bpl_model.specs.Typed.{IsTypedModule}
use Rattle.bpl_model.proofs.ReachedByMarks.{reached_from_all}
use Rattle.bpl_model.proofs.reach.reached_from.Goals as goal

pub returns : goal.returns
returns c =
    let m = c.args.links.now in
    let texts : c.as_slice-texts.result.now ≡ m.texts = grind (arith, common_steps) in
    let start : c.mark_all.new.self ≡ mark_all (unmarked (length m.texts)) c.args.leads.now = grind (arith, common_steps) in
    let marks : c.walk_on.new.marking.marks ≡ (walk m.texts (mentions m) c.args.leads.now (free m)).marks =
    c.in_ok-walk_on.ensures ∙ (λ i. (follow_on (on (texts i) (c.mentions.ensures i)) (length (texts i)) (mark_all (follow (on (texts i) (c.mentions.ensures i)) (start i)) (c.free.ensures i))).marks) in
    subst (λ xs. IfOk c.positions.result (λ v. v.items ≡ xs)) (reached_from_all m (subst IsTypedModule c.parts.ensures.same c.parts.ensures.typed).texts c.args.leads.now c.requires c.walk_on.new.marking.marks marks) c.positions.ensures
