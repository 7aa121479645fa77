use Rattle.std.proofs.Common.{◌∙◌, ◌<◌, ◌≤◌, ap, sym, arith}
use Rattle.bpl_model.specs.Marking.{mark}
use Rattle.bpl_model.proofs.MarksOf.{mark_put, mark_kept, mark_past}
use Rattle.bpl_model.proofs.marking.Marking.mark.Goals as goal

pub returns-in_ok-push : goal.returns-in_ok-push
returns-in_ok-push c =
    let s = c.self.inside in
    let l : c.args.position < s.count = omega (c.if-position-self.true, arith) in
    mark_put s.count s.marked.keys c.insert.new.self.keys s.fresh.items c.push.new.self.items c.args.position c.in_ok-insert.field-0 l c.in_ok-insert.ensures.added c.in_ok-insert.ensures.keys c.if-branch.true c.in_ok-push.ensures.items
    ∙ ap (λ u. mark u c.args.position) c.self.view_is

pub returns-else-branch : goal.returns-else-branch
returns-else-branch c =
    let s = c.self.inside in
    let l : c.args.position < s.count = omega (c.if-position-self.true, arith) in
    mark_kept s.count s.marked.keys c.insert.new.self.keys s.fresh.items c.args.position c.in_ok-insert.field-0 l c.in_ok-insert.ensures.added c.in_ok-insert.ensures.keys c.if-branch.false
    ∙ ap (λ u. mark u c.args.position) c.self.view_is

pub returns-else-position-self : goal.returns-else-position-self
returns-else-position-self c =
    let s = c.self.inside in
    let g : s.count ≤ c.args.position = omega (c.if-position-self.false, arith) in
    sym c.self.view_is ∙ (mark_past s.count s.marked.keys s.fresh.items c.args.position g ∙ ap (λ u. mark u c.args.position) c.self.view_is)
