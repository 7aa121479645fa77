use Rattle.std.proofs.Common.{◌≡◌, ◌∙◌, ap, sym, subst, length}
use Rattle.std.specs.Prelude.{IfOk, filter}
use Rattle.std.specs.List.{range_with_len}
use Rattle.bpl_model.specs.Rising.{inside}
use Rattle.bpl_model.specs.Marking.{is_marked, marks_of}
use Rattle.bpl_model.proofs.MarksOf.{kept_are}
use Rattle.bpl_model.proofs.marking.Marking.positions.Goals as goal

pub returns : goal.returns
returns c =
    let n = c.self.inside.count in
    let seen : marks_of n c.self.inside.marked.keys ≡ c.args.self.now.marks = cc in
    let same = ap (inside 0 n) c.as_slice.ensures.keys ∙ (sym (kept_are n c.self.inside.marked.keys) ∙ ap (λ ms. filter (is_marked ms) (range_with_len 0 (length ms))) seen) in
    subst (λ xs. IfOk c.rising.result (λ v. v.items ≡ xs)) same c.rising.ensures
