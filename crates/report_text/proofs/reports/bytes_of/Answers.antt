use Rattle.std.proofs.Common.{◌≡◌, ◌∙◌, ◌++◌, [], map, ap, sym, string_bytes}
use Rattle.std.proofs.lemmas.List.{append-nil, nil_from_length}
use Rattle.std.specs.Vec.Iter.{into_iter_items}
use Rattle.report_text.proofs.reports.bytes_of.Goals as goal

pub returns : goal.returns
returns c =
    let none : into_iter_items c.loop-line.line-iterator ≡ [] = nil_from_length _ (sym c.loop-line.invariant.counted ∙ c.in-None.ensures.steps.0) in
    let found = map (λ k. k.items) c.loop-line.found.items in
    sym (append-nil found) ∙ ap (λ ks. found ++ map string_bytes ks) (sym none) ∙ c.loop-line.invariant.left
