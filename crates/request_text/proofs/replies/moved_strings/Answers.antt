use Rattle.std.proofs.Common.{◌≡◌, ◌∙◌, ◌++◌, [], map, ap, sym, string_bytes}
use Rattle.std.proofs.lemmas.List.{append-nil, nil_from_length}
use Rattle.std.specs.Vec.Iter.{into_iter_items}
use Rattle.serde_json.specs.Data.{string}
use Rattle.serde_json.specs.View.{view, items_of}
use Rattle.request_text.proofs.replies.moved_strings.Goals as goal

pub returns : goal.returns
returns c =
    let none : into_iter_items c.loop-line.line-iterator ≡ [] = nil_from_length _ (sym c.loop-line.invariant.counted ∙ c.in-None.ensures.steps.0) in
    let found = map view c.loop-line.items.items in
    ap items_of (sym (append-nil found) ∙ ap (λ ks. found ++ map string (map string_bytes ks)) (sym none) ∙ c.loop-line.invariant.left)
