use Rattle.std.proofs.Common.{◌≡◌, map, drop, string_bytes}
use Rattle.serde_json.specs.View.{items_view}
use Rattle.serde_json.specs.Find.{as_str}
use Rattle.request_text.specs.Reading.{of_each, with_rest}
use Rattle.request_text.proofs.fields.texts.Given as goal

-- the texts so far and those of the items that are left are those of all
abbrev pub invariant-loop-item : goal.invariant-loop-item
invariant-loop-item l = with_rest (map string_bytes l.texts.items) (of_each as_str (items_view (drop l.item-index l.items))) ≡ of_each as_str (items_view l.items)
