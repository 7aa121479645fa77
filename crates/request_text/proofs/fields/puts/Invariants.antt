use Rattle.std.proofs.Common.{◌≡◌, map, drop}
use Rattle.serde_json.specs.View.{items_view}
use Rattle.request_text.specs.Reading.{put_of, of_each, with_rest}
use Rattle.request_text.specs.RequestView.{put_view}
use Rattle.request_text.proofs.fields.puts.Given as goal

-- the puts so far and those of the items that are left are those of all
abbrev pub invariant-loop-item : goal.invariant-loop-item
invariant-loop-item l = with_rest (map put_view l.puts.items) (of_each put_of (items_view (drop l.item-index l.items))) ≡ of_each put_of (items_view l.items)
