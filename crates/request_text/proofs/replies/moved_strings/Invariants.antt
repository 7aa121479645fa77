use Rattle.std.proofs.Common.{◌≡◌, ◌++◌, map, length, string_bytes}
use Rattle.std.specs.Vec.Iter.{into_iter_items, into_iter_len}
use Rattle.serde_json.specs.Data.{string}
use Rattle.serde_json.specs.View.{view}
use Rattle.request_text.proofs.replies.moved_strings.Given as goal

-- the strings of the lines so far, and of those that are left
abbrev pub invariant-loop-line : goal.invariant-loop-line
invariant-loop-line l = record {
  left : map view l.items.items ++ map string (map string_bytes (into_iter_items l.line-iterator)) ≡ map string (map string_bytes l.fn.lines.items);
  counted : into_iter_len l.line-iterator ≡ length (into_iter_items l.line-iterator);
}
