use Rattle.std.proofs.Common.{◌≡◌, ◌++◌, map, length, string_bytes}
use Rattle.std.specs.Vec.Iter.{into_iter_items, into_iter_len}
use Rattle.edit_session.proofs.lines.texts.Given as goal

-- the texts so far, and then those of the lines that are left
abbrev pub invariant-loop-line : goal.invariant-loop-line
invariant-loop-line l = record {
  left : map string_bytes l.found.items ++ map (λ k. k.items) (into_iter_items l.line-iterator) ≡ map (λ k. k.items) l.fn.lines.items;
  counted : into_iter_len l.line-iterator ≡ length (into_iter_items l.line-iterator);
}
