use Rattle.std.proofs.Common.{◌≡◌, map, drop, string_bytes}
use Rattle.request_text.specs.Reading.{are_new}
use Rattle.request_text.proofs.names.texts_are_new.Given as goal

-- all are new where those that are left are, behind those seen
abbrev pub invariant-loop-name : goal.invariant-loop-name
invariant-loop-name l = are_new l.seen (map string_bytes (drop l.name-index l.names)) ≡ are_new l.fn.seen (map string_bytes l.names)
