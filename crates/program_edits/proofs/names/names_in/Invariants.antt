use Rattle.std.proofs.Common.{◌≡◌, map, take, string_bytes}
use Rattle.program_edits.proofs.names.names_in.Given as goal

abbrev pub invariant-loop-text : goal.invariant-loop-text
invariant-loop-text l = l.found ≡ map string_bytes (take l.text-index l.texts)
