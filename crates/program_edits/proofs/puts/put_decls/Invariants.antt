use Rattle.std.proofs.Common.{◌≡◌, map, drop}
use Rattle.request_text.specs.RequestView.{put_view}
use Rattle.program_edits.specs.Edited.{puts_of}
use Rattle.program_edits.specs.Refusals.{reading}
use Rattle.program_edits.proofs.Steps.{behind}
use Rattle.program_edits.proofs.puts.put_decls.Given as goal

abbrev pub invariant-loop-put : goal.invariant-loop-put
invariant-loop-put l = behind l.found.items (puts_of reading (map put_view (drop l.put-index l.puts))) ≡ puts_of reading (map put_view l.puts)
