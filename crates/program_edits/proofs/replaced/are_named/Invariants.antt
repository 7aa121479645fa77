use Rattle.std.proofs.Common.{◌≡◌, drop, map}
use Rattle.request_text.specs.RequestView.{put_view}
use Rattle.program_edits.specs.Replaced.{are_named}
use Rattle.program_edits.proofs.replaced.are_named.Given as goal

-- those that are left are named where all are
abbrev pub invariant-loop-put : goal.invariant-loop-put
invariant-loop-put l = are_named l.old (map put_view (drop l.put-index l.puts)) ≡ are_named l.old (map put_view l.puts)
