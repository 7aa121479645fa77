use Rattle.std.proofs.Common.{◌≡◌, ◌++◌, map, drop}
use Rattle.request_text.specs.Reading.{are_new, names_of}
use Rattle.request_text.specs.RequestView.{put_view}
use Rattle.request_text.proofs.names.puts_are_new.Given as goal

-- all are new where those that are left are, behind those seen
abbrev pub invariant-loop-put : goal.invariant-loop-put
invariant-loop-put l = record {
  new : are_new l.seen (names_of (map put_view (drop l.put-index l.puts))) ≡ are_new l.fn.seen (names_of (map put_view l.puts));
  seen : l.seen ++ names_of (map put_view (drop l.put-index l.puts)) ≡ l.fn.seen ++ names_of (map put_view l.puts);
}
