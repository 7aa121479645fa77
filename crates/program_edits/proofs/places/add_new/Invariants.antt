use Rattle.std.proofs.Common.{◌≡◌, ◌++◌, not, filter, drop}
use Rattle.bv_base.specs.Text.{is_among}
use Rattle.program_edits.specs.Seen.{decls_seen}
use Rattle.program_edits.proofs.places.add_new.Given as goal

abbrev pub invariant-loop-put : goal.invariant-loop-put
invariant-loop-put l =
    decls_seen l.found.items ++ filter (λ p. not (is_among l.present p.name)) (drop l.put-index l.puts) ≡ decls_seen l.fn.found.items ++ filter (λ p. not (is_among l.present p.name)) l.puts
