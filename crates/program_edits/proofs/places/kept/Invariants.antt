use Rattle.std.proofs.Common.{◌≡◌, ◌++◌, not, map, filter, drop}
use Rattle.bv_base.specs.Text.{is_among}
use Rattle.program_edits.specs.Edited.{in_place}
use Rattle.program_edits.specs.Seen.{decls_seen}
use Rattle.program_edits.proofs.places.kept.Given as goal

abbrev pub invariant-loop-decl : goal.invariant-loop-decl
invariant-loop-decl l =
    decls_seen l.found.items ++ map (in_place l.puts) (filter (λ d. not (is_among l.dropped d.name)) (drop l.decl-index l.old)) ≡ map (in_place l.puts) (filter (λ d. not (is_among l.dropped d.name)) l.old)
