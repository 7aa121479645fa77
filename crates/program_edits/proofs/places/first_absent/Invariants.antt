use Rattle.std.proofs.Common.{◌≡◌, not, map, drop, find, string_bytes}
use Rattle.bv_base.specs.Text.{is_among}
use Rattle.program_edits.proofs.places.first_absent.Given as goal

abbrev pub invariant-loop-name : goal.invariant-loop-name
invariant-loop-name l = find (λ n. not (is_among l.present n)) (map string_bytes (drop l.name-index l.drops)) ≡ find (λ n. not (is_among l.present n)) (map string_bytes l.drops)
