use Rattle.std.proofs.Common.{◌≡◌, ◌+◌, ◌^◌, ◌-◌, ◌≤◌, min, length}
use Rattle.std.specs.List.{sum_by}
use Rattle.board_core.proofs.present.size_of.Given as goal

abbrev pub invariant-loop-key : goal.invariant-loop-key
invariant-loop-key g l = record {
  size : min (l.size + sum_by (λ e. length e.0.items) l.key-iterator) (2 ^ 64 - 1) ≡ min (sum_by (λ e. length e.0.items) l.kept.entries) (2 ^ 64 - 1);
  fits : l.size ≤ 2 ^ 64 - 1;
}
