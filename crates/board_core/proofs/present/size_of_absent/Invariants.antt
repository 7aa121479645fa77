use Rattle.std.proofs.Common.{◌≡◌, ◌+◌, ◌^◌, ◌-◌, ◌≤◌, min}
use Rattle.board_core.specs.Present.{absent_size}
use Rattle.board_core.proofs.present.size_of_absent.Given as goal

abbrev pub invariant-loop-key : goal.invariant-loop-key
invariant-loop-key g l = record {
  size : min (l.size + absent_size (λ v. v.items) l.present.keys l.key-iterator) (2 ^ 64 - 1) ≡ min (absent_size (λ v. v.items) l.present.keys l.kept.entries) (2 ^ 64 - 1);
  fits : l.size ≤ 2 ^ 64 - 1;
}
