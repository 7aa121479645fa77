-- The caller's variables for those of contracts, as a table: between calls, and at a call.
use Rattle.std.specs.Prelude.{ℕ, ◌+◌, List, ◌++◌, map, length}
use Rattle.std.specs.List.{range_with_len}
use Rattle.bpl_model.specs.Module.{Proc, Module}
use Rattle.bpl_model.specs.Numbering.{first_entry, first_out, global_numbers}
use Rattle.bpl_model.specs.Cut.{over}

-- constants and globals stand for themselves, and an entry value for its global
abbrev pub between_calls : Module → List ℕ
between_calls m = range_with_len 0 (first_entry m) ++ global_numbers m

-- of a call of q whose own variables begin at n
abbrev pub at_call : Module → Proc → ℕ → List ℕ
at_call m q n = map (over m q n) (range_with_len 0 (first_out m q + length q.outs))
