use Rattle.std.proofs.Common.{ℕ, ◌<◌, ◌≤◌, get_or, take}
use Rattle.std.specs.Prelude.{Contains}
use Rattle.flow_core.specs.declared.command.Command.{Command}
use Rattle.flow_core.specs.Graph.{set_by_each}
use Rattle.flow_core.specs.Reading.{Reads}
use Rattle.flow_core.proofs.calls.sets_before_reading.Given as goal

abbrev pub invariant-loop-i : goal.invariant-loop-i
invariant-loop-i l = (i : ℕ) → i < l.i → (v : ℕ) (c : Command) → l.own ≤ v → Reads (get_or l.commands i c) v → Contains (set_by_each (take i l.commands)) v
