use Rattle.std.proofs.Common.{◌≡◌, ◌-◌, length}
use Rattle.user_types.specs.UserTypes.{user_after}
use Rattle.user_types.proofs.users.user_named.Given as goal

abbrev pub invariant-loop-round : goal.invariant-loop-round
invariant-loop-round l = user_after l.table (length l.table) l.name ≡ user_after l.table (length l.table - l.round) l.now
