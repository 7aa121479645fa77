use Rattle.std.proofs.Common.{◌≡◌, ◌-◌, take, length}
use Rattle.term_bank.proofs.hash_index.HashIndex.truncate.Given as goal

-- what is to stay is there
abbrev pub invariant-loop-self : goal.invariant-loop-self
invariant-loop-self l = take l.fn.len l.self ≡ take l.fn.len l.fn.self

abbrev pub decreases-loop-self : goal.decreases-loop-self
decreases-loop-self l = length l.self - l.fn.len
