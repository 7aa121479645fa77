-- Whether goals exceed no limit.
use Rattle.std.specs.Prelude.{Bool, ◌&&◌, nat_le, List, length, sum}
use Rattle.vc_build.specs.declared.goal.Goal.{Goal}
use Rattle.vc_build.specs.Large.{count_limit, byte_limit, sizes_of}

abbrev pub are_within : List Goal → Bool
are_within gs = nat_le (length gs) count_limit && nat_le (sum (sizes_of gs)) byte_limit
