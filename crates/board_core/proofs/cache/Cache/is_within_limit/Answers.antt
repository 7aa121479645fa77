use Rattle.std.proofs.Common.{ap, not, nat_lt}
use mathlib.Core.Path.{◌∙◌}
use Rattle.std.specs.Arc.{arc_value}
use Rattle.board_core.specs.Limits.{absent_limit}
use Rattle.board_core.proofs.Limits.{bytes_shown}
use Rattle.board_core.proofs.cache.Cache.is_within_limit.Goals as goal

pub returns : goal.returns
returns g c = rw (← c.self.view_is) (c.is_within_limit.ensures ∙ ap (λ n. not (nat_lt absent_limit n)) (bytes_shown (λ v. v.items) arc_value c.self.inside.kept.entries))
