-- Goals that take other marks.
use Rattle.std.specs.Prelude.{List, [], ◌∷◌}
use Rattle.flow_core.specs.declared.mark.Mark.{Mark}
use Rattle.vc_build.specs.declared.goal.Goal.{Goal}

-- each goal's obligation with its new mark
abbrev pub remarked : List Mark → List Goal → List Goal
remarked [] gs = []
remarked (m ∷ ms) [] = []
remarked (m ∷ ms) (g ∷ gs) = record { mark = m; obligation = g.obligation } ∷ remarked ms gs
