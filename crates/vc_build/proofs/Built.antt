-- What the examples compare of a procedure: the marks of its goals, and the texts of their obligations.
use Rattle.std.specs.Prelude.{ℕ, List, map}
use Rattle.flow_core.specs.declared.mark.Mark.{Mark}
use Rattle.bpl_model.specs.Module.{Proc, Module}
use Rattle.obligation_text.specs.Text.{obligation_text}
use Rattle.vc_build.specs.Goals.{goals}

abbrev pub texts : Module → Proc → List (List ℕ)
texts m p = map (λ g. obligation_text g.obligation) (goals m p)

abbrev pub marks : Module → Proc → List Mark
marks m p = map (λ g. g.mark) (goals m p)
