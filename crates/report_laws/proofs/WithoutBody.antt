-- A procedure without a body has no goals.
use Rattle.std.proofs.Common.{◌≡◌, [], None, option_map}
use Rattle.bpl_model.specs.Module.{Proc, Module}
use Rattle.bpl_goto.specs.Removed.{body_without, removed, remove_gotos}
use Rattle.vc_build.specs.Goals.{goals, goals_with_body}

pub no_goals : (m : Module) (p : Proc) → p.body ≡ None → goals m p ≡ []
no_goals m p e = λ i. goals_with_body (remove_gotos m) (removed p) (option_map body_without (e i))
