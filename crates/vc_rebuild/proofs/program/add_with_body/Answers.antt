use Rattle.std.proofs.Common.{◌≡◌, ◌++◌, ◌∷◌, [], cond, subst}
use Rattle.std.specs.Prelude.{IfOk, OnOk}
use Rattle.vc_build.specs.Rebuild.{BuiltProc}
use Rattle.vc_rebuild.proofs.Digested.{always_ok}
use Rattle.vc_rebuild.proofs.program.add_with_body.Goals as goal

pub returns-in-Ok-clause-added : goal.returns-in-Ok-clause-added
returns-in-Ok-clause-added g c = subst (λ (b : BuiltProc). OnOk c.add_made.result (c.add_made.new.found ≡ c.args.found.now ++ b ∷ [])) c.in-Ok.ensures.built c.add_made.ensures.added

pub returns-in-Ok-clause-told : goal.returns-in-Ok-clause-told
returns-in-Ok-clause-told g c = subst (λ t. IfOk c.add_made.result (λ n. n ≡ cond t 1 0)) c.in-Ok.ensures.told c.add_made.ensures.told

pub returns-in-Ok-clause-steps : goal.returns-in-Ok-clause-steps
returns-in-Ok-clause-steps g c = always_ok c.add_made.result c.in-Ok.ensures.steps
