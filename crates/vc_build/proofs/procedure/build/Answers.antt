use Rattle.std.proofs.Common.{◌≡◌, sym, subst}
use Rattle.std.specs.Prelude.{IfErr, IfOk, Some, slice_get}
use Rattle.bpl_model.specs.Module.{Module, Proc}
use Rattle.bpl_model.specs.NoGoto.{BodyHasNoGoto}
use Rattle.vc_build.specs.Goals.{goals_at}
use Rattle.vc_build.specs.Exceeds.{IsFaultOf}
use Rattle.vc_build.specs.Sound.{HaveFailures}
use Rattle.vc_build.proofs.procedure.build.Goals as goal

pub goals_at-requires : goal.goals_at-requires
goals_at-requires c = subst (λ (m : Module). (q : Proc) → slice_get m.procs c.args.p ≡ Some q → BodyHasNoGoto q.body) (sym c.in_ok-links.ensures) c.requires

pub returns-clause-goals : goal.returns-clause-goals
returns-clause-goals c = subst (λ (m : Module). IfOk c.goals_at.result (λ gs. gs ≡ goals_at m c.args.p)) c.in_ok-links.ensures c.goals_at.ensures.goals

pub returns-clause-failures : goal.returns-clause-failures
returns-clause-failures c = subst (λ (m : Module). IfOk c.goals_at.result (λ gs. HaveFailures m c.args.p gs)) c.in_ok-links.ensures c.goals_at.ensures.failures

pub returns-clause-fault : goal.returns-clause-fault
returns-clause-fault c = subst (λ (m : Module). IfErr c.goals_at.result (IsFaultOf (goals_at m c.args.p))) c.in_ok-links.ensures c.goals_at.ensures.fault
