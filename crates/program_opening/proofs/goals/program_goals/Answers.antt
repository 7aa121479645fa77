use Rattle.std.proofs.Common.{◌≡◌, ◌∙◌, ap, sym, subst, map, length}
use Rattle.std.specs.Prelude.{List, flat_map}
use Rattle.std.specs.List.{AllByRecursion}
use Rattle.bpl_model.specs.Module.{Proc, Module}
use Rattle.bpl_model.specs.NoGoto.{BodyHasNoGoto}
use Rattle.vc_build.specs.declared.goal.Goal.{Goal}
use Rattle.vc_build.specs.Goals.{goals_by_passes}
use Rattle.vc_build.specs.Large.{large, program_goals}
use Rattle.vc_build.specs.Exceeds.{IsFaultOf}
use Rattle.vc_build.proofs.Limits.{at_exit}
use Rattle.program_opening.proofs.Counted.{without_gotos, same_goals, same_counts}
use Rattle.program_opening.proofs.goals.program_goals.Goals as goal

abbrev all_goals : Module → List Goal
all_goals m = flat_map (goals_by_passes m) m.procs

pub counted-requires : goal.counted-requires
counted-requires c = subst (λ (x : Module). AllByRecursion (λ (p : Proc). BodyHasNoGoto p.body) x.procs) (sym (c.in_ok-links.ensures ∙ c.in_ok-plain.ensures.exact)) (without_gotos c.args.module.now)

pub returns-in_err-counts-clause-fault : goal.returns-in_err-counts-clause-fault
returns-in_err-counts-clause-fault c =
    let m = c.args.module.now in
    let fault = c.in_err-counts.field-0.0 in
    at_exit (IsFaultOf (program_goals m)) c.from_residual-in_err-counts.result fault c.from_residual-in_err-counts.ensures.1
    (subst (λ gs. IsFaultOf gs fault) (ap all_goals (c.in_ok-links.ensures ∙ c.in_ok-plain.ensures.exact) ∙ same_goals m) c.in_err-counts.ensures.fault)

pub by_proc-requires-clause-goals : goal.by_proc-requires-clause-goals
by_proc-requires-clause-goals c = c.in_ok-counts.ensures.goals ∙ ap all_goals (c.in_ok-links.ensures ∙ c.in_ok-plain.ensures.exact) ∙ same_goals c.args.module.now

pub by_proc-requires-clause-counts : goal.by_proc-requires-clause-counts
by_proc-requires-clause-counts c =
    let same : c.deref.result.now ≡ c.in_ok-counts.field-0.counts.items = cc in
    same ∙ c.in_ok-counts.ensures.counts ∙ ap (λ (x : Module). map (λ (p : Proc). length (goals_by_passes x p)) x.procs) (c.in_ok-links.ensures ∙ c.in_ok-plain.ensures.exact) ∙ same_counts c.args.module.now

pub returns-clause-within : goal.returns-clause-within
returns-clause-within c =
    ap large (sym (c.in_ok-counts.ensures.goals ∙ ap all_goals (c.in_ok-links.ensures ∙ c.in_ok-plain.ensures.exact) ∙ same_goals c.args.module.now)) ∙ c.in_ok-counts.ensures.within
