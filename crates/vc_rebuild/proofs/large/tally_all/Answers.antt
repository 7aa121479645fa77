use Rattle.std.proofs.Common.{◌≡◌, ◌∙◌, ◌<◌, ◌++◌, ◌∷◌, suc, length, arith, ap, sym, drop, flat_map}
use Rattle.bpl_model.specs.Module.{Module}
use Rattle.vc_build.specs.Goals.{goals_by_passes}
use Rattle.vc_build.specs.Exceeds.{IsFaultOf}
use Rattle.vc_build.proofs.Limits.{fault_before, at_exit}
use Rattle.vc_rebuild.proofs.Programs.{here}
use Rattle.vc_rebuild.proofs.large.tally_all.Goals as goal

pub returns-in_err-add_goals : goal.returns-in_err-add_goals
returns-in_err-add_goals c =
    let m = c.args.links.now in
    let i = c.loop-i.i in
    let p = c.index.result.now in
    let all = flat_map (goals_by_passes m) m.procs in
    let fault = c.in_err-add_goals.field-0.0 in
    let same : c.behind-links.inside.procs.items ≡ m.procs = ap (λ (x : Module). x.procs) (c.behind-links.view_is ∙ c.parts.ensures.same) in
    let below : i < length m.procs = let end = c.len-i-end.ensures in omega (arith, c.loop-i-test.true, end, ap length same) in
    let next : drop i m.procs ≡ p ∷ drop (suc i) m.procs = here m.procs c.behind-links.inside.procs.items i p p same below c.index.ensures in
    record {
      fault = at_exit (IsFaultOf all) c.from_residual.result fault c.from_residual.ensures.1
          (fault_before c.loop-i.tally (goals_by_passes m p) (flat_map (goals_by_passes m) (drop (suc i) m.procs)) all fault
          (ap (λ gs. c.loop-i.tally ++ gs) (sym (ap (flat_map (goals_by_passes m)) next)) ∙ c.loop-i.invariant) c.in_err-add_goals.ensures.fault);
    }
