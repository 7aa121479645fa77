use Rattle.std.proofs.Common.{◌≡◌, ◌∙◌, ◌<◌, ◌≤◌, ◌+◌, length, arith, ap, [], ◌∷◌}
use Rattle.bpl_model.specs.Module.{Proc, Module}
use Rattle.vc_rebuild.specs.Kept.{kept_of, is_new, new_in}
use Rattle.vc_rebuild.proofs.Programs.{built_further, counted_further, one_at_most}
use Rattle.vc_rebuild.proofs.program.add_procedures.Goals as goal

pub loop-i-preserved : goal.loop-i-preserved
loop-i-preserved g c =
    let m = c.args.links.now in
    let old = c.args.before.now.built.now.procs in
    let p = c.index.result.now in
    let procs = c.behind-links.inside.procs.items in
    let same : procs ≡ m.procs = ap (λ (x : Module). x.procs) (c.behind-links.view_is ∙ c.parts.ensures.same) in
    let below : c.loop-i.i < length m.procs = let end = c.len-i-end.ensures in omega (arith, c.loop-i-test.true, end, ap length same) in
    let told : c.in_ok-rebuilt.field-0 ≡ new_in old m (p ∷ []) = c.in_ok-rebuilt.ensures.told in
    let one : new_in old m (p ∷ []) ≤ 1 = one_at_most (λ (q : Proc). is_new old (kept_of m q)) p in
    record {
      added = built_further m procs c.loop-i.i p c.loop-i.found c.add_procedure.new.found _ same below c.index.ensures c.loop-i.invariant.added c.in_ok-rebuilt.ensures.added;
      counted = counted_further (λ (q : Proc). is_new old (kept_of m q)) m.procs procs c.loop-i.i p c.loop-i.rebuilt (c.loop-i.rebuilt + c.in_ok-rebuilt.field-0) _ same below c.index.ensures c.loop-i.invariant.counted (ap (λ n. c.loop-i.rebuilt + n) told);
      steps = omega (c.in_ok-rebuilt.ensures.steps, told, c.loop-i.invariant.steps, arith);
      small = omega (told, one, c.loop-i.invariant.small, arith);
    }
