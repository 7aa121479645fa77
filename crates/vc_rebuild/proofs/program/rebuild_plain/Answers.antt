use Rattle.std.proofs.Common.{◌≡◌, ◌∙◌, ◌++◌, None, ap, subst, map}
use Rattle.vc_build.specs.Large.{large}
use Rattle.vc_build.specs.Rebuild.{with_body}
use Rattle.vc_rebuild.specs.Kept.{all_goals, kept_of}
use Rattle.vc_rebuild.proofs.Programs.{goals_having}
use Rattle.vc_rebuild.proofs.program.rebuild_plain.Goals as goal

pub returns-clause-within : goal.returns-clause-within
returns-clause-within g c =
    let m = c.args.links.now in
    let items : c.into_procs.result.items ≡ map (kept_of m) (with_body m) = c.into_procs.ensures.same ∙ c.in_ok-rebuilt.ensures.added ∙ ap (λ bs. bs ++ map (kept_of m) (with_body m)) c.new-found.ensures in
    subst (λ gs. large gs ≡ None) (ap all_goals items ∙ goals_having m m.procs) c.into_procs.ensures.within
