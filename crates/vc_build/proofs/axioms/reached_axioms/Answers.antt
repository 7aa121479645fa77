use Rattle.std.proofs.Common.{◌≡◌, ◌∙◌, [], map, subst}
use Rattle.std.specs.Prelude.{IfOk}
use Rattle.bpl_model.specs.Names.{with_names}
use Rattle.bpl_model.specs.Reach.{reached_by}
use Rattle.bpl_model.specs.Walk.{text_at}
use Rattle.vc_build.specs.NamedAxioms.{axioms_named}
use Rattle.vc_build.proofs.NamedAxioms.{named_are_reached}
use Rattle.vc_build.proofs.axioms.reached_axioms.Goals as goal

pub returns : goal.returns
returns c =
    let m = c.args.links.now in
    let reached = reached_by m c.args.proc.now in
    let texts : c.deref.result.now ≡ m.texts = cc in
    let axioms : c.deref-3.result.now ≡ m.axioms = cc in
    let positions : c.deref-2.result.now ≡ reached = c.deref-2.ensures.value ∙ c.in_ok-reached.ensures in
    let names : c.in_ok-names.names ≡ with_names [] (map (λ d. (text_at m.texts d).name) reached) = c.in_ok-names.ensures ∙ (λ i. with_names [] (map (λ d. (text_at (texts i) d).name) (positions i))) in
    subst (λ found. IfOk c.axioms_named.result (λ v. v.items ≡ found)) ((λ i. axioms_named (names i) 1 (axioms i)) ∙ named_are_reached m reached 1 m.axioms) c.axioms_named.ensures
