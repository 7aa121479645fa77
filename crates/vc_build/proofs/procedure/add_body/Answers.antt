use Rattle.std.proofs.Common.{◌≡◌, ◌++◌, ◌∙◌, ap, subst, sym}
use Rattle.std.specs.Prelude.{IfErr, OnOk}
use Rattle.logic_core.specs.WellSorted.{IsWellSorted}
use Rattle.bpl_model.specs.Numbering.{defs_of}
use Rattle.bpl_model.specs.Typed.{IsTypedModule}
use Rattle.vc_build.specs.Depends.{reached_axioms}
use Rattle.vc_build.specs.Goals.{sequent_at, passive_graph, goals_of_graph}
use Rattle.vc_build.specs.Exceeds.{IsFaultOf}
use Rattle.vc_build.proofs.procedure.add_body.Goals as goal

pub add_graph-requires : goal.add_graph-requires
add_graph-requires c k at =
    let defs = c.deref.ensures.value ∙ c.in_ok-defs.ensures ∙ ap defs_of c.parts.ensures.same in
    let axioms = c.deref-2.ensures.value ∙ c.in_ok-axioms.ensures in
    subst IsWellSorted (λ i. sequent_at (sym c.in_ok-passive.ensures i) (sym defs i) (sym axioms i) k at)
    (c.sequents_are_sorted.ensures c.args.links.now c.args.proc.now (subst IsTypedModule c.parts.ensures.same c.parts.ensures.typed) c.requires.there c.requires.no_goto k at)

pub returns : goal.returns
returns c =
    let m = c.args.links.now in
    let defs = c.deref.ensures.value ∙ c.in_ok-defs.ensures ∙ ap defs_of c.parts.ensures.same in
    let axioms = c.deref-2.ensures.value ∙ c.in_ok-axioms.ensures in
    let same : goals_of_graph c.in_ok-passive.passive c.deref.result.now c.deref-2.result.now ≡ goals_of_graph (passive_graph m c.args.proc.now) (defs_of m) (reached_axioms m c.args.proc.now)
    = λ i. goals_of_graph (c.in_ok-passive.ensures i) (defs i) (axioms i) in
    record {
      added = subst (λ gs. OnOk c.add_graph.result (c.add_graph.new.tally ≡ c.args.tally.now ++ gs)) same c.add_graph.ensures.added;
      fault = subst (λ gs. IfErr c.add_graph.result (IsFaultOf (c.args.tally.now ++ gs))) same c.add_graph.ensures.fault;
    }
