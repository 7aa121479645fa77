-- The equations of a procedure's assertions, beside its reached axioms, are well-sorted obligations.
use Rattle.std.specs.Prelude.{ℕ, List, [], ◌∷◌, Contains}
use Rattle.std.specs.List.{AllByRecursion}
use Rattle.std.proofs.lemmas.List.Elements.{All-from_recursion}
use Rattle.logic_core.specs.Tree.{Kind, Tree}
use Rattle.logic_core.specs.Def.{Obligation}
use Rattle.logic_core.specs.WellSorted.{IsFormula, IsWellSorted}
use Rattle.flow_core.specs.Graph.{Graph}
use Rattle.bpl_model.specs.Module.{Proc, Module}
use Rattle.bpl_model.specs.Numbering.{defs_of, sorts_of, const_sorts}
use Rattle.bpl_model.specs.Typed.{IsTypedModule}
use Rattle.bpl_model.specs.NoGoto.{BodyHasNoGoto}
use Rattle.bpl_model.specs.Cut.{cut_calls}
use Rattle.bpl_blocks.specs.Blocks.{to_blocks}
use Rattle.bpl_blocks.proofs.ExitLaws.{keeps_failures}
use Rattle.bpl_blocks.proofs.PlainKept.{with_failures}
use Rattle.loop_cut.specs.Cut.{cut}
use Rattle.loop_cut.specs.Kept.{CutKeepsFailures}
use Rattle.passive_form.specs.Kept.{MayBePassified}
use Rattle.block_wp.proofs.PassiveObligations.{passive_obligation}
use Rattle.vc_build.specs.Goals.{passive_graph, sequent_at}
use Rattle.vc_build.specs.Depends.{reached_axioms}
use Rattle.vc_build.specs.Sound.{SequentsAreSorted}
use Rattle.vc_build.proofs.AxiomsHold.{axioms_have, formula_over}
use Rattle.vc_build.proofs.MayPass.{may_pass}
use Rattle.vc_build.proofs.SortedGraph.{sorted_graph}

abbrev pub graph : Module → Proc → Graph
graph m p = to_blocks m (cut_calls m p)

abbrev pub sorts : Module → Proc → List Kind
sorts m p = sorts_of m (cut_calls m p)

-- those of the assertion at this place of block k
abbrev pub raw : Module → Proc → ℕ → ℕ → Obligation
raw m p k at = sequent_at (passive_graph m p) (defs_of m) (reached_axioms m p) k at

pub raw_sorted : (m : Module) (p : Proc) → IsTypedModule m → MayBePassified (defs_of m) (sorts m p) (cut (graph m p)) → (k at : ℕ) → IsWellSorted (raw m p k at)
raw_sorted m p typed may k at = passive_obligation (defs_of m) (sorts m p) (cut (graph m p)) may (reached_axioms m p)
    (All-from_recursion (IsFormula (sorts m p) (defs_of m)) (reached_axioms m p) (axioms_have (IsFormula (sorts m p) (defs_of m)) m p (over m.axioms typed.axioms))) k at
  where
    over : (ts : List Tree) → AllByRecursion (IsFormula (const_sorts m) (defs_of m)) ts → AllByRecursion (IsFormula (sorts m p) (defs_of m)) ts
    over [] h = tt
    over (t ∷ ts) h = (formula_over m p typed t h.0, over ts h.1)

-- the cut graph of a procedure without gotos may be passified
pub may_be_passified : CutKeepsFailures → (m : Module) (p : Proc) → IsTypedModule m → Contains m.procs p → BodyHasNoGoto p.body → MayBePassified (defs_of m) (sorts m p) (cut (graph m p))
may_be_passified cut_law m p typed there none =
    let made = with_failures m p typed there (keeps_failures m p typed there none) in
    let kept = cut_law (graph m p) (record { plain = made.plain; only_heads = made.only_heads }) in
    may_pass m p typed kept.rising kept.plain (sorted_graph m p typed there none)

pub sequents_sorted : CutKeepsFailures → SequentsAreSorted
sequents_sorted cut_law m p typed there none k at = raw_sorted m p typed (may_be_passified cut_law m p typed there none) k at
