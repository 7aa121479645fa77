use Rattle.std.proofs.Common.{◌≡◌, true, List, ℕ, sym, ◌∙◌, subst}
use Rattle.std.proofs.lemmas.Bool.{iff_false, both_ways}
use Rattle.flow_core.specs.declared.block.Block.{Block}
use Rattle.flow_core.specs.Plain.{HeadsArePlain, BranchesArePlain, LoopsArePlain, CallsArePlain}
use Rattle.flow_core.proofs.graph.Graph.plain.Goals as goal
use Rattle.flow_core.proofs.graph.Graph.plain.Goals.{then-heads_are_plain, else-heads_are_plain, then-branches_are_plain, else-branches_are_plain}

pub returns-then-loops_are_plain : goal.returns-then-loops_are_plain
returns-then-loops_are_plain c =
    let bs = c.blocks-blocks.result.now in
    let is = c.blocks-blocks.ensures in
    let outer : (c.if-heads_are_plain.value ≡ true) × LoopsArePlain bs = elim c.if-branches_are_plain.branch [
      | then-branches_are_plain w ↦ (w.if-branches_are_plain.true, w.loops_are_plain.ensures.0 (sym w.value-is ∙ c.if-loops_are_plain.true))
      | else-branches_are_plain w ↦ absurd (both_ways c.if-branches_are_plain.value (w.value-is ∙ w.if-branches_are_plain.false) c.if-loops_are_plain.true)
    ] in
    let inner : HeadsArePlain bs × BranchesArePlain bs = elim c.if-heads_are_plain.branch [
      | then-heads_are_plain w ↦ (c.heads_are_plain.ensures.0 w.if-heads_are_plain.true, w.branches_are_plain.ensures.0 (sym w.value-is ∙ outer.0))
      | else-heads_are_plain w ↦ absurd (both_ways c.if-heads_are_plain.value (w.value-is ∙ w.if-heads_are_plain.false) outer.0)
    ] in
    let C : List Block → Type 0 = λ ks. CallsArePlain c.own.result ks in
    let O : ℕ → Type 0 = λ own. CallsArePlain own c.args.self.now.blocks in (
      (λ h. record {
        heads = subst HeadsArePlain is inner.0;
        branches = subst BranchesArePlain is inner.1;
        loops = subst LoopsArePlain is outer.1;
        calls = subst O c.own.ensures (subst C is (c.calls_are_plain.ensures.0 h));
      }),
      (λ plain. c.calls_are_plain.ensures.1 (subst C (sym is) (subst O (sym c.own.ensures) plain.calls))),
    )

pub returns-else-loops_are_plain : goal.returns-else-loops_are_plain
returns-else-loops_are_plain c =
    let is = sym c.blocks-blocks.ensures in (
      (λ h. absurd (both_ways c.if-branches_are_plain.value c.if-loops_are_plain.false h)),
      (λ plain.
          let first : c.if-heads_are_plain.value ≡ true = elim c.if-heads_are_plain.branch [
            | then-heads_are_plain w ↦ w.value-is ∙ w.branches_are_plain.ensures.1 (subst BranchesArePlain is plain.branches)
            | else-heads_are_plain w ↦ absurd (iff_false c.heads_are_plain.ensures w.if-heads_are_plain.false (subst HeadsArePlain is plain.heads))
          ] in
          elim c.if-branches_are_plain.branch [
            | then-branches_are_plain w ↦ w.value-is ∙ w.loops_are_plain.ensures.1 (subst LoopsArePlain is plain.loops)
            | else-branches_are_plain w ↦ absurd (both_ways c.if-heads_are_plain.value w.if-branches_are_plain.false first)
          ]),
    )
