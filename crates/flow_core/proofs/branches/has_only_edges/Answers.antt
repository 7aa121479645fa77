use Rattle.std.proofs.Common.{◌≡◌, ℕ, get_or, subst, sym, ap, ◌∙◌, List, arith}
use Rattle.std.specs.Prelude.{Contains}
use Rattle.std.proofs.lemmas.Bool.{iff_false}
use Rattle.std.proofs.lemmas.List.{get_or_default}
use Rattle.std.proofs.lemmas.List.Elements.{Contains-get_or}
use Rattle.flow_core.specs.Plain.{IsOnlyEdge}
use Rattle.flow_core.proofs.Lists.{below_next, says_yes, says_no}
use Rattle.flow_core.proofs.Blocks.{edge_from, edge_to}
use Rattle.flow_core.proofs.branches.has_only_edges.Goals as goal

pub returns-then-not-is_only_edge : goal.returns-then-not-is_only_edge
returns-then-not-is_only_edge c =
    let items : c.as_slice-c-items.result.now ≡ c.index-blocks-b.result.next = c.as_slice-c-items.ensures ∙ ap (λ k. k.next) (sym c.index-blocks-b.is) in
    let x = get_or c.as_slice-c-items.result.now c.loop-c.c-index 0 in
    let m : Contains c.index-blocks-b.result.next x = let P : List ℕ → Type 0 = λ xs. Contains xs x in subst P items (Contains-get_or c.as_slice-c-items.result.now c.loop-c.c-index 0 c.loop-c-test.true) in
    says_no (λ each. iff_false c.is_only_edge.ensures c.if-not-is_only_edge.true (each x (edge_to c.args.blocks.now c.args.b x c.index-blocks-b.result c.requires c.index-blocks-b.is m)))

pub loop-c-preserved : goal.loop-c-preserved
loop-c-preserved c k d h =
    below_next (λ k. IsOnlyEdge c.args.blocks.now c.args.b (get_or c.as_slice-c-items.result.now k d)) c.loop-c.c-index (λ j l. c.loop-c.invariant j d l)
    (let Q : ℕ → Type 0 = λ x. IsOnlyEdge c.args.blocks.now c.args.b x in subst Q (get_or_default c.as_slice-c-items.result.now c.loop-c.c-index 0 d c.loop-c-test.true) (c.is_only_edge.ensures.0 c.if-not-is_only_edge.false)) k h

pub returns : goal.returns
returns c = says_yes (λ d e.
    let items : c.as_slice-c-items.result.now ≡ c.index-blocks-b.result.next = c.as_slice-c-items.ensures ∙ ap (λ k. k.next) (sym c.index-blocks-b.is) in
    let m : Contains c.as_slice-c-items.result.now d = let P : List ℕ → Type 0 = λ xs. Contains xs d in subst P (sym items) (edge_from c.args.blocks.now c.args.b d c.index-blocks-b.result c.requires c.index-blocks-b.is e) in
    let Q : ℕ → Type 0 = λ x. IsOnlyEdge c.args.blocks.now c.args.b x in subst Q m.2 (c.loop-c.invariant m.0 d (omega (arith, m.1))))
