use Rattle.std.proofs.Common.{◌+◌, ◌∷◌, ◌++◌, ◌∙◌, sym, drop, append_assoc, arith}
use Rattle.std.proofs.lemmas.List.{at_drop_more}
use Rattle.std.proofs.lemmas.Result.{IfOk-equal}
use Rattle.proof_core.specs.Proof.{proofs_nodes}
use Rattle.proof_core.specs.View.{proofs_of}
use Rattle.proof_text.specs.Text.{child, children_text, proof_text}
use Rattle.proof_text.proofs.writing.+write.Goals as goal

pub put_child-returns : goal.put_child-returns
put_child-returns t c = IfOk-equal c.put-2.result _ _ _ c.put-2.ensures (rw (c.in_ok-put_proof.ensures, c.in_ok-put.ensures) (simp append_assoc))

pub put_children-loop-proof-preserved : goal.put_children-loop-proof-preserved
put_children-loop-proof-preserved t c =
    let p = c.proof-item.result in
    let before = c.loop-proof.out.items in
    let rest = drop (c.loop-proof.proof-index + 1) c.args.proofs.now in
    let nodes = at_drop_more (λ ps. proofs_nodes (proofs_of ps)) c.args.proofs.now c.loop-proof.proof-index p c.loop-proof-test.true in
    let less = c.loop-proof.invariant.less in
    record {
      same = (λ i. c.in_ok-put_child.ensures i ++ children_text (proofs_of rest))
          ∙ (append_assoc before (child (proof_text p)) (children_text (proofs_of rest))
          ∙ ((λ i. before ++ children_text (proofs_of (c.proof-item.is i ∷ rest)))
          ∙ (sym (at_drop_more (λ ps. before ++ children_text (proofs_of ps)) c.args.proofs.now c.loop-proof.proof-index p c.loop-proof-test.true) ∙ c.loop-proof.invariant.same)));
      less = omega (arith, nodes, less);
    }

pub put_end-returns-in_ok-put_fact-in-Close : goal.put_end-returns-in_ok-put_fact-in-Close
put_end-returns-in_ok-put_fact-in-Close t c = IfOk-equal c.put.result _ _ _ c.put.ensures (rw (c.in-Close.is, c.in_ok-put_fact-in-Close.ensures, c.in_ok-open_fact-in-Close.ensures) (simp append_assoc))
