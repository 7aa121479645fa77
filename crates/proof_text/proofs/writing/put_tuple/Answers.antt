use Rattle.std.proofs.Common.{◌+◌, ◌∷◌, ◌++◌, ◌∙◌, sym, drop, append_assoc}
use Rattle.std.proofs.lemmas.List.{at_drop_more}
use Rattle.proof_text.specs.Text.{named_text, tuple_text}
use Rattle.proof_text.proofs.writing.put_tuple.Goals as goal

pub loop-term-preserved : goal.loop-term-preserved
loop-term-preserved c =
    let t = c.term-item.result in
    let before = c.loop-term.out.items in
    let rest = drop (c.loop-term.term-index + 1) c.args.terms.now in
    (λ i. c.in_ok-put_spaced.ensures i ++ tuple_text rest)
    ∙ (append_assoc before (named_text t) (tuple_text rest)
    ∙ ((λ i. before ++ tuple_text (c.term-item.is i ∷ rest))
    ∙ (sym (at_drop_more (λ ts. before ++ tuple_text ts) c.args.terms.now c.loop-term.term-index t c.loop-term-test.true) ∙ c.loop-term.invariant)))
