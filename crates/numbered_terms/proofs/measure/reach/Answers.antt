use Rattle.std.proofs.Common.{◌∙◌, ◌-◌, sym, ap, max, length, get_or}
use Rattle.term_bank.specs.Node.{in_lists}
use Rattle.numbered_terms.specs.Measures.{most_over, node_reach}
use Rattle.numbered_terms.proofs.measure.reach.Goals as goal

pub returns-in-ForAll : goal.returns-in-ForAll
returns-in-ForAll c = c.quantified_reach.ensures
    ∙ (λ k. max (get_or c.args.reaches.now c.in-ForAll.body 0) (most_over (λ i. get_or c.args.reaches.now i 0) (in_lists (c.deref-in-ForAll-2.ensures.value k))) - length (c.deref-in-ForAll.ensures.value k))
    ∙ sym (ap (node_reach (λ i. get_or c.args.reaches.now i 0)) c.in-ForAll.is)

pub returns-in-Exists : goal.returns-in-Exists
returns-in-Exists c = c.quantified_reach-in-Exists.ensures
    ∙ (λ k. max (get_or c.args.reaches.now c.in-Exists.body 0) (most_over (λ i. get_or c.args.reaches.now i 0) (in_lists (c.deref-in-Exists-2.ensures.value k))) - length (c.deref-in-Exists.ensures.value k))
    ∙ sym (ap (node_reach (λ i. get_or c.args.reaches.now i 0)) c.in-Exists.is)
