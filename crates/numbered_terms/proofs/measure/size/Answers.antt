use Rattle.std.proofs.Common.{◌∙◌, ◌+◌, sym, ap, ◌∷◌, get_or}
use Rattle.logic_core.specs.Size.{capped}
use Rattle.term_bank.specs.Node.{in_lists}
use Rattle.numbered_terms.specs.Measures.{sum_over, node_size}
use Rattle.numbered_terms.proofs.measure.size.Goals as goal

pub returns-in-ForAll : goal.returns-in-ForAll
returns-in-ForAll c = c.quantified_size.ensures
    ∙ (λ k. capped (sum_over (λ i. get_or c.args.sizes.now i 0) (c.in-ForAll.body ∷ in_lists (c.deref-in-ForAll.ensures.value k)) + 1))
    ∙ sym (ap (λ m. capped (node_size (λ i. get_or c.args.sizes.now i 0) m)) c.in-ForAll.is)

pub returns-in-Exists : goal.returns-in-Exists
returns-in-Exists c = c.quantified_size-in-Exists.ensures
    ∙ (λ k. capped (sum_over (λ i. get_or c.args.sizes.now i 0) (c.in-Exists.body ∷ in_lists (c.deref-in-Exists.ensures.value k)) + 1))
    ∙ sym (ap (λ m. capped (node_size (λ i. get_or c.args.sizes.now i 0) m)) c.in-Exists.is)
