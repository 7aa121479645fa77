use Rattle.std.proofs.Common.{◌≡◌, ◌∙◌, sym, ap, bytes_eq, true}
use Rattle.tableau.specs.Settled.{settled_by}
use Rattle.own_goals.proofs.Recalled.{of_its_question}
use Rattle.own_goals.proofs.recall.is_answer.Goals as goal

pub returns : goal.returns
returns c told =
    let a = c.deref.result.now in
    let asked : c.deref-2.result.now ≡ a.question = c.deref-2.ensures ∙ c.question.ensures.question in
    let equal : bytes_eq c.key.result.now c.key-2.result.now ≡ true = sym c.eq.ensures ∙ told in
    sym c.deref.ensures
    ∙ of_its_question c.keys_tell_apart.ensures a c.deref-2.result.now c.deref-3.result.now c.key.result.now c.key-2.result.now asked c.question.ensures.right c.key.ensures c.key-2.ensures equal
    ∙ ap settled_by c.deref-3.ensures
