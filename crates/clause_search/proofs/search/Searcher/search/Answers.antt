use Rattle.std.proofs.Common.{◌≡◌, ap, sym, subst, ◌∙◌, ℕ, Option}
use Rattle.std.specs.Prelude.{IfSome}
use Rattle.std.specs.Arc.{arc_value}
use Rattle.logic_core.specs.Def.{Obligation}
use Rattle.obligation_text.specs.Asked.{Asked}
use Rattle.proof_core.specs.Proof.{Proof}
use Rattle.proof_core.specs.Accepted.{IsAccepted}
use Rattle.tableau.specs.Search.{Verdict, Answer, answer}
use Rattle.tableau.specs.Settled.{IsRight}
use Rattle.clause_search.proofs.search.Searcher.search.Goals as goal

-- a question with the answer to its obligation and turns
right : (q : Asked) (o : Obligation) (n : ℕ) (v : Verdict) (found : Option Proof) → o ≡ q.obligation → n ≡ q.turns → record { verdict = v; found = found } ≡ answer o n → IfSome found (IsAccepted o) → IsRight (record { question = q; verdict = v; found = found })
right q o n v found eo en exact accepted = record {
  answered =
      let here : record { verdict = v; found = found } ≡ answer q.obligation q.turns = exact ∙ (λ i. answer (eo i) (en i)) in
      ap (λ (a : Answer). record { question = q; verdict = a.verdict; found = a.found }) here;
  accepted = subst (λ x. IfSome found (IsAccepted x)) eo accepted;
}

pub new-requires : goal.new-requires
new-requires c =
    let shared = sym c.in_ok-shared.ensures in
    let obligation = c.deref-2.ensures ∙ c.obligation.ensures ∙ ap (λ (q : Asked). q.obligation) (c.deref.ensures ∙ shared) in
    let turns = c.turns.ensures ∙ ap (λ (q : Asked). q.turns) (c.deref-3.ensures ∙ shared) in
    right (arc_value c.in_ok-shared.shared) c.deref-2.result.now c.turns.result _ c.in_ok-answer.answer.proof obligation turns c.in_ok-answer.ensures.exact c.in_ok-answer.ensures.accepted
