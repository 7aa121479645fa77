use Rattle.std.proofs.Common.{◌≡◌, ap, sym, ◌∙◌, ℕ, Option, Some, [], ◌∷◌}
use Rattle.std.specs.Prelude.{option_map, IfSome}
use Rattle.logic_core.specs.Def.{Signature, Obligation}
use Rattle.logic_core.specs.WellSorted.{IsWellSorted}
use Rattle.proof_core.specs.Proof.{Proof}
use Rattle.proof_core.specs.Accepted.{IsAccepted}
use Rattle.proof_core.specs.Context.{start}
use Rattle.tableau_branch.specs.Branch.{Branch}
use Rattle.tableau.specs.RunView.{run_of, verdict_of}
use Rattle.tableau.specs.Search.{Answer, answer, answer_of, first_branch, Run, run, found_by}
use Rattle.tableau.specs.declared.ended.Verdict.{Verdict}
use Rattle.tableau.proofs.Starting.{answers, answers_wide, answer_accepted}
use Rattle.plain_search.proofs.search.answer.Goals as goal

-- the answer of a run from the first branch
from_run : (o : Obligation) (s : Signature) (n : ℕ) (b : Branch) (r : Run) (found : Option Proof) → s ≡ record { vars = o.vars; defs = o.defs } → option_map first_branch (start o) ≡ Some b → r ≡ run s.defs n n (b ∷ []) → found ≡ found_by r.verdict r.moves → answer o n ≡ record { verdict = r.verdict; found = found }
from_run o s n b r found is_s h is_r is_found =
    let over : run s.defs n n (b ∷ []) ≡ run o.defs n n (b ∷ []) = ap (λ (x : Signature). run x.defs n n (b ∷ [])) is_s in
    answers o n b h ∙ ap answer_of (sym (is_r ∙ over)) ∙ ap (λ p. record { verdict = r.verdict; found = p }) (sym is_found)

pub returns-in_ok-proof-in-Ok-clause-exact : goal.returns-in_ok-proof-in-Ok-clause-exact
returns-in_ok-proof-in-Ok-clause-exact c =
    let s = c.signature-signature.result.now in
    let ran : run_of c.in_ok-ended-in-Ok.ended ≡ run s.defs c.args.turns c.args.turns (c.in-Ok.first ∷ []) = rw c.defs.ensures at c.in_ok-ended-in-Ok.ensures in
    sym (from_run c.args.obligation.now s c.args.turns c.in-Ok.first (run_of c.in_ok-ended-in-Ok.ended) c.in_ok-proof-in-Ok.proof c.signature-signature.ensures.value c.in-Ok.ensures ran c.in_ok-proof-in-Ok.ensures)

pub returns-in_ok-proof-in-Ok-clause-accepted : goal.returns-in_ok-proof-in-Ok-clause-accepted
returns-in_ok-proof-in-Ok-clause-accepted c =
    let s = c.signature-signature.result.now in
    let ran : run_of c.in_ok-ended-in-Ok.ended ≡ run s.defs c.args.turns c.args.turns (c.in-Ok.first ∷ []) = rw c.defs.ensures at c.in_ok-ended-in-Ok.ensures in
    let exact = from_run c.args.obligation.now s c.args.turns c.in-Ok.first (run_of c.in_ok-ended-in-Ok.ended) c.in_ok-proof-in-Ok.proof c.signature-signature.ensures.value c.in-Ok.ensures ran c.in_ok-proof-in-Ok.ensures in
    answer_accepted c.args.obligation.now c.args.turns c.signature-signature.ensures.sorted c.in_ok-proof-in-Ok.proof (ap (λ (a : Answer). a.found) exact)

pub returns-in-Err-Wide-clause-exact : goal.returns-in-Err-Wide-clause-exact
returns-in-Err-Wide-clause-exact c = sym (answers_wide c.args.obligation.now c.args.turns (c.in-Err-Wide.ensures c.in-Err-Wide.field-0-is))
