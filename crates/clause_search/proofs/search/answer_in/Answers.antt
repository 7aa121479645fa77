use Rattle.std.proofs.Common.{◌≡◌, ap, sym, subst, ◌∙◌, ℕ, List, Option, Some, [], ◌∷◌, length}
use Rattle.std.specs.Prelude.{option_map}
use Rattle.logic_core.specs.Def.{Def, Obligation}
use Rattle.logic_core.specs.Tree.{Tree}
use Rattle.proof_core.specs.Proof.{Proof}
use Rattle.proof_core.specs.Context.{start}
use Rattle.tableau_branch.specs.Branch.{Branch}
use Rattle.tableau.specs.Search.{answer, answer_of, first_branch, Run, run, found_by}
use Rattle.tableau.proofs.Starting.{answers, answers_wide}
use Rattle.numbered_branches.specs.Branches.{branch_at}
use Rattle.clause_search.specs.Ended.{IsRunBelow, run_at}
use Rattle.clause_search.proofs.search.answer_in.Goals as goal

-- the answer of a run from the first branch
from_run : (o : Obligation) (ds : List Def) (n : ℕ) (b : Branch) (r : Run) (found : Option Proof) → ds ≡ o.defs → option_map first_branch (start o) ≡ Some b → r ≡ run ds n n (b ∷ []) → found ≡ found_by r.verdict r.moves → answer o n ≡ record { verdict = r.verdict; found = found }
from_run o ds n b r found are h is_r is_found =
    let over : run ds n n (b ∷ []) ≡ run o.defs n n (b ∷ []) = ap (λ (es : List Def). run es n n (b ∷ [])) are in
    answers o n b h ∙ ap answer_of (sym (is_r ∙ over)) ∙ ap (λ p. record { verdict = r.verdict; found = p }) (sym is_found)

pub proof-requires : goal.proof-requires
proof-requires c = let ended = c.in_ok-ended-in-Ok.ended in subst (λ (ts : List Tree). IsRunBelow (length ts) ended) (sym c.terms.ensures) c.in_ok-ended-in-Ok.ensures.below

pub returns-in_ok-proof-in-Ok : goal.returns-in_ok-proof-in-Ok
returns-in_ok-proof-in-Ok c =
    let m = c.first_branch.new.store in let b = branch_at m.terms c.in-Ok.first in let ended = c.in_ok-ended-in-Ok.ended in
    let are = c.in-Ok.ensures.grows.defs ∙ c.requires.defs in
    let ran = ap (λ (ts : List Tree). run_at ts ended) c.terms.ensures ∙ c.in_ok-ended-in-Ok.ensures.run in
    sym (from_run c.args.obligation.now m.defs c.args.turns b (run_at c.terms.result.now ended) c.in_ok-proof-in-Ok.proof are c.in-Ok.ensures.gives ran c.in_ok-proof-in-Ok.ensures)

pub returns-in-Err-Wide : goal.returns-in-Err-Wide
returns-in-Err-Wide c = sym (answers_wide c.args.obligation.now c.args.turns (c.in-Err-Wide.ensures.gives c.in-Err-Wide.field-0-is))
