-- The codes of facts, marks, branches and of what a step makes of them, by which proofs tell them apart: those of their fields.
use Rattle.std.specs.Prelude.{ℕ, List, refl}
use Rattle.std.specs.Coded.{Coded, code_by, coded×, coded_list, coded_ℕ}
use Rattle.logic_core.specs.Tree.{Kind, Tree}
use Rattle.logic_core.specs.Codes.{coded_kind, coded_tree}
use Rattle.proof_core.specs.Proof.{Step}
use Rattle.proof_core.specs.Codes.{coded_step}
use Rattle.tableau_branch.specs.Branch.{Fact, Mark, Branch, At}
use Rattle.tableau_branch.specs.Change.{Made}

abbrev pub coded_fact : Coded Fact
coded_fact = code_by (Tree × ℕ) (coded× coded_tree coded_ℕ) (λ f. (f.term, f.number)) (λ p. record { term = p.0; number = p.1 }) (λ _. refl)

abbrev pub coded_mark : Coded Mark
coded_mark = code_by (Tree × List Tree) (coded× coded_tree (coded_list coded_tree)) (λ m. (m.fact, m.tuple)) (λ p. record { fact = p.0; tuple = p.1 }) (λ _. refl)

abbrev pub coded_branch : Coded Branch
coded_branch = code_by (List Fact × (List Tree × (List Mark × (List Kind × ℕ)))) (coded× (coded_list coded_fact) (coded× (coded_list coded_tree) (coded× (coded_list coded_mark) (coded× (coded_list coded_kind) coded_ℕ))))
    (λ b. (b.facts, (b.calls, (b.marks, (b.vars, b.next))))) (λ p. record { facts = p.0; calls = (p.1).0; marks = ((p.1).1).0; vars = (((p.1).1).1).0; next = (((p.1).1).1).1 }) (λ _. refl)

abbrev pub coded_made : Coded Made
coded_made = code_by (Branch × (List Step × ℕ)) (coded× coded_branch (coded× (coded_list coded_step) coded_ℕ)) (λ m. (m.branch, (m.steps, m.size))) (λ p. record { branch = p.0; steps = (p.1).0; size = (p.1).1 }) (λ _. refl)

-- of a place, by the code of what was found there
abbrev pub coded_at : {A : Type 0} → Coded A → Coded (At A)
coded_at {A} coded = code_by (ℕ × (Fact × A)) (coded× coded_ℕ (coded× coded_fact coded)) (λ a. (a.at, (a.fact, a.what))) (λ p. record { at = p.0; fact = (p.1).0; what = (p.1).1 }) (λ _. refl)
