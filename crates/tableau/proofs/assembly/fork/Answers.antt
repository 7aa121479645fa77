use Rattle.std.proofs.Common.{◌≡◌, [], ◌∷◌, ◌∙◌, sym, ap, reverse}
use Rattle.proof_core.specs.Proof.{proof, by_cases}
use Rattle.proof_core.specs.View.{proofs_of}
use Rattle.tableau_branch.specs.Move.{forks}
use Rattle.tableau.specs.Search.{proof_of}
use Rattle.tableau.proofs.Reversed.{first_of_reversed}
use Rattle.tableau.proofs.assembly.fork.Goals as goal

pub returns-in_ok-first-in-Some : goal.returns-in_ok-first-in-Some
returns-in_ok-first-in-Some c =
    let first : c.in_ok-proofs.proofs.items ≡ c.in-Some.first ∷ reverse c.pop.new.self.items = first_of_reversed c.in_ok-proofs.proofs.items c.pop.new.self.items c.in-Some.first (sym c.reverse.ensures.items ∙ c.in-Some.ensures.items) in
    c.ended.ensures ∙ ((λ i. proof [] (by_cases c.args.f (c.in_ok-first-in-Some.ensures.ok i) (proofs_of (c.reverse-in-Some.ensures.items i)))) ∙ ap (proof_of (forks c.args.f)) (sym first ∙ c.in_ok-proofs.ensures))
