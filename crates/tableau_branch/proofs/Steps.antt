-- Nodes that a step makes one after another.
use Rattle.std.specs.Prelude.{◌≡◌, ℕ, ◌+◌, List, [], ◌∷◌, ◌++◌, length}
use Rattle.std.proofs.Common.{ap, ◌∙◌}
use Rattle.std.proofs.lemmas.List.{append_assoc, append-nil}
use Rattle.logic_core.specs.Tree.{Tree}
use Rattle.proof_core.specs.Proof.{Step}
use Rattle.tableau_branch.specs.Branch.{Fact}
use Rattle.tableau_branch.specs.Change.{Made, with_steps, tightened, tightened_each, appended, appended_one}

-- no more nodes
pub nothing_more : (m : Made) → with_steps [] m.branch.next m ≡ m
nothing_more m = ap (λ ss. record { branch = m.branch; steps = ss; size = m.size }) (append-nil m.steps)

-- these nodes and then those
pub more_steps : (ss ts : List Step) (n k : ℕ) (m : Made) → with_steps ts n (with_steps ss k m) ≡ with_steps (ss ++ ts) n m
more_steps ss ts n k m = ap (λ us. record { branch = record (m.branch) { next = n }; steps = us; size = m.size }) (append_assoc m.steps ss ts)

-- a node before those that tighten
pub one_step_more : (s : Step) (t : Tree) (m n : Made) → n ≡ with_steps (s ∷ []) m.branch.next m → (appended_one [] t n).1 ≡ (appended_one (s ∷ []) t m).1
one_step_more s t m n h = let r = tightened m.branch.next (m.branch.next + 1) t in ap (λ (x : Made). (appended_one [] t x).1) h ∙ more_steps (s ∷ []) r.steps r.next m.branch.next m

pub step_before_each : (s : Step) (ts : List Tree) (m n : Made) → n ≡ with_steps (s ∷ []) m.branch.next m → (appended [] ts n).1 ≡ (appended (s ∷ []) ts m).1
step_before_each s ts m n h = let r = tightened_each m.branch.next (m.branch.next + length ts) ts in ap (λ (x : Made). (appended [] ts x).1) h ∙ more_steps (s ∷ []) r.steps r.next m.branch.next m

-- one fact more
pub facts_more : (number : ℕ) (t : Tree) (ts : List Tree) (fs gs : List Fact) (m n : Made) → gs ≡ fs ++ (tightened number m.branch.next t).fact ∷ [] → n ≡ with_steps (tightened number m.branch.next t).steps (tightened number m.branch.next t).next m
    → gs ++ (tightened_each (number + 1) n.branch.next ts).facts ≡ fs ++ (tightened_each number m.branch.next (t ∷ ts)).facts
facts_more number t ts fs gs m n hg hn = let one = tightened number m.branch.next t in let rest = tightened_each (number + 1) one.next ts in
    ap (λ (x : Made). gs ++ (tightened_each (number + 1) x.branch.next ts).facts) hn ∙ ap (λ ys. ys ++ rest.facts) hg ∙ append_assoc fs (one.fact ∷ []) rest.facts

pub steps_more : (number : ℕ) (t : Tree) (ts : List Tree) (m n : Made) → n ≡ with_steps (tightened number m.branch.next t).steps (tightened number m.branch.next t).next m
    → with_steps (tightened_each (number + 1) n.branch.next ts).steps (tightened_each (number + 1) n.branch.next ts).next n ≡ with_steps (tightened_each number m.branch.next (t ∷ ts)).steps (tightened_each number m.branch.next (t ∷ ts)).next m
steps_more number t ts m n hn = let one = tightened number m.branch.next t in let rest = tightened_each (number + 1) one.next ts in
    ap (λ (x : Made). with_steps (tightened_each (number + 1) x.branch.next ts).steps (tightened_each (number + 1) x.branch.next ts).next x) hn ∙ more_steps one.steps rest.steps rest.next one.next m
