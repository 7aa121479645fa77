-- Moves of numbers that go on on one branch, and branches of children.
use Rattle.std.proofs.Common.{◌≡◌, sym, ap, subst, ◌∙◌, ℕ, List, [], ◌∷◌, map, length, Result, IfOk}
use Rattle.std.specs.List.{AllByRecursion}
use Rattle.std.proofs.lemmas.List.{length-map}
use Rattle.std.proofs.lemmas.Result.{IfOk-weaker}
use Rattle.logic_core.specs.Tree.{Tree}
use Rattle.proof_core.specs.Proof.{Step}
use Rattle.tableau_branch.specs.Branch as branch
use Rattle.tableau_branch.specs.Change as change
use Rattle.tableau_branch.specs.Change.{Made}
use Rattle.tableau_branch.specs.Cases.{case}
use Rattle.tableau_branch.specs.Move as move
use Rattle.tableau_branch.specs.OneBranch.{adding, changing}
use Rattle.logic_rules.specs.Flattening.{adding_each}
use Rattle.numbered_branches.specs.Branches.{NumberedFact, NumberedBranch, NumberedMade, fact_at, branch_at, made_at, IsFactBelow, IsBranchOver, IsMadeOver}
use Rattle.numbered_branches.specs.Moves.{NumberedMove, on_one}
use Rattle.numbered_branches.specs.NumberedChange.{begun}
use Rattle.numbered_branches.specs.Standing.{IsFactAt, AreFactsAt, IsMadeAt, IsMoveAt}

pub begun_over : (ts : List Tree) (b : NumberedBranch) (m : NumberedMade) → m ≡ begun b → IsBranchOver ts b → IsMadeOver ts m
begun_over ts b m e h = subst (IsMadeOver ts) (sym e) (record { branch = h; steps = tt })

pub one_move : (us : List Tree) (m : NumberedMade) (x : Made) → IsMadeAt us m x → IsMoveAt us (on_one m) (move.on_one x)
one_move us m x h = (record { ending = tt; made = (h.0, tt) }, ap move.on_one h.1)

-- what is seen of a result that goes on on one branch
pub moved : {V E : Type 0} (seen : V → NumberedMove) (r : Result V E) (us : List Tree) (m : NumberedMade) (x : move.Move) → IsMoveAt us (on_one m) x → IfOk r (λ v. seen v ≡ on_one m) → IfOk r (λ v. IsMoveAt us (seen v) x)
moved seen r us m x h g = IfOk-weaker r (λ v. seen v ≡ on_one m) (λ v. IsMoveAt us (seen v) x) (λ v e. subst (λ (n : NumberedMove). IsMoveAt us n x) (sym e) h) g

-- as many facts as the branch had
pub as_many : (ts us : List Tree) (b : NumberedBranch) (m n : NumberedMade) (ss : List Step) (t : Tree) → m ≡ begun b → IsMadeAt us n (change.appended_one ss t (made_at ts m)).1 → length n.branch.facts ≡ length b.facts
as_many ts us b m n ss t e h = sym (length-map n.branch.facts (fact_at us)) ∙ ap (λ (x : Made). length x.branch.facts) h.1 ∙ length-map m.branch.facts (fact_at ts) ∙ ap (λ (x : NumberedMade). length x.branch.facts) e

module _ (ts us : List Tree) (b : NumberedBranch) (m n : NumberedMade) (e : m ≡ begun b) where
  at_begin : made_at ts m ≡ change.begun (branch_at ts b)
  at_begin = ap (made_at ts) e

  pub adds_one : (s : Step) (t : Tree) → (let p = change.appended_one (s ∷ []) t (made_at ts m) in IsMadeAt us n (change.added p.0 p.1)) → IsMoveAt us (on_one n) (adding s t (branch_at ts b))
  adds_one s t h = subst (λ (x : Made). let p = change.appended_one (s ∷ []) t x in IsMoveAt us (on_one n) (move.on_one (change.added p.0 p.1))) at_begin (one_move us n _ h)

  pub adds_each : (s : Step) (vs : List Tree) → (let p = change.appended (s ∷ []) vs (made_at ts m) in IsMadeAt us n (change.added_each p.0 p.1)) → IsMoveAt us (on_one n) (adding_each s vs (branch_at ts b))
  adds_each s vs h = subst (λ (x : Made). let p = change.appended (s ∷ []) vs x in IsMoveAt us (on_one n) (move.on_one (change.added_each p.0 p.1))) at_begin (one_move us n _ h)

  pub changes_one : (place : ℕ) (s : Step) (t : Tree) → (let p = change.appended_one (s ∷ []) t (made_at ts m) in IsMadeAt us n (change.changed_at place p.0 p.1)) → IsMoveAt us (on_one n) (changing place s t (branch_at ts b))
  changes_one place s t h = subst (λ (x : Made). let p = change.appended_one (s ∷ []) t x in IsMoveAt us (on_one n) (move.on_one (change.changed_at place p.0 p.1))) at_begin (one_move us n _ h)

  pub case_of : (t : Tree) → (let p = change.appended_one [] t (made_at ts m) in IsMadeAt us n (change.added p.0 p.1)) → IsMadeAt us n (case (branch_at ts b) t)
  case_of t h = subst (λ (x : Made). let p = change.appended_one [] t x in IsMadeAt us n (change.added p.0 p.1)) at_begin h

-- over the terms that the store has now
module _ (us ws : List Tree) (same : ws ≡ us) where
  pub fact_now : (f : NumberedFact) (g : branch.Fact) → IsFactAt us f g → IsFactBelow (length ws) f
  fact_now f g h = subst (λ (xs : List Tree). IsFactBelow (length xs) f) (sym same) h.0

  pub facts_now : (fs : List NumberedFact) (gs : List branch.Fact) → AreFactsAt us fs gs → AllByRecursion (IsFactBelow (length ws)) fs
  facts_now fs gs h = subst (λ (xs : List Tree). AllByRecursion (IsFactBelow (length xs)) fs) (sym same) h.0

  pub made_now : (m : NumberedMade) (x : Made) → IsMadeAt us m x → IsMadeOver ws m
  made_now m x h = subst (λ (xs : List Tree). IsMadeOver xs m) (sym same) h.0

  module _ (m n : NumberedMade) (x : Made) (made : IsMadeAt us m x) where
    pub added_now : (f : NumberedFact) (g : branch.Fact) → IsFactAt us f g → IsMadeAt ws n (change.added (fact_at ws f) (made_at ws m)) → IsMadeAt us n (change.added g x)
    added_now f g fact h = let k = subst (λ (xs : List Tree). IsMadeAt xs n (change.added (fact_at xs f) (made_at xs m))) same h in (k.0, k.1 ∙ (λ i. change.added (fact.1 i) (made.1 i)))

    pub all_added_now : (fs : List NumberedFact) (gs : List branch.Fact) → AreFactsAt us fs gs → IsMadeAt ws n (change.added_each (map (fact_at ws) fs) (made_at ws m)) → IsMadeAt us n (change.added_each gs x)
    all_added_now fs gs facts h = let k = subst (λ (xs : List Tree). IsMadeAt xs n (change.added_each (map (fact_at xs) fs) (made_at xs m))) same h in (k.0, k.1 ∙ (λ i. change.added_each (facts.1 i) (made.1 i)))

    pub changed_now : (place : ℕ) (f : NumberedFact) (g : branch.Fact) → IsFactAt us f g → IsMadeAt ws n (change.changed_at place (fact_at ws f) (made_at ws m)) → IsMadeAt us n (change.changed_at place g x)
    changed_now place f g fact h = let k = subst (λ (xs : List Tree). IsMadeAt xs n (change.changed_at place (fact_at xs f) (made_at xs m))) same h in (k.0, k.1 ∙ (λ i. change.changed_at place (fact.1 i) (made.1 i)))
