-- The two formulas with which a child of the rule past begins, by number, and its variables.
use Rattle.std.proofs.Common.{◌≡◌, refl, sym, ap, ◌∙◌, ℕ, ◌<◌, Bool, true, false, ◌||◌, Option, Some, None, List, [], ◌∷◌, ◌++◌, length}
use Rattle.std.specs.Prelude.{if◌then◌else◌}
use Rattle.logic_core.specs.Tree.{Tree, equal}
use Rattle.logic_core.specs.Def.{Def}
use Rattle.logic_core.specs.Junction.{is_truth}
use Rattle.logic_core.specs.Normal.{normal}
use Rattle.logic_core.specs.Wide.{◌>>=◌}
use Rattle.tableau_branch.specs.Branch.{Fact, with_facts, is_there}
use Rattle.tableau_branch.specs.Change.{Made, added, with_size}
use Rattle.term_bank.specs.Numbered.{at}
use Rattle.theory_rules.specs.PassBegun.{pass_forms}
use Rattle.numbered_terms.specs.Stored.{Numbered, Grows}
use Rattle.numbered_branches.proofs.Growing.{stays, below}
use Rattle.numbered_facts.proofs.Growing.{then}
use Rattle.numbered_theory.specs.Places.{over}

module _ (n : Numbered) (t way u : Tree) where
  -- the linear fact leaves 128 bits
  pub linear_none : normal n.vars n.defs [] way ≡ None → pass_forms n.defs (over n.vars) t way u ≡ None
  linear_none h = ap (λ (o : Option Tree). o >>= λ x. normal n.vars n.defs [] (equal t u) >>= λ y. Some (x, y)) h

  -- or the equation does
  pub equation_none : (l : Tree) → normal n.vars n.defs [] way ≡ Some l → normal n.vars n.defs [] (equal t u) ≡ None → pass_forms n.defs (over n.vars) t way u ≡ None
  equation_none l h k = ap (λ (o : Option Tree). o >>= λ x. normal n.vars n.defs [] (equal t u) >>= λ y. Some (x, y)) h ∙ ap (λ (o : Option Tree). o >>= λ y. Some (l, y)) k

  pub both_forms : (l e : Tree) → normal n.vars n.defs [] way ≡ Some l → normal n.vars n.defs [] (equal t u) ≡ Some e → pass_forms n.defs (over n.vars) t way u ≡ Some (l, e)
  both_forms l e h k = ap (λ (o : Option Tree). o >>= λ x. normal n.vars n.defs [] (equal t u) >>= λ y. Some (x, y)) h ∙ ap (λ (o : Option Tree). o >>= λ y. Some (l, y)) k

-- the equation is that of the terms before
pub equation_before : (n m s : Numbered) → Grows n m → Grows m s → (a said sides : ℕ) → a < length n.terms → said < length n.terms → at s.terms sides ≡ equal (at m.terms a) (at m.terms said)
    → (o : Option Tree) → normal s.vars s.defs [] (at s.terms sides) ≡ o → normal n.vars n.defs [] (equal (at n.terms a) (at n.terms said)) ≡ o
equation_before n m s g h a said sides low_a low_s is o k =
    let far = (then) n m s g h in
    let same : at s.terms sides ≡ equal (at n.terms a) (at n.terms said) = is ∙ (λ j. equal (stays n m a g low_a j) (stays n m said g low_s j)) in
    (λ j. normal (sym far.vars j) (sym far.defs j) [] (sym same j)) ∙ k

-- both in the last store
pub forms_made : (n m s v : Numbered) → Grows n m → Grows m s → Grows s v → (a way said l sides e : ℕ) → a < length n.terms → said < length n.terms → l < length m.terms → e < length v.terms
    → normal n.vars n.defs [] (at n.terms way) ≡ Some (at m.terms l) → at s.terms sides ≡ equal (at m.terms a) (at m.terms said) → normal s.vars s.defs [] (at s.terms sides) ≡ Some (at v.terms e)
    → (l < length v.terms) × ((e < length v.terms) × (pass_forms n.defs (over n.vars) (at n.terms a) (at n.terms way) (at n.terms said) ≡ Some (at v.terms l, at v.terms e)))
forms_made n m s v g h k a way said l sides e low_a low_s low_l low_e linear is equation =
    let later = (then) m s v h k in (
      below m v l later low_l,
      (
        low_e,
        both_forms n (at n.terms a) (at n.terms way) (at n.terms said) (at v.terms l) (at v.terms e)
            (linear ∙ ap (λ (t : Tree). Some t) (sym (stays m v l later low_l)))
            (equation_before n m s g h a said sides low_a low_s is (Some (at v.terms e)) equation),
      ),
    )

-- one more fact leaves the variables
pub added_vars : (f : Fact) (m : Made) → (added f m).branch.vars ≡ m.branch.vars
added_vars f m = by (is_truth true f.term || is_there f.term m.branch.facts)
  where
    by : (b : Bool) → (if b then m else record { branch = with_facts m.branch (m.branch.facts ++ f ∷ []); steps = m.steps; size = with_size m.size f.term }).branch.vars ≡ m.branch.vars
    by true = refl
    by false = refl
