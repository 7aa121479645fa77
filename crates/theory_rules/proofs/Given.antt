-- What rules give once the normal forms that they need are there.
use Rattle.std.specs.Prelude.{◌≡◌, refl, true, ◌||◌, Option, Some, None, List, [], ◌∷◌, ◌++◌}
use Rattle.std.proofs.Common.{ap, sym, ◌∙◌}
use Rattle.logic_core.specs.Tree.{Kind, Tree, negation, equal}
use Rattle.logic_core.specs.Def.{Def}
use Rattle.logic_core.specs.Normal.{normal}
use Rattle.logic_core.specs.Wide.{◌>>=◌}
use Rattle.logic_core.specs.Junction.{is_truth}
use Rattle.logic_core.specs.Subterm.{occurs, replaced}
use Rattle.logic_laws.proofs.Options.{cond_has}
use Rattle.proof_core.specs.Proof.{by_replace}
use Rattle.proof_core.specs.Says.{says}
use Rattle.proof_core.specs.Maps.{below_zero, at_zero, above_zero}
use Rattle.tableau_branch.specs.Branch.{Fact, Branch, At, normal_in, with_facts, is_there}
use Rattle.tableau_branch.specs.Change.{Made, begun, with_size, appended_two, added, changed_each}
use Rattle.tableau_branch.specs.Move as move
use Rattle.tableau_branch.specs.Move.{Move}
use Rattle.theory_rules.specs.Condition.{Choice, chosen, condition_at}
use Rattle.theory_rules.specs.ChosenBoth.{chosen_both, chosen_move}
use Rattle.theory_rules.specs.Past.{replaced_by, passed, three_passed}
use Rattle.theory_rules.specs.PassBegun.{pass_forms, pass_begun}

-- a fact more keeps the variables
added_vars : (f : Fact) (m : Made) → (added f m).branch.vars ≡ m.branch.vars
added_vars f m = cond_has (λ (n : Made). n.branch.vars ≡ m.branch.vars) (is_truth true f.term || is_there f.term m.branch.facts) m (record { branch = with_facts m.branch (m.branch.facts ++ f ∷ []); steps = m.steps; size = with_size m.size f.term }) (λ _. refl) (λ _. refl)

module _ (defs : List Def) where
  -- of the branch over which normal forms are made the variables alone matter
  replaced_over : (b c : Branch) (t : Tree) (e : Fact) (m : Made) → b.vars ≡ c.vars → replaced_by defs b t e m ≡ replaced_by defs c t e m
  replaced_over b c t e m h = ap (λ (vs : List Kind). says e.term t >>= λ u. changed_each (λ g. occurs t g.term) (λ s. normal vs defs [] (replaced t u s)) (λ g. by_replace g.number e.number t) m) h

  passed_on : (b : Branch) (t way u : Tree) (o p : Option Tree) → normal_in defs b way ≡ o → normal_in defs b (equal t u) ≡ p
      → passed defs b t way u ≡ (pass_forms defs b t way u >>= λ q. let r = pass_begun q.0 q.1 b in replaced_by defs b t r.1 r.0)
  passed_on b t way u None p h k = rw h refl
  passed_on b t way u (Some l) None h k = rw (h, k) refl
  passed_on b t way u (Some l) (Some e) h k = rw (h, k) refl

  -- past: nothing, where a form leaves 128 bits
  pub passes_not : (b : Branch) (t way u : Tree) → pass_forms defs b t way u ≡ None → passed defs b t way u ≡ None
  passes_not b t way u h = passed_on b t way u (normal_in defs b way) (normal_in defs b (equal t u)) refl refl ∙ ap (λ (o : Option (Tree × Tree)). o >>= λ q. let r = pass_begun q.0 q.1 b in replaced_by defs b t r.1 r.0) h

  -- and else the linear fact, and the equation, by which the Read is replaced
  pub passes : (b : Branch) (t way u l e : Tree) (m : Made) (f : Fact) → pass_forms defs b t way u ≡ Some (l, e) → m ≡ (pass_begun l e b).0 → f ≡ (pass_begun l e b).1
      → passed defs b t way u ≡ replaced_by defs m.branch t f m
  passes b t way u l e m f h is_m is_f =
      let r = pass_begun l e b in
      let same : replaced_by defs b t r.1 r.0 ≡ replaced_by defs (r.0).branch t r.1 r.0 = replaced_over b (r.0).branch t r.1 r.0 (sym (added_vars (appended_two l e (begun b)).0 (appended_two l e (begun b)).2)) in
      let there : replaced_by defs (r.0).branch t r.1 r.0 ≡ replaced_by defs m.branch t f m = rw (is_m, is_f) refl in
      passed_on b t way u (normal_in defs b way) (normal_in defs b (equal t u)) refl refl ∙ ap (λ (o : Option (Tree × Tree)). o >>= λ q. let x = pass_begun q.0 q.1 b in replaced_by defs b t x.1 x.0) h ∙ same ∙ there

  pub passes_three : (b : Branch) (t d before v : Tree) (x y z : Made) → passed defs b t (below_zero d) before ≡ Some x → passed defs b t (at_zero d) v ≡ Some y → passed defs b t (above_zero d) before ≡ Some z
      → three_passed defs b t d before v ≡ Some (record { ending = move.passes t; made = x ∷ y ∷ z ∷ [] })
  passes_three b t d before v x y z h k l = rw (h, k, l) refl

  -- condition, by its two branches
  pub conditions : (b : Branch) (a : At Choice) → condition_at defs b a ≡ (chosen_both defs b a >>= λ p. Some (chosen_move a p))
  conditions b a = at_first (chosen defs b a (a.what).condition (a.what).yes) (chosen defs b a (negation (a.what).condition) (a.what).no)
    where
      at_first : (o p : Option Made) → ◌≡◌ {A = Option Move} (o >>= λ m. p >>= λ n. Some (chosen_move a (m, n))) ((o >>= λ m. p >>= λ n. Some (m, n)) >>= λ q. Some (chosen_move a q))
      at_first None p = refl
      at_first (Some m) None = refl
      at_first (Some m) (Some n) = refl

  pub conditions_not : (b : Branch) (a : At Choice) → chosen_both defs b a ≡ None → condition_at defs b a ≡ None
  conditions_not b a h = conditions b a ∙ ap (λ (o : Option (Made × Made)). o >>= λ p. Some (chosen_move a p)) h

  pub conditions_made : (b : Branch) (a : At Choice) (p : Made × Made) (m : Move) → chosen_both defs b a ≡ Some p → m ≡ chosen_move a p → condition_at defs b a ≡ Some m
  conditions_made b a p m h is = conditions b a ∙ ap (λ (o : Option (Made × Made)). o >>= λ q. Some (chosen_move a q)) h ∙ ap Some (sym is)
