-- The ways of a number by number, where none is there already, in a store that grows.
use Rattle.std.proofs.Common.{◌≡◌, sym, ap, ◌∙◌, ℕ, ◌<◌, true, false, Option, Some, None, option_map, List, [], length}
use Rattle.std.specs.List.{list_any}
use Rattle.logic_core.specs.Tree.{Tree, Kind}
use Rattle.logic_core.specs.Normal.{normal}
use Rattle.proof_core.specs.Maps.{below_zero, at_zero, above_zero}
use Rattle.term_bank.specs.Numbered.{at}
use Rattle.tableau_branch.specs.Branch.{none, leaves, gives, each, unless_wide}
use Rattle.theory_rules.specs.Trichotomy.{is_known_way, ways}
use Rattle.theory_rules.specs.Ways.{open_ways}
use Rattle.numbered_terms.specs.At.{IsAt}
use Rattle.numbered_terms.specs.Stored.{Numbered, Grows}
use Rattle.numbered_facts.specs.Answers.{StandsFor}
use Rattle.numbered_branches.specs.Branches.{NumberedBranch, branch_at, IsBranchOver}
use Rattle.numbered_branches.proofs.Changing.{branch_more}
use Rattle.numbered_theory.specs.Forms.{forms_at, AreFormsAt, all_three}
use Rattle.numbered_theory.specs.Places.{ways_at, AreWaysBelow, over}
use Rattle.numbered_theory.specs.declared.trichotomy.Forms.{Forms}
use Rattle.numbered_theory.specs.declared.trichotomy.Ways.{Ways}
use Rattle.numbered_theory.proofs.Deciding.{way_stands, three_stand, all_ways, ways_below, known_way, open_way, ways_later, ways_stay}
use Rattle.numbered_facts.proofs.Growing.{then}
use Rattle.numbered_branches.proofs.Growing.{stays}

-- the three, each made in turn
pub ways_are : (n u w x y z v : Numbered) → Grows n u → Grows u w → Grows w x → Grows x y → Grows y z → Grows z v → (d : ℕ) → d < length n.terms → (i j k : ℕ) (f : Forms)
    → IsAt u.terms i (below_zero (at n.terms d)) → StandsFor w.terms f.below (normal u.vars u.defs [] (at u.terms i))
    → IsAt x.terms j (at_zero (at w.terms d)) → StandsFor y.terms f.zero (normal x.vars x.defs [] (at x.terms j))
    → IsAt z.terms k (above_zero (at y.terms d)) → StandsFor v.terms f.above (normal z.vars z.defs [] (at z.terms k))
    → AreFormsAt v.terms f (ways n.defs (over n.vars) (at n.terms d))
ways_are n u w x y z v a b c e f g d low i j k forms is_i first is_j second is_k third =
    let D = at n.terms d in let to_w = then n u w a b in let to_x = then n w x to_w c in let to_y = then n x y to_x e in let to_z = then n y z to_y f in
    three_stand w y v forms (normal n.vars n.defs [] (below_zero D)) (normal n.vars n.defs [] (at_zero D)) (normal n.vars n.defs [] (above_zero D)) (then w x y c e) (then y z v f g)
    (way_stands n u w i (below_zero D) forms.below a is_i first)
    (way_stands n x y j (at_zero D) forms.zero to_x (is_j.0, is_j.1 ∙ ap at_zero (stays n w d to_w low)) second)
    (way_stands n z v k (above_zero D) forms.above to_z (is_k.0, is_k.1 ∙ ap above_zero (stays n y d to_y low)) third)

module _ (n m : Numbered) (g : Grows n m) (code : NumberedBranch) (is_over : IsBranchOver n.terms code) (vars : n.vars ≡ code.vars) (d : ℕ) (f : Forms) (are : AreFormsAt m.terms f (ways n.defs (over n.vars) (at n.terms d))) where
  is_ways : forms_at m.terms f ≡ ways n.defs (branch_at n.terms code) (at n.terms d)
  is_ways = are.1 ∙ ap (λ (vs : List Kind). ways n.defs (over vs) (at n.terms d)) vars

  same : list_any (is_known_way (branch_at m.terms code)) (forms_at m.terms f) ≡ list_any (is_known_way (branch_at n.terms code)) (ways n.defs (branch_at n.terms code) (at n.terms d))
  same = λ k. list_any (is_known_way ((branch_more n.terms m.terms g.terms code is_over).1 k)) (is_ways k)

  -- one is there
  pub ways_known : list_any (is_known_way (branch_at m.terms code)) (forms_at m.terms f) ≡ true → open_ways n.defs (branch_at n.terms code) (at n.terms d) ≡ none
  ways_known h = known_way (branch_at n.terms code) (ways n.defs (branch_at n.terms code) (at n.terms d)) (sym same ∙ h)

  all_are : each (λ o. o) (ways n.defs (branch_at n.terms code) (at n.terms d)) ≡ option_map (ways_at m.terms) (all_three f)
  all_are = ap (each (λ (o : Option Tree). o)) (sym is_ways) ∙ all_ways m.terms f

  -- none is there, and one leaves 128 bits
  pub ways_wide : list_any (is_known_way (branch_at m.terms code)) (forms_at m.terms f) ≡ false → all_three f ≡ None → open_ways n.defs (branch_at n.terms code) (at n.terms d) ≡ leaves
  ways_wide h e = open_way (branch_at n.terms code) (ways n.defs (branch_at n.terms code) (at n.terms d)) (sym same ∙ h) ∙ ap unless_wide (all_are ∙ ap (option_map (ways_at m.terms)) e)

  -- none is there
  pub ways_open : (v : Numbered) → Grows m v → (w : Ways) → list_any (is_known_way (branch_at m.terms code)) (forms_at m.terms f) ≡ false → all_three f ≡ Some w
      → AreWaysBelow (length v.terms) w × (open_ways n.defs (branch_at n.terms code) (at n.terms d) ≡ gives (ways_at v.terms w))
  ways_open v k w h e =
      let low = ways_below (length m.terms) f w are.0 e in (
        ways_later m v k w low,
        open_way (branch_at n.terms code) (ways n.defs (branch_at n.terms code) (at n.terms d)) (sym same ∙ h) ∙ ap unless_wide (all_are ∙ ap (option_map (ways_at m.terms)) e) ∙ ap gives (sym (ways_stay m v k w low)),
      )
