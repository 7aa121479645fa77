-- The rules skolem and differ are rules of proofs: the new variables join the context's.
use Rattle.std.specs.Prelude.{◌≡◌, refl, ℕ, Option, Some, List, [], ◌∷◌, ◌++◌, length}
use Rattle.std.proofs.Common.{ap, subst}
use Rattle.logic_core.specs.Tree.{Kind, int, map, Tree, free, read, negation, equal, exists}
use Rattle.logic_core.specs.Def.{Def}
use Rattle.logic_core.specs.Normal.{normal}
use Rattle.logic_core.specs.Sorts.{sort_of}
use Rattle.logic_core.specs.Substitute.{substitute}
use Rattle.logic_laws.proofs.Options.{bind_some}
use Rattle.proof_core.specs.Proof.{by_skolem, by_differ}
use Rattle.proof_core.specs.Context.{Context, fact, with_fact, new_variables}
use Rattle.proof_core.specs.Context as context
use Rattle.proof_core.specs.Quantifiers.{skolemized}
use Rattle.proof_core.specs.Maps.{differing, different, different_at}
use Rattle.proof_core.specs.Steps.{after_step}
use Rattle.proof_core.proofs.NewVariables.{more_sorted}
use Rattle.proof_core.proofs.QuantifiersSound.{skolem_is_sound}
use Rattle.proof_core.proofs.MapsSound.{differ_is_sound}
use Rattle.tableau_branch.specs.Branch.{Branch, context_of, gives, normal_in, without}
use Rattle.tableau_branch.specs.Change.{begun, appended_one, added, changed_at}
use Rattle.tableau_branch.specs.Move.{Move, on_one}
use Rattle.logic_rules.specs.Skolem.{body_of_exists, as_exists, skolemized_at, skolem}
use Rattle.tableau_branch.specs.Variables.{with_variables}
use Rattle.theory_rules.specs.Differ.{of_maps, sides_of_maps, unequal_in, unequal_maps, differ_at, differ}
use Rattle.tableau.proofs.Tracked.{IsKnown, found_known}
use Rattle.tableau.proofs.Outcomes.{IsPlaced, Outcome}
use Rattle.tableau.proofs.Tightening.{placed_without, added_reached, changed_reached, on_one_goes}
use Rattle.tableau.proofs.Appending.{appended_normal, one_appended}
use Rattle.tableau.proofs.ClosingGoes.{found_at_oldest}

module _ (defs : List Def) where
  -- a branch with more variables beside a context with them
  more_placed : (b : Branch) (c : Context) (ks : List Kind) → IsPlaced defs b c → IsPlaced defs (with_variables ks b) (context.with_variables c ks)
  more_placed b c ks p = let t = p.tracks in record {
    tracks = record { vars = ap (λ vs. vs ++ ks) t.vars; next = t.next; facts = t.facts };
    sorted = more_sorted defs c ks p.sorted;
  }

  skolemizes : (c : Context) (n : ℕ) (f : Tree) (p : List Kind × Tree) (v : Tree) → fact c n ≡ Some f → body_of_exists f ≡ Some p → context.appended defs (context.with_variables c p.0) (substitute p.1 (new_variables c p.0)) ≡ Some (with_fact (context.with_variables c p.0) v)
      → after_step defs c (by_skolem n) ≡ Some (with_fact (context.with_variables c p.0) v)
  skolemizes c n (exists ss ps body) p v known form h = let is_p : (ss, body) ≡ p = cc in
      rw known (subst (λ (q : List Kind × Tree). (d : Context) → context.appended defs (context.with_variables c q.0) (substitute q.1 (new_variables c q.0)) ≡ Some d → skolemized defs c (exists ss ps body) ≡ Some d) is_p (λ d k. k) (with_fact (context.with_variables c p.0) v) h)
  skolemizes c n f p v known form h = absurd (cc)

  pub skolem_goes : (b : Branch) (c : Context) (m : Move) → skolem defs b ≡ gives m → IsPlaced defs b c → Outcome defs c m
  skolem_goes b c m h placed =
      let t = placed.tracks in
      let o = found_at_oldest as_exists (skolemized_at defs b) b m h in
      let a = o.0 in
      let k = found_known as_exists (IsKnown c) 0 b.facts a o.1 t.facts in
      let number = (a.fact).number in
      let ks = (a.what).0 in
      let body = (a.what).1 in
      let x = with_variables ks (without a.at b) in
      let q = bind_some (normal_in defs x (substitute body (new_variables (context_of b) ks))) (λ v. let p = appended_one (by_skolem number ∷ []) v (begun x) in Some (on_one (added p.0 p.1))) m o.2 in
      let v = q.0 in
      let one = appended_one (by_skolem number ∷ []) v (begun x) in
      let is_m : on_one (added one.0 one.1) ≡ m = cc in
      let d = context.with_variables c ks in
      let form : normal (c.vars ++ ks) defs [] (substitute body (new_variables c ks)) ≡ Some v = subst (λ vs. normal (vs ++ ks) defs [] (substitute body (context.variables_from (length vs) ks)) ≡ Some v) t.vars q.1 in
      let step = skolemizes c number (a.fact).term a.what v k.0 k.1 (appended_normal defs d.vars d (substitute body (new_variables c ks)) v refl form) in
      let r = one_appended defs c c d (begun x) (by_skolem number) v refl step (more_placed (without a.at b) c ks (placed_without defs b c a.at placed)) (skolem_is_sound number defs c (with_fact d v) placed.sorted step).0 in
      subst (λ n. Outcome defs c n) is_m (on_one_goes defs c r.at (added one.0 one.1) (added_reached defs c r.at one.0 one.1 r.reached r.known))

  -- differ
  abbrev differs : Context → Tree × Tree → Tree
  differs c p = negation (equal (read p.0 (free (length c.vars))) (read p.1 (free (length c.vars))))

  of_maps_differ : (c d : Context) (x y : Tree) (k : Option Kind) (p : Tree × Tree) → of_maps x y k ≡ Some p → context.appended defs (context.with_variables c (int ∷ [])) (differs c p) ≡ Some d → different_at defs c x y k ≡ Some d
  of_maps_differ c d x y (Some (map k)) p e h = let is_p : p ≡ (x, y) = cc in subst (λ q. context.appended defs (context.with_variables c (int ∷ [])) (differs c q) ≡ Some d) is_p h
  of_maps_differ c d x y k p e h = absurd (cc)

  sides_differ : (b : Branch) (c d : Context) (f : Tree) (p : Tree × Tree) → b.vars ≡ c.vars → sides_of_maps defs b f ≡ Some p → context.appended defs (context.with_variables c (int ∷ [])) (differs c p) ≡ Some d → different defs c f ≡ Some d
  sides_differ b c d (equal x y) p v e h = of_maps_differ c d x y (sort_of c.vars defs [] x) p (subst (λ vs. of_maps x y (sort_of vs defs [] x) ≡ Some p) v e) h
  sides_differ b c d f p v e h = absurd (cc)

  unequal_differ : (b : Branch) (c d : Context) (f : Tree) (p : Tree × Tree) → b.vars ≡ c.vars → unequal_in defs b f ≡ Some p → context.appended defs (context.with_variables c (int ∷ [])) (differs c p) ≡ Some d → differing defs c f ≡ Some d
  unequal_differ b c d (negation f) p v e h = sides_differ b c d f p v e h
  unequal_differ b c d f p v e h = absurd (cc)

  pub differ_goes : (b : Branch) (c : Context) (m : Move) → differ defs b ≡ gives m → IsPlaced defs b c → Outcome defs c m
  differ_goes b c m h placed =
      let t = placed.tracks in
      let o = found_at_oldest (unequal_maps defs b) (differ_at defs b) b m h in
      let a = o.0 in
      let k = found_known (unequal_maps defs b) (IsKnown c) 0 b.facts a o.1 t.facts in
      let number = (a.fact).number in
      let x = with_variables (int ∷ []) b in
      let q = bind_some (normal_in defs x (differs (context_of b) a.what)) (λ v. let p = appended_one (by_differ number ∷ []) v (begun x) in Some (on_one (changed_at a.at p.0 p.1))) m o.2 in
      let v = q.0 in
      let one = appended_one (by_differ number ∷ []) v (begun x) in
      let is_m : on_one (changed_at a.at one.0 one.1) ≡ m = cc in
      let d = context.with_variables c (int ∷ []) in
      let form : normal (c.vars ++ int ∷ []) defs [] (differs c a.what) ≡ Some v = subst (λ vs. normal (vs ++ int ∷ []) defs [] (differs (record { vars = vs; facts = [] }) a.what) ≡ Some v) t.vars q.1 in
      let new = unequal_differ b c (with_fact d v) (a.fact).term a.what t.vars k.1 (appended_normal defs d.vars d (differs c a.what) v refl form) in
      let here = k.0 in
      let step : after_step defs c (by_differ number) ≡ Some (with_fact d v) = rw here new in
      let r = one_appended defs c c d (begun x) (by_differ number) v refl step (more_placed b c (int ∷ []) placed) (differ_is_sound number defs c (with_fact d v) placed.sorted step).0 in
      subst (λ n. Outcome defs c n) is_m (on_one_goes defs c r.at (changed_at a.at one.0 one.1) (changed_reached defs c r.at a.at one.0 one.1 r.reached r.known))
