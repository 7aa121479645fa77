-- The rule trichotomy is a rule of proofs.
use Rattle.std.specs.Prelude.{◌≡◌, refl, ℕ, ◌+◌, pos, Bool, true, false, Option, Some, None, option_map, List, [], ◌∷◌, All, if◌then◌else◌}
use Rattle.std.specs.List.{list_any}
use Rattle.std.proofs.Common.{subst}
use Rattle.std.proofs.lemmas.List.Elements.{All-nil, All-cons, All-head, All-tail}
use Rattle.logic_core.specs.Tree.{Kind, int, boolean, Tree, num, equal, at_most, negation}
use Rattle.logic_core.specs.Def.{Def}
use Rattle.logic_core.specs.Junction.{is_zero}
use Rattle.logic_core.specs.Sorts.{is, sort_of}
use Rattle.logic_core.specs.Combine.{linear_of}
use Rattle.logic_core.specs.Wide.{◌>>=◌, when}
use Rattle.logic_core.specs.WellSorted.{IsFormula}
use Rattle.logic_laws.proofs.Options.{bind_some, map_some, when_some, cond_has}
use Rattle.logic_laws.proofs.SortTests.{sort_is}
use Rattle.logic_laws.proofs.FormulaSorts.{part_of_negation, parts_of_at_most, parts_of_equal}
use Rattle.logic_laws.proofs.FormulaValues.{zero_found}
use Rattle.proof_core.specs.Context.{Context, with_fact, named, appended}
use Rattle.proof_core.specs.Maps.{below_zero, at_zero, above_zero}
use Rattle.proof_core.specs.Ends.{after_trichotomy}
use Rattle.proof_core.specs.Soundness.{IsSorted}
use Rattle.proof_core.proofs.Appended.{at_fact}
use Rattle.proof_core.proofs.ArithmeticSound.{trichotomy_is_sound}
use Rattle.tableau_branch.specs.Branch.{Fact, Branch, Attempt, none, gives, unless_wide, At, places, places_from, normal_in, without, each}
use Rattle.tableau_branch.specs.Move.{Move}
use Rattle.theory_rules.specs.Trichotomy.{has_opposite, equation_of_zero, undecided_in, undecided, is_not, decided_by, is_known_way, ways, trichotomy_at, trichotomy}
use Rattle.tableau.proofs.Tracked.{IsKnown}
use Rattle.tableau.proofs.Outcomes.{IsPlaced, Outcome}
use Rattle.tableau.proofs.Tightening.{placed_without}
use Rattle.tableau.proofs.Appending.{appended_normal, case_reached}
use Rattle.tableau.proofs.ClosingGoes.{found_first}

-- all places are of known facts in which something is found
pub places_known : {A : Type 0} (test : Fact → Option A) (P : Fact → Type 0) (n : ℕ) (fs : List Fact) → All P fs → All (λ (a : At A). P a.fact × (test a.fact ≡ Some a.what)) (places_from test n fs)
places_known {A} test P n [] all = All-nil (λ (a : At A). P a.fact × (test a.fact ≡ Some a.what))
places_known {A} test P n (f ∷ fs) all = at_test (test f) refl (places_known test P (n + 1) fs (All-tail P f fs all))
  where
    at_test : (o : Option A) → test f ≡ o → All (λ (a : At A). P a.fact × (test a.fact ≡ Some a.what)) (places_from test (n + 1) fs)
        → All (λ (a : At A). P a.fact × (test a.fact ≡ Some a.what)) (elim o [ None ↦ places_from test (n + 1) fs | Some a ↦ record { at = n; fact = f; what = a } ∷ places_from test (n + 1) fs ])
    at_test None e rest = rest
    at_test (Some a) e rest = All-cons (λ (x : At A). P x.fact × (test x.fact ≡ Some x.what)) (record { at = n; fact = f; what = a }) (places_from test (n + 1) fs) (All-head P f fs all, e) rest

module _ (defs : List Def) where
  equation_int : (vars : List Kind) (t d : Tree) → sort_of vars defs [] t ≡ Some boolean → equation_of_zero t ≡ Some d → sort_of vars defs [] d ≡ Some int
  equation_int vars (equal x z) d s h =
      let w = when_some (is_zero z) x d h in
      let p = parts_of_equal vars defs x z [] boolean s in
      let number : p.0 ≡ int = (let a : sort_of vars defs [] (num (pos 0)) ≡ Some p.0 = subst (λ y. sort_of vars defs [] y ≡ Some p.0) (zero_found z w.0) p.2 in cc) in
      subst (λ y. sort_of vars defs [] y ≡ Some int) w.1 (subst (λ k. sort_of vars defs [] x ≡ Some k) number p.1)
  equation_int vars t d s h = absurd (cc)

  -- the term of Int that isn't decided
  undecided_int : (b : Branch) (vars : List Kind) (t d : Tree) → sort_of vars defs [] t ≡ Some boolean → undecided_in b t ≡ Some d → sort_of vars defs [] d ≡ Some int
  undecided_int b vars (negation t) d s h = equation_int vars t d (part_of_negation vars defs t [] boolean s) h
  undecided_int b vars (at_most z x) d s h =
      let p = bind_some (linear_of (at_most z x)) (λ y. when (has_opposite b y) (Some x)) d h in
      let w = when_some (has_opposite b p.0) x d p.2 in
      subst (λ y. sort_of vars defs [] y ≡ Some int) w.1 (parts_of_at_most vars defs z x [] boolean s).1
  undecided_int b vars t d s h = absurd (cc)

  three : (c : Context) (d u v w : Tree) → is int (named defs c d) ≡ true → appended defs c (below_zero d) ≡ Some (with_fact c u) → appended defs c (at_zero d) ≡ Some (with_fact c v) → appended defs c (above_zero d) ≡ Some (with_fact c w)
      → after_trichotomy defs c d ≡ Some (with_fact c u, with_fact c v, with_fact c w)
  three c d u v w s h k l = rw (s, h, k, l) refl

  decided_goes : (b : Branch) (a : At Tree) (c : Context) (ts : List Tree) → IsPlaced defs b c → sort_of c.vars defs [] a.what ≡ Some int → each (λ o. o) (ways defs b a.what) ≡ Some ts → Outcome defs c (decided_by b a ts)
  decided_goes b a c ts placed sort h =
      let d = a.what in
      let n : Tree → Option Tree = normal_in defs b in
      let p = bind_some (n (below_zero d)) (λ u. each (λ o. o) (n (at_zero d) ∷ n (above_zero d) ∷ []) >>= λ rest. Some (u ∷ rest)) ts h in
      let q = bind_some (each (λ o. o) (n (at_zero d) ∷ n (above_zero d) ∷ [])) (λ rest. Some (p.0 ∷ rest)) ts p.2 in
      let r = bind_some (n (at_zero d)) (λ u. each (λ o. o) (n (above_zero d) ∷ []) >>= λ rest. Some (u ∷ rest)) q.0 q.1 in
      let s = bind_some (each (λ o. o) (n (above_zero d) ∷ [])) (λ rest. Some (r.0 ∷ rest)) q.0 r.2 in
      let x = bind_some (n (above_zero d)) (λ u. Some (u ∷ [])) s.0 s.1 in
      let is_ts : p.0 ∷ r.0 ∷ x.0 ∷ [] ≡ ts = cc in
      let v = placed.tracks.vars in
      let after = three c d p.0 r.0 x.0 (sort_is int (named defs c d) sort) (appended_normal defs b.vars c (below_zero d) p.0 v p.1) (appended_normal defs b.vars c (at_zero d) r.0 v r.1) (appended_normal defs b.vars c (above_zero d) x.0 v x.1) in
      let sorted = (trichotomy_is_sound d defs c (with_fact c p.0) (with_fact c r.0) (with_fact c x.0) placed.sorted after).0 in
      let two = All-tail (IsSorted defs) (with_fact c p.0) (with_fact c r.0 ∷ with_fact c x.0 ∷ []) sorted in
      let one = All-tail (IsSorted defs) (with_fact c r.0) (with_fact c x.0 ∷ []) two in
      let outer : Branch = if is_not (a.fact).term then without a.at b else b in
      let outer_placed : IsPlaced defs outer c = cond_has (λ (y : Branch). IsPlaced defs y c) (is_not (a.fact).term) (without a.at b) b (λ _. placed_without defs b c a.at placed) (λ _. placed) in
      let f = case_reached defs outer c p.0 outer_placed (All-head (IsSorted defs) (with_fact c p.0) (with_fact c r.0 ∷ with_fact c x.0 ∷ []) sorted) in
      let g = case_reached defs b c r.0 placed (All-head (IsSorted defs) (with_fact c r.0) (with_fact c x.0 ∷ []) two) in
      let k = case_reached defs outer c x.0 outer_placed (All-head (IsSorted defs) (with_fact c x.0) [] one) in
      subst (λ (us : List Tree). Outcome defs c (decided_by b a us)) is_ts (record {
        contexts = f.0 ∷ g.0 ∷ k.0 ∷ [];
        goes = (with_fact c p.0, with_fact c r.0, with_fact c x.0, after, (f.1.leads, (g.1.leads, (k.1.leads, tt))));
        placed = (f.1.placed, (g.1.placed, (k.1.placed, tt)));
      })

  gives_known : (x : Bool) (o : Option Move) (m : Move) → ◌≡◌ {A = Attempt Move} (elim x [ true ↦ none | false ↦ unless_wide o ]) (gives m) → o ≡ Some m
  gives_known true o m h = absurd (cc)
  gives_known false None m h = absurd (cc)
  gives_known false (Some n) m h = cc

  pub trichotomy_goes : (b : Branch) (c : Context) (m : Move) → trichotomy defs b ≡ gives m → IsPlaced defs b c → Outcome defs c m
  trichotomy_goes b c m h placed =
      let o = found_first (trichotomy_at defs b) (λ (a : At Tree). IsKnown c a.fact × (undecided b a.fact ≡ Some a.what)) (places (undecided b) b) m (places_known (undecided b) (IsKnown c) 0 b.facts placed.tracks.facts) h in
      let a = o.0 in
      let os = ways defs b a.what in
      let made = gives_known (list_any (is_known_way b) os) (option_map (decided_by b a) (each (λ o. o) os)) m o.2 in
      let p = map_some (decided_by b a) (each (λ o. o) os) m made in
      let formula : IsFormula c.vars defs (a.fact).term = at_fact (IsFormula c.vars defs) c.facts (a.fact).number (a.fact).term o.1.0 placed.sorted.facts in
      subst (λ n. Outcome defs c n) p.2 (decided_goes b a c p.0 placed (undecided_int b c.vars (a.fact).term a.what formula o.1.1) p.1)
