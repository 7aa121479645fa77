-- The rule condition is a rule of proofs.
use Rattle.std.specs.Prelude.{◌≡◌, refl, ℕ, true, Option, Some, None, is_some, List, [], ◌∷◌, All}
use Rattle.std.specs.List.{list_any}
use Rattle.std.proofs.Common.{◌∙◌, ap, subst}
use Rattle.std.proofs.lemmas.List.{append_assoc}
use Rattle.std.proofs.lemmas.List.Elements.{All-head, All-tail}
use Rattle.logic_core.proofs.Booleans.{or_second as second}
use Rattle.logic_core.specs.Tree.{Kind, boolean, Tree, choose, negation}
use Rattle.logic_core.specs.Def.{Def}
use Rattle.logic_core.specs.Normal.{normal}
use Rattle.logic_core.specs.Same.{same_term}
use Rattle.logic_core.specs.Wide.{◌>>=◌}
use Rattle.logic_core.specs.Subterm.{outside, replaced}
use Rattle.logic_core.specs.WellSorted.{IsFormula}
use Rattle.logic_core.proofs.SameTerm.{same_as_itself}
use Rattle.logic_laws.proofs.Options.{bind_some}
use Rattle.proof_core.specs.Context.{Context, fact, with_fact, named, appended, appended_each}
use Rattle.proof_core.specs.Split.{stands_in}
use Rattle.proof_core.specs.Ends.{after_condition}
use Rattle.proof_core.specs.Soundness.{IsSorted}
use Rattle.proof_core.proofs.Appended.{at_fact}
use Rattle.proof_core.proofs.SplitSound.{condition_is_sound}
use Rattle.tableau_branch.specs.Branch.{Branch, gives, At, normal_in}
use Rattle.tableau_branch.specs.Change.{Made, begun, appended_two, added, changed_at}
use Rattle.tableau_branch.specs.Move.{Move, chooses}
use Rattle.theory_rules.specs.Condition.{Choice, as_choice, first_some, first_choice, chosen, condition_at, condition}
use Rattle.tableau.proofs.Tracked.{IsKnown, with_facts, found_known}
use Rattle.tableau.proofs.OutsideSorts.{HasSort, outside_sorts}
use Rattle.tableau.proofs.Outcomes.{IsPlaced, Outcome}
use Rattle.tableau.proofs.Tightening.{Reached, added_reached, changed_reached}
use Rattle.tableau.proofs.Appending.{appended_normal, two_appended}
use Rattle.tableau.proofs.ClosingGoes.{found_at_oldest}
use Rattle.tableau.proofs.RewritingGoes.{some_is}

-- two formulas whose normal forms are appended
pub two_normal : (defs : List Def) (vars : List Kind) (c : Context) (s t u v : Tree) → vars ≡ c.vars → normal vars defs [] s ≡ Some u → normal vars defs [] t ≡ Some v → appended_each defs c (s ∷ t ∷ []) ≡ Some (with_facts c (u ∷ v ∷ []))
two_normal defs vars c s t u v e h k =
    let first : appended defs c s ≡ Some (with_fact c u) = appended_normal defs vars c s u e h in
    let next : appended defs (with_fact c u) t ≡ Some (with_fact (with_fact c u) v) = appended_normal defs vars (with_fact c u) t v e k in
    let both : with_fact (with_fact c u) v ≡ with_facts c (u ∷ v ∷ []) = ap (λ fs. record { vars = c.vars; facts = fs }) (append_assoc c.facts (u ∷ []) (v ∷ [])) in
    rw (first, next) (ap Some both)

-- the first in which something is found has what all have, and is one of them
found_some : {A : Type 0} (P : Tree → Type 0) (f : Tree → Option A) (ts : List Tree) (a : A) → first_some f ts ≡ Some a → All P ts → (t : Tree) × P t × (f t ≡ Some a) × (list_any (same_term t) ts ≡ true)
found_some P f [] a h all = absurd (cc)
found_some {A} P f (t ∷ ts) a h all = at_test (f t) refl h (λ k. found_some P f ts a k (All-tail P t ts all))
  where
    at_test : (o : Option A) → f t ≡ o → ◌≡◌ {A = Option A} (elim o [ None ↦ first_some f ts | Some b ↦ Some b ]) (Some a) → (first_some f ts ≡ Some a → (u : Tree) × P u × (f u ≡ Some a) × (list_any (same_term u) ts ≡ true))
        → (u : Tree) × P u × (f u ≡ Some a) × (list_any (same_term u) (t ∷ ts) ≡ true)
    at_test None e k further = let r = further k in (r.0, r.1, r.2, second (same_term r.0 t) (list_any (same_term r.0) ts) r.3)
    at_test (Some b) e k further = let same = same_as_itself t in (t, All-head P t ts all, e ∙ k, rw same refl)

module _ (defs : List Def) where
  -- the split by a condition
  abbrev Divides : Context → ℕ → Tree → Choice → Tree → Tree → Tree → Tree → Type 0
  Divides c n f a u v x y = appended_each defs c (a.condition ∷ replaced a.whole a.yes f ∷ []) ≡ Some (with_facts c (u ∷ v ∷ [])) → appended_each defs c (negation a.condition ∷ replaced a.whole a.no f ∷ []) ≡ Some (with_facts c (x ∷ y ∷ []))
      → after_condition defs c n a.whole ≡ Some (with_facts c (u ∷ v ∷ []), with_facts c (x ∷ y ∷ []))

  divides_by : (c : Context) (n : ℕ) (f p q r u v x y : Tree) → fact c n ≡ Some f → is_some (named defs c (choose p q r)) ≡ true → stands_in (choose p q r) f ≡ true → Divides c n f (record { whole = choose p q r; condition = p; yes = q; no = r }) u v x y
  divides_by c n f p q r u v x y known sort stands h k = rw (known, sort, stands, h, k) refl

  divides : (c : Context) (n : ℕ) (f t : Tree) (a : Choice) (u v x y : Tree) → fact c n ≡ Some f → is_some (named defs c t) ≡ true → stands_in t f ≡ true → as_choice t ≡ Some a → Divides c n f a u v x y
  divides c n f (choose p q r) a u v x y known sort stands form =
      let is_a : record { whole = choose p q r; condition = p; yes = q; no = r } ≡ a = cc in
      subst (λ (b : Choice). Divides c n f b u v x y) is_a (divides_by c n f p q r u v x y known sort stands)
  divides c n f t a u v x y known sort stands form = absurd (cc)

  -- one of the two branches
  record Chosen (b : Branch) (c : Context) (f : Tree) (a : Choice) (s t : Tree) (m : Made) : Type 0 where
    first : Tree
    next : Tree
    appends : appended_each defs c (s ∷ replaced a.whole t f ∷ []) ≡ Some (with_facts c (first ∷ next ∷ []))
    goes : IsSorted defs (with_facts c (first ∷ next ∷ [])) → (d : Context) × Reached defs (with_facts c (first ∷ next ∷ [])) m d

  chosen_goes : (b : Branch) (c : Context) (a : At Choice) (s t : Tree) (m : Made) → IsPlaced defs b c → chosen defs b a s t ≡ Some m → Chosen b c (a.fact).term a.what s t m
  chosen_goes b c a s t m placed h =
      let finish : Tree → Tree → Option Made = λ u v. let p = appended_two u v (begun b) in Some (added p.0 (changed_at a.at p.1 p.2)) in
      let p = bind_some (normal_in defs b s) (λ u. normal_in defs b (replaced (a.what).whole t (a.fact).term) >>= finish u) m h in
      let q = bind_some (normal_in defs b (replaced (a.what).whole t (a.fact).term)) (finish p.0) m p.2 in
      let r = appended_two p.0 q.0 (begun b) in
      let is_m : added r.0 (changed_at a.at r.1 r.2) ≡ m = cc in
      let y = with_facts c (p.0 ∷ q.0 ∷ []) in record {
        first = p.0;
        next = q.0;
        appends = two_normal defs b.vars c s (replaced (a.what).whole t (a.fact).term) p.0 q.0 placed.tracks.vars p.1 q.1;
        goes = λ sorted. let w = two_appended defs b c p.0 q.0 placed sorted in
            (w.at, subst (λ (n : Made). Reached defs y n w.at) is_m (added_reached defs y w.at r.0 (changed_at a.at r.1 r.2) (changed_reached defs y w.at a.at r.1 r.2 w.reached w.second) w.first));
      }

  pub condition_goes : (b : Branch) (c : Context) (m : Move) → condition defs b ≡ gives m → IsPlaced defs b c → Outcome defs c m
  condition_goes b c m h placed =
      let o = found_at_oldest first_choice (condition_at defs b) b m h in
      let a = o.0 in
      let k = found_known first_choice (IsKnown c) 0 b.facts a o.1 placed.tracks.facts in
      let number = (a.fact).number in
      let formula : IsFormula c.vars defs (a.fact).term = at_fact (IsFormula c.vars defs) c.facts number (a.fact).term k.0 placed.sorted.facts in
      let w = found_some (HasSort c.vars defs []) as_choice (outside (a.fact).term) a.what k.1 (outside_sorts c.vars defs [] (a.fact).term boolean formula) in
      let named_choice : is_some (named defs c w.0) ≡ true = some_is (named defs c w.0) w.1.0 w.1.1 in
      let p = bind_some (chosen defs b a (a.what).condition (a.what).yes) (λ x. chosen defs b a (negation (a.what).condition) (a.what).no >>= λ y. Some (record { ending = chooses number (a.what).whole; made = x ∷ y ∷ [] })) m o.2 in
      let q = bind_some (chosen defs b a (negation (a.what).condition) (a.what).no) (λ y. Some (record { ending = chooses number (a.what).whole; made = p.0 ∷ y ∷ [] })) m p.2 in
      let is_m : record { ending = chooses number (a.what).whole; made = p.0 ∷ q.0 ∷ [] } ≡ m = cc in
      let x = chosen_goes b c a (a.what).condition (a.what).yes p.0 placed p.1 in
      let y = chosen_goes b c a (negation (a.what).condition) (a.what).no q.0 placed q.1 in
      let d = with_facts c (x.first ∷ x.next ∷ []) in
      let e = with_facts c (y.first ∷ y.next ∷ []) in
      let after = divides c number (a.fact).term w.0 a.what x.first x.next y.first y.next k.0 named_choice w.3 w.2 x.appends y.appends in
      let sorted = (condition_is_sound number (a.what).whole defs c d e placed.sorted after).0 in
      let f = x.goes (All-head (IsSorted defs) d (e ∷ []) sorted) in
      let g = y.goes (All-head (IsSorted defs) e [] (All-tail (IsSorted defs) d (e ∷ []) sorted)) in
      subst (λ n. Outcome defs c n) is_m (record { contexts = f.0 ∷ g.0 ∷ []; goes = (d, e, after, (f.1.leads, (g.1.leads, tt))); placed = (f.1.placed, (g.1.placed, tt)) })
