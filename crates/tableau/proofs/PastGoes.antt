-- The rules past and back are rules of proofs.
use Rattle.std.specs.Prelude.{◌≡◌, refl, ℕ, ℤ, Bool, true, Option, Some, None, is_some, List, [], ◌∷◌, All, filter, flat_map}
use Rattle.std.proofs.Common.{◌∙◌, subst}
use Rattle.std.proofs.lemmas.List.Elements.{All-nil, All-cons, All-head, All-tail, All-append}
use Rattle.logic_core.specs.Tree.{boolean, Tree, equal}
use Rattle.logic_core.specs.Def.{Def}
use Rattle.logic_core.specs.Wide.{◌>>=◌}
use Rattle.logic_core.specs.Subterm.{occurs, outside, replaced}
use Rattle.logic_core.specs.WellSorted.{IsFormula}
use Rattle.logic_laws.proofs.Options.{bind_some, cond_has}
use Rattle.proof_core.specs.Proof.{Step, by_replace, by_back}
use Rattle.proof_core.specs.Context.{Context, fact, with_fact, named, appended, appended_each}
use Rattle.proof_core.specs.Says.{says}
use Rattle.proof_core.specs.Split.{stands_in}
use Rattle.proof_core.specs.Maps.{Access, access, as_number, distance, before_write, read_at_distance, below_zero, at_zero, above_zero}
use Rattle.proof_core.specs.Ends.{after_past}
use Rattle.proof_core.specs.Steps.{after_step}
use Rattle.proof_core.specs.Soundness.{IsSorted}
use Rattle.proof_core.proofs.Appended.{at_fact}
use Rattle.proof_core.proofs.MapsSound.{past_is_sound, back_is_sound}
use Rattle.tableau_branch.specs.Branch.{Fact, Branch, context_of, Attempt, none, leaves, gives, unless_wide, normal_in}
use Rattle.tableau_branch.specs.Change.{Made, begun, appended_two, added, changed_each}
use Rattle.tableau_branch.specs.Move.{Move, passes, on_one}
use Rattle.theory_rules.specs.Past.{first_access, replaced_by, passed, past_by, past}
use Rattle.tableau_branch.specs.Shapes.{is_access}
use Rattle.theory_rules.specs.Back.{accesses_in, moved_back_by, back_at, back}
use Rattle.tableau.proofs.Tracked.{IsKnown, with_facts, found_known}
use Rattle.tableau.proofs.OutsideSorts.{HasSort, outside_sorts}
use Rattle.tableau.proofs.Outcomes.{IsPlaced, Outcome}
use Rattle.tableau.proofs.Tightening.{grows_not, Reached, added_reached, on_one_goes}
use Rattle.tableau.proofs.Appending.{appended_normal, two_appended, each_changed}
use Rattle.tableau.proofs.ClosingGoes.{found_at_oldest, found_first}
use Rattle.tableau.proofs.RewritingGoes.{some_is, replaces}
use Rattle.tableau.proofs.UnfoldingGoes.{found_sort}
use Rattle.tableau.proofs.ConditionGoes.{two_normal}

module _ (defs : List Def) where
  -- one of the three branches
  record Passed (c : Context) (t way u : Tree) (m : Made) : Type 0 where
    first : Tree
    next : Tree
    appends : appended_each defs c (way ∷ equal t u ∷ []) ≡ Some (with_facts c (first ∷ next ∷ []))
    goes : IsSorted defs (with_facts c (first ∷ next ∷ [])) → (d : Context) × Reached defs (with_facts c (first ∷ next ∷ [])) m d

  passed_goes : (b : Branch) (c : Context) (t way u : Tree) (m : Made) → IsPlaced defs b c → passed defs b t way u ≡ Some m → Passed c t way u m
  passed_goes b c t way u m placed h =
      let v = placed.tracks.vars in
      let p = bind_some (normal_in defs b way) (λ l. normal_in defs b (equal t u) >>= λ e. let r = appended_two l e (begun b) in replaced_by defs b t r.1 (added r.0 r.2)) m h in
      let q = bind_some (normal_in defs b (equal t u)) (λ e. let r = appended_two p.0 e (begun b) in replaced_by defs b t r.1 (added r.0 r.2)) m p.2 in
      let r = appended_two p.0 q.0 (begun b) in
      let e = r.1 in
      let s = bind_some (says e.term t) (λ x. changed_each (λ g. occurs t g.term) (λ y. normal_in defs b (replaced t x y)) (λ g. by_replace g.number e.number t) (added r.0 r.2)) m q.2 in
      let y = with_facts c (p.0 ∷ q.0 ∷ []) in record {
        first = p.0;
        next = q.0;
        appends = two_normal defs b.vars c way (equal t u) p.0 q.0 v p.1 q.1;
        goes = λ sorted. let w = two_appended defs b c p.0 q.0 placed sorted in
            let z = added_reached defs y w.at r.0 r.2 w.reached w.first in
            let o = each_changed defs (λ g. occurs t g.term) (λ x. normal_in defs b (replaced t s.0 x)) (λ g. by_replace g.number e.number t) w.at
            (λ d g x grown sd kg _ k. replaces defs b.vars e.number e.term t s.0 d g x (v ∙ w.grows.vars ∙ grown.vars) sd (grown.facts e.number e.term w.second) s.1 kg k)
            y w.at (added r.0 r.2) m (grows_not w.at) z s.2 in
            (o.0, o.2);
      }

  passes_by : (c d e g : Context) (t : Tree) (a : Access) (far : Tree) → is_some (named defs c t) ≡ true → access t ≡ Some a → distance defs c a ≡ Some far
      → appended_each defs c (below_zero far ∷ equal t (before_write a) ∷ []) ≡ Some d → appended_each defs c (at_zero far ∷ equal t a.value ∷ []) ≡ Some e → appended_each defs c (above_zero far ∷ equal t (before_write a) ∷ []) ≡ Some g
      → after_past defs c t ≡ Some (d, e, g)
  passes_by c d e g t a far sort form apart h k l = rw (sort, form, apart, h, k, l) refl

  pub past_goes : (b : Branch) (c : Context) (m : Move) → past defs b ≡ gives m → IsPlaced defs b c → Outcome defs c m
  past_goes b c m h placed =
      let v = placed.tracks.vars in
      let o = found_at_oldest first_access (λ a. past_by defs b a.what) b m h in
      let t = (o.0).what in
      let k = found_known first_access (IsKnown c) 0 b.facts o.0 o.1 placed.tracks.facts in
      let sort = found_sort defs c (o.0).fact is_access t placed.sorted k.0 k.1 in
      let named_t : is_some (named defs c t) ≡ true = some_is (named defs c t) sort.0 sort.1 in
      let finish : Made → Made → Made → Option Move = λ x y z. Some (record { ending = passes t; made = x ∷ y ∷ z ∷ [] }) in
      let p = bind_some (access t) (λ a. distance defs (context_of b) a >>= λ d. passed defs b t (below_zero d) (before_write a) >>= λ x. passed defs b t (at_zero d) a.value >>= λ y. passed defs b t (above_zero d) (before_write a) >>= finish x y) m o.2 in
      let a = p.0 in
      let q = bind_some (distance defs (context_of b) a) (λ d. passed defs b t (below_zero d) (before_write a) >>= λ x. passed defs b t (at_zero d) a.value >>= λ y. passed defs b t (above_zero d) (before_write a) >>= finish x y) m p.2 in
      let d = q.0 in
      let r = bind_some (passed defs b t (below_zero d) (before_write a)) (λ x. passed defs b t (at_zero d) a.value >>= λ y. passed defs b t (above_zero d) (before_write a) >>= finish x y) m q.2 in
      let s = bind_some (passed defs b t (at_zero d) a.value) (λ y. passed defs b t (above_zero d) (before_write a) >>= finish r.0 y) m r.2 in
      let w = bind_some (passed defs b t (above_zero d) (before_write a)) (finish r.0 s.0) m s.2 in
      let is_m : record { ending = passes t; made = r.0 ∷ s.0 ∷ w.0 ∷ [] } ≡ m = cc in
      let far : distance defs c a ≡ Some d = subst (λ vs. distance defs (record { vars = vs; facts = [] }) a ≡ Some d) v q.1 in
      let x = passed_goes b c t (below_zero d) (before_write a) r.0 placed r.1 in
      let y = passed_goes b c t (at_zero d) a.value s.0 placed s.1 in
      let z = passed_goes b c t (above_zero d) (before_write a) w.0 placed w.1 in
      let cx = with_facts c (x.first ∷ x.next ∷ []) in
      let cy = with_facts c (y.first ∷ y.next ∷ []) in
      let cz = with_facts c (z.first ∷ z.next ∷ []) in
      let after = passes_by c cx cy cz t a d named_t p.1 far x.appends y.appends z.appends in
      let sorted = (past_is_sound t defs c cx cy cz placed.sorted after).0 in
      let two = All-tail (IsSorted defs) cx (cy ∷ cz ∷ []) sorted in
      let f = x.goes (All-head (IsSorted defs) cx (cy ∷ cz ∷ []) sorted) in
      let g = y.goes (All-head (IsSorted defs) cy (cz ∷ []) two) in
      let i = z.goes (All-head (IsSorted defs) cz [] (All-tail (IsSorted defs) cy (cz ∷ []) two)) in
      subst (λ n. Outcome defs c n) is_m (record { contexts = f.0 ∷ g.0 ∷ i.0 ∷ []; goes = (cx, cy, cz, after, (f.1.leads, (g.1.leads, (i.1.leads, tt)))); placed = (f.1.placed, (g.1.placed, (i.1.placed, tt))) })

-- what all of a list have, all that are filtered have, and what all of each list have, all of the flat list
pub filter_has : {A : Type 0} (P : A → Type 0) (p : A → Bool) (xs : List A) → All P xs → All P (filter p xs)
filter_has P p [] all = All-nil P
filter_has P p (x ∷ xs) all = let rest = filter_has P p xs (All-tail P x xs all) in
    cond_has (All P) (p x) (x ∷ filter p xs) (filter p xs) (λ _. All-cons P x (filter p xs) (All-head P x xs all) rest) (λ _. rest)

pub flat_has : {A B : Type 0} (P : A → Type 0) (Q : B → Type 0) (f : A → List B) (xs : List A) → ((x : A) → P x → All Q (f x)) → All P xs → All Q (flat_map f xs)
flat_has P Q f [] go all = All-nil Q
flat_has P Q f (x ∷ xs) go all = All-append Q (f x) (flat_map f xs) (go x (All-head P x xs all)) (flat_has P Q f xs go (All-tail P x xs all))

module _ (defs : List Def) where
  -- back
  moves : (e : Context) (n : ℕ) (t f u v : Tree) (a : Access) → fact e n ≡ Some f → is_some (named defs e t) ≡ true → stands_in t f ≡ true → access t ≡ Some a → read_at_distance defs e a ≡ Some u → appended defs e (replaced t u f) ≡ Some (with_fact e v)
      → after_step defs e (by_back n t) ≡ Some (with_fact e v)
  moves e n t f u v a known sort stands form read new = rw (known, sort, stands, form, read) new

  moved_goes : (b : Branch) (c : Context) (t : Tree) (m : Move) → IsPlaced defs b c → HasSort c.vars defs [] t → moved_back_by defs b t ≡ Some m → Outcome defs c m
  moved_goes b c t m placed sort h =
      let v = placed.tracks.vars in
      let picks : Fact → Bool = λ g. stands_in t g.term in
      let node : Fact → Step = λ g. by_back g.number t in
      let p = bind_some (access t) (λ a. read_at_distance defs (context_of b) a >>= λ u. changed_each picks (λ s. normal_in defs b (replaced t u s)) node (begun b) >>= λ n. Some (on_one n)) m h in
      let q = bind_some (read_at_distance defs (context_of b) p.0) (λ u. changed_each picks (λ s. normal_in defs b (replaced t u s)) node (begun b) >>= λ n. Some (on_one n)) m p.2 in
      let r = bind_some (changed_each picks (λ s. normal_in defs b (replaced t q.0 s)) node (begun b)) (λ n. Some (on_one n)) m q.2 in
      let is_m : on_one r.0 ≡ m = cc in
      let start : Reached defs c (begun b) c = record { leads = refl; placed = placed } in
      let o = each_changed defs picks (λ s. normal_in defs b (replaced t q.0 s)) node c
      (λ e g x grown s kg stands k.
      let same = v ∙ grown.vars in
      let there = subst (λ vs. HasSort vs defs [] t) grown.vars sort in
      let read : read_at_distance defs e p.0 ≡ Some q.0 = subst (λ vs. read_at_distance defs (record { vars = vs; facts = [] }) p.0 ≡ Some q.0) same q.1 in
      let step = moves e g.number t g.term q.0 x p.0 kg (some_is (named defs e t) there.0 there.1) stands p.1 read (appended_normal defs b.vars e (replaced t q.0 g.term) x same k) in
      (step, (back_is_sound g.number t defs e (with_fact e x) s step).0))
      c c (begun b) r.0 (grows_not c) start r.1 in
      subst (λ n. Outcome defs c n) is_m (on_one_goes defs c o.0 r.0 o.2)

  gives_moved : (o : Option Tree) (x : Option Move) (m : Move) → ◌≡◌ {A = Attempt Move} (elim o [ None ↦ leaves | Some d ↦ elim (as_number d) [ None ↦ none | Some n ↦ unless_wide x ] ]) (gives m) → x ≡ Some m
  gives_moved None x m h = absurd (cc)
  gives_moved (Some d) x m h = at_number (as_number d) h
    where
      gives_some : (y : Option Move) → unless_wide y ≡ gives m → y ≡ Some m
      gives_some None k = absurd (cc)
      gives_some (Some n) k = cc

      at_number : (p : Option ℤ) → ◌≡◌ {A = Attempt Move} (elim p [ None ↦ none | Some n ↦ unless_wide x ]) (gives m) → x ≡ Some m
      at_number None k = absurd (cc)
      at_number (Some n) k = gives_some x k

  pub back_goes : (b : Branch) (c : Context) (m : Move) → back defs b ≡ gives m → IsPlaced defs b c → Outcome defs c m
  back_goes b c m h placed =
      let all : All (HasSort c.vars defs []) (flat_map accesses_in b.facts) = flat_has (IsKnown c) (HasSort c.vars defs []) accesses_in b.facts
      (λ f k. let formula : IsFormula c.vars defs f.term = at_fact (IsFormula c.vars defs) c.facts f.number f.term k placed.sorted.facts in
      filter_has (HasSort c.vars defs []) is_access (outside f.term) (outside_sorts c.vars defs [] f.term boolean formula)) placed.tracks.facts in
      let o = found_first (back_at defs b) (HasSort c.vars defs []) (flat_map accesses_in b.facts) m all h in
      moved_goes b c o.0 m placed o.1 (gives_moved (access o.0 >>= λ a. distance defs (context_of b) a) (moved_back_by defs b o.0) m o.2)
