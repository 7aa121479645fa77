-- Facts by number that are changed one after another, one fact on.
use Rattle.std.proofs.Common.{◌≡◌, refl, sym, ap, subst, ◌∙◌, ℕ, ◌+◌, Option, Some, None, List, [], ◌∷◌, ◌++◌, map, length, take, drop, slice_get}
use Rattle.std.proofs.lemmas.List.{take-map, drop-map}
use Rattle.std.proofs.lemmas.Option.{slice_get_within, get_or_from_slice_get}
use Rattle.logic_core.specs.Tree.{Tree, Kind}
use Rattle.proof_core.specs.Proof.{Step}
use Rattle.term_bank.specs.Numbered.{at}
use Rattle.tableau_branch.specs.Branch.{Fact}
use Rattle.tableau_branch.specs.Change.{Made, appended_one, kept, changed_at}
use Rattle.tableau_branch.specs.Replacing.{node_on, replaced_in, replaced_from}
use Rattle.tableau_branch.specs.declared.changing.Ground.TheVariants as ground
use Rattle.tableau_branch.proofs.Lists.{drop_got, take_got}
use Rattle.tableau_branch.proofs.ChangedFacts.{replaced_by, replaced_not, replaced_wide}
use Rattle.numbered_terms.specs.Stored.{Numbered, Grows}
use Rattle.numbered_branches.specs.Branches.{NumberedFact, NumberedStep, NumberedMade, fact_at, step_at, made_at, IsFactBelow, IsMadeOver}
use Rattle.numbered_branches.proofs.Changing.{made_more}
use Rattle.numbered_branches.specs.Replacing.{IsOnGround, IsReplacing, changed_on}
use Rattle.numbered_branches.specs.declared.replacing.Replacing.{Replacing}
use Rattle.numbered_branches.proofs.Listing.{all_at}
use Rattle.numbered_facts.proofs.Growing.{then}
use Rattle.numbered_branches.proofs.Growing.{stays, below}

-- the fact at a place, and those before and behind it
pub at_place : (ts : List Tree) (fs : List NumberedFact) (i : ℕ) (f : NumberedFact) → slice_get fs i ≡ Some f → drop i (map (fact_at ts) fs) ≡ fact_at ts f ∷ drop (i + 1) (map (fact_at ts) fs)
at_place ts fs i f h = drop-map (fact_at ts) i fs ∙ ap (map (fact_at ts)) (drop_got fs i f h) ∙ ap (λ gs. fact_at ts f ∷ gs) (sym (drop-map (fact_at ts) (i + 1) fs))

before_next : (ts : List Tree) (fs : List NumberedFact) (i : ℕ) (f : NumberedFact) → slice_get fs i ≡ Some f → take (i + 1) (map (fact_at ts) fs) ≡ take i (map (fact_at ts) fs) ++ fact_at ts f ∷ []
before_next ts fs i f h = take-map (fact_at ts) (i + 1) fs ∙ ap (map (fact_at ts)) (take_got fs i f h) ∙ map_append (fact_at ts) (take i fs) (f ∷ []) ∙ ap (λ gs. gs ++ fact_at ts f ∷ []) (sym (take-map (fact_at ts) i fs))
  where
    map_append : {A B : Type 0} (g : A → B) (xs ys : List A) → map g (xs ++ ys) ≡ map g xs ++ map g ys
    map_append g [] ys = refl
    map_append g (x ∷ xs) ys = ap (λ zs. g x ∷ zs) (map_append g xs ys)

fact_stays : (n m : Numbered) → Grows n m → (f : NumberedFact) → IsFactBelow (length n.terms) f → fact_at m.terms f ≡ fact_at n.terms f
fact_stays n m g f l = λ k. record { term = stays n m f.term g l k; number = f.number }

pub got_below : (n : Numbered) (m : NumberedMade) → IsMadeOver n.terms m → (i : ℕ) (f : NumberedFact) → slice_get m.branch.facts i ≡ Some f → IsFactBelow (length n.terms) f
got_below n m h i f got = all_at (IsFactBelow (length n.terms)) m.branch.facts i f h.branch.facts (slice_get_within m.branch.facts i f got) (sym (get_or_from_slice_get m.branch.facts i f f got))

-- over the variables of the branch
pub over_vars : (n : Numbered) (r : Replacing) (f : NumberedFact) (vars : List Kind) (o : Option (Option (Step × Tree))) → n.vars ≡ vars
    → replaced_in n.defs r.ground (at n.terms r.left) (at n.terms r.right) n.vars (fact_at n.terms f) ≡ o → replaced_in n.defs r.ground (at n.terms r.left) (at n.terms r.right) vars (fact_at n.terms f) ≡ o
over_vars n r f vars o e h = ap (λ vs. replaced_in n.defs r.ground (at n.terms r.left) (at n.terms r.right) vs (fact_at n.terms f)) (sym e) ∙ h

-- what is replaced has numbers in a longer store too
pub replacing_stays : (n m : Numbered) (r : Replacing) → Grows n m → IsReplacing n.terms r → IsReplacing m.terms r
replacing_stays n m r g h = record { left = below n m r.left g h.left; right = below n m r.right g h.right; ground = subst (IsOnGround r.ground) (sym (stays n m r.left g h.left)) h.ground }

module _ (n : Numbered) (r : Replacing) (h : IsReplacing n.terms r) where
  -- over a longer store
  over_longer : (m : Numbered) (made : NumberedMade) (k : ℕ) → Grows n m → changed_on m r made k ≡ replaced_from n.defs r.ground (at n.terms r.left) (at n.terms r.right) (made_at m.terms made) k
  over_longer m made k g = λ j. replaced_from (g.defs j) r.ground (stays n m r.left g h.left j) (stays n m r.right g h.right j) (made_at m.terms made) k

  module _ (old : NumberedMade) (is_over : IsMadeOver n.terms old) (place : ℕ) (f : NumberedFact) (got : slice_get old.branch.facts place ≡ Some f) where
    -- the fact is changed
    pub changed_next : (u v : Numbered) (more made : NumberedMade) (k : ℕ) (changed : NumberedFact) (form : ℕ) (step : NumberedStep) → Grows n u → Grows u v
        → IsFactBelow (length n.terms) f
        → step_at u.terms step ≡ node_on r.ground (at u.terms r.left) (fact_at u.terms f)
        → replaced_in n.defs r.ground (at n.terms r.left) (at n.terms r.right) old.branch.vars (fact_at n.terms f) ≡ Some (Some (node_on r.ground (at n.terms r.left) (fact_at n.terms f), at u.terms form))
        → fact_at v.terms changed ≡ (appended_one (step_at u.terms step ∷ []) (at u.terms form) (made_at u.terms old)).0
        → made_at v.terms more ≡ (appended_one (step_at u.terms step ∷ []) (at u.terms form) (made_at u.terms old)).1
        → map (fact_at v.terms) (take k made.branch.facts) ≡ kept (take place (map (fact_at v.terms) more.branch.facts)) (fact_at v.terms changed) (drop (place + 1) (map (fact_at v.terms) more.branch.facts))
        → drop k made.branch.facts ≡ drop (place + 1) more.branch.facts
        → made_at v.terms made ≡ changed_at place (fact_at v.terms changed) (made_at v.terms more)
        → changed_on v r made k ≡ changed_on n r old place
    changed_next u v more made k changed form step g d low is_step change is_fact is_more before behind is_made =
        let F = fact_at v.terms in
        let same_step : step_at u.terms step ≡ node_on r.ground (at n.terms r.left) (fact_at n.terms f) = is_step ∙ (λ j. node_on r.ground (stays n u r.left g h.left j) (fact_stays n u g f low j)) in
        let same_made : made_at u.terms old ≡ made_at n.terms old = (made_more n.terms u.terms g.terms old is_over).1 in
        over_longer v made k (then n u v g d)
        ∙ replaced_by n.defs r.ground (at n.terms r.left) (at n.terms r.right) (made_at n.terms old) (made_at v.terms more) (made_at v.terms made) place k (fact_at n.terms f) (at u.terms form)
        (node_on r.ground (at n.terms r.left) (fact_at n.terms f)) (F changed) (at_place n.terms old.branch.facts place f got) change
        (is_fact ∙ (λ j. (appended_one (same_step j ∷ []) (at u.terms form) (same_made j)).0))
        (is_more ∙ (λ j. (appended_one (same_step j ∷ []) (at u.terms form) (same_made j)).1))
        (take-map F k made.branch.facts ∙ before)
        (drop-map F k made.branch.facts ∙ ap (map F) behind ∙ sym (drop-map F (place + 1) more.branch.facts))
        is_made

    -- it stays
    pub changed_not : (u : Numbered) → Grows n u → replaced_in n.defs r.ground (at n.terms r.left) (at n.terms r.right) old.branch.vars (fact_at n.terms f) ≡ Some None → changed_on u r old (place + 1) ≡ changed_on n r old place
    changed_not u g change = over_longer u old (place + 1) g
        ∙ ap (λ m. replaced_from n.defs r.ground (at n.terms r.left) (at n.terms r.right) m (place + 1)) (made_more n.terms u.terms g.terms old is_over).1
        ∙ replaced_not n.defs r.ground (at n.terms r.left) (at n.terms r.right) (made_at n.terms old) place (fact_at n.terms f) (at_place n.terms old.branch.facts place f got) (before_next n.terms old.branch.facts place f got) change

    -- its normal form leaves 128 bits
    pub changed_wide : replaced_in n.defs r.ground (at n.terms r.left) (at n.terms r.right) old.branch.vars (fact_at n.terms f) ≡ None → changed_on n r old place ≡ None
    changed_wide leaves = replaced_wide n.defs r.ground (at n.terms r.left) (at n.terms r.right) (made_at n.terms old) place (fact_at n.terms f) (at_place n.terms old.branch.facts place f got) leaves

-- the variables stay
pub vars_stay : (n u v : Numbered) (step : Step) (t : Tree) (g : Fact) (place : ℕ) (old more made : NumberedMade) → Grows n u → Grows u v → n.vars ≡ old.branch.vars
    → made_at v.terms more ≡ (appended_one (step ∷ []) t (made_at u.terms old)).1 → made_at v.terms made ≡ changed_at place g (made_at v.terms more) → v.vars ≡ made.branch.vars
vars_stay n u v step t g place old more made a b vars is_more is_made = b.vars ∙ a.vars ∙ vars
    ∙ sym (ap (λ (m : Made). m.branch.vars) is_made ∙ ap (λ (m : Made). m.branch.vars) is_more)
