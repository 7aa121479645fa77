-- Numbers that facts leave undecided, by number: their three ways, and the branches.
use Rattle.std.proofs.Common.{◌≡◌, refl, sym, ap, subst, ◌∙◌, ℕ, ◌+◌, ◌<◌, Bool, true, false, if◌then◌else◌, Option, Some, None, IfSome, option_map, List, [], ◌∷◌, ◌++◌, length, take, drop}
use Rattle.std.specs.List.{list_any}
use Rattle.logic_core.specs.Tree.{Tree}
use Rattle.logic_core.specs.Normal.{normal}
use Rattle.logic_core.proofs.EachOf.{every_append}
use Rattle.term_bank.specs.Numbered.{at}
use Rattle.tableau_branch.specs.Branch.{Branch, At, Attempt, none, each, unless_wide, without}
use Rattle.tableau_branch.specs.Cases.{case}
use Rattle.tableau_branch.specs.Change.{Made}
use Rattle.tableau_branch.specs.Move as move
use Rattle.theory_rules.specs.Trichotomy.{is_not, is_known_way, decided_by}
use Rattle.theory_rules.specs.Ways.{open_of, outer_of}
use Rattle.numbered_terms.specs.At.{IsAt}
use Rattle.numbered_terms.specs.Stored.{Numbered, Grows}
use Rattle.numbered_facts.specs.Answers.{StandsFor}
use Rattle.numbered_branches.specs.Branches.{NumberedBranch, NumberedMade, branch_at, IsBranchOver, IsFactBelow}
use Rattle.numbered_branches.specs.Moves.{decides}
use Rattle.numbered_branches.specs.NumberedChange.{with_facts}
use Rattle.numbered_branches.specs.Standing.{IsBranchAt, IsMadeAt, IsMoveAt}
use Rattle.numbered_branches.proofs.Changing.{made_more, without_one, all_take, all_drop}
use Rattle.numbered_theory.specs.Forms.{forms_at, AreFormsBelow, AreFormsAt, all_three}
use Rattle.numbered_theory.specs.Places.{place_at, ways_at, IsPlaceBelow, AreWaysBelow}
use Rattle.numbered_theory.specs.declared.trichotomy.Forms.{Forms}
use Rattle.numbered_theory.specs.declared.undecided.Place.{Place}
use Rattle.numbered_theory.specs.declared.trichotomy.Ways.{Ways}
use Rattle.numbered_facts.proofs.Growing.{then as later}
use Rattle.numbered_branches.proofs.Growing.{stays, below}

-- a formula that is there, or none, in a longer store
pub stands_later : (n m : Numbered) (o : Option ℕ) (t : Option Tree) → Grows n m → StandsFor n.terms o t → StandsFor m.terms o t
stands_later n m None t g h = h
stands_later n m (Some i) t g h = (below n m i g h.0, h.1 ∙ ap Some (sym (stays n m i g h.0)))

pub stands_below : (ts : List Tree) (o : Option ℕ) (t : Option Tree) → StandsFor ts o t → IfSome o (λ i. i < length ts)
stands_below ts None t h = tt
stands_below ts (Some i) t h = h.0

pub stands_at : (ts : List Tree) (o : Option ℕ) (t : Option Tree) → StandsFor ts o t → option_map (at ts) o ≡ t
stands_at ts None t h = sym h
stands_at ts (Some i) t h = sym h.1

pub some_later : (n m : Numbered) (o : Option ℕ) → Grows n m → IfSome o (λ i. i < length n.terms) → IfSome o (λ i. i < length m.terms)
some_later n m None g h = tt
some_later n m (Some i) g h = below n m i g h

pub some_stays : (n m : Numbered) (o : Option ℕ) → Grows n m → IfSome o (λ i. i < length n.terms) → option_map (at m.terms) o ≡ option_map (at n.terms) o
some_stays n m None g h = refl
some_stays n m (Some i) g h = ap Some (stays n m i g h)

-- the normal form of a term that was made
pub way_stands : (n m v : Numbered) (i : ℕ) (t : Tree) (o : Option ℕ) → Grows n m → IsAt m.terms i t → StandsFor v.terms o (normal m.vars m.defs [] (at m.terms i)) → StandsFor v.terms o (normal n.vars n.defs [] t)
way_stands n m v i t o g is h = subst (StandsFor v.terms o) (λ k. normal (g.vars k) (g.defs k) [] (is.1 k)) h

pub three_stand : (m u v : Numbered) (f : Forms) (x y z : Option Tree) → Grows m u → Grows u v → StandsFor m.terms f.below x → StandsFor u.terms f.zero y → StandsFor v.terms f.above z → AreFormsAt v.terms f (x ∷ y ∷ z ∷ [])
three_stand m u v f x y z g h a b c =
    let first = stands_later m v f.below x (later m u v g h) a in
    let second = stands_later u v f.zero y h b in (
      record { below = stands_below v.terms f.below x first; zero = stands_below v.terms f.zero y second; above = stands_below v.terms f.above z c },
      λ k. stands_at v.terms f.below x first k ∷ stands_at v.terms f.zero y second k ∷ stands_at v.terms f.above z c k ∷ [],
    )

-- all three, where each is there
pub all_ways : (ts : List Tree) (f : Forms) → each (λ o. o) (forms_at ts f) ≡ option_map (ways_at ts) (all_three f)
all_ways ts f = by f.below f.zero f.above
  where
    by : (a b c : Option ℕ) → each (λ o. o) (forms_at ts (record { below = a; zero = b; above = c })) ≡ option_map (ways_at ts) (all_three (record { below = a; zero = b; above = c }))
    by None b c = refl
    by (Some i) None c = refl
    by (Some i) (Some j) None = refl
    by (Some i) (Some j) (Some k) = refl

pub ways_below : (n : ℕ) (f : Forms) (w : Ways) → AreFormsBelow n f → all_three f ≡ Some w → AreWaysBelow n w
ways_below n f w h e = by f.below f.zero f.above h.below h.zero h.above e
  where
    by : (a b c : Option ℕ) → IfSome a (λ i. i < n) → IfSome b (λ i. i < n) → IfSome c (λ i. i < n) → all_three (record { below = a; zero = b; above = c }) ≡ Some w → AreWaysBelow n w
    by None b c p q r g = absurd (cc)
    by (Some i) None c p q r g = absurd (cc)
    by (Some i) (Some j) None p q r g = absurd (cc)
    by (Some i) (Some j) (Some k) p q r g = let is : ◌≡◌ {A = Ways} (record { below = i; zero = j; above = k }) w = cc in subst (AreWaysBelow n) is (record { below = p; zero = q; above = r })

-- the three, unless one of them is there
abbrev open_by : Bool → Attempt (List Tree) → Attempt (List Tree)
open_by true x = none
open_by false x = x

opened : (known : Bool) (x : Attempt (List Tree)) → ◌≡◌ {A = Attempt (List Tree)} (elim known [ true ↦ none | false ↦ x ]) (open_by known x)
opened true x = refl
opened false x = refl

module _ (b : Branch) (os : List (Option Tree)) where
  pub known_way : list_any (is_known_way b) os ≡ true → open_of b os ≡ none
  known_way h = opened (list_any (is_known_way b) os) (unless_wide (each (λ o. o) os)) ∙ ap (λ (x : Bool). open_by x (unless_wide (each (λ o. o) os))) h

  pub open_way : list_any (is_known_way b) os ≡ false → open_of b os ≡ unless_wide (each (λ o. o) os)
  open_way h = opened (list_any (is_known_way b) os) (unless_wide (each (λ o. o) os)) ∙ ap (λ (x : Bool). open_by x (unless_wide (each (λ o. o) os))) h

-- places and ways in a longer store
module _ (n m : Numbered) (g : Grows n m) where
  pub place_stays : (p : Place) → IsPlaceBelow (length n.terms) p → place_at m.terms p ≡ place_at n.terms p
  place_stays p h = λ k. record { at = p.at; fact = record { term = stays n m p.fact.term g h.fact k; number = p.fact.number }; what = stays n m p.what g h.what k }

  pub place_later : (p : Place) → IsPlaceBelow (length n.terms) p → IsPlaceBelow (length m.terms) p
  place_later p h = record { fact = below n m p.fact.term g h.fact; what = below n m p.what g h.what }

  pub ways_later : (w : Ways) → AreWaysBelow (length n.terms) w → AreWaysBelow (length m.terms) w
  ways_later w h = record { below = below n m w.below g h.below; zero = below n m w.zero g h.zero; above = below n m w.above g h.above }

  pub ways_stay : (w : Ways) → AreWaysBelow (length n.terms) w → ways_at m.terms w ≡ ways_at n.terms w
  ways_stay w h = λ k. stays n m w.below g h.below k ∷ stays n m w.zero g h.zero k ∷ stays n m w.above g h.above k ∷ []

-- the three branches
pub decides_so : (v : List Tree) (b : Branch) (a : At Tree) (i : ℕ) (x y z : NumberedMade) (s t u : Tree) (ms : List NumberedMade) → ms ≡ x ∷ y ∷ z ∷ [] → i < length v → at v i ≡ a.what
    → IsMadeAt v x (case (outer_of b a) s) → IsMadeAt v y (case b t) → IsMadeAt v z (case (outer_of b a) u)
    → IsMoveAt v (record { ending = decides i; made = ms }) (decided_by b a (s ∷ t ∷ u ∷ []))
decides_so v b a i x y z s t u ms is l e f g h = subst (λ (ns : List NumberedMade). IsMoveAt v (record { ending = decides i; made = ns }) (decided_by b a (s ∷ t ∷ u ∷ []))) (sym is) (
  record { ending = l; made = (f.0, (g.0, (h.0, tt))) },
  λ k. record { ending = move.decides (e k); made = f.1 k ∷ g.1 k ∷ h.1 k ∷ [] },
)

-- what is made in a longer store
pub made_later : (n m : Numbered) (x : NumberedMade) (y : Made) → Grows n m → IsMadeAt n.terms x y → IsMadeAt m.terms x y
made_later n m x y g h = let more = made_more n.terms m.terms g.terms x h.0 in (more.0, more.1 ∙ h.1)

-- the branch without a fact
without_stands : (ts : List Tree) (b : NumberedBranch) (i : ℕ) → IsBranchOver ts b → IsBranchAt ts (with_facts b (take i b.facts ++ drop (i + 1) b.facts)) (without i (branch_at ts b))
without_stands ts b i h = let P = IsFactBelow (length ts) in (
  record { facts = every_append P (take i b.facts) (drop (i + 1) b.facts) (all_take P i b.facts h.facts) (all_drop P (i + 1) b.facts h.facts); calls = h.calls; marks = h.marks },
  without_one ts b i,
)

outer_without : (b : Branch) (a : At Tree) → is_not (a.fact).term ≡ true → outer_of b a ≡ without a.at b
outer_without b a h = ap (λ (x : Bool). if x then without a.at b else b) h

-- the branch of a Not goes on without it
pub outer_goes : (ts : List Tree) (b : NumberedBranch) (p : Place) (i : ℕ) → i ≡ p.at → IsBranchOver ts b → is_not (at ts (p.fact).term) ≡ true → IsBranchAt ts (with_facts b (take i b.facts ++ drop (i + 1) b.facts)) (outer_of (branch_at ts b) (place_at ts p))
outer_goes ts b p i e h denies =
    subst (IsBranchAt ts (with_facts b (take i b.facts ++ drop (i + 1) b.facts))) (ap (λ (j : ℕ). without j (branch_at ts b)) e ∙ sym (outer_without (branch_at ts b) (place_at ts p) denies)) (without_stands ts b i h)

pub outer_whole : (b : Branch) (a : At Tree) → is_not (a.fact).term ≡ false → outer_of b a ≡ b
outer_whole b a h = ap (λ (x : Bool). if x then without a.at b else b) h
