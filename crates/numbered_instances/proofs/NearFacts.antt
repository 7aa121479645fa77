-- Facts with an atom, between two places: where all that are counted are there, it occurs in no other.
use Rattle.std.proofs.Common.{◌≡◌, refl, sym, ap, subst, ◌∙◌, ℕ, suc, zero, ◌+◌, ◌<◌, ◌≤◌, Bool, true, false, true≢false, ◌&&◌, cond, List, [], ◌∷◌, map, length, take, drop, get_or, arith}
use Rattle.std.specs.List.{AllByRecursion}
use Rattle.std.proofs.lemmas.List.{take-map, drop-map, drop_all, length-map}
use Rattle.logic_core.specs.Tree.{Tree}
use Rattle.logic_core.specs.Subterm.{occurs}
use Rattle.term_bank.specs.Numbered.{at}
use Rattle.tableau_branch.specs.Branch.{Fact}
use Rattle.tableau_branch.proofs.Lists.{drop_item}
use Rattle.numbered_facts.specs.Atoms.{is_atom}
use Rattle.numbered_branches.specs.Branches.{NumberedFact, fact_at}
use Rattle.numbered_instances.specs.Near.{having, AreWithout}
use Rattle.numbered_instances.specs.Shared.{has_atom}

module _ (ts : List Tree) (j : ℕ) where
  pub having_split : (k : ℕ) (fs : List NumberedFact) → having ts j (take k fs) + having ts j (drop k fs) ≡ having ts j fs
  having_split zero fs = omega arith
  having_split (suc k) [] = omega arith
  having_split (suc k) (f ∷ fs) = omega (arith, having_split k fs)

  pub having_next : (fs : List NumberedFact) (i : ℕ) (f : NumberedFact) → i < length fs → f ≡ get_or fs i f → having ts j (drop i fs) ≡ cond (has_atom ts j f.term) 1 0 + having ts j (drop (i + 1) fs)
  having_next fs i f l e = ap (having ts j) (drop_item fs i f l e)

  none_having : is_atom (at ts j) ≡ true → (fs : List NumberedFact) → having ts j fs ≡ 0 → AreWithout (at ts j) (map (fact_at ts) fs)
  none_having e [] h = tt
  none_having e (f ∷ fs) h = let r = by (is_atom (at ts j)) (occurs (at ts j) (at ts f.term)) (having ts j fs) e h in (r.0, none_having e fs r.1)
    where
      by : (p q : Bool) (n : ℕ) → p ≡ true → cond (p && q) 1 0 + n ≡ 0 → (q ≡ false) × (n ≡ 0)
      by true true n g k = absurd (omega (arith, k))
      by true false n g k = (refl, omega (arith, k))
      by false q n g k = absurd (true≢false (sym g))

  -- all that are counted stand between two places
  module _ (atom : is_atom (at ts j) ≡ true) (fs : List NumberedFact) (from until count : ℕ) (all : count ≡ having ts j fs) (there : having ts j (take from fs) + (count + having ts j (drop until fs)) ≤ having ts j fs) where
    pub none_before : AreWithout (at ts j) (take from (map (fact_at ts) fs))
    none_before = subst (AreWithout (at ts j)) (sym (take-map (fact_at ts) from fs)) (none_having atom (take from fs) (omega (arith, all, there)))

    pub none_from : AreWithout (at ts j) (drop until (map (fact_at ts) fs))
    none_from = subst (AreWithout (at ts j)) (sym (drop-map (fact_at ts) until fs)) (none_having atom (drop until fs) (omega (arith, all, there)))

pub none_behind : (ts : List Tree) (l : Tree) (fs : List NumberedFact) (k : ℕ) → length fs ≤ k → AreWithout l (drop k (map (fact_at ts) fs))
none_behind ts l fs k le = subst (AreWithout l) (sym (drop_all k (map (fact_at ts) fs) (omega (arith, le, length-map fs (fact_at ts))))) tt

-- one more is found
pub found_more : (found more one rest next before total : ℕ) → more ≤ found + one → rest ≡ one + next → before + (found + rest) ≤ total → before + (more + next) ≤ total
found_more found more one rest next before total m r h = omega (arith, m, r, h)

-- another fact isn't the one, or the term doesn't occur in it
pub not_both : (x y : Bool) → y ≡ false → (x && y) ≡ false
not_both true y h = h
not_both false y h = refl
