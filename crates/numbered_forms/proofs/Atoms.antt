-- Atoms by number: parts put in, taken out and changed, and numbers that stay below.
use Rattle.std.proofs.Common.{◌≡◌, refl, sym, ap, subst, ◌∙◌, ℕ, ℤ, Vec, zero, suc, pos, ◌+◌, ◌<◌, Bool, true, false, if◌then◌else◌, List, [], ◌∷◌, ◌++◌, length, take, drop, get_or, set, Option, Some, None, option_map, Result, Ok, Err, IfOk, inl, inr, add-one, arith}
use Rattle.std.specs.Ordering.{int_eq}
use Rattle.std.specs.declared.alloc.Global.{Global}
use Rattle.std.proofs.lemmas.Bool.{cases_Bool}
use Rattle.std.proofs.lemmas.Bool.Decides.{Decides-int_eq}
use Rattle.std.proofs.lemmas.List.{map-append, at_drop_more, take-map, drop-map, get_or-map, take-append-drop, set_split}
use Rattle.logic_core.specs.Tree.{Tree}
use Rattle.logic_core.specs.View.{parts_of}
use Rattle.logic_core.specs.Before.{before, part_before}
use Rattle.logic_core.specs.Gives.{GivesAs}
use Rattle.logic_core.specs.declared.fault.NormalFault.{NormalFault}
use Rattle.logic_core.specs.Wide.{◌>>=◌}
use Rattle.logic_core.specs.Sum.{Linear, with_part, add_part, add_parts}
use Rattle.logic_core.proofs.PartsAdded.{add_parts_first}
use Rattle.logic_core.proofs.Sums.{parts_of-append}
use Rattle.term_bank.specs.Numbered.{at}
use Rattle.numbered_terms.specs.Lists.{atoms_at, AtomsBelow}
use Rattle.numbered_forms.specs.Sums.{with_atom}

front_below : (n : ℕ) (ps : List (ℤ × ℕ)) (i : ℕ) → AtomsBelow n ps → AtomsBelow n (take i ps)
front_below n ps zero h = tt
front_below n [] (suc i) h = tt
front_below n (p ∷ ps) (suc i) h = (h.0, front_below n ps i h.1)

rest_below : (n : ℕ) (ps : List (ℤ × ℕ)) (i : ℕ) → AtomsBelow n ps → AtomsBelow n (drop i ps)
rest_below n ps zero h = h
rest_below n [] (suc i) h = tt
rest_below n (p ∷ ps) (suc i) h = rest_below n ps i h.1

both_below : (n : ℕ) (ps qs : List (ℤ × ℕ)) → AtomsBelow n ps → AtomsBelow n qs → AtomsBelow n (ps ++ qs)
both_below n [] qs h g = g
both_below n (p ∷ ps) qs h g = (h.0, both_below n ps qs h.1 g)

pub placed_below : (n : ℕ) (ps : List (ℤ × ℕ)) (i m : ℕ) (k : ℤ) (j : ℕ) → AtomsBelow n ps → j < n → AtomsBelow n (take i ps ++ with_atom k j (drop m ps))
placed_below n ps i m k j h l = both_below n (take i ps) (with_atom k j (drop m ps)) (front_below n ps i h) (by (int_eq k (pos 0)) (rest_below n ps m h))
  where
    by : (b : Bool) → AtomsBelow n (drop m ps) → AtomsBelow n (if b then drop m ps else (k, j) ∷ drop m ps)
    by true g = g
    by false g = (l, g)

pub joined_below : (n : ℕ) (r : Result (Vec (ℤ × ℕ) Global) NormalFault) (ps : List (ℤ × ℕ)) (i j : ℕ) (o : Option ℤ) → AtomsBelow n ps → j < n → GivesAs (λ v. v.items) r (option_map (λ k. take i ps ++ with_atom k j (drop (i + 1) ps)) o)
    → IfOk r (λ v. AtomsBelow n v.items)
joined_below n (Ok v) ps i j None b l h = absurd (cc)
joined_below n (Ok v) ps i j (Some k) b l h = let e : take i ps ++ with_atom k j (drop (i + 1) ps) ≡ v.items = cc in subst (AtomsBelow n) e (placed_below n ps i (i + 1) k j b l)
joined_below n (Err e) ps i j o b l h = tt

module _ (ts : List Tree) where
  abbrev pub atom_at : ℤ × ℕ → ℤ × Tree
  atom_at p = (p.0, at ts p.1)

  with_atom_at : (k : ℤ) (j : ℕ) (qs : List (ℤ × ℕ)) → parts_of (atoms_at ts (with_atom k j qs)) ≡ with_part k (at ts j) (parts_of (atoms_at ts qs))
  with_atom_at k j qs = by (int_eq k (pos 0))
    where
      by : (b : Bool) → parts_of (atoms_at ts (if b then qs else (k, j) ∷ qs)) ≡ (if b then parts_of (atoms_at ts qs) else parts_of ((k, at ts j) ∷ atoms_at ts qs))
      by true = refl
      by false = refl

  -- a part put in front of those from a place on
  pub placed : (ps : List (ℤ × ℕ)) (i m : ℕ) (k : ℤ) (j : ℕ) → parts_of (atoms_at ts (take i ps ++ with_atom k j (drop m ps))) ≡ before part_before (take i (atoms_at ts ps)) (with_part k (at ts j) (parts_of (drop m (atoms_at ts ps))))
  placed ps i m k j = ap parts_of (map-append atom_at (take i ps) (with_atom k j (drop m ps)))
      ∙ parts_of-append (atoms_at ts (take i ps)) (atoms_at ts (with_atom k j (drop m ps)))
      ∙ (λ x. before part_before (sym (take-map atom_at i ps) x) (with_atom_at k j (drop m ps) x))
      ∙ ap (λ xs. before part_before (take i (atoms_at ts ps)) (with_part k (at ts j) (parts_of xs))) (sym (drop-map atom_at m ps))

  -- what a part in place of one gives, where its coefficient fits
  pub joined_gives : (r : Result (Vec (ℤ × ℕ) Global) NormalFault) (ps : List (ℤ × ℕ)) (i j : ℕ) (o : Option ℤ) → GivesAs (λ v. v.items) r (option_map (λ n. take i ps ++ with_atom n j (drop (i + 1) ps)) o)
      → GivesAs (λ v. parts_of (atoms_at ts v.items)) r (option_map (λ n. before part_before (take i (atoms_at ts ps)) (with_part n (at ts j) (parts_of (drop (i + 1) (atoms_at ts ps))))) o)
  joined_gives (Ok v) ps i j None h = absurd (cc)
  joined_gives (Ok v) ps i j (Some n) h = let e : take i ps ++ with_atom n j (drop (i + 1) ps) ≡ v.items = cc in ap Some (sym (placed ps i (i + 1) n j) ∙ ap (λ qs. parts_of (atoms_at ts qs)) e)
  joined_gives (Err e) ps i j None h = λ w. refl
  joined_gives (Err e) ps i j (Some n) h = λ w. let no : Some (take i ps ++ with_atom n j (drop (i + 1) ps)) ≡ None = h w in absurd (cc)

  -- the part at a place
  pub atom_is : (ps : List (ℤ × ℕ)) (i : ℕ) (p : ℤ × ℕ) → i < length ps → p ≡ get_or ps i p → atom_at p ≡ get_or (atoms_at ts ps) i (atom_at p)
  atom_is ps i p l e = ap atom_at e ∙ sym (get_or-map atom_at ps i p (atom_at p) l)

  -- the coefficient of the first part
  pub first_atom : (ps : List (ℤ × ℕ)) (d : ℤ × ℕ) (x : ℤ × Tree) → atoms_at ts ps ≡ x ∷ [] → (get_or ps 0 d).0 ≡ x.0
  first_atom [] d x e = let l : 0 ≡ 1 = ap length e in absurd (omega (arith, l))
  first_atom (p ∷ ps) d x e = ap (λ xs. (get_or xs 0 x).0) e

  -- the parts from a place on join a sum, the part there first
  parts_next : (k : ℤ) (ps : List (ℤ × ℕ)) (i : ℕ) (p : ℤ × ℕ) (s : Linear) → i < length ps → p ≡ get_or ps i p
      → add_parts k (parts_of (atoms_at ts (drop i ps))) s ≡ (add_part k p.0 (at ts p.1) s >>= λ r. add_parts k (parts_of (atoms_at ts (drop (i + 1) ps))) r)
  parts_next k ps i p s l e = at_drop_more (λ qs. add_parts k (parts_of (atoms_at ts qs)) s) ps i p l
      ∙ ap (λ q. add_parts k (parts_of (atoms_at ts (q ∷ drop (i + 1) ps))) s) (sym e)
      ∙ add_parts_first k p.0 (at ts p.1) (parts_of (atoms_at ts (drop (i + 1) ps))) s

  pub parts_joined : (k : ℤ) (ps : List (ℤ × ℕ)) (i : ℕ) (p : ℤ × ℕ) (s r : Linear) (whole : Option Linear) → i < length ps → p ≡ get_or ps i p → add_part k p.0 (at ts p.1) s ≡ Some r
      → add_parts k (parts_of (atoms_at ts (drop i ps))) s ≡ whole → add_parts k (parts_of (atoms_at ts (drop (i + 1) ps))) r ≡ whole
  parts_joined k ps i p s r whole l e one h = sym (parts_next k ps i p s l e ∙ ap (λ o. o >>= λ q. add_parts k (parts_of (atoms_at ts (drop (i + 1) ps))) q) one) ∙ h

  pub parts_refused : (k : ℤ) (ps : List (ℤ × ℕ)) (i : ℕ) (p : ℤ × ℕ) (s : Linear) (whole : Option Linear) → i < length ps → p ≡ get_or ps i p → add_part k p.0 (at ts p.1) s ≡ None
      → add_parts k (parts_of (atoms_at ts (drop i ps))) s ≡ whole → whole ≡ None
  parts_refused k ps i p s whole l e none h = sym h ∙ parts_next k ps i p s l e ∙ ap (λ o. o >>= λ q. add_parts k (parts_of (atoms_at ts (drop (i + 1) ps))) q) none

not_zero : (k : ℤ) → (k ≡ pos 0 → ⊥) → int_eq k (pos 0) ≡ false
not_zero k other = elim (cases_Bool (int_eq k (pos 0))) [ inl e ↦ absurd (other ((Decides-int_eq k (pos 0)).0 e)) | inr e ↦ e ]

-- a part whose coefficient is zero isn't put in
pub not_put : (ps : List (ℤ × ℕ)) (i : ℕ) (k : ℤ) (j : ℕ) → k ≡ pos 0 → ps ≡ take i ps ++ with_atom k j (drop i ps)
not_put ps i k j z = rw z (sym (take-append-drop i ps))

-- any other is
pub put : (ps : List (ℤ × ℕ)) (i m : ℕ) (k l : ℤ) (j : ℕ) → (k ≡ pos 0 → ⊥) → l ≡ k → take i ps ++ (l, j) ∷ drop m ps ≡ take i ps ++ with_atom k j (drop m ps)
put ps i m k l j other is = rw (not_zero k other, is) refl

-- a part whose coefficient becomes zero is taken out
pub taken_out : (ps : List (ℤ × ℕ)) (i : ℕ) (k : ℤ) (j : ℕ) → k ≡ pos 0 → take i ps ++ drop (suc i) ps ≡ take i ps ++ with_atom k j (drop (i + 1) ps)
taken_out ps i k j z = rw (z, add-one) refl

-- any other is changed
pub changed : (ps : List (ℤ × ℕ)) (i : ℕ) (k l : ℤ) (j : ℕ) → i < length ps → (k ≡ pos 0 → ⊥) → l ≡ k → set ps i (l, j) ≡ take i ps ++ with_atom k j (drop (i + 1) ps)
changed ps i k l j within other is = rw (not_zero k other, is, add-one) (set_split ps i (k, j) within)
