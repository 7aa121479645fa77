-- How many seats were made of each.
use Rattle.std.proofs.Common.{◌≡◌, ℕ, zero, suc, ◌+◌, ◌<◌, ◌≤◌, ◌≢◌, List, [], ◌∷◌, ◌++◌, length, set, refl, sym, ap, ◌∙◌, subst, inl, inr, ⊎_elim, length-set, length-append, Option, Some, None, arith, eq-eqb, ne_eqb}
use Rattle.std.specs.Prelude.{if◌then◌else◌}
use mathlib.Core.Option.{some, some-injective, some-ne-none}
use lib.ListN.{get_elem?}
use Rattle.atomic_table.specs.Table.{Me, Allows}
use Rattle.atomic_table.proofs.Lists.{at_set}
use Rattle.turn_lock.specs.declared.rule.View.{View}
use Rattle.turn_lock.specs.declared.rule.Stage.TheVariants.{Spent}
use Rattle.turn_lock.specs.declared.rule.Stage.{Stage}
use Rattle.turn_lock.specs.Turns.{total, child, children, IsMade, AreCounted, InOrder, Kept}
use Rattle.turn_lock.specs.Told.{parted, spent}
use Rattle.turn_lock.proofs.Histories.{at_end, below_length}

-- none is made of a later seat
no_child : {S : Type 0} (by j : ℕ) (stage : Stage S) (of : Option ℕ) → IsMade j stage of → j < by → child by of ≡ 0
no_child by j stage None m less = refl
no_child by j stage (Some p) m less = ap (λ b. if b then 1 else 0) (ne_eqb p by (λ e. let l : p < j = m in absurd (omega arith)))

still_made : {S : Type 0} (by : ℕ) (was now : Stage S) (of : Option ℕ) → (was ≡ Spent → now ≡ Spent) → IsMade by was of → IsMade by now of
still_made by was now None over (inl first) = inl first
still_made by was now None over (inr h) = inr (over h)
still_made by was now (Some p) over m = m

module _ {S E : Type 0} where
  total_set : (views : List (View S E)) (i : ℕ) (v w : View S E) → get_elem? views i ≡ some v → total (set views i w) + v.splits ≡ total views + w.splits
  total_set [] i v w e = absurd (some-ne-none v (sym e))
  total_set (x ∷ xs) zero v w e = let same : x.splits ≡ v.splits = ap (λ (z : View S E). z.splits) (some-injective x v e) in omega arith
  total_set (x ∷ xs) (suc i) v w e = let r = total_set xs i v w e in omega arith

  total_after : (views : List (View S E)) (w : View S E) → total (views ++ w ∷ []) ≡ total views + w.splits
  total_after [] w = omega arith
  total_after (x ∷ xs) w = let r = total_after xs w in omega arith

  children_set : (by : ℕ) (views : List (View S E)) (i : ℕ) (v w : View S E) → get_elem? views i ≡ some v → children by (set views i w) + child by v.made_of ≡ children by views + child by w.made_of
  children_set by [] i v w e = absurd (some-ne-none v (sym e))
  children_set by (x ∷ xs) zero v w e = let same : child by x.made_of ≡ child by v.made_of = ap (λ (z : View S E). child by z.made_of) (some-injective x v e) in omega arith
  children_set by (x ∷ xs) (suc i) v w e = let r = children_set by xs i v w e in omega arith

  children_after : (by : ℕ) (views : List (View S E)) (w : View S E) → children by (views ++ w ∷ []) ≡ children by views + child by w.made_of
  children_after by [] w = omega arith
  children_after by (x ∷ xs) w = let r = children_after by xs w in omega arith

  childless : (by : ℕ) (views : List (View S E)) → ((j : ℕ) (u : View S E) → get_elem? views j ≡ some u → child by u.made_of ≡ 0) → children by views ≡ 0
  childless by [] none = refl
  childless by (x ∷ xs) none = let a = none 0 x refl in let b = childless by xs (λ j u e. none (suc j) u e) in omega arith

  -- a view changes, and no more seats say that they were made of any
  renewed : (views : List (View S E)) (me : ℕ) (v w : View S E) → AreCounted views → get_elem? views me ≡ some v → length views ≡ total (set views me w) + 1
      → (w.stage ≢ Spent → (v.stage ≢ Spent) × (v.splits ≤ w.splits)) → ((by : ℕ) → child by w.made_of ≤ child by v.made_of) → IsMade me w.stage w.made_of → AreCounted (set views me w)
  renewed views me v w c at sum more fewer made = record {
    all = length-set views me w ∙ sum;
    own = λ j u e live. let t = children_set j views me v w at in let f = fewer j in ⊎_elim
        (λ (h : (j ≡ me) × (w ≡ u)). let m = more (λ over. live (sym (ap (λ (z : View S E). z.stage) h.1) ∙ over)) in
        let l = m.1 in let same : w.splits ≡ u.splits = ap (λ (z : View S E). z.splits) h.1 in
        let o = c.own j v (ap (get_elem? views) h.0 ∙ at) m.0 in omega arith)
        (λ (h : (j ≢ me) × (get_elem? views j ≡ some u)). let o = c.own j u h.1 live in omega arith)
        (at_set views me j w u e);
    made = λ j u e. ⊎_elim
        (λ (h : (j ≡ me) × (w ≡ u)). subst (λ (x : ℕ × View S E). IsMade x.0 x.1.stage x.1.made_of) (λ i. (sym h.0 i, h.1 i)) made)
        (λ (h : (j ≢ me) × (get_elem? views j ≡ some u)). c.made j u h.1)
        (at_set views me j w u e);
  }

  changes : (views : List (View S E)) (me : ℕ) (v w : View S E) → AreCounted views → get_elem? views me ≡ some v → w.splits ≡ v.splits → w.made_of ≡ v.made_of
      → (v.stage ≡ Spent → w.stage ≡ Spent) → AreCounted (set views me w)
  changes views me v w c at same of over = renewed views me v w c at
      (let t = total_set views me v w at in let l = c.all in omega arith)
      (λ live. ((λ h. live (over h)), (let e = same in omega arith)))
      (λ j. let e = ap (child j) of in omega arith)
      (subst (IsMade me w.stage) (sym of) (still_made me v.stage w.stage v.made_of over (c.made me v at)))

  -- a seat is made of the pass, which counts it
  pub parts : (views : List (View S E)) (id : ℕ) (v w : View S E) → AreCounted views → get_elem? views id ≡ some v → v.stage ≢ Spent → w.splits ≡ 0 → w.made_of ≡ Some id
      → AreCounted (set views id (parted v) ++ w ∷ [])
  parts views id v w c at live new of = let few : List (View S E) = set views id (parted v) in
      let n : length few ≡ length views = length-set views id (parted v) in let inside = below_length views id v at in
      let kids : (j : ℕ) → children j (few ++ w ∷ []) ≡ children j views + child j (Some id) =
      λ j. let t = children_set j views id v (parted v) at in let a = children_after j few w in let e = ap (child j) of in omega arith in record {
        all = let t = total_set views id v (parted v) at in let a = total_after few w in let m = length-append few (w ∷ []) in let l = c.all in omega arith;
        own = λ j u e alive. let k = kids j in ⊎_elim
            (λ (t : get_elem? few j ≡ some u). ⊎_elim
            (λ (p : (j ≡ id) × (parted v ≡ u)). let one : v.splits + 1 ≡ u.splits = ap (λ (z : View S E). z.splits) p.1 in
            let o = c.own j v (ap (get_elem? views) p.0 ∙ at) live in let b : child j (Some id) ≡ 1 = ap (λ b. if b then 1 else 0) (eq-eqb id j (sym p.0)) in omega arith)
            (λ (p : (j ≢ id) × (get_elem? views j ≡ some u)). let o = c.own j u p.1 alive in
            let b : child j (Some id) ≡ 0 = ap (λ b. if b then 1 else 0) (ne_eqb id j (λ h. p.0 (sym h))) in omega arith)
            (at_set views id j (parted v) u t))
            (λ (t : (j ≡ length few) × (w ≡ u)). let z = t.0 in
            let none : children j views ≡ 0 = childless j views (λ i x h. no_child j i x.stage x.made_of (c.made i x h) (let b = below_length views i x h in omega arith)) in
            let b : child j (Some id) ≡ 0 = ap (λ b. if b then 1 else 0) (ne_eqb id j (λ h. absurd (omega arith))) in omega arith)
            (at_end few w u j e);
        made = λ j u e. ⊎_elim
            (λ (t : get_elem? few j ≡ some u). ⊎_elim
            (λ (p : (j ≡ id) × (parted v ≡ u)). subst (λ (x : ℕ × View S E). IsMade x.0 x.1.stage x.1.made_of) (λ i. (sym p.0 i, p.1 i)) (c.made id v at))
            (λ (p : (j ≢ id) × (get_elem? views j ≡ some u)). c.made j u p.1)
            (at_set views id j (parted v) u t))
            (λ (t : (j ≡ length few) × (w ≡ u)). let z = t.0 in
            subst (IsMade j u.stage) (sym (ap (λ (y : View S E). y.made_of) (sym t.1) ∙ of)) (let r : id < j = omega arith in r))
            (at_end few w u j e);
      }

  -- a pass takes in another, and counts what the other did
  pub takes_in : (views : List (View S E)) (id : ℕ) (v : View S E) (other : ℕ) (w x : View S E) → AreCounted views → get_elem? views id ≡ some v → get_elem? (set views id x) other ≡ some w
      → v.stage ≢ Spent → x.splits ≡ v.splits + w.splits → x.stage ≡ v.stage → x.made_of ≡ v.made_of → AreCounted (set (set views id x) other spent)
  takes_in views id v other w x c at there live sum same of = let few : List (View S E) = set views id x in
      let n : length few ≡ length views = length-set views id x in record {
        all = let m = length-set few other spent in let t = total_set views id v x at in let b = total_set few other w spent there in let l = c.all in omega arith;
        own = λ j u e alive. let t = children_set j views id v x at in let b = children_set j few other w spent there in let f = ap (child j) of in ⊎_elim
            (λ (h : (j ≡ other) × (spent ≡ u)). absurd (alive (sym (ap (λ (z : View S E). z.stage) h.1))))
            (λ (h : (j ≢ other) × (get_elem? few j ≡ some u)). ⊎_elim
            (λ (p : (j ≡ id) × (x ≡ u)). let o = c.own j v (ap (get_elem? views) p.0 ∙ at) live in let s : x.splits ≡ u.splits = ap (λ (z : View S E). z.splits) p.1 in omega arith)
            (λ (p : (j ≢ id) × (get_elem? views j ≡ some u)). let o = c.own j u p.1 alive in omega arith)
            (at_set views id j x u h.1))
            (at_set few other j spent u e);
        made = λ j u e. ⊎_elim
            (λ (h : (j ≡ other) × (spent ≡ u)). subst (λ (z : View S E). IsMade j z.stage z.made_of) h.1 (inr refl))
            (λ (h : (j ≢ other) × (get_elem? few j ≡ some u)). ⊎_elim
            (λ (p : (j ≡ id) × (x ≡ u)). subst (λ (z : ℕ × View S E). IsMade z.0 z.1.stage z.1.made_of) (λ i. (sym p.0 i, p.1 i))
            (subst (IsMade id x.stage) (sym of) (still_made id v.stage x.stage v.made_of (λ over. same ∙ over) (c.made id v at))))
            (λ (p : (j ≢ id) × (get_elem? views j ≡ some u)). c.made j u p.1)
            (at_set views id j x u h.1))
            (at_set few other j spent u e);
      }

module _ {S E : Type 0} (replays : S → List (ℕ × E) → Type 0) where
  abbrev M : Type 0
  M = Me (Option S) (View S E)

  -- a step makes no seat
  abbrev pub MakesNone : M → (ℕ → M → Type 0) → ℕ → M → Type 0
  MakesNone m tells r m' = ((m'.0.splits ≡ m.0.splits) × (m'.0.made_of ≡ m.0.made_of) × (m.0.stage ≡ Spent → m'.0.stage ≡ Spent)) × tells r m'

  pub counted : (slots id : ℕ) (m : M) (i : ℕ) (f : ℕ → ℕ) (tells : ℕ → M → Type 0) → Allows (InOrder replays) slots id m i f (MakesNone m tells) → Allows (Kept replays) slots id m i f tells
  counted slots id m i f tells allows s r wide at small = let h = allows s r.0 wide at small in
      (h.0, h.1, h.2, (h.3, changes s.views id m.0 h.0 r.1 at h.4.0.0 h.4.0.1 h.4.0.2), h.4.1)
