-- In a program in which no function leads to itself no name stands twice in the order of functions.
use Rattle.std.proofs.Common.{◌≡◌, refl, ap, sym, ◌∙◌, inl, inr, ◌⊎◌, subst, ℕ, zero, suc, ◌+◌, ◌-◌, ◌≤◌, arith, Bool, true, false, List, [], ◌∷◌, ◌++◌, length, Option, Some, None}
use Rattle.std.specs.Prelude.{bytes_eq, fold, cond, option_map, slice_get}
use Rattle.logic_core.proofs.Booleans.{neither}
use Rattle.logic_laws.proofs.DefinedSorts.{last_or_before}
use Rattle.bv_base.specs.Text.{is_among}
use Rattle.bpl_scopes.specs.Positions.{first_at}
use Rattle.bpl_scopes.specs.Scopes.{Text, Table, entity_of}
use Rattle.bpl_scopes.specs.Functions.{leads, leads_to_itself, numbered, function_names, in_number_order}
use Rattle.bpl_resolve.proofs.Ways.{Member, member_any, any_member, same_text, text_itself, leads_step, leads_one, leads_up}
use Rattle.bpl_resolve.proofs.TypesKnown.{SynonymsFine}
use Rattle.bpl_resolve.proofs.FunctionOrder.{IsFunction, NextOf, either_side, next_functions, names_are}

-- each name stands first where it stands
abbrev pub Distinct : List Text → Type 0
Distinct os = (k : ℕ) (n : Text) → slice_get os k ≡ Some n → first_at n os ≡ Some k

at_behind : (n : Text) (os : List Text) → is_among os n ≡ false → first_at n (os ++ n ∷ []) ≡ Some (length os)
at_behind n [] e = ap (λ r. cond r (Some 0) (option_map suc (first_at n []))) (text_itself n)
at_behind n (m ∷ os) e = ap (λ r. cond r (Some 0) (option_map suc (first_at n (os ++ n ∷ [])))) (neither (bytes_eq n m) (is_among os n) e).0
    ∙ ap (option_map suc) (at_behind n os (neither (bytes_eq n m) (is_among os n) e).1)

first_stays : (m : Text) (os ns : List Text) (k : ℕ) → first_at m os ≡ Some k → first_at m (os ++ ns) ≡ Some k
first_stays m [] ns k e = cc
first_stays m (o ∷ os) ns k e = by (bytes_eq m o) (first_at m os) (λ j q. first_stays m os ns j q) e
  where
    by : (r : Bool) (f : Option ℕ) → ((j : ℕ) → f ≡ Some j → first_at m (os ++ ns) ≡ Some j) → cond r (Some 0) (option_map suc f) ≡ Some k → cond r (Some 0) (option_map suc (first_at m (os ++ ns))) ≡ Some k
    by true f h z = z
    by false None h z = cc
    by false (Some j) h z = ap (option_map suc) (h j refl) ∙ z

one_more : (os : List Text) (n : Text) → Distinct os → is_among os n ≡ false → Distinct (os ++ n ∷ [])
one_more os n d e k m q = by (last_or_before os n m k q)
  where
    by : ((k ≡ length os) × (n ≡ m)) ⊎ (slice_get os k ≡ Some m) → first_at m (os ++ n ∷ []) ≡ Some k
    by (inl p) = subst (λ w. first_at w (os ++ n ∷ []) ≡ Some k) p.1 (at_behind n os e ∙ ap Some (sym p.0))
    by (inr g) = first_stays m os (n ∷ []) k (d k m g)

fold_distinct : (P : Text → Type 0) (f : List Text → Text → List Text) → ((done : List Text) (n : Text) → P n → Distinct done → Distinct (f done n))
    → (done ns : List Text) → ((m : Text) → Member m ns → P m) → Distinct done → Distinct (fold f done ns)
fold_distinct P f h done [] a d = d
fold_distinct P f h done (n ∷ ns) a d = fold_distinct P f h (f done n) ns (λ m i. a m (inr i)) (h done n (a n (inl refl)) d)

module _ (t : Table) where
  abbrev Reached : ℕ → Text → Text → Type 0
  Reached k m c = (m ≡ c) ⊎ (leads t k c m ≡ true)

  -- a name that is new comes from a name that is walked
  fold_new : (k : ℕ) (m : Text) → ((done : List Text) (n : Text) → Member m (numbered t k done n) → Member m done ⊎ Reached k m n)
      → (done ns : List Text) → Member m (fold (numbered t k) done ns) → Member m done ⊎ ((c : Text) × Member c ns × Reached k m c)
  fold_new k m h done [] i = inl i
  fold_new k m h done (n ∷ ns) i = by (fold_new k m h (numbered t k done n) ns i)
    where
      now : Member m done ⊎ Reached k m n → Member m done ⊎ ((c : Text) × Member c (n ∷ ns) × Reached k m c)
      now (inl w) = inl w
      now (inr z) = inr (n, inl refl, z)

      by : Member m (numbered t k done n) ⊎ ((c : Text) × Member c ns × Reached k m c) → Member m done ⊎ ((c : Text) × Member c (n ∷ ns) × Reached k m c)
      by (inl j) = now (h done n j)
      by (inr r) = inr (r.0, inr r.1, r.2)

  next_reached : (k : ℕ) (n m c : Text) → Member c (NextOf t n) → Reached k m c → leads t (suc k) n m ≡ true
  next_reached k n m c i (inl e) = leads_one t k n m (subst (λ w. Member w (NextOf t n)) (sym e) i)
  next_reached k n m c i (inr g) = leads_step t k n c m i g

  new_reached : (k : ℕ) (done : List Text) (n m : Text) → Member m (numbered t k done n) → Member m done ⊎ Reached k m n
  new_reached zero done n m i = inl i
  new_reached (suc k) done n m i = by (is_among done n) (fold_new k m (λ d c j. new_reached k d c m j) done (NextOf t n)) i
    where
      from : Member m done ⊎ ((c : Text) × Member c (NextOf t n) × Reached k m c) → Member m done ⊎ Reached (suc k) m n
      from (inl w) = inl w
      from (inr r) = inr (inr (next_reached k n m r.0 r.1 r.2))

      sides : (Member m (fold (numbered t k) done (NextOf t n)) → Member m done ⊎ ((c : Text) × Member c (NextOf t n) × Reached k m c))
          → Member m (fold (numbered t k) done (NextOf t n)) ⊎ Member m (n ∷ []) → Member m done ⊎ Reached (suc k) m n
      sides h (inl a) = from (h a)
      sides h (inr (inl e)) = inr (inl e)
      sides h (inr (inr z)) = absurd z

      by : (r : Bool) → (Member m (fold (numbered t k) done (NextOf t n)) → Member m done ⊎ ((c : Text) × Member c (NextOf t n) × Reached k m c))
          → Member m (elim r [ true ↦ done | false ↦ fold (numbered t k) done (NextOf t n) ++ n ∷ [] ]) → Member m done ⊎ Reached (suc k) m n
      by true h j = inl j
      by false h j = sides h (either_side m (fold (numbered t k) done (NextOf t n)) (n ∷ []) j)

  module _ (fine : SynonymsFine t) (acyclic : (n : Text) → IsFunction t n → leads_to_itself t n ≡ false) where
    not_back : (k : ℕ) (n : Text) → suc k ≤ length t → IsFunction t n → leads t (suc k) n n ≡ true → ⊥
    unfolding leads_to_itself
    not_back k n l f h =
        let e : suc k + (length t - suc k) ≡ length t = omega (arith, l) in
        let g : leads t (length t) n n ≡ true = subst (λ w. leads t w n n ≡ true) e (leads_up t (suc k) (length t - suc k) n n h) in
        let bad : true ≡ false = sym g ∙ acyclic n f in cc

    not_again : (k : ℕ) (done : List Text) (n : Text) → suc k ≤ length t → IsFunction t n → is_among done n ≡ false → (r : Bool) → is_among (fold (numbered t k) done (NextOf t n)) n ≡ r → r ≡ false
    not_again k done n l f e false q = refl
    not_again k done n l f e true q =
        let m = any_member (bytes_eq n) (fold (numbered t k) done (NextOf t n)) q in
        by (fold_new k n (λ d c j. new_reached k d c n j) done (NextOf t n) (subst (λ w. Member w (fold (numbered t k) done (NextOf t n))) (sym (same_text n m.0 m.2)) m.1))
      where
        by : Member n done ⊎ ((c : Text) × Member c (NextOf t n) × Reached k n c) → true ≡ false
        by (inl i) = sym (member_any (bytes_eq n) n done i (text_itself n)) ∙ e
        by (inr r) = absurd (not_back k n l f (next_reached k n n r.0 r.1 r.2))

    numbered_distinct : (k : ℕ) (done : List Text) (n : Text) → k ≤ length t → IsFunction t n → Distinct done → Distinct (numbered t k done n)
    numbered_distinct zero done n l f d = d
    numbered_distinct (suc k) done n l f d = by (is_among done n) refl
        (fold_distinct (IsFunction t) (numbered t k) (λ e m g h. numbered_distinct k e m (omega (arith, l)) g h) done (NextOf t n) (next_functions t (entity_of t n) f) d)
      where
        by : (r : Bool) → is_among done n ≡ r → Distinct (fold (numbered t k) done (NextOf t n)) → Distinct (elim r [ true ↦ done | false ↦ fold (numbered t k) done (NextOf t n) ++ n ∷ [] ])
        by true q h = d
        by false q h = one_more (fold (numbered t k) done (NextOf t n)) n h (again q)
          where
            again : is_among done n ≡ false → is_among (fold (numbered t k) done (NextOf t n)) n ≡ false
            again q = let z = not_again k done n l f q (is_among (fold (numbered t k) done (NextOf t n)) n) refl in z

    pub order_distinct : Distinct (in_number_order t)
    order_distinct = fold_distinct (IsFunction t) (numbered t (length t)) (λ d n f g. numbered_distinct (length t) d n (omega arith) f g) [] (function_names t) (names_are t fine acyclic) (λ k n e. cc)
