-- The order in which functions are numbered has every function and nothing else, and each stands behind those that it applies, in a program where none leads to itself.
use Rattle.std.proofs.Common.{◌≡◌, refl, ap, sym, ◌∙◌, inl, inr, ◌⊎◌, subst, ℕ, zero, suc, ◌+◌, ◌≤◌, arith, Bool, true, false, List, [], ◌∷◌, ◌++◌, append_assoc, map, length, Option, Some, None}
use Rattle.std.specs.Prelude.{⊤, bytes_eq, filter, fold, cond}
use Rattle.bv_base.specs.Text.{is_among}
use Rattle.bpl_scopes.specs.Scopes.{Text, Entity, a_constant, a_global, a_function, a_synonym, a_procedure, Entry, Table, entity_of}
use Rattle.bpl_scopes.specs.Functions.{is_function, applied_by, next_names, leads, leads_to_itself, numbered, function_names, in_number_order}
use Rattle.bpl_resolve.proofs.Ways.{Member, any_member, same_text, leads_one, leads_then}
use Rattle.bpl_resolve.proofs.TypesKnown.{SynonymsFine, remaining, all_remain, less_one, HasName, named_in, passes, AllLead, not_met}

pub at_end : (n : Text) (ns : List Text) → Member n (ns ++ n ∷ [])
at_end n [] = inl refl
at_end n (m ∷ ns) = inr (at_end n ns)

pub stays : (n : Text) (ms ns : List Text) → Member n ms → Member n (ms ++ ns)
stays n [] ns h = absurd h
stays n (m ∷ ms) ns (inl e) = inl e
stays n (m ∷ ms) ns (inr h) = inr (stays n ms ns h)

pub either_side : (n : Text) (ms ns : List Text) → Member n (ms ++ ns) → Member n ms ⊎ Member n ns
either_side n [] ns h = inr h
either_side n (m ∷ ms) ns (inl e) = inl (inl e)
either_side n (m ∷ ms) ns (inr h) = by (either_side n ms ns h)
  where
    by : Member n ms ⊎ Member n ns → Member n (m ∷ ms) ⊎ Member n ns
    by (inl g) = inl (inr g)
    by (inr g) = inr g

-- a member of a filtered list passes the test
filtered : (p : Text → Bool) (n : Text) (ns : List Text) → Member n (filter p ns) → p n ≡ true
filtered p n [] h = absurd h
filtered p n (m ∷ ns) h = by (filtered p n ns) (p m) refl h
  where
    by : (Member n (filter p ns) → p n ≡ true) → (r : Bool) → p m ≡ r → Member n (cond r (m ∷ filter p ns) (filter p ns)) → p n ≡ true
    by later true q (inl e) = ap p e ∙ q
    by later true q (inr g) = later g
    by later false q g = later g

module _ (t : Table) where
  abbrev pub IsFunction : Text → Type 0
  IsFunction n = is_function (entity_of t n) ≡ true

  abbrev pub AllFunctions : List Text → Type 0
  AllFunctions ns = (n : Text) → Member n ns → IsFunction n

  abbrev pub NextOf : Text → List Text
  NextOf n = next_names t (entity_of t n)

  pub next_functions : (o : Option Entity) → is_function o ≡ true → AllFunctions (next_names t o)
  next_functions None h n g = cc
  next_functions (Some (a_function f)) h n g = filtered (λ m. is_function (entity_of t m)) n (applied_by (Some f)) g
  next_functions (Some (a_constant k s)) h n g = cc
  next_functions (Some (a_global k s)) h n g = cc
  next_functions (Some (a_synonym s)) h n g = cc
  next_functions (Some (a_procedure k d)) h n g = cc

  -- what stands there stays
  fold_keeps : (f : List Text → Text → List Text) → ((done : List Text) (n m : Text) → Member m done → Member m (f done n))
      → (done ns : List Text) (m : Text) → Member m done → Member m (fold f done ns)
  fold_keeps f h done [] m g = g
  fold_keeps f h done (n ∷ ns) m g = fold_keeps f h (f done n) ns m (h done n m g)

  pub keeps : (k : ℕ) (done : List Text) (n m : Text) → Member m done → Member m (numbered t k done n)
  keeps zero done n m g = g
  keeps (suc k) done n m g = by (is_among done n)
      (stays m (fold (numbered t k) done (NextOf n)) (n ∷ []) (fold_keeps (numbered t k) (keeps k) done (NextOf n) m g))
    where
      by : (r : Bool) → Member m (fold (numbered t k) done (NextOf n) ++ n ∷ []) → Member m (elim r [ true ↦ done | false ↦ fold (numbered t k) done (NextOf n) ++ n ∷ [] ])
      by true z = g
      by false z = z

  is_member : (done : List Text) (n : Text) → is_among done n ≡ true → Member n done
  is_member done n e = let r = any_member (bytes_eq n) done e in subst (λ w. Member w done) (sym (same_text n r.0 r.2)) r.1

  -- what is walked is there then
  pub has_it : (k : ℕ) (done : List Text) (n : Text) → Member n (numbered t (suc k) done n)
  has_it k done n = by (is_among done n) refl
    where
      by : (r : Bool) → is_among done n ≡ r → Member n (elim r [ true ↦ done | false ↦ fold (numbered t k) done (NextOf n) ++ n ∷ [] ])
      by true q = is_member done n q
      by false q = at_end n (fold (numbered t k) done (NextOf n))

  fold_has : (k : ℕ) (done ns : List Text) (m : Text) → Member m ns → Member m (fold (numbered t (suc k)) done ns)
  fold_has k done [] m h = absurd h
  fold_has k done (n ∷ ns) m (inl e) = fold_keeps (numbered t (suc k)) (keeps (suc k)) (numbered t (suc k) done n) ns m (subst (λ w. Member w (numbered t (suc k) done n)) (sym e) (has_it k done n))
  fold_has k done (n ∷ ns) m (inr h) = fold_has k (numbered t (suc k) done n) ns m h

  -- only functions
  fold_functions : (f : List Text → Text → List Text) → ((done : List Text) (n : Text) → IsFunction n → AllFunctions done → AllFunctions (f done n))
      → (done ns : List Text) → AllFunctions ns → AllFunctions done → AllFunctions (fold f done ns)
  fold_functions f h done [] a g = g
  fold_functions f h done (n ∷ ns) a g = fold_functions f h (f done n) ns (λ m i. a m (inr i)) (h done n (a n (inl refl)) g)

  only_functions : (k : ℕ) (done : List Text) (n : Text) → IsFunction n → AllFunctions done → AllFunctions (numbered t k done n)
  only_functions zero done n e g = g
  only_functions (suc k) done n e g = by (is_among done n) (fold_functions (numbered t k) (only_functions k) done (NextOf n) (next_functions (entity_of t n) e) g)
    where
      by : (r : Bool) → AllFunctions (fold (numbered t k) done (NextOf n)) → AllFunctions (elim r [ true ↦ done | false ↦ fold (numbered t k) done (NextOf n) ++ n ∷ [] ])
      by true z m i = g m i
      by false z m i = one (either_side m (fold (numbered t k) done (NextOf n)) (n ∷ []) i)
        where
          one : Member m (fold (numbered t k) done (NextOf n)) ⊎ Member m (n ∷ []) → IsFunction m
          one (inl w) = z m w
          one (inr (inl w)) = subst IsFunction (sym w) e
          one (inr (inr w)) = absurd w

  -- each stands behind those that it applies
  abbrev pub OrderedAfter : List Text → List Text → Type 0
  OrderedAfter before [] = ⊤
  OrderedAfter before (n ∷ ns) = ((m : Text) → Member m (NextOf n) → Member m before) × OrderedAfter (before ++ n ∷ []) ns

  one_behind : (before ns : List Text) (n : Text) → OrderedAfter before ns → ((m : Text) → Member m (NextOf n) → Member m (before ++ ns)) → OrderedAfter before (ns ++ n ∷ [])
  one_behind before [] n h g = ((λ m i. nothing_behind before m (g m i)), tt)
    where
      nothing_behind : (bs : List Text) (m : Text) → Member m (bs ++ []) → Member m bs
      nothing_behind bs m i = by (either_side m bs [] i)
        where
          by : Member m bs ⊎ Member m [] → Member m bs
          by (inl w) = w
          by (inr w) = absurd w
  one_behind before (k ∷ ns) n h g = (h.0, one_behind (before ++ k ∷ []) ns n h.1 (λ m i. subst (Member m) (sym (append_assoc before (k ∷ []) ns)) (g m i)))

  fold_ordered : (f : List Text → Text → List Text) (P : Text → Type 0) → ((done : List Text) (n m : Text) → Member m done → Member m (f done n))
      → ((done : List Text) (n : Text) → P n → OrderedAfter [] done → OrderedAfter [] (f done n) × Member n (f done n))
      → (done ns : List Text) → ((n : Text) → Member n ns → P n) → OrderedAfter [] done
      → OrderedAfter [] (fold f done ns) × ((m : Text) → Member m ns → Member m (fold f done ns))
  fold_ordered f P keep one done [] all h = (h, λ m i. absurd i)
  fold_ordered f P keep one done (n ∷ ns) all h = together (one done n (all n (inl refl)) h)
      (λ z. fold_ordered f P keep one (f done n) ns (λ m i. all m (inr i)) z)
    where
      together : OrderedAfter [] (f done n) × Member n (f done n)
          → (OrderedAfter [] (f done n) → OrderedAfter [] (fold f (f done n) ns) × ((m : Text) → Member m ns → Member m (fold f (f done n) ns)))
          → OrderedAfter [] (fold f (f done n) ns) × ((m : Text) → Member m (n ∷ ns) → Member m (fold f (f done n) ns))
      together r later = ((later r.0).0, λ m i. by m i)
        where
          by : (m : Text) → Member m (n ∷ ns) → Member m (fold f (f done n) ns)
          by m (inl e) = subst (λ w. Member w (fold f (f done n) ns)) (sym e) (fold_keeps f keep (f done n) ns n r.1)
          by m (inr i) = (later r.0).1 m i

  module _ (fine : SynonymsFine t) (acyclic : (n : Text) → IsFunction n → leads_to_itself t n ≡ false) where
    function_there : (n : Text) → IsFunction n → HasName t n
    function_there n e = by (entity_of t n) refl e
      where
        by : (o : Option Entity) → entity_of t n ≡ o → is_function o ≡ true → HasName t n
        by None q h = cc
        by (Some x) q h = named_in t n x q

    ordered : (k j : ℕ) (vs : List Text) (done : List Text) (n : Text) → j + k ≡ length t → remaining t vs ≤ k → AllLead t j vs n → IsFunction n
        → OrderedAfter [] done → OrderedAfter [] (numbered t k done n) × Member n (numbered t k done n)
    ordered zero j vs done n e h g x o =
        let a = less_one t vs n (function_there n x) (not_met t fine zero j vs n e g (acyclic n x)) in
        absurd (omega (arith, h, a))
    ordered (suc k) j vs done n e h g x o =
        let a = less_one t vs n (function_there n x) (not_met t fine (suc k) j vs n e g (acyclic n x)) in
        let r = fold_ordered (numbered t k) (λ m. IsFunction m × Member m (NextOf n)) (keeps k)
        (λ d m i u. ordered k (suc j) (n ∷ vs) d m (omega (arith, e)) (omega (arith, h, a)) (both_lead m i.1) i.0 u)
        done (NextOf n) (λ m i. (next_functions (entity_of t n) x m i, i)) o in
        (by (is_among done n) r, has_it k done n)
      where
        both_lead : (m : Text) → Member m (NextOf n) → (v : Text) → Member v (n ∷ vs) → leads t (suc j) v m ≡ true
        both_lead m i v (inl q) = subst (λ w. leads t (suc j) w m ≡ true) (sym q) (leads_one t j n m i)
        both_lead m i v (inr q) = leads_then t j v n m (g v q) i

        by : (r : Bool) → OrderedAfter [] (fold (numbered t k) done (NextOf n)) × ((m : Text) → Member m (NextOf n) → Member m (fold (numbered t k) done (NextOf n)))
            → OrderedAfter [] (elim r [ true ↦ done | false ↦ fold (numbered t k) done (NextOf n) ++ n ∷ [] ])
        by true z = o
        by false z = one_behind [] (fold (numbered t k) done (NextOf n)) n z.0 z.1

    pub names_are : AllFunctions (function_names t)
    names_are n i = filtered (λ m. is_function (entity_of t m)) n (map (λ (e : Entry). e.name) t) i

    pub in_order : OrderedAfter [] (in_number_order t)
    in_order = (fold_ordered (numbered t (length t)) IsFunction (keeps (length t))
        (λ d n i u. ordered (length t) 0 [] d n (omega arith) (let b = all_remain t in omega (arith, b)) (λ v w. absurd w) i u) [] (function_names t) names_are tt).0

    pub order_has : (n : Text) → IsFunction n → Member n (in_number_order t)
    order_has n x = (fold_ordered (numbered t (length t)) IsFunction (keeps (length t))
        (λ d m i u. ordered (length t) 0 [] d m (omega arith) (let b = all_remain t in omega (arith, b)) (λ v w. absurd w) i u) [] (function_names t) names_are tt).1 n
        (passes (λ m. is_function (entity_of t m)) n _ (is_name t (function_there n x)) x)
      where
        is_name : (es : Table) → HasName es n → Member n (map (λ (e : Entry). e.name) es)
        is_name [] h = absurd h
        is_name (e ∷ es) (inl h) = inl (sym h)
        is_name (e ∷ es) (inr h) = inr (is_name es h)

    pub order_only : AllFunctions (in_number_order t)
    order_only = fold_functions (numbered t (length t)) (only_functions (length t)) [] (function_names t) names_are (λ n i. absurd i)
