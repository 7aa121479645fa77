-- The functions of the declarations at their places are those of the module.
use Rattle.std.proofs.Common.{◌≡◌, refl, ap, sym, ◌∙◌, inl, inr, ◌⊎◌, subst, ℕ, zero, suc, pred, ◌+◌, ◌<◌, arith, nat_eq, eqb-true, eq-eqb, Bool, true, false, List, [], ◌∷◌, ◌++◌, set, replicate, length, length-set, Option, Some, None}
use Rattle.std.specs.Prelude.{bytes_eq, cond, option_map, flat_map, slice_get}
use Rattle.std.specs.List.{list_any}
use Rattle.std.proofs.lemmas.List.{length-replicate}
use Rattle.std.proofs.lemmas.Option.{slice_get_within, slice_get_past}
use Rattle.logic_core.proofs.Booleans.{one_is_true as either_of}
use Rattle.bpl_ast.specs.Statement.{Decl}
use Rattle.bpl_model.specs.Module.{Function}
use Rattle.bpl_scopes.specs.Positions.{first_at}
use Rattle.bpl_scopes.specs.Scopes.{Text, Entity, a_constant, a_global, a_function, a_synonym, a_procedure, Table, table_of, Counts, no_counts, counts_after, entity_of}
use Rattle.bpl_scopes.specs.Functions.{is_function, function_in, in_number_order}
use Rattle.bpl_declaration_faults.specs.DeclFaults.{fault_of}
use Rattle.bpl_resolve.specs.Elaborate.{function_def, typed_module}
use Rattle.bpl_resolve.proofs.Ways.{same_text}
use Rattle.bpl_resolve.proofs.EntriesFine.{synonyms_fine}
use Rattle.bpl_resolve.proofs.ModuleSorts.{fine, acyclic}
use Rattle.bpl_resolve.specs.Places.{function_name, put_at, place, places_from, places, named_function, function_at}
use Rattle.bpl_resolve.proofs.DistinctOrder.{Distinct, order_distinct}
use Rattle.bpl_resolve.proofs.FunctionEntries.{is_named, declares, function_declared}

set_there : (ps : List ℕ) (k i : ℕ) → k < length ps → slice_get (set ps k i) k ≡ Some i
set_there [] k i h = absurd (omega (arith, h))
set_there (p ∷ ps) zero i h = refl
set_there (p ∷ ps) (suc k) i h = set_there ps k i (omega (arith, h))

set_elsewhere : (ps : List ℕ) (j k i : ℕ) → (j ≡ k → ⊥) → slice_get (set ps j i) k ≡ slice_get ps k
set_elsewhere [] j k i h = refl
set_elsewhere (p ∷ ps) zero zero i h = absurd (h refl)
set_elsewhere (p ∷ ps) zero (suc k) i h = refl
set_elsewhere (p ∷ ps) (suc j) zero i h = refl
set_elsewhere (p ∷ ps) (suc j) (suc k) i h = set_elsewhere ps j k i (λ e. h (ap suc e))

pub first_there : (m : Text) (os : List Text) (k : ℕ) → first_at m os ≡ Some k → slice_get os k ≡ Some m
first_there m [] k e = cc
first_there m (o ∷ os) k e = by (bytes_eq m o) refl (first_at m os) (λ j q. first_there m os j q) e
  where
    by : (r : Bool) → bytes_eq m o ≡ r → (f : Option ℕ) → ((j : ℕ) → f ≡ Some j → slice_get os j ≡ Some m) → cond r (Some 0) (option_map suc f) ≡ Some k → slice_get (o ∷ os) k ≡ Some m
    by true q f z y = let u : 0 ≡ k = cc in subst (λ w. slice_get (o ∷ os) w ≡ Some m) u (ap Some (sym (same_text m o q)))
    by false q None z y = cc
    by false q (Some j) z y = let u : suc j ≡ k = cc in subst (λ w. slice_get (o ∷ os) w ≡ Some m) u (z j refl)

pub some_same : {A : Type 0} (a b : A) → Some a ≡ Some b → a ≡ b
some_same a b e = cc

all_same : (n k : ℕ) (a : ℕ) → k < n → slice_get (replicate n a) k ≡ Some a
all_same zero k a h = absurd (omega (arith, h))
all_same (suc n) zero a h = refl
all_same (suc n) (suc k) a h = all_same n k a (omega (arith, h))

flat_same : {A B C : Type 0} (f : A → List C) (g : B → List C) (ps : List A) (os : List B) → length ps ≡ length os
    → ((k : ℕ) (n : B) → slice_get os k ≡ Some n → (j : A) × (slice_get ps k ≡ Some j) × (f j ≡ g n)) → flat_map f ps ≡ flat_map g os
flat_same f g [] [] e h = refl
flat_same f g [] (o ∷ os) e h = absurd (omega (arith, e))
flat_same f g (p ∷ ps) [] e h = absurd (omega (arith, e))
flat_same f g (p ∷ ps) (o ∷ os) e h =
    let r = h 0 o refl in
    let first : f p ≡ g o = ap f (some_same p r.0 r.1) ∙ r.2 in
    let rest = flat_same f g ps os (ap pred e) (λ k n z. h (suc k) n z) in
    λ i. first i ++ rest i

module _ (ds : List Decl) (t : Table) (c : Counts) (os : List Text) (distinct : Distinct os) where
  abbrev at_place : ℕ → List Function
  at_place j = function_at t c (slice_get ds j)

  abbrev Placed : List ℕ → ℕ → Text → Type 0
  Placed ps k n = (j : ℕ) × (slice_get ps k ≡ Some j) × (at_place j ≡ named_function t c (Some n))

  put_long : (i : ℕ) (o : Option ℕ) (ps : List ℕ) → length (put_at i o ps) ≡ length ps
  put_long i None ps = refl
  put_long i (Some k) ps = length-set ps k i

  place_long : (i : ℕ) (o : Option Text) (ps : List ℕ) → length (place os i o ps) ≡ length ps
  place_long i None ps = refl
  place_long i (Some n) ps = put_long i (first_at n os) ps

  pub places_long : (i : ℕ) (xs : List Decl) (ps : List ℕ) → length (places_from os i xs ps) ≡ length ps
  places_long i [] ps = refl
  places_long i (x ∷ xs) ps = places_long (i + 1) xs (place os i (function_name x.body) ps) ∙ place_long i (function_name x.body) ps

  module _ (k : ℕ) (n : Text) (there : slice_get os k ≡ Some n) where
    same_name : (m : Text) → bytes_eq m n ≡ true → first_at m os ≡ Some k
    same_name m e = ap (λ w. first_at w os) (same_text m n e) ∙ distinct k n there

    -- the position of a declaration of that name
    put_there : (i : ℕ) (m : Text) (ps : List ℕ) → length ps ≡ length os → at_place i ≡ named_function t c (Some m)
        → (o : Option ℕ) → first_at m os ≡ o → Placed ps k n ⊎ (bytes_eq m n ≡ true) → Placed (put_at i o ps) k n
    put_there i m ps l a None q (inl h) = h
    put_there i m ps l a None q (inr e) = let bad : None ≡ Some k = sym q ∙ same_name m e in cc
    put_there i m ps l a (Some j) q h = by (nat_eq j k) refl h
      where
        within : k < length ps
        within = let w = slice_get_within os k n there in omega (arith, l, w)

        apart : nat_eq j k ≡ false → j ≡ k → ⊥
        apart r e = let bad : true ≡ false = sym (eq-eqb j k e) ∙ r in absurd (cc)

        elsewhere : nat_eq j k ≡ false → Placed ps k n ⊎ (bytes_eq m n ≡ true) → Placed (set ps j i) k n
        elsewhere r (inl h) = (h.0, set_elsewhere ps j k i (apart r) ∙ h.1, h.2)
        elsewhere r (inr e) = absurd (apart r (some_same j k (sym q ∙ same_name m e)))

        by : (r : Bool) → nat_eq j k ≡ r → Placed ps k n ⊎ (bytes_eq m n ≡ true) → Placed (set ps j i) k n
        by true r h =
            let u : j ≡ k = eqb-true j k r in
            let v : m ≡ n = some_same m n (sym (subst (λ w. slice_get os w ≡ Some m) u (first_there m os j q)) ∙ there) in
            (i, subst (λ w. slice_get (set ps w i) k ≡ Some i) (sym u) (set_there ps k i within), a ∙ ap (λ w. named_function t c (Some w)) v)
        by false r h = elsewhere r h

    step : (i : ℕ) (d : Decl) (ps : List ℕ) → slice_get ds i ≡ Some d → length ps ≡ length os → Placed ps k n ⊎ (declares n d ≡ true) → Placed (place os i (function_name d.body) ps) k n
    step i d ps at l h = by (function_name d.body) refl h
      where
        by : (o : Option Text) → function_name d.body ≡ o → Placed ps k n ⊎ (is_named n o ≡ true) → Placed (place os i o ps) k n
        by None q (inl g) = g
        by None q (inr e) = cc
        by (Some m) q g = put_there i m ps l (ap (function_at t c) at ∙ ap (named_function t c) q) (first_at m os) refl g

    all_placed : (i : ℕ) (xs : List Decl) (ps : List ℕ) → ((j : ℕ) → slice_get ds (i + j) ≡ slice_get xs j) → length ps ≡ length os
        → Placed ps k n ⊎ (list_any (declares n) xs ≡ true) → Placed (places_from os i xs ps) k n
    all_placed i [] ps at l (inl h) = h
    all_placed i [] ps at l (inr e) = cc
    all_placed i (x ∷ xs) ps at l h = all_placed (i + 1) xs (place os i (function_name x.body) ps) (λ j. let u : i + 1 + j ≡ i + suc j = omega arith in ap (slice_get ds) u ∙ at (suc j))
        (place_long i (function_name x.body) ps ∙ l) (by h)
      where
        here : slice_get ds i ≡ Some x
        here = let u : i ≡ i + 0 = omega arith in ap (slice_get ds) u ∙ at 0

        either : (declares n x ≡ true) ⊎ (list_any (declares n) xs ≡ true) → Placed (place os i (function_name x.body) ps) k n ⊎ (list_any (declares n) xs ≡ true)
        either (inl e) = inl (step i x ps here l (inr e))
        either (inr e) = inr e

        by : Placed ps k n ⊎ (list_any (declares n) (x ∷ xs) ≡ true) → Placed (place os i (function_name x.body) ps) k n ⊎ (list_any (declares n) xs ≡ true)
        by (inl g) = inl (step i x ps here l (inl g))
        by (inr e) = either (either_of (declares n x) (list_any (declares n) xs) e)

    -- nothing stands there where the name stands for no function
    nowhere : named_function t c (Some n) ≡ [] → Placed (replicate (length os) (length ds)) k n
    nowhere e = (length ds, all_same (length os) k (length ds) (slice_get_within os k n there), ap (function_at t c) (slice_get_past ds (length ds) (omega arith)) ∙ sym e)

module _ (ds : List Decl) (c : Counts) where
  abbrev TT : Table
  TT = table_of ds

  declared_or_none : (n : Text) → (named_function TT c (Some n) ≡ []) ⊎ (list_any (declares n) ds ≡ true)
  declared_or_none n = by (entity_of TT n) refl
    where
      by : (o : Option Entity) → entity_of TT n ≡ o → (function_def TT c n (function_in o) ≡ []) ⊎ (list_any (declares n) ds ≡ true)
      by None q = inl refl
      by (Some (a_constant k s)) q = inl refl
      by (Some (a_global k s)) q = inl refl
      by (Some (a_function h)) q = inr (function_declared n ds (ap is_function q))
      by (Some (a_synonym s)) q = inl refl
      by (Some (a_procedure k d)) q = inl refl

  pub functions_are : fault_of ds ≡ None → flat_map (λ i. function_at TT c (slice_get ds i)) (places (in_number_order TT) ds) ≡ (typed_module ds TT c).functions
  functions_are none = flat_same (λ i. function_at TT c (slice_get ds i)) (λ n. named_function TT c (Some n)) (places (in_number_order TT) ds) (in_number_order TT)
      (places_long ds TT c (in_number_order TT) once 0 ds (replicate (length (in_number_order TT)) (length ds)) ∙ length-replicate (length (in_number_order TT)) (length ds))
      (λ k n e. all_placed ds TT c (in_number_order TT) once k n e 0 ds (replicate (length (in_number_order TT)) (length ds)) (λ j. let u : 0 + j ≡ j = omega arith in ap (slice_get ds) u)
      (length-replicate (length (in_number_order TT)) (length ds)) (first k n e (declared_or_none n)))
    where
      once : Distinct (in_number_order TT)
      once = order_distinct TT (synonyms_fine TT (counts_after no_counts ds) (fine ds none)) (acyclic ds none)

      first : (k : ℕ) (n : Text) (e : slice_get (in_number_order TT) k ≡ Some n) → (named_function TT c (Some n) ≡ []) ⊎ (list_any (declares n) ds ≡ true)
          → Placed ds TT c (in_number_order TT) once (replicate (length (in_number_order TT)) (length ds)) k n ⊎ (list_any (declares n) ds ≡ true)
      first k n e (inl z) = inl (nowhere ds TT c (in_number_order TT) once k n e z)
      first k n e (inr z) = inr z

-- the same over a table and an order that are the program's
pub functions_made : (ds : List Decl) (t : Table) (c : Counts) (os : List Text) (ps : List ℕ) → fault_of ds ≡ None → t ≡ table_of ds → os ≡ in_number_order t → ps ≡ places os ds
    → flat_map (λ i. function_at t c (slice_get ds i)) ps ≡ (typed_module ds t c).functions
functions_made ds t c os ps none et eo ep =
    let placed : ps ≡ places (in_number_order (table_of ds)) ds = ep ∙ ap (λ o. places o ds) (eo ∙ ap in_number_order et) in
    (λ i. flat_map (λ j. function_at (et i) c (slice_get ds j)) (placed i)) ∙ (functions_are ds c none ∙ (λ i. (typed_module ds (sym et i) c).functions))
