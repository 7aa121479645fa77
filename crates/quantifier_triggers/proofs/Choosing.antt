-- A trigger is chosen term by term.
use Rattle.std.specs.Prelude.{◌≡◌, refl, ℕ, suc, ◌+◌, ◌<◌, ◌≤◌, Bool, true, false, cond, ◌==◌, Vec, List, [], ◌∷◌, ◌++◌, map, length, drop, filter, Option, Some, None, option_map}
use Rattle.std.proofs.Common.{ap, arith, get_or, drop-cons}
use Rattle.std.proofs.lemmas.List.{append_assoc, append-nil, drop_all}
use mathlib.Core.Path.{sym, ◌∙◌}
use Rattle.std.specs.declared.alloc.Global.{Global}
use Rattle.logic_core.specs.Tree.{Tree}
use Rattle.logic_core.specs.Def.{Def}
use Rattle.logic_core.specs.View.{patterns_of, each_items}
use Rattle.quantifier_triggers.specs.Candidates.{bound_numbers, covers}
use Rattle.quantifier_triggers.specs.Choice.{smaller_of, least, adds, cover, pick, triggers}
use Rattle.quantifier_triggers.proofs.Once.{least_from, least_more, cover_done}

-- the item at an index, and then the rest
at_next : {X : Type 0} (xs : List X) (i : ℕ) (x : X) → i < length xs → x ≡ get_or xs i x → drop i xs ≡ x ∷ drop (i + 1) xs
at_next xs i x lt is = let next : suc i ≡ i + 1 = omega arith in drop-cons xs i x lt ∙ (λ j. sym is j ∷ drop (next j) xs)

-- of the items from an index on, what is said of the first and the rest
module _ {X : Type 0} (view : X → Tree) (xs : List X) (i : ℕ) (x : X) (lt : i < length xs) (is : x ≡ get_or xs i x) where
  next : map view (drop i xs) ≡ view x ∷ map view (drop (i + 1) xs)
  next = ap (map view) (at_next xs i x lt is)

  module _ (p : Tree → Bool) (m : Option Tree) (r : Option Tree) (h : least_from m (filter p (map view (drop i xs))) ≡ r) where
    after : least_from m (cond (p (view x)) (view x ∷ filter p (map view (drop (i + 1) xs))) (filter p (map view (drop (i + 1) xs)))) ≡ r
    after = sym (ap (λ ts. least_from m (filter p ts)) next) ∙ h

    -- one that passes the test is compared with the one found before
    pub least_taken : p (view x) ≡ true → least_from (Some (smaller_of m (view x))) (filter p (map view (drop (i + 1) xs))) ≡ r
    least_taken e = sym (least_more m (view x) (filter p (map view (drop (i + 1) xs)))) ∙ sym (ap (λ b. least_from m (cond b (view x ∷ filter p (map view (drop (i + 1) xs))) (filter p (map view (drop (i + 1) xs))))) e) ∙ after

    pub least_passed : p (view x) ≡ false → least_from m (filter p (map view (drop (i + 1) xs))) ≡ r
    least_passed e = sym (ap (λ b. least_from m (cond b (view x ∷ filter p (map view (drop (i + 1) xs))) (filter p (map view (drop (i + 1) xs))))) e) ∙ after

    -- one step: the one found, or the one found before
    pub least_step : (m' : Option Tree) → m' ≡ cond (p (view x)) (Some (smaller_of m (view x))) m → least_from m' (filter p (map view (drop (i + 1) xs))) ≡ r
    least_step m' e = ap (λ k. least_from k (filter p (map view (drop (i + 1) xs)))) e ∙ by_test (p (view x)) refl
      where
        by_test : (b : Bool) → p (view x) ≡ b → least_from (cond b (Some (smaller_of m (view x))) m) (filter p (map view (drop (i + 1) xs))) ≡ r
        by_test true f = least_taken f
        by_test false f = least_passed f

  -- over the number of variables, those covered, and what is taken so far
  module _ (n : ℕ) (covered : List ℕ) (taken : List Tree) (r : Option (List Tree)) (h : option_map (λ us. taken ++ us) (cover n covered (map view (drop i xs))) ≡ r) where
    abbrev Step : Bool → Bool → Option (List Tree)
    Step b c = elim b [ true ↦ Some [] | false ↦ elim c [ true ↦ option_map (λ us. view x ∷ us) (cover n (covered ++ bound_numbers (view x)) (map view (drop (i + 1) xs))) | false ↦ cover n covered (map view (drop (i + 1) xs)) ] ]

    stepped : (b c : Bool) → covers n covered ≡ b → adds n covered (view x) ≡ c → option_map (λ us. taken ++ us) (Step b c) ≡ r
    stepped b c e f = sym (λ j. option_map (λ us. taken ++ us) (Step (e j) (f j))) ∙ sym (ap (λ ts. option_map (λ us. taken ++ us) (cover n covered ts)) next) ∙ h

    pub cover_taken : covers n covered ≡ false → adds n covered (view x) ≡ true → option_map (λ us. (taken ++ view x ∷ []) ++ us) (cover n (covered ++ bound_numbers (view x)) (map view (drop (i + 1) xs))) ≡ r
    cover_taken e f = joins (cover n (covered ++ bound_numbers (view x)) (map view (drop (i + 1) xs))) ∙ stepped false true e f
      where
        joins : (o : Option (List Tree)) → option_map (λ us. (taken ++ view x ∷ []) ++ us) o ≡ option_map (λ us. taken ++ us) (option_map (λ us. view x ∷ us) o)
        joins None = refl
        joins (Some us) = ap Some (append_assoc taken (view x ∷ []) us)

    pub cover_passed : covers n covered ≡ false → adds n covered (view x) ≡ false → option_map (λ us. taken ++ us) (cover n covered (map view (drop (i + 1) xs))) ≡ r
    cover_passed e f = stepped false false e f

    pub cover_step : covers n covered ≡ false → (covered' : List ℕ) (taken' : List Tree) → covered' ≡ cond (adds n covered (view x)) (covered ++ bound_numbers (view x)) covered
        → taken' ≡ cond (adds n covered (view x)) (taken ++ view x ∷ []) taken → option_map (λ us. taken' ++ us) (cover n covered' (map view (drop (i + 1) xs))) ≡ r
    cover_step e covered' taken' c d = (λ j. option_map (λ us. d j ++ us) (cover n (c j) (map view (drop (i + 1) xs)))) ∙ by_test (adds n covered (view x)) refl
      where
        by_test : (b : Bool) → adds n covered (view x) ≡ b → option_map (λ us. cond b (taken ++ view x ∷ []) taken ++ us) (cover n (cond b (covered ++ bound_numbers (view x)) covered) (map view (drop (i + 1) xs))) ≡ r
        by_test true f = cover_taken e f
        by_test false f = cover_passed e f

-- over the number of variables, those covered, what is taken so far, and all that will be
module _ (n : ℕ) (covered : List ℕ) (taken : List Tree) (r : Option (List Tree)) where
  -- nothing more is taken where all are covered
  pub cover_ends : (ts : List Tree) → option_map (λ us. taken ++ us) (cover n covered ts) ≡ r → covers n covered ≡ true → Some taken ≡ r
  cover_ends ts h e = ap Some (sym (append-nil taken)) ∙ sym (ap (option_map (λ us. taken ++ us)) (cover_done n covered ts e)) ∙ h

  -- at the end those taken stand, where all are covered
  pub cover_end : {X : Type 0} (view : X → Tree) (xs : List X) (i : ℕ) → length xs ≤ i → option_map (λ us. taken ++ us) (cover n covered (map view (drop i xs))) ≡ r → cond (covers n covered) (Some taken) None ≡ r
  cover_end view xs i le h = by_test (covers n covered) ∙ sym (ap (λ l. option_map (λ us. taken ++ us) (cover n covered (map view l))) (drop_all i xs le)) ∙ h
    where
      by_test : (b : Bool) → cond b (Some taken) None ≡ option_map (λ us. taken ++ us) (cond {A = Option (List Tree)} b (Some []) None)
      by_test true = ap Some (sym (append-nil taken))
      by_test false = refl

-- what is picked is the least that covers, or several
pub pick_least : (n : ℕ) (ts : List Tree) (t : Tree) → least (filter (λ u. covers n (bound_numbers u)) ts) ≡ Some t → Some (t ∷ []) ≡ pick n ts
pick_least n ts t found = sym (ap (λ o. elim o [ Some u ↦ Some (u ∷ []) | None ↦ cover n [] ts ]) found)

pub pick_cover : (n : ℕ) (ts : List Tree) → least (filter (λ u. covers n (bound_numbers u)) ts) ≡ None → cover n [] ts ≡ pick n ts
pick_cover n ts found = sym (ap (λ o. elim o [ Some u ↦ Some (u ∷ []) | None ↦ cover n [] ts ]) found)

-- given triggers stay
pub given_stay : (defs : List Def) (n : ℕ) (body : Tree) (ps : List (Vec Tree Global)) → (length ps == 0) ≡ false → patterns_of (each_items ps) ≡ triggers defs n (patterns_of (each_items ps)) body
given_stay defs n body [] h = let c : true ≡ false = h in absurd cc
given_stay defs n body (p ∷ ps) h = refl
