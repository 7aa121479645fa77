-- The row of a name has the positions of the declarations that have it.
use Rattle.std.specs.Prelude.{◌≡◌, refl, ℕ, suc, ◌+◌, ◌<◌, ◌≤◌, ◌==◌, Bool, true, false, cond, ◌||◌, List, [], ◌∷◌, ◌++◌, length, filter, bytes_eq}
use Rattle.std.specs.List.{list_any}
use Rattle.std.proofs.Common.{arith, sym, ap, ◌∙◌, subst, get_or, length-set, get_or-set_same, get_or-set_other, append_assoc}
use Rattle.std.proofs.lemmas.Bool.{eqb-true, eqb-false, eq-eqb, or_parts, cases_lt}
use Rattle.std.proofs.lemmas.List.{length-replicate, append-nil, get_or_past}
use Rattle.std.proofs.lemmas.Slice.Eq.{bytes_eq-Decides}
use Rattle.logic_core.proofs.Booleans.{same_test as agree}
use mathlib.Core.Logic.{inl, inr}
use lib.ListN.{replicate}
use Rattle.bpl_model.specs.Module.{Name, DeclText, Module}
use Rattle.bpl_model.specs.Names.{place}
use Rattle.bpl_model.specs.Reach.{is_named, positions}
use Rattle.bpl_model.specs.Walk.{text_at, row, with_entry}
use Rattle.bpl_model.specs.Links.{with_places, named_rows, declared}
use Rattle.bpl_model.proofs.NamedAt.{named_at}
use Rattle.bpl_model.proofs.Rows.{empty_row}

-- ---- places of names

same_name : (k n : Name) → bytes_eq k n ≡ true → k ≡ n
same_name k n h = (bytes_eq-Decides k n).0 h

is_name : (k n : Name) → k ≡ n → bytes_eq k n ≡ true
is_name k n h = (bytes_eq-Decides k n).1 h

-- at its place stands the name
found : (ns : List Name) (n : Name) → place ns n < length ns → n ≡ get_or ns (place ns n) []
found [] n l = absurd (omega (l, arith))
found (m ∷ ms) n l = by (bytes_eq n m) refl (found ms n) l
  where
    by : (b : Bool) → bytes_eq n m ≡ b → (place ms n < length ms → n ≡ get_or ms (place ms n) []) → cond b 0 (1 + place ms n) < length (m ∷ ms) → n ≡ get_or (m ∷ ms) (cond b 0 (1 + place ms n)) []
    by true e h q = same_name n m e
    by false e h q = let k : suc (place ms n) ≡ 1 + place ms n = omega arith in h (omega (q, arith)) ∙ ap (λ r. get_or (m ∷ ms) r []) k

nowhere : (ns : List Name) (n : Name) → length ns ≤ place ns n → list_any (bytes_eq n) ns ≡ false
nowhere [] n l = refl
nowhere (m ∷ ms) n l = by (bytes_eq n m) (nowhere ms n) l
  where
    by : (b : Bool) → (length ms ≤ place ms n → list_any (bytes_eq n) ms ≡ false) → length (m ∷ ms) ≤ cond b 0 (1 + place ms n) → (b || list_any (bytes_eq n) ms) ≡ false
    by true h q = absurd (omega (q, arith))
    by false h q = h (omega (q, arith))

-- two names have one place where they are one
same_place : (ns : List Name) (k n : Name) → place ns n < length ns → (place ns k == place ns n) ≡ bytes_eq n k
same_place ns k n l = agree (place ns k == place ns n) (bytes_eq n k) there back
  where
    there : (place ns k == place ns n) ≡ true → bytes_eq n k ≡ true
    there h =
        let e : place ns k ≡ place ns n = eqb-true (place ns k) (place ns n) h in
        is_name n k (found ns n l ∙ sym (found ns k (subst (λ r. r < length ns) (sym e) l) ∙ ap (λ r. get_or ns r []) e))

    back : bytes_eq n k ≡ true → (place ns k == place ns n) ≡ true
    back h = eq-eqb (place ns k) (place ns n) (ap (place ns) (sym (same_name n k h)))

-- ---- rows

entry_at : (T : List (List ℕ)) (p d r : ℕ) → r < length T → row (with_entry T p d) r ≡ row T r ++ cond (p == r) (d ∷ []) []
entry_at T p d r lt = by (p == r) refl
  where
    by : (b : Bool) → (p == r) ≡ b → row (with_entry T p d) r ≡ row T r ++ cond b (d ∷ []) []
    by true e = let s : p ≡ r = eqb-true p r e in subst (λ k. row (with_entry T k d) r ≡ row T r ++ d ∷ []) (sym s) (get_or-set_same T r (row T r ++ d ∷ []) [] lt)
    by false e = let s : r ≡ p → ⊥ = λ q. eqb-false p r e (sym q) in get_or-set_other T p r (row T p ++ d ∷ []) [] s ∙ sym (append-nil (row T r))

behind : (b : Bool) (xs ys : List ℕ) (d : ℕ) → (xs ++ cond b (d ∷ []) []) ++ ys ≡ xs ++ cond b (d ∷ ys) ys
behind true xs ys d = append_assoc xs (d ∷ []) ys
behind false xs ys d = ap (λ zs. zs ++ ys) (append-nil xs)

module _ (ts : List DeclText) (ns : List Name) where
  abbrev stands : ℕ → ℕ → Bool
  stands r d = place ns (text_at ts d).name == r

  places_at : (T : List (List ℕ)) (ds : List ℕ) (r : ℕ) → r < length T → row (with_places ts ns T ds) r ≡ row T r ++ filter (stands r) ds
  places_at T [] r lt = sym (append-nil (row T r))
  places_at T (d ∷ ds) r lt =
      let p = place ns (text_at ts d).name in
      places_at (with_entry T p d) ds r (subst (λ n. r < n) (sym (length-set T p (row T p ++ d ∷ []))) lt)
      ∙ ap (λ xs. xs ++ filter (stands r) ds) (entry_at T p d r lt)
      ∙ behind (stands r d) (row T r) (filter (stands r) ds) d

  places_long : (T : List (List ℕ)) (ds : List ℕ) → length (with_places ts ns T ds) ≡ length T
  places_long T [] = refl
  places_long T (d ∷ ds) =
      let p = place ns (text_at ts d).name in
      places_long (with_entry T p d) ds ∙ length-set T p (row T p ++ d ∷ [])

  -- of a name that is among them
  row_of : (n : Name) (ds : List ℕ) → place ns n < length ns → row (named_rows ts ns ds) (place ns n) ≡ filter (λ d. bytes_eq n (text_at ts d).name) ds
  row_of n ds l =
      places_at (replicate (length ns) []) ds (place ns n) (subst (λ k. place ns n < k) (sym (length-replicate (length ns) [])) l)
      ∙ ap (λ xs. xs ++ filter (stands (place ns n)) ds) (empty_row (length ns) (place ns n))
      ∙ tests ds
    where
      tests : (es : List ℕ) → filter (stands (place ns n)) es ≡ filter (λ d. bytes_eq n (text_at ts d).name) es
      tests [] = refl
      tests (e ∷ es) = λ i. cond (same_place ns (text_at ts e).name n l i) (e ∷ tests es i) (tests es i)

none_of : (t : ℕ → Bool) (ds : List ℕ) → list_any t ds ≡ false → filter t ds ≡ []
none_of t [] h = refl
none_of t (d ∷ ds) h = let p = or_parts (t d) (list_any t ds) h in ap (λ b. cond b (d ∷ filter t ds) (filter t ds)) p.0 ∙ none_of t ds p.1

pub named_is : (m : Module) (n : Name) → row (named_rows m.texts (declared m) (positions m)) (place (declared m) n) ≡ filter (is_named m n) (positions m)
named_is m n = elim (cases_lt (place (declared m) n) (length (declared m))) [
  | inl l ↦ row_of m.texts (declared m) n (positions m) l
  | inr g ↦ get_or_past (named_rows m.texts (declared m) (positions m)) (place (declared m) n) [] (past g) ∙ sym (none_of (is_named m n) (positions m) (sym (named_at m n (positions m)) ∙ nowhere (declared m) n g))
]
  where
    past : length (declared m) ≤ place (declared m) n → length (named_rows m.texts (declared m) (positions m)) ≤ place (declared m) n
    past g = subst (λ k. k ≤ place (declared m) n) (sym (places_long m.texts (declared m) (replicate (length (declared m)) []) (positions m) ∙ length-replicate (length (declared m)) [])) g
