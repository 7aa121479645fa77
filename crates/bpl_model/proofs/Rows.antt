-- Which axioms stand in the row of a constant or function.
use Rattle.std.specs.Prelude.{◌≡◌, refl, ℕ, zero, suc, ◌<◌, ◌==◌, Bool, true, false, cond, ◌||◌, ◌&&◌, List, [], ◌∷◌, ◌++◌, length, filter, slice_set, Vec}
use Rattle.std.specs.declared.alloc.Global.{Global}
use Rattle.std.specs.List.{list_any}
use Rattle.std.proofs.Common.{sym, ap, ◌∙◌, subst, get_or, length-set, get_or-set_same, get_or-set_other}
use Rattle.std.proofs.lemmas.Bool.{eqb-true, eqb-false}
use Rattle.std.proofs.lemmas.List.{length-replicate, map-set, get_or-map}
use Rattle.std.proofs.lemmas.List.Folds.{list_any-append}
use Rattle.logic_core.proofs.Booleans.{or_false, and_false}
use lib.ListN.{replicate}
use Rattle.bpl_model.specs.Module.{Name, DeclText}
use Rattle.bpl_model.specs.Walk.{text_at, is_at, rows_of, row, with_entry, with_mentions, with_axioms}

abbrev among : List ℕ → ℕ → Bool
among xs x = list_any (λ y. y == x) xs

entry_at : (T : List (List ℕ)) (l d r x : ℕ) → r < length T → among (row (with_entry T l d) r) x ≡ (among (row T r) x || ((l == r) && (d == x)))
entry_at T l d r x lt = by (l == r) refl
  where
    one : among (d ∷ []) x ≡ (d == x)
    one = or_false (d == x)

    by : (b : Bool) → (l == r) ≡ b → among (row (with_entry T l d) r) x ≡ (among (row T r) x || (b && (d == x)))
    by true e =
        let s : l ≡ r = eqb-true l r e in
        let same : row (with_entry T l d) r ≡ row T r ++ d ∷ [] = subst (λ k. row (slice_set T k (row T k ++ d ∷ [])) r ≡ row T r ++ d ∷ []) (sym s) (get_or-set_same T r (row T r ++ d ∷ []) [] lt) in
        ap (λ ys. among ys x) same ∙ list_any-append (λ y. y == x) (row T r) (d ∷ []) ∙ ap (λ b. among (row T r) x || b) one
    by false e =
        let s : r ≡ l → ⊥ = λ q. eqb-false l r e (sym q) in
        ap (λ ys. among ys x) (get_or-set_other T l r (row T l ++ d ∷ []) [] s) ∙ sym (or_false (among (row T r) x))

pub empty_row : (n r : ℕ) → row (replicate n []) r ≡ []
empty_row zero r = refl
empty_row (suc n) zero = refl
empty_row (suc n) (suc r) = empty_row n r

-- an entry that is pushed to a row
pub entry_put : (vs ws : List (Vec ℕ Global)) (r d : ℕ) (v w : Vec ℕ Global) → ws ≡ slice_set vs r w → r < length vs → v ≡ get_or vs r v → w.items ≡ v.items ++ d ∷ [] → rows_of ws ≡ with_entry (rows_of vs) r d
entry_put vs ws r d v w s lt is put =
    let old : row (rows_of vs) r ≡ v.items = get_or-map (λ (u : Vec ℕ Global). u.items) vs r v [] lt ∙ ap (λ u. u.items) (sym is) in
    ap rows_of s ∙ (map-set (λ (u : Vec ℕ Global). u.items) vs r w ∙ (λ i. slice_set (rows_of vs) r ((put ∙ ap (λ xs. xs ++ d ∷ []) (sym old)) i)))

module _ (ts : List DeclText) (symbols : List Name) where
  mentions_length : (d : ℕ) (T : List (List ℕ)) (ls : List ℕ) → length (with_mentions ts symbols d T ls) ≡ length T
  mentions_length d T [] = refl
  mentions_length d T (l ∷ ls) = mentions_length d (cond (is_at ts symbols l) (with_entry T l d) T) ls ∙ by (is_at ts symbols l)
    where
      by : (b : Bool) → length (cond b (with_entry T l d) T) ≡ length T
      by true = length-set T l (row T l ++ d ∷ [])
      by false = refl

  mentions_at : (d : ℕ) (T : List (List ℕ)) (ls : List ℕ) (r x : ℕ) → r < length T
      → among (row (with_mentions ts symbols d T ls) r) x ≡ (among (row T r) x || (among (filter (is_at ts symbols) ls) r && (d == x)))
  mentions_at d T [] r x lt = sym (or_false (among (row T r) x))
  mentions_at d T (l ∷ ls) r x lt = by (is_at ts symbols l) (λ U k. mentions_at d U ls r x k)
    where
      F : Bool
      F = among (filter (is_at ts symbols) ls) r

      both : (a b c f : Bool) → ((a || (b && c)) || (f && c)) ≡ (a || ((b || f) && c))
      both true b c f = refl
      both false true true f = refl
      both false true false true = refl
      both false true false false = refl
      both false false c f = refl

      by : (t : Bool) → ((U : List (List ℕ)) → r < length U → among (row (with_mentions ts symbols d U ls) r) x ≡ (among (row U r) x || (among (filter (is_at ts symbols) ls) r && (d == x))))
          → among (row (with_mentions ts symbols d (cond t (with_entry T l d) T) ls) r) x ≡ (among (row T r) x || (among (cond t (l ∷ filter (is_at ts symbols) ls) (filter (is_at ts symbols) ls)) r && (d == x)))
      by true h =
          h (with_entry T l d) (subst (λ n. r < n) (sym (length-set T l (row T l ++ d ∷ []))) lt)
          ∙ ap (λ b. b || (among (filter (is_at ts symbols) ls) r && (d == x))) (entry_at T l d r x lt)
          ∙ both (among (row T r) x) (l == r) (d == x) (among (filter (is_at ts symbols) ls) r)
      by false h = h T lt

  module _ (axioms : List Name) where
    -- whether x is an axiom that names the symbol r
    abbrev pub names : ℕ → ℕ → Bool
    names x r = is_at ts axioms x && among (filter (is_at ts symbols) (text_at ts x).leads) r

    axioms_at : (T : List (List ℕ)) (ds : List ℕ) (r x : ℕ) → r < length T → among (row (with_axioms ts symbols axioms T ds) r) x ≡ (among (row T r) x || (among ds x && names x r))
    axioms_at T [] r x lt = sym (or_false (among (row T r) x))
    axioms_at T (d ∷ ds) r x lt = by (is_at ts axioms d) refl (λ U k. axioms_at U ds r x k)
      where
        -- one that names r, at d
        here : (e : Bool) → (d == x) ≡ e → is_at ts axioms d ≡ true → (a : Bool) → ((a || (among (filter (is_at ts symbols) (text_at ts d).leads) r && e)) || (among ds x && names x r)) ≡ (a || ((e || among ds x) && names x r))
        here e k t true = refl
        here true k t false =
            let s : d ≡ x = eqb-true d x k in
            let n : names x r ≡ among (filter (is_at ts symbols) (text_at ts d).leads) r = subst (λ z. names z r ≡ among (filter (is_at ts symbols) (text_at ts d).leads) r) s (ap (λ b. b && among (filter (is_at ts symbols) (text_at ts d).leads) r) t) in
            ap (λ b. (b && true) || (among ds x && names x r)) (sym n) ∙ once (names x r) (among ds x)
          where
            once : (n a : Bool) → ((n && true) || (a && n)) ≡ n
            once true a = refl
            once false true = refl
            once false false = refl
        here false k t false = none (among (filter (is_at ts symbols) (text_at ts d).leads) r) (among ds x && names x r)
          where
            none : (m b : Bool) → ((m && false) || b) ≡ b
            none true b = refl
            none false b = refl

        by : (t : Bool) → is_at ts axioms d ≡ t → ((U : List (List ℕ)) → r < length U → among (row (with_axioms ts symbols axioms U ds) r) x ≡ (among (row U r) x || (among ds x && names x r)))
            → among (row (with_axioms ts symbols axioms (cond t (with_mentions ts symbols d T (text_at ts d).leads) T) ds) r) x ≡ (among (row T r) x || (((d == x) || among ds x) && names x r))
        by true t h =
            h (with_mentions ts symbols d T (text_at ts d).leads) (subst (λ n. r < n) (sym (mentions_length d T (text_at ts d).leads)) lt)
            ∙ ap (λ b. b || (among ds x && names x r)) (mentions_at d T (text_at ts d).leads r x lt)
            ∙ here (d == x) refl t (among (row T r) x)
        by false t h = h T lt ∙ ap (λ b. among (row T r) x || b) (other (d == x) refl)
          where
            other : (e : Bool) → (d == x) ≡ e → (among ds x && names x r) ≡ ((e || among ds x) && names x r)
            other true k =
                let n : names x r ≡ false = subst (λ z. names z r ≡ false) (eqb-true d x k) (ap (λ b. b && among (filter (is_at ts symbols) (text_at ts d).leads) r) t) in
                (λ i. among ds x && n i) ∙ and_false (among ds x) ∙ sym n
            other false k = refl

    pub row_is : (ds : List ℕ) (r x : ℕ) → r < length ts → among ds x ≡ true → among (row (with_axioms ts symbols axioms (replicate (length ts) []) ds) r) x ≡ names x r
    row_is ds r x lt h =
        axioms_at (replicate (length ts) []) ds r x (subst (λ n. r < n) (sym (length-replicate (length ts) [])) lt)
        ∙ ap (λ ys. among ys x || (among ds x && names x r)) (empty_row (length ts) r)
        ∙ ap (λ b. b && names x r) h
