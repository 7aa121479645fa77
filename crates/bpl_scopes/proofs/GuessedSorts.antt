-- Sorts that are right as far as they are there, and in which one synonym more finds nothing new, are the sorts.
use Rattle.std.proofs.Common.{◌≡◌, refl, sym, ap, ◌∙◌, subst, ℕ, zero, suc, Bool, true, false, true≢false, List, [], ◌∷◌, map, length, slice_get, Option, Some, None, option_map}
use Rattle.std.specs.Prelude.{◌⊎◌, slice_set}
use Rattle.std.proofs.lemmas.Option.{slice_get-map}
use mathlib.Core.Logic.{inl, inr}
use Rattle.logic_terms.specs.Tree.{Kind, map as map_of}
use Rattle.logic_terms.specs.Wide.{◌>>=◌, when}
use Rattle.logic_terms.specs.Sorts.{is}
use Rattle.logic_terms.specs.Tree.{int}
use Rattle.bpl_ast.specs.Place.{Params, Ty, integer, boolean as truth_type, named, map_type, Tys, no_tys, ty}
use Rattle.bpl_scopes.specs.Positions.{or_other, beside, first_at}
use Rattle.bpl_scopes.specs.Scopes.{Text, Table, Entry, entity_of}
use Rattle.bpl_scopes.specs.Sorts.{synonym_in, is_int_alone, map_sort_if, sort_by, sorts_by, sort_after, synonym_sort}
use Rattle.bpl_scopes.specs.KnownSorts.{names_in, known_sort, sorts_at}
use Rattle.bpl_scopes.specs.Guessed.{IsUnder, next_sorts, put_sort}
use Rattle.bpl_scopes.specs.TableView.{entry_seen, entries_seen}
use Rattle.bpl_scopes.specs.declared.table.Entry.{Entry as kept}
use Rattle.bpl_scopes.proofs.SynonymRounds.{known_is, by_entries}

abbrev Less : Option Kind → Option Kind → Type 0
Less k j = (k ≡ None) ⊎ (k ≡ j)

less_on : (i j k : Option Kind) → Less i j → Less j k → Less i k
less_on i j k (inl e) q = inl e
less_on i j k (inr e) (inl f) = inl (e ∙ f)
less_on i j k (inr e) (inr f) = inr (e ∙ f)

-- ---- lists

under_on : (hs js ks : List (Option Kind)) → IsUnder hs js → IsUnder js ks → IsUnder hs ks
under_on [] [] [] u v = tt
under_on [] [] (k ∷ ks) u v = absurd v
under_on [] (j ∷ js) ks u v = absurd u
under_on (h ∷ hs) [] ks u v = absurd u
under_on (h ∷ hs) (j ∷ js) [] u v = absurd v
under_on (h ∷ hs) (j ∷ js) (k ∷ ks) u v = (less_on h j k u.0 v.0, under_on hs js ks u.1 v.1)

under_both : (js ks : List (Option Kind)) → IsUnder js ks → IsUnder ks js → js ≡ ks
under_both [] [] u v = refl
under_both [] (k ∷ ks) u v = absurd u
under_both (j ∷ js) [] u v = absurd u
under_both (j ∷ js) (k ∷ ks) u v = let rest = under_both js ks u.1 v.1 in let first : j ≡ k = one u.0 v.0 in λ i. first i ∷ rest i
  where
    one : Less j k → Less k j → j ≡ k
    one (inl e) (inl f) = e ∙ sym f
    one (inl e) (inr f) = sym f
    one (inr e) q = e

pub under_same : (js ks : List (Option Kind)) → js ≡ ks → IsUnder js ks
under_same js ks e = subst (IsUnder js) e (own js)
  where
    own : (ls : List (Option Kind)) → IsUnder ls ls
    own [] = tt
    own (l ∷ ls) = (inr refl, own ls)

none_under : (f : Entry → Option Kind) (es : List Entry) → IsUnder (map (λ e. None) es) (map f es)
none_under f [] = tt
none_under f (e ∷ es) = (inl refl, none_under f es)

at_under : (ks js : List (Option Kind)) (i : ℕ) → IsUnder ks js → Less (or_other (slice_get ks i) None) (or_other (slice_get js i) None)
at_under [] [] i u = inl refl
at_under [] (j ∷ js) i u = absurd u
at_under (k ∷ ks) [] i u = absurd u
at_under (k ∷ ks) (j ∷ js) zero u = u.0
at_under (k ∷ ks) (j ∷ js) (suc i) u = at_under ks js i u.1

set_under : (ks js : List (Option Kind)) (p : ℕ) (k j : Option Kind) → IsUnder ks js → slice_get js p ≡ Some j → Less k j → IsUnder (slice_set ks p k) js
set_under [] [] p k j u e q = tt
set_under [] (m ∷ js) p k j u e q = absurd u
set_under (l ∷ ks) [] p k j u e q = absurd u
set_under (l ∷ ks) (m ∷ js) zero k j u e q = (subst (Less k) (sym (same m j e)) q, u.1)
  where
    same : (a b : Option Kind) → Some a ≡ Some b → a ≡ b
    same a b h = cc
set_under (l ∷ ks) (m ∷ js) (suc p) k j u e q = (u.0, set_under ks js p k j u.1 e q)

-- ---- more names have sorts

module _ (f g : Text → Option Kind) (more : (n : Text) → Less (f n) (g n)) where
  map_more : (ps : Option Params) (a b : Bool) (k j : Option Kind) → (a ≡ false) ⊎ (a ≡ b) → Less k j → Less (map_sort_if a ps k) (map_sort_if b ps j)
  map_more (Some ps) a b k j h q = inl refl
  map_more None false b k j h q = inl refl
  map_more None true b k j (inl e) q = absurd (true≢false e)
  map_more None true b k j (inr e) (inl h) = inl (ap (option_map map_of) h)
  map_more None true b k j (inr e) (inr h) = inr (λ i. when (e i) (option_map map_of (h i)))

  abbrev mutual
    sort_more : (s : Ty) → Less (sort_by f s) (sort_by g s)
    sort_more (integer p) = inr refl
    sort_more (truth_type p) = inr refl
    sort_more (named p n) = more n.text
    sort_more (map_type p ps ds r) = map_more ps (is_int_alone (sorts_by f ds)) (is_int_alone (sorts_by g ds)) (sort_by f r) (sort_by g r) (alone_more ds) (sort_more r)

    alone_more : (ds : Tys) → (is_int_alone (sorts_by f ds) ≡ false) ⊎ (is_int_alone (sorts_by f ds) ≡ is_int_alone (sorts_by g ds))
    alone_more no_tys = inr refl
    alone_more (ty d no_tys) = elim (sort_more d) [ inl e ↦ inl (ap (is int) e) | inr e ↦ inr (ap (is int) e) ]
    alone_more (ty d (ty e es)) = inr refl

  after_more : (t : Table) (n : Text) → Less (sort_after t f n) (sort_after t g n)
  after_more t n = by (synonym_in (entity_of t n))
    where
      by : (o : Option Ty) → Less (o >>= λ s. sort_by f s) (o >>= λ s. sort_by g s)
      by None = inl refl
      by (Some s) = sort_more s

-- ---- rounds

module _ (t : Table) where
  known_more : (ks js : List (Option Kind)) → IsUnder ks js → (n : Text) → Less (known_sort t ks n) (known_sort t js n)
  known_more ks js u n = by (first_at n (names_in t))
    where
      by : (o : Option ℕ) → Less (beside None ks o) (beside None js o)
      by None = inl refl
      by (Some i) = at_under ks js i u

  next_more : (ks js : List (Option Kind)) → IsUnder ks js → IsUnder (next_sorts t ks) (next_sorts t js)
  next_more ks js u = each t
    where
      each : (es : List Entry) → IsUnder (map (λ (e : Entry). sort_after t (known_sort t ks) e.name) es) (map (λ (e : Entry). sort_after t (known_sort t js) e.name) es)
      each [] = tt
      each (e ∷ es) = (after_more (known_sort t ks) (known_sort t js) (known_more ks js u) t e.name, each es)

  next_is : (k : ℕ) → next_sorts t (sorts_at t k) ≡ sorts_at t (suc k)
  next_is k = λ i. map (λ (e : Entry). sort_after t (λ n. known_is t k n i) e.name) t

  rises : (k : ℕ) → IsUnder (sorts_at t k) (sorts_at t (suc k))
  rises zero = none_under (λ (e : Entry). synonym_sort t 1 e.name) t
  rises (suc k) = subst (λ ks. IsUnder ks (sorts_at t (suc (suc k)))) (next_is k) (subst (IsUnder (next_sorts t (sorts_at t k))) (next_is (suc k)) (next_more (sorts_at t k) (sorts_at t (suc k)) (rises k)))

  -- no round finds more than where a round finds nothing new
  below_settled : (ks : List (Option Kind)) → next_sorts t ks ≡ ks → (k : ℕ) → IsUnder (sorts_at t k) ks
  below_settled ks e zero = subst (IsUnder (sorts_at t 0)) e (none_under (λ (c : Entry). sort_after t (known_sort t ks) c.name) t)
  below_settled ks e (suc k) = subst (λ js. IsUnder js ks) (next_is k) (subst (IsUnder (next_sorts t (sorts_at t k))) e (next_more (sorts_at t k) ks (below_settled ks e k)))

  pub settled_are : (ks : List (Option Kind)) → IsUnder ks (sorts_at t (length t)) → next_sorts t ks ≡ ks → ks ≡ sorts_at t (length t)
  settled_are ks u e = under_both ks (sorts_at t (length t)) u (below_settled ks e (length t))

  -- an entry that takes its sort by sorts of k rounds has it after one round more
  pub put_under : (ks : List (Option Kind)) (k p : ℕ) → IsUnder ks (sorts_at t k) → IsUnder (put_sort t ks p) (sorts_at t (suc k))
  put_under ks k p u = by (slice_get t p) refl
    where
      before : IsUnder ks (sorts_at t (suc k))
      before = under_on ks (sorts_at t k) (sorts_at t (suc k)) u (rises k)

      known : (n : Text) → Less (known_sort t ks n) (synonym_sort t k n)
      known n = subst (Less (known_sort t ks n)) (known_is t k n) (known_more ks (sorts_at t k) u n)

      by : (o : Option Entry) → slice_get t p ≡ o → IsUnder (elim o [ None ↦ ks | Some e ↦ slice_set ks p (sort_after t (known_sort t ks) e.name) ]) (sorts_at t (suc k))
      by None h = before
      by (Some e) h = set_under ks (sorts_at t (suc k)) p (sort_after t (known_sort t ks) e.name) (synonym_sort t (suc k) e.name) before
          (slice_get-map (λ (c : Entry). synonym_sort t (suc k) c.name) t p ∙ ap (option_map (λ (c : Entry). synonym_sort t (suc k) c.name)) h)
          (after_more (known_sort t ks) (synonym_sort t k) known t e.name)

-- ---- the code's entries

-- what a round finds
pub next_seen : (t : Table) (es : List kept) (ks : List (Option Kind)) → entries_seen es ≡ t → map (λ e. sort_after t (known_sort t ks) e.name.now) es ≡ next_sorts t ks
next_seen t es ks h = by_entries (sort_after t (known_sort t ks)) es ∙ ap (map (λ (c : Entry). sort_after t (known_sort t ks) c.name)) h

-- where there is no entry
pub put_none : (t : Table) (es : List kept) (ks : List (Option Kind)) (p : ℕ) → entries_seen es ≡ t → slice_get es p ≡ None → ks ≡ put_sort t ks p
put_none t es ks p h n =
    let none : slice_get t p ≡ None = ap (λ l. slice_get l p) (sym h) ∙ (slice_get-map entry_seen es p ∙ ap (option_map entry_seen) n) in
    sym (ap (λ (o : Option Entry). elim o [ None ↦ ks | Some e ↦ slice_set ks p (sort_after t (known_sort t ks) e.name) ]) none)

pub put_some : (t : Table) (es : List kept) (e : kept) (ks : List (Option Kind)) (p : ℕ) → entries_seen es ≡ t → slice_get es p ≡ Some e → slice_set ks p (sort_after t (known_sort t ks) e.name.now) ≡ put_sort t ks p
put_some t es e ks p h n =
    let one : slice_get t p ≡ Some (entry_seen e) = ap (λ l. slice_get l p) (sym h) ∙ (slice_get-map entry_seen es p ∙ ap (option_map entry_seen) n) in
    sym (ap (λ (o : Option Entry). elim o [ None ↦ ks | Some c ↦ slice_set ks p (sort_after t (known_sort t ks) c.name) ]) one)
