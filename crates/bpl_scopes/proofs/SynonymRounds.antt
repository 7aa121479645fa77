-- The sorts of synonyms in rounds, and that they stay once a round finds nothing new.
use Rattle.std.proofs.Common.{◌≡◌, refl, sym, ap, ◌∙◌, ℕ, zero, suc, ◌+◌, ◌-◌, ◌≤◌, Bool, true, false, true≢false, cond, is_some, List, [], ◌∷◌, map, length, Option, Some, None, arith}
use Rattle.logic_terms.specs.Tree.{Kind}
use Rattle.logic_terms.specs.Wide.{◌>>=◌}
use Rattle.bpl_ast.specs.Place.{Ty, Tys}
use Rattle.bv_base.specs.Text.{is_among}
use Rattle.bpl_scopes.specs.Positions.{first_at}
use Rattle.bpl_scopes.specs.Scopes.{Text, Table, Entry, entity_of}
use Rattle.bpl_scopes.specs.Sorts.{synonym_in, sort_by, sorts_by, sort_after, synonym_sort, unless_hidden, sort_of_type, sorts_of_types}
use Rattle.bpl_scopes.specs.KnownSorts.{names_in, known_sort, sorts_at, sort_unless}
use Rattle.bpl_scopes.specs.TableView.{entries_seen}
use Rattle.bpl_scopes.specs.declared.table.Entry.{Entry as kept}
use Rattle.bpl_scopes.proofs.FirstAt.{found_among, entity_at, entity_first, at_name-map}

none_of : (o : Option ℕ) → is_some o ≡ false → o ≡ None
none_of None e = refl
none_of (Some i) e = absurd (true≢false e)

-- a name without an entry is not declared
pub entity_absent : (t : Table) (n : Text) → is_among (names_in t) n ≡ false → entity_of t n ≡ None
entity_absent t n h = entity_first t n ∙ ap (entity_at t) (none_of (first_at n (names_in t)) (found_among n (names_in t) ∙ h))

no_synonym : (t : Table) (k : ℕ) (n : Text) → is_among (names_in t) n ≡ false → synonym_sort t k n ≡ None
no_synonym t zero n h = refl
no_synonym t (suc k) n h = ap (λ e. synonym_in e >>= λ s. sort_by (synonym_sort t k) s) (entity_absent t n h)

pub known_is : (t : Table) (k : ℕ) (n : Text) → known_sort t (sorts_at t k) n ≡ synonym_sort t k n
known_is t k n = at_name-map None (synonym_sort t k) t n ∙ by (is_among (names_in t) n) refl
  where
    by : (b : Bool) → is_among (names_in t) n ≡ b → cond b (synonym_sort t k n) None ≡ synonym_sort t k n
    by true e = refl
    by false e = sym (no_synonym t k n e)

known_are : (t : Table) (k : ℕ) (ks : List (Option Kind)) → ks ≡ sorts_at t k → (n : Text) → known_sort t ks n ≡ synonym_sort t k n
known_are t k ks e n = ap (λ l. known_sort t l n) e ∙ known_is t k n

pub sort_known : (t : Table) (hidden : List Text) (ks : List (Option Kind)) (s : Ty) → ks ≡ sorts_at t (length t) → sort_by (sort_unless hidden t ks) s ≡ sort_of_type t hidden s
unfolding sort_of_type
sort_known t hidden ks s e i = sort_by (λ n. unless_hidden (is_among hidden n) (known_are t (length t) ks e n i)) s

pub sorts_known : (t : Table) (hidden : List Text) (ks : List (Option Kind)) (ss : Tys) → ks ≡ sorts_at t (length t) → sorts_by (sort_unless hidden t ks) ss ≡ sorts_of_types t hidden ss
sorts_known t hidden ks ss e i = sorts_by (λ n. unless_hidden (is_among hidden n) (known_are t (length t) ks e n i)) ss

pub by_entries : {A : Type 0} (f : Text → A) (es : List kept) → map (λ e. f e.name.now) es ≡ map (λ (e : Entry). f e.name) (entries_seen es)
by_entries f [] = refl
by_entries f (e ∷ es) = ap (λ l. f e.name.now ∷ l) (by_entries f es)

pub first_sorts : (t : Table) (es : List kept) → entries_seen es ≡ t → map (λ e. None) es ≡ sorts_at t 0
first_sorts t es h = by_entries (λ n. None) es ∙ ap (map (λ (e : Entry). None)) h

-- a round follows one synonym more
pub next_sorts : (t : Table) (es : List kept) (ks : List (Option Kind)) (k : ℕ) → entries_seen es ≡ t → ks ≡ sorts_at t k → map (λ e. sort_after t (known_sort t ks) e.name.now) es ≡ sorts_at t (suc k)
next_sorts t es ks k h e = by_entries (sort_after t (known_sort t ks)) es ∙ ap (map (λ (c : Entry). sort_after t (known_sort t ks) c.name)) h
    ∙ (λ i. map (λ (c : Entry). sort_after t (λ n. known_are t k ks e n i) c.name) t)

abbrev ups : ℕ → ℕ → ℕ
ups zero k = k
ups (suc d) k = suc (ups d k)

pub ups_is : (d k : ℕ) → ups d k ≡ d + k
ups_is zero k = omega arith
ups_is (suc d) k = omega (arith, ups_is d k)

fixed : (t : Table) (k : ℕ) → ((n : Text) → synonym_sort t (suc k) n ≡ synonym_sort t k n) → (d : ℕ) (n : Text) → synonym_sort t (ups d k) n ≡ synonym_sort t k n
fixed t k h zero n = refl
fixed t k h (suc d) n = (λ i. sort_after t (λ m. fixed t k h d m i) n) ∙ h n

-- once a round finds nothing new, no later one does
pub settled : (t : Table) (k m : ℕ) → sorts_at t (suc k) ≡ sorts_at t k → k ≤ m → sorts_at t k ≡ sorts_at t m
settled t k m e h =
    let same : (n : Text) → synonym_sort t (suc k) n ≡ synonym_sort t k n = λ n. sym (known_is t (suc k) n) ∙ ap (λ l. known_sort t l n) e ∙ known_is t k n in
    let at : ups (m - k) k ≡ m = ups_is (m - k) k ∙ omega arith in
    (λ i. map (λ (c : Entry). sym (fixed t k same (m - k) c.name) i) t) ∙ ap (sorts_at t) at
