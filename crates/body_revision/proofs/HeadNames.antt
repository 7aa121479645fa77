-- Heads declare what the whole declarations do in a reading.
use Rattle.std.proofs.Common.{◌≡◌, refl, sym, ap, ◌∙◌, arith, ℕ, suc, ◌+◌, List, [], ◌∷◌, ◌++◌, Some, None}
use Rattle.bv_base.specs.declared.place.Place.{Place}
use Rattle.bpl_ast.specs.Place.{Ty}
use Rattle.bpl_ast.specs.Tree.{no_groups}
use Rattle.bpl_ast.specs.Statement.{DeclBody, constant, function, axiom_of, variables, synonym, procedure, implementation, Decl}
use Rattle.bpl_scopes.specs.Scopes.{Table, table_of, Counts, no_counts, counts_with, counts_after, entries_of, entries_after}
use Rattle.user_types.specs.Erased.{users_with, replaced_body, replaced_from, Unique, one_more, axioms_from, axioms_after, uniques, as_integers, erased, maps_over}
use Rattle.body_revision.specs.ReadHeads.{head_in, heads_from}
use Rattle.body_revision.specs.Names.{DeclareAlike}
use Rattle.body_revision.specs.ReadingLaws.{HeadsDeclareAll}

pub heads_next : (f : ℕ → Place → Ty) (k : ℕ) (d : Decl) (ds : List Decl)
    → heads_from f k (d ∷ ds) ≡ record { name = []; start = d.start; finish = d.finish; source = []; body = head_in f (users_with k d.body) d.body } ∷ heads_from f (users_with k d.body) ds
heads_next f k d ds = refl

-- ---- heads

no_more : (c : Counts) → counts_with c (variables no_groups) ≡ c
no_more c = let e : c.globals + 0 ≡ c.globals = omega arith in ap (λ n. record c { globals = n }) e

module _ (f : ℕ → Place → Ty) (t : Table) where
  head_entries : (c : Counts) (i k : ℕ) (b : DeclBody) → entries_of c i (head_in f k b) ≡ entries_of c i (replaced_body f t k b)
  head_entries c i k (constant u ns s) = refl
  head_entries c i k (synonym n None) = refl
  head_entries c i k (synonym n (Some s)) = refl
  head_entries c i k (function n ps ins r x) = refl
  head_entries c i k (axiom_of x) = refl
  head_entries c i k (variables gs) = refl
  head_entries c i k (procedure n ps s ss b) = refl
  head_entries c i k (implementation n ps s b) = refl

  head_counts : (c : Counts) (k : ℕ) (b : DeclBody) → counts_with c (head_in f k b) ≡ counts_with c (replaced_body f t k b)
  head_counts c k (constant u ns s) = refl
  head_counts c k (synonym n None) = refl
  head_counts c k (synonym n (Some s)) = refl
  head_counts c k (function n ps ins r x) = refl
  head_counts c k (axiom_of x) = no_more c
  head_counts c k (variables gs) = refl
  head_counts c k (procedure n ps s ss b) = refl
  head_counts c k (implementation n ps s b) = no_more c

  heads_entries : (c : Counts) (i k : ℕ) (ds : List Decl) → entries_after c i (heads_from f k ds) ≡ entries_after c i (replaced_from f t k ds)
  heads_entries c i k [] = refl
  heads_entries c i k (d ∷ ds) =
      let u = users_with k d.body in
      let b = replaced_body f t u d.body in
      (λ j. head_entries c i u d.body j ++ entries_after (head_counts c u d.body j) (i + 1) (heads_from f u ds))
      ∙ ap (λ es. entries_of c i b ++ es) (heads_entries (counts_with c b) (i + 1) u ds)

  heads_counts : (c : Counts) (k : ℕ) (ds : List Decl) → counts_after c (heads_from f k ds) ≡ counts_after c (replaced_from f t k ds)
  heads_counts c k [] = refl
  heads_counts c k (d ∷ ds) =
      let u = users_with k d.body in
      ap (λ n. counts_after n (heads_from f u ds)) (head_counts c u d.body) ∙ heads_counts (counts_with c (replaced_body f t u d.body)) u ds

-- ---- axioms at the end declare nothing

axioms_entries : (c : Counts) (i : ℕ) (count : ℕ → ℕ) (k : ℕ) (us : List Unique) → entries_after c i (axioms_from count k us) ≡ []
axioms_entries c i count k [] = refl
axioms_entries c i count k (u ∷ us) = axioms_entries c (i + 1) (one_more count u.0) (suc k) us

axioms_counts : (c : Counts) (count : ℕ → ℕ) (k : ℕ) (us : List Unique) → counts_after c (axioms_from count k us) ≡ c
axioms_counts c count k [] = refl
axioms_counts c count k (u ∷ us) = axioms_counts c (one_more count u.0) (suc k) us

entries_before : (c : Counts) (i : ℕ) (xs : List Decl) (count : ℕ → ℕ) (k : ℕ) (us : List Unique) → entries_after c i xs ≡ entries_after c i (xs ++ axioms_from count k us)
entries_before c i [] count k us = sym (axioms_entries c i count k us)
entries_before c i (x ∷ xs) count k us = ap (λ es. entries_of c i x.body ++ es) (entries_before (counts_with c x.body) (i + 1) xs count k us)

counts_before : (c : Counts) (xs : List Decl) (count : ℕ → ℕ) (k : ℕ) (us : List Unique) → counts_after c xs ≡ counts_after c (xs ++ axioms_from count k us)
counts_before c [] count k us = sym (axioms_counts c count k us)
counts_before c (x ∷ xs) count k us = counts_before (counts_with c x.body) xs count k us

-- ---- a program

pub erased_alike : (ds es : List Decl) → DeclareAlike es (replaced_from as_integers (table_of ds) 0 ds) → DeclareAlike es (erased ds)
erased_alike ds es h =
    let rs = replaced_from as_integers (table_of ds) 0 ds in
    record {
      table = h.table ∙ entries_before no_counts 0 rs (λ i. 0) (axioms_after 0 ds) (uniques (table_of ds) ds);
      counts = h.counts ∙ counts_before no_counts rs (λ i. 0) (axioms_after 0 ds) (uniques (table_of ds) ds);
    }

pub heads_declare : HeadsDeclareAll
heads_declare ds =
    let t = table_of ds in (
      erased_alike ds (heads_from as_integers 0 ds) (record { table = heads_entries as_integers t no_counts 0 0 ds; counts = heads_counts as_integers t no_counts 0 ds }),
      record { table = heads_entries maps_over t no_counts 0 0 ds; counts = heads_counts maps_over t no_counts 0 ds },
    )
