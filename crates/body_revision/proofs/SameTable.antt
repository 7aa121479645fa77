-- A program with a revision declares the same but for the value of a function: its counts are those of the program, and so is its table where no function is revised.
use Rattle.std.proofs.Common.{◌≡◌, refl, sym, ap, ◌∙◌, subst, inl, inr, ℕ, zero, suc, ◌+◌, List, [], ◌∷◌, ◌++◌, slice_get, slice_set, Some}
use Rattle.std.specs.Option.{unwrap_or}
use Rattle.bpl_ast.specs.Statement.{DeclBody, function, procedure, Decl}
use Rattle.bpl_scopes.specs.Scopes.{a_procedure, table_of, Counts, counts_with, counts_after, no_counts, entries_of, entries_after}
use Rattle.body_revision.specs.Revised.{IsOtherFunction, IsRevised}
use Rattle.body_revision.proofs.KeptBodies.{of_revised}
use Rattle.body_revision.proofs.TablesAlike.{LikeTables, like_itself, like_same, like_joined}

revised_entries : (c : Counts) (k : ℕ) (d e : DeclBody) → IsRevised d e → (IsOtherFunction d e → ⊥) → entries_of c k e ≡ entries_of c k d
revised_entries c k d e (inl r) never = ap (entries_of c k) r.new ∙ ((λ i. record { name = r.name.text; decl = k; entity = a_procedure c.procedures (record { signature = r.signature; modified = r.modified i }) } ∷ []) ∙ sym (ap (entries_of c k) r.old))
revised_entries c k d e (inr (inl r)) never = ap (entries_of c k) r.new ∙ sym (ap (entries_of c k) r.old)
revised_entries c k d e (inr (inr (inl r))) never = ap (entries_of c k) r.new ∙ sym (ap (entries_of c k) r.old)
revised_entries c k d e (inr (inr (inr r))) never = absurd (never r)

like_entries : (c : Counts) (k : ℕ) (d e : DeclBody) → IsRevised d e → LikeTables (entries_of c k e) (entries_of c k d)
like_entries c k d e (inl r) = like_same (entries_of c k e) (entries_of c k d) (revised_entries c k d e (inl r) (λ s. let same : procedure r.name r.params r.signature r.specs r.before ≡ function s.name s.params s.ins s.result s.before = sym r.old ∙ s.old in absurd (cc)))
like_entries c k d e (inr (inl r)) = like_same (entries_of c k e) (entries_of c k d) (ap (entries_of c k) r.new ∙ sym (ap (entries_of c k) r.old))
like_entries c k d e (inr (inr (inl r))) = like_same (entries_of c k e) (entries_of c k d) (ap (entries_of c k) r.new ∙ sym (ap (entries_of c k) r.old))
like_entries c k d e (inr (inr (inr r))) =
    subst (λ b. LikeTables (entries_of c k b) (entries_of c k d)) (sym r.new) (
    subst (λ b. LikeTables (entries_of c k (function r.name r.params r.ins r.result r.after)) (entries_of c k b)) (sym r.old) (
      record {
        name = refl;
        decl = refl;
        entity = inr (record {
          before = record { ins = r.ins; result = r.result; value = r.after };
          after = record { ins = r.ins; result = r.result; value = r.before };
          like = record { ins = refl; result = refl; applied = r.same.applied; quantified = r.same.quantified };
          old = refl;
          new = refl;
        });
      },
      tt,
    ))

revised_counts : (c : Counts) (d e : DeclBody) → IsRevised d e → counts_with c e ≡ counts_with c d
revised_counts c = of_revised (counts_with c) (λ n ps g ss zs a b same h. refl) (λ n ps g a b. refl) (λ x y. refl) (λ n ps ins v x y h. refl)

-- the one that stands first
pub revised_first : (x d e : Decl) → Some x ≡ Some d → IsRevised d.body e.body → IsRevised x.body e.body
revised_first x d e is r = subst (λ (y : Decl). IsRevised y.body e.body) (sym (ap (λ o. unwrap_or o x) is)) r

same_entries : (c : Counts) (k : ℕ) (ds : List Decl) (at : ℕ) (d e : Decl) → slice_get ds at ≡ Some d → IsRevised d.body e.body → (IsOtherFunction d.body e.body → ⊥) → entries_after c k (slice_set ds at e) ≡ entries_after c k ds
same_entries c k [] at d e is r never = refl
same_entries c k (x ∷ xs) zero d e is r never =
    let s = revised_first x d e is r in
    let here : d ≡ x = sym (ap (λ o. unwrap_or o x) is) in
    let none : IsOtherFunction x.body e.body → ⊥ = subst (λ (y : Decl). IsOtherFunction y.body e.body → ⊥) here never in
    λ i. revised_entries c k x.body e.body s none i ++ entries_after (revised_counts c x.body e.body s i) (k + 1) xs
same_entries c k (x ∷ xs) (suc at) d e is r never = ap (λ es. entries_of c k x.body ++ es) (same_entries (counts_with c x.body) (k + 1) xs at d e is r never)

entries_alike : (c : Counts) (k : ℕ) (ds : List Decl) (at : ℕ) (d e : Decl) → slice_get ds at ≡ Some d → IsRevised d.body e.body → LikeTables (entries_after c k (slice_set ds at e)) (entries_after c k ds)
entries_alike c k [] at d e is r = tt
entries_alike c k (x ∷ xs) zero d e is r =
    let s = revised_first x d e is r in
    like_joined (entries_of c k e.body) (entries_of c k x.body) (entries_after (counts_with c e.body) (k + 1) xs) (entries_after (counts_with c x.body) (k + 1) xs)
    (like_entries c k x.body e.body s) (like_same (entries_after (counts_with c e.body) (k + 1) xs) (entries_after (counts_with c x.body) (k + 1) xs) (λ i. entries_after (revised_counts c x.body e.body s i) (k + 1) xs))
entries_alike c k (x ∷ xs) (suc at) d e is r =
    like_joined (entries_of c k x.body) (entries_of c k x.body) (entries_after (counts_with c x.body) (k + 1) (slice_set xs at e)) (entries_after (counts_with c x.body) (k + 1) xs)
    (like_itself (entries_of c k x.body)) (entries_alike (counts_with c x.body) (k + 1) xs at d e is r)

same_counts_after : (c : Counts) (ds : List Decl) (at : ℕ) (d e : Decl) → slice_get ds at ≡ Some d → IsRevised d.body e.body → counts_after c (slice_set ds at e) ≡ counts_after c ds
same_counts_after c [] at d e is r = refl
same_counts_after c (x ∷ xs) zero d e is r = ap (λ k. counts_after k xs) (revised_counts c x.body e.body (revised_first x d e is r))
same_counts_after c (x ∷ xs) (suc at) d e is r = same_counts_after (counts_with c x.body) xs at d e is r

pub tables_alike : (ds : List Decl) (at : ℕ) (d e : Decl) → slice_get ds at ≡ Some d → IsRevised d.body e.body → LikeTables (table_of (slice_set ds at e)) (table_of ds)
tables_alike ds at d e is r = entries_alike no_counts 0 ds at d e is r

pub same_table : (ds : List Decl) (at : ℕ) (d e : Decl) → slice_get ds at ≡ Some d → IsRevised d.body e.body → (IsOtherFunction d.body e.body → ⊥) → table_of (slice_set ds at e) ≡ table_of ds
same_table ds at d e is r never = same_entries no_counts 0 ds at d e is r never

pub same_counts : (ds : List Decl) (at : ℕ) (d e : Decl) → slice_get ds at ≡ Some d → IsRevised d.body e.body → counts_after no_counts (slice_set ds at e) ≡ counts_after no_counts ds
same_counts ds at d e is r = same_counts_after no_counts ds at d e is r
