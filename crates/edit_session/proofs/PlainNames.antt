-- A program without user types declares in both readings of these what it declares as it stands.
use Rattle.std.proofs.Common.{◌≡◌, refl, ap, ◌∙◌, ℕ, ◌+◌, false, List, [], ◌∷◌, ◌++◌, Some, None}
use Rattle.logic_core.proofs.Booleans.{neither}
use Rattle.bv_base.specs.declared.place.Place.{Place}
use Rattle.bpl_ast.specs.Place.{Ty}
use Rattle.bpl_ast.specs.Statement.{DeclBody, constant, function, axiom_of, variables, synonym, procedure, implementation, Decl}
use Rattle.bpl_scopes.specs.Scopes.{Table, table_of, Counts, no_counts, counts_with, counts_after, entries_of, entries_after}
use Rattle.user_types.specs.Erased.{users_with, replaced_body, replaced_from, as_integers, erased, maps_over, told_apart}
use Rattle.body_revision.specs.Names.{DeclareAlike}
use Rattle.body_revision.proofs.HeadNames.{erased_alike}
use Rattle.program_opening.specs.NoUsers.{is_user_type, has_user_types}

module _ (f : ℕ → Place → Ty) (t : Table) where
  plain_entries : (c : Counts) (i k : ℕ) (b : DeclBody) → is_user_type b ≡ false → entries_of c i b ≡ entries_of c i (replaced_body f t k b)
  plain_entries c i k (constant u ns s) h = refl
  plain_entries c i k (synonym n None) h = absurd (cc)
  plain_entries c i k (synonym n (Some s)) h = refl
  plain_entries c i k (function n ps ins r x) h = refl
  plain_entries c i k (axiom_of x) h = refl
  plain_entries c i k (variables gs) h = refl
  plain_entries c i k (procedure n ps s ss b) h = refl
  plain_entries c i k (implementation n ps s b) h = refl

  same_counts : (c : Counts) (k : ℕ) (b : DeclBody) → counts_with c b ≡ counts_with c (replaced_body f t k b)
  same_counts c k (constant u ns s) = refl
  same_counts c k (synonym n None) = refl
  same_counts c k (synonym n (Some s)) = refl
  same_counts c k (function n ps ins r x) = refl
  same_counts c k (axiom_of x) = refl
  same_counts c k (variables gs) = refl
  same_counts c k (procedure n ps s ss b) = refl
  same_counts c k (implementation n ps s b) = refl

  plain_after : (c : Counts) (i k : ℕ) (ds : List Decl) → has_user_types ds ≡ false → entries_after c i ds ≡ entries_after c i (replaced_from f t k ds)
  plain_after c i k [] h = refl
  plain_after c i k (d ∷ ds) h =
      let p = neither (is_user_type d.body) (has_user_types ds) h in
      let u = users_with k d.body in
      let b = replaced_body f t u d.body in
      (λ j. plain_entries c i u d.body p.0 j ++ entries_after (same_counts c u d.body j) (i + 1) ds) ∙ ap (λ es. entries_of c i b ++ es) (plain_after (counts_with c b) (i + 1) u ds p.1)

  counts_stay : (c : Counts) (k : ℕ) (ds : List Decl) → counts_after c ds ≡ counts_after c (replaced_from f t k ds)
  counts_stay c k [] = refl
  counts_stay c k (d ∷ ds) =
      let u = users_with k d.body in
      ap (λ n. counts_after n ds) (same_counts c u d.body) ∙ counts_stay (counts_with c (replaced_body f t u d.body)) u ds

-- without user types it declares in both readings what it declares
pub plain_declares : (ds : List Decl) → has_user_types ds ≡ false → DeclareAlike ds (erased ds) × DeclareAlike ds (told_apart ds)
plain_declares ds h =
    let t = table_of ds in (
      erased_alike ds ds (record { table = plain_after as_integers t no_counts 0 0 ds h; counts = counts_stay as_integers t no_counts 0 ds }),
      record { table = plain_after maps_over t no_counts 0 0 ds h; counts = counts_stay maps_over t no_counts 0 ds },
    )
