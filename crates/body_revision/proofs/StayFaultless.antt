-- A program with revisions declares the same, and has no fault where none of these has one of its own.
use Rattle.std.proofs.Common.{◌≡◌, refl, sym, ◌∙◌, subst, ℕ, ◌<◌, List, [], ◌∷◌, length, get_or, slice_get, Some, None}
use Rattle.std.proofs.lemmas.List.{length-set}
use Rattle.std.proofs.lemmas.Option.{slice_get-get_or}
use Rattle.bpl_ast.specs.Statement.{Decl}
use Rattle.bpl_scopes.specs.Scopes.{table_of, no_counts, counts_after}
use Rattle.bpl_declaration_faults.specs.DeclFaults.{fault_of}
use Rattle.body_revision.specs.Revised.{IsRevised}
use Rattle.body_revision.specs.Names.{own_fault}
use Rattle.body_revision.specs.Revision.{all_put, AreRevised, HaveNoFaults}
use Rattle.body_revision.proofs.SameTable.{tables_alike, same_counts}
use Rattle.body_revision.proofs.TablesAlike.{LikeTables, like_itself, like_through}
use Rattle.body_revision.proofs.DeclarationReadings.{own_like}
use Rattle.body_revision.proofs.OwnFaults.{none_by_itself}
use Rattle.body_revision.proofs.FoundPlaces.{still_revised}

pub as_many_put : (ds : List Decl) (cs : List (ℕ × Decl)) → length (all_put ds cs) ≡ length ds
as_many_put ds [] = refl
as_many_put ds (c ∷ cs) = length-set (all_put ds cs) c.0 c.1 ∙ as_many_put ds cs

pub all_there : (ds : List Decl) (cs : List (ℕ × Decl)) (at : ℕ) → at < length ds → at < length (all_put ds cs)
all_there ds cs at there = subst (λ n. at < n) (sym (as_many_put ds cs)) there

pub all_still : (ds : List Decl) (cs : List (ℕ × Decl)) → AreRevised ds cs → (at : ℕ) (e : Decl) → ((d : Decl) → slice_get ds at ≡ Some d → IsRevised d.body e.body) → (d : Decl) → slice_get (all_put ds cs) at ≡ Some d → IsRevised d.body e.body
all_still ds [] h at e r = r
all_still ds (c ∷ cs) h at e r = still_revised (all_put ds cs) c.0 c.1 at e (all_still ds cs h.1 c.0 c.1 h.0.1) (all_still ds cs h.1 at e r)

module _ (ds : List Decl) (c : ℕ × Decl) (cs : List (ℕ × Decl)) (h : AreRevised ds (c ∷ cs)) where
  stood : slice_get (all_put ds cs) c.0 ≡ Some (get_or (all_put ds cs) c.0 c.1)
  stood = slice_get-get_or (all_put ds cs) c.0 c.1 (all_there ds cs c.0 h.0.0)

  revised_there : IsRevised (get_or (all_put ds cs) c.0 c.1).body (c.1).body
  revised_there = all_still ds cs h.1 c.0 c.1 h.0.1 (get_or (all_put ds cs) c.0 c.1) stood

all_tables : (ds : List Decl) (cs : List (ℕ × Decl)) → AreRevised ds cs → LikeTables (table_of (all_put ds cs)) (table_of ds)
all_tables ds [] h = like_itself (table_of ds)
all_tables ds (c ∷ cs) h = like_through (table_of (all_put ds (c ∷ cs))) (table_of (all_put ds cs)) (table_of ds)
    (tables_alike (all_put ds cs) c.0 (get_or (all_put ds cs) c.0 c.1) c.1 (stood ds c cs h) (revised_there ds c cs h)) (all_tables ds cs h.1)

all_counts : (ds : List Decl) (cs : List (ℕ × Decl)) → AreRevised ds cs → counts_after no_counts (all_put ds cs) ≡ counts_after no_counts ds
all_counts ds [] h = refl
all_counts ds (c ∷ cs) h = same_counts (all_put ds cs) c.0 (get_or (all_put ds cs) c.0 c.1) c.1 (stood ds c cs h) (revised_there ds c cs h) ∙ all_counts ds cs h.1

pub stay_faultless : (ds : List Decl) (cs : List (ℕ × Decl)) → fault_of ds ≡ None → AreRevised ds cs → HaveNoFaults ds cs → fault_of (all_put ds cs) ≡ None
stay_faultless ds [] none h own = none
stay_faultless ds (c ∷ cs) none h own =
    none_by_itself (all_put ds cs) c.0 (get_or (all_put ds cs) c.0 c.1) c.1 (stood ds c cs h) (revised_there ds c cs h) (stay_faultless ds cs none h.1 own.1)
    ((λ i. own_fault (table_of (all_put ds cs)) (all_counts ds cs h.1 i) (c.1).body)
    ∙ (own_like (table_of (all_put ds cs)) (table_of ds) (all_tables ds cs h.1) (counts_after no_counts ds) (c.1).body ∙ own.0))
