-- The declarations of names, sorted and each once, are those to which the names lead.
use Rattle.std.proofs.Common.{◌≡◌, refl, sym, ap, ◌∙◌, ℕ, suc, eqb, ltb, Bool, true, false, ◌||◌, ◌&&◌, cond, List, [], ◌∷◌, map, slice_get, Option, Some, None, option_map, bytes_eq}
use Rattle.std.specs.List.{list_any, dedup}
use Rattle.std.specs.List.Sorted.{IsPermutation, IsSorted}
use Rattle.std.specs.Ordering.{nat_cmp}
use Rattle.std.proofs.lemmas.Bool.{cases_eq, eq-eqb, ne_eqb}
use Rattle.std.proofs.lemmas.Cmp.{nat_list_eq_equiv}
use Rattle.std.proofs.lemmas.List.Folds.{list_any-append}
use Rattle.std.proofs.lemmas.Option.{slice_get-map}
use Rattle.logic_core.proofs.Booleans.{and_false}
use mathlib.Core.Logic.{inl, inr}
use Rattle.bpl_scopes.specs.Positions.{first_at}
use Rattle.bpl_scopes.specs.Scopes.{Text, Entry, Table, entry_of}
use Rattle.bpl_scopes.specs.TableView.{entry_seen, entries_seen}
use Rattle.bpl_scopes.specs.declared.table.Entry.{Entry as kept}
use Rattle.bpl_texts.specs.Uses.{is_declared_at, leads_of}
use Rattle.bpl_texts.specs.Leads.{looked_decl, decl_below, decls_below}
use Rattle.bpl_texts.proofs.RisingNumbers.{has, sorted_once}

-- a name's declaration is that of the first entry of that name
abbrev entry_at : Table → Option ℕ → Option Entry
entry_at t None = None
entry_at t (Some i) = slice_get t i

entry_first : (t : Table) (n : Text) → entry_of t n ≡ entry_at t (first_at n (map (λ (e : Entry). e.name) t))
entry_first [] n = refl
entry_first (e ∷ t) n = ap (λ b. cond b (Some e) (entry_of t n)) (nat_list_eq_equiv.symm e.name n) ∙ by (bytes_eq n e.name) (entry_first t n)
  where
    next : (o : Option ℕ) → entry_at t o ≡ entry_at (e ∷ t) (option_map suc o)
    next None = refl
    next (Some i) = refl

    by : (b : Bool) → entry_of t n ≡ entry_at t (first_at n (map (λ (d : Entry). d.name) t)) → cond b (Some e) (entry_of t n) ≡ entry_at (e ∷ t) (cond b (Some 0) (option_map suc (first_at n (map (λ (d : Entry). d.name) t))))
    by true h = refl
    by false h = h ∙ next (first_at n (map (λ (d : Entry). d.name) t))

decl_seen : (es : List kept) (o : Option ℕ) → option_map (λ (e : Entry). e.decl) (entry_at (entries_seen es) o) ≡ looked_decl es o
decl_seen es None = refl
decl_seen es (Some i) = ap (option_map (λ (e : Entry). e.decl)) (slice_get-map entry_seen es i) ∙ by (slice_get es i)
  where
    by : (o : Option kept) → option_map (λ (e : Entry). e.decl) (option_map entry_seen o) ≡ option_map (λ e. e.decl) o
    by None = refl
    by (Some e) = refl

pub decl_looked : (es : List kept) (n : Text) → option_map (λ (e : Entry). e.decl) (entry_of (entries_seen es) n) ≡ looked_decl es (first_at n (map (λ (e : Entry). e.name) (entries_seen es)))
decl_looked es n = ap (option_map (λ (e : Entry). e.decl)) (entry_first (entries_seen es) n) ∙ decl_seen es (first_at n (map (λ (e : Entry). e.name) (entries_seen es)))

spread : (a b c : Bool) → ((a && b) || (a && c)) ≡ (a && (b || c))
spread true b c = refl
spread false b c = refl

-- a declaration is that of an entry where it is below the bound
at_entry : (count d e : ℕ) (b : Bool) → ltb e count ≡ b → has d (cond b (e ∷ []) []) ≡ (ltb d count && eqb e d)
at_entry count d e true h = elim (cases_eq d e) [
  | inl q ↦ ap (λ b. b || false) (eq-eqb d e q) ∙ sym (λ i. (ap (λ k. ltb k count) q ∙ h) i && eq-eqb e d (sym q) i)
  | inr n ↦ ap (λ b. b || false) (ne_eqb d e n) ∙ sym (ap (λ b. ltb d count && b) (ne_eqb e d (λ q. n (sym q))) ∙ and_false (ltb d count))
]
at_entry count d e false h = elim (cases_eq d e) [
  | inl q ↦ sym (ap (λ b. b && eqb e d) (ap (λ k. ltb k count) q ∙ h))
  | inr n ↦ sym (ap (λ b. ltb d count && b) (ne_eqb e d (λ q. n (sym q))) ∙ and_false (ltb d count))
]

decl_has : (count d : ℕ) (o : Option Entry) → has d (decl_below count (option_map (λ (e : Entry). e.decl) o)) ≡ (ltb d count && is_declared_at o d)
decl_has count d None = sym (and_false (ltb d count))
decl_has count d (Some e) = at_entry count d e.decl (ltb e.decl count) refl

decls_have : (t : Table) (count d : ℕ) (ns : List Text) → has d (decls_below t count ns) ≡ (ltb d count && list_any (λ n. is_declared_at (entry_of t n) d) ns)
decls_have t count d [] = sym (and_false (ltb d count))
decls_have t count d (n ∷ ns) = list_any-append (eqb d) (decl_below count (option_map (λ (e : Entry). e.decl) (entry_of t n))) (decls_below t count ns)
    ∙ (λ i. decl_has count d (entry_of t n) i || decls_have t count d ns i)
    ∙ spread (ltb d count) (is_declared_at (entry_of t n) d) (list_any (λ m. is_declared_at (entry_of t m) d) ns)

pub leads_are : (t : Table) (count : ℕ) (ns : List Text) (decls sorted : List ℕ) → decls ≡ decls_below t count ns → IsPermutation decls sorted → IsSorted nat_cmp sorted → dedup eqb sorted ≡ leads_of t count ns
leads_are t count ns decls sorted made perm rises = sorted_once (λ d. list_any (λ n. is_declared_at (entry_of t n) d) ns) count decls sorted (λ d. ap (has d) made ∙ decls_have t count d ns) perm rises
