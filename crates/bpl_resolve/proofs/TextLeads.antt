-- The declarations to which a text leads are declarations of the module.
use Rattle.std.proofs.Common.{◌≡◌, refl, ap, sym, subst, ℕ, zero, suc, ◌+◌, ◌<◌, arith, Bool, true, false, List, [], ◌∷◌, map, length}
use Rattle.std.specs.Prelude.{filter, cond}
use Rattle.std.specs.List.{AllByRecursion, range_with_len}
use Rattle.bpl_ast.specs.Statement.{Decl}
use Rattle.bpl_model.specs.Typed.{IsText}
use Rattle.bpl_scopes.specs.Scopes.{Text, Table, table_of}
use Rattle.bpl_texts.specs.Uses.{leads_of}
use Rattle.bpl_resolve.specs.Elaborate.{decl_text, module_of}

kept : (p : ℕ → Bool) (P : ℕ → Type 0) (ns : List ℕ) → AllByRecursion P ns → AllByRecursion P (filter p ns)
kept p P [] h = tt
kept p P (n ∷ ns) h = by (p n) (kept p P ns h.1)
  where
    by : (r : Bool) → AllByRecursion P (filter p ns) → AllByRecursion P (cond r (n ∷ filter p ns) (filter p ns))
    by true g = (h.0, g)
    by false g = g

all_less : (n a m : ℕ) → a + n ≡ m → AllByRecursion (λ k. k < m) (range_with_len a n)
all_less zero a m e = tt
all_less (suc n) a m e = (omega (arith, e), all_less n (a + 1) m (omega (arith, e)))

leads_within : (t : Table) (n : ℕ) (ns : List Text) → AllByRecursion (λ k. k < n) (leads_of t n ns)
leads_within t n ns = kept _ (λ k. k < n) (range_with_len 0 n) (all_less n 0 n (omega arith))

module _ (ds : List Decl) where
  as_many : (t : Table) (n : ℕ) (xs : List Decl) → length (map (decl_text t n) xs) ≡ length xs
  as_many t n [] = refl
  as_many t n (x ∷ xs) = ap suc (as_many t n xs)

  each_text : (xs : List Decl) → AllByRecursion (IsText (module_of ds)) (map (decl_text (table_of ds) (length ds)) xs)
  each_text [] = tt
  each_text (x ∷ xs) = ((within _, within _), each_text xs)
    where
      within : (ns : List Text) → AllByRecursion (λ k. k < length (module_of ds).texts) (leads_of (table_of ds) (length ds) ns)
      within ns = subst (λ n. AllByRecursion (λ k. k < n) (leads_of (table_of ds) (length ds) ns)) (sym (as_many (table_of ds) (length ds) ds)) (leads_within (table_of ds) (length ds) ns)

  pub texts_typed : AllByRecursion (IsText (module_of ds)) (module_of ds).texts
  texts_typed = each_text ds
