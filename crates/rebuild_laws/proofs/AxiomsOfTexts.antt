-- Of two procedures with one dependency text, the axioms that are reached go alike, one after another.
use Rattle.std.specs.Prelude.{◌≡◌, ℕ, zero, suc, ◌<◌, ◌^◌, ◌==◌, Bool, true, false, not, ◌||◌, List, [], ◌∷◌, map, length, filter, flat_map, slice_get, Option, Some, None, option_map}
use Rattle.std.specs.List.{AllByRecursion, cons_option}
use Rattle.std.proofs.Common.{refl, ap, sym, ◌∙◌, subst, inl, inr, ◌⊎◌}
use Rattle.logic_core.proofs.Booleans.{or_second}
use Rattle.bpl_ast.specs.Statement.{DeclBody, constant, function, axiom_of, variables, synonym, procedure, implementation, Decl}
use Rattle.bpl_model.specs.Module.{Proc}
use Rattle.bpl_model.specs.Reach.{among, own_positions, reached_by}
use Rattle.bpl_scopes.specs.Scopes.{Text, Table, table_of, Counts, no_counts, counts_after}
use Rattle.bpl_texts.specs.Uses.{contract_uses}
use Rattle.bpl_declaration_faults.specs.DeclFaults.{Before, before_with, nothing_before, decl_faults, fault_of}
use Rattle.canonical_text.specs.SameStatement.{bare_decl}
use Rattle.canonical_text.specs.RoundTrip.{AreWrittenDecls}
use Rattle.canonical_text.specs.Heads.{bare_head, HaveBody}
use Rattle.vc_build.specs.Depends.{reached_axioms}
use Rattle.bpl_resolve.specs.Elaborate.{axioms_in, module_of}
use Rattle.bpl_resolve.proofs.Ways.{Member}
use Rattle.bpl_resolve.proofs.EntriesFine.{NoFaults, none_faulty}
use Rattle.rebuild_laws.specs.Alike.{AlikeTerms}
use Rattle.rebuild_laws.specs.DependencyTexts.{bodies_at, other_positions}
use Rattle.rebuild_laws.specs.Numbers.{Low}
use Rattle.rebuild_laws.proofs.ScopesAlike.{AlikeName}
use Rattle.rebuild_laws.proofs.SameExpressionsAlike.{axiom_in, FineAxiom, axioms_alike}
use Rattle.rebuild_laws.specs.Twins.{Reached}
use Rattle.rebuild_laws.proofs.NamesInUse.{Used, in_reached}
use Rattle.rebuild_laws.proofs.Settled.{itself, among_passed}
use Rattle.rebuild_laws.proofs.SameNames.{vars_met, functions_met, new_low, new_function}
use Rattle.rebuild_laws.proofs.NamesOfTexts.{axioms_are, Functions, low_names}

-- each declaration of a program without faults has none
pub faults_at : (t : Table) (c : Counts) (b : Before) (xs : List Decl) (j : ℕ) (y : Decl) → NoFaults t c b xs → slice_get xs j ≡ Some y → (bf : Before) × (decl_faults t c bf y.body ≡ [])
faults_at t c b [] j y h e = absurd (cc)
faults_at t c b (x ∷ xs) zero y h e = let z : x ≡ y = cc in (b, subst (λ (w : Decl). decl_faults t c b w.body ≡ []) z h.0)
faults_at t c b (x ∷ xs) (suc j) y h e = faults_at t c (before_with b x.body) xs j y h.1 e

-- names each of which is used
pub each_used : (P : Text → Type 0) (ns : List Text) → ((n : Text) → Member n ns → P n) → AllByRecursion P ns
each_used P [] h = tt
each_used P (n ∷ ns) h = (h n (inl refl), each_used P ns (λ m i. h m (inr i)))

-- what holds of the declarations at these positions
pub each_body : (P : DeclBody → Type 0) (ds : List Decl) (ns : List ℕ) → ((d : ℕ) (x : Decl) → among ns d ≡ true → slice_get ds d ≡ Some x → P x.body) → AllByRecursion P (bodies_at ds ns)
each_body P ds [] h = tt
each_body P ds (n ∷ ns) h = by (slice_get ds n) refl (each_body P ds ns (λ d x i e. h d x (or_second (n == d) (among ns d) i) e))
  where
    by : (o : Option Decl) → slice_get ds n ≡ o → AllByRecursion P (bodies_at ds ns) → AllByRecursion P (cons_option (option_map (λ (d : Decl). d.body) o) (bodies_at ds ns))
    by None e rest = rest
    by (Some x) e rest = (h n x (ap (λ b. b || among ns n) (itself n)) e, rest)

module _ (ds : List Decl) (p : Proc) (es : List Decl) (q : Proc) (none : fault_of ds ≡ None) (none_there : fault_of es ≡ None)
    (body : HaveBody (bodies_at ds (own_positions (module_of ds) p))) (body_there : HaveBody (bodies_at es (own_positions (module_of es) q)))
    (own : map bare_decl (bodies_at ds (own_positions (module_of ds) p)) ≡ map bare_decl (bodies_at es (own_positions (module_of es) q)))
    (others : map bare_head (bodies_at ds (other_positions (module_of ds) p)) ≡ map bare_head (bodies_at es (other_positions (module_of es) q))) where
  abbrev C : Counts
  C = counts_after no_counts ds

  abbrev E : Counts
  E = counts_after no_counts es

  abbrev F : ℕ → Type 0
  F = Functions ds p es q none none_there body body_there own others

  abbrev L : ℕ → Type 0
  L = Low (module_of ds) (module_of es) (vars_met ds p) (vars_met es q) (new_low ds es) (new_low es ds)

  abbrev lows : (n : Text) → Used ds p n → AlikeName (new_function ds es) (new_low ds es) F L (Used ds p) (table_of ds) (table_of es) C E n
  lows = low_names ds p es q none none_there body body_there own others

  abbrev Fine : DeclBody → Type 0
  Fine b = FineAxiom (new_function ds es) (new_low ds es) F L (Used ds p) (table_of ds) (table_of es) C E lows (axiom_in b)

  fine_axiom : (k : ℕ) (x : Decl) → Reached ds p k → slice_get ds k ≡ Some x → Fine x.body
  fine_axiom k x r e = by x.body refl
    where
      by : (b : DeclBody) → x.body ≡ b → Fine b
      by (axiom_of y) f =
          let g = faults_at (table_of ds) C nothing_before ds k x (none_faulty ds none) e in
          (subst (λ b. decl_faults (table_of ds) C g.0 b ≡ []) f g.1, each_used (Used ds p) (contract_uses (axiom_of y)) (λ n i. in_reached k x r e (subst (λ b. Member n (contract_uses b)) (sym f) i)))
      by (constant u ns s) f = tt
      by (function n ps ins r x) f = tt
      by (variables gs) f = tt
      by (synonym n s) f = tt
      by (procedure n ps g ss b) f = tt
      by (implementation n ps g b) f = tt

  pub reached_axioms_alike : AreWrittenDecls 0 ds → AreWrittenDecls 0 es → length ds < 2 ^ 64 → length es < 2 ^ 64
      → AlikeTerms (new_function ds es) (new_low ds es) F L (reached_axioms (module_of ds) p) (reached_axioms (module_of es) q)
  reached_axioms_alike w v few few_there =
      let r = axioms_alike (new_function ds es) (new_low ds es) F L (Used ds p) (table_of ds) (table_of es) C E lows (bodies_at ds (other_positions (module_of ds) p)) (bodies_at es (other_positions (module_of es) q)) others
      (each_body Fine ds (other_positions (module_of ds) p)
      (λ k x i e. fine_axiom k x (inr (among_passed (λ d. not (among (own_positions (module_of ds) p) d)) (reached_by (module_of ds) p) k i).0) e)) in
      subst (λ ts. AlikeTerms (new_function ds es) (new_low ds es) F L ts (reached_axioms (module_of es) q)) (sym (axioms_are ds p w none body few))
      (subst (λ us. AlikeTerms (new_function ds es) (new_low ds es) F L (flat_map (axioms_in (table_of ds) C) (bodies_at ds (other_positions (module_of ds) p))) us) (sym (axioms_are es q v none_there body_there few_there)) r)
