-- The module with another axiom.
use Rattle.std.proofs.Common.{◌≡◌, refl, sym, ap, ◌∙◌, arith, inl, inr, ℕ, ◌<◌, true, List, [], ◌∷◌, length, take, set, get_or, flat_map, slice_get, Some, cond, sum_by, count_by}
use Rattle.std.proofs.lemmas.Option.{slice_get_within, get_or_from_slice_get}
use Rattle.std.proofs.lemmas.List.Concat.{length-flat_map}
use Rattle.std.proofs.lemmas.List.Folds.{length-flat_map-take}
use Rattle.logic_core.specs.Tree.{Tree}
use Rattle.bpl_ast.specs.Statement.{DeclBody, constant, function, axiom_of, variables, synonym, procedure, implementation, Decl}
use Rattle.bpl_scopes.specs.Scopes.{Table, table_of, Counts, no_counts, counts_after}
use Rattle.bpl_resolve.specs.Elaborate.{implements, axioms_in, procs_in, decl_text, typed_module, module_of}
use Rattle.body_revision.specs.Revised.{IsOtherAxiom, IsOtherFunction}
use Rattle.body_revision.specs.Revision.{with_axiom}
use Rattle.body_revision.specs.Procedures.{is_axiom}
use Rattle.body_revision.proofs.SameTable.{same_table, same_counts}
use Rattle.body_revision.proofs.SetParts.{other_part}
use Rattle.body_revision.proofs.RevisedModule.{parts_revised, procs_stay}

-- a declaration of an axiom gives the module one, and no other any
one_each : (t : Table) (c : Counts) (b : DeclBody) → length (axioms_in t c b) ≡ cond (is_axiom b) 1 0
one_each t c (axiom_of x) = refl
one_each t c (procedure n ps g ss b) = refl
one_each t c (constant u ns s) = refl
one_each t c (function m ps ins r x) = refl
one_each t c (variables gs) = refl
one_each t c (synonym m s) = refl
one_each t c (implementation m ps g b) = refl

how_many : (t : Table) (c : Counts) (xs : List Decl) → length (flat_map (λ (d : Decl). axioms_in t c d.body) xs) ≡ count_by (λ (d : Decl). is_axiom d.body) xs
how_many t c xs = length-flat_map (λ (d : Decl). axioms_in t c d.body) xs ∙ (λ i. sum_by (λ (x : Decl). one_each t c x.body i) xs)

module _ (ds : List Decl) (at : ℕ) (d e : Decl) (g : slice_get ds at ≡ Some d) (r : IsOtherAxiom d.body e.body) where
  no_function : IsOtherFunction d.body e.body → ⊥
  no_function q = let same : axiom_of r.before ≡ function q.name q.params q.ins q.result q.before = sym r.old ∙ q.old in absurd (cc)

  other_axiom : (t : Table) (c : Counts) (f : Tree) → axioms_in t c e.body ≡ f ∷ []
      → flat_map (λ (x : Decl). axioms_in t c x.body) (set ds at e) ≡ set (flat_map (λ (x : Decl). axioms_in t c x.body) ds) (count_by (λ (x : Decl). is_axiom x.body) (take at ds)) f
  other_axiom t c f made =
      other_part (λ (x : Decl). axioms_in t c x.body) (λ (x : Decl). axioms_in t c x.body) ds at d e _ f g (λ x. refl) (ap (axioms_in t c) r.old) made
      ∙ (λ i. set (flat_map (λ (x : Decl). axioms_in t c x.body) ds) (how_many t c (take at ds) i) f)

  pub axiom_revised : (f : Tree) → axioms_in (table_of ds) (counts_after no_counts ds) e.body ≡ f ∷ []
      → module_of (set ds at e) ≡ with_axiom (count_by (λ (x : Decl). is_axiom x.body) (take at ds)) f at (decl_text (table_of ds) (length ds) e) (module_of ds)
  axiom_revised f made =
      let t : Table = table_of ds in
      let c : Counts = counts_after no_counts ds in
      (λ i. typed_module (set ds at e) (same_table ds at d e g (inr (inr (inl r))) no_function i) (same_counts ds at d e g (inr (inr (inl r))) i))
      ∙ parts_revised ds at d e g (inr (inr (inl r))) t c (set (flat_map (λ (x : Decl). axioms_in t c x.body) ds) (count_by (λ (x : Decl). is_axiom x.body) (take at ds)) f) (flat_map (λ (x : Decl). procs_in ds t c x.body) ds)
      (other_axiom t c f made) (procs_stay ds at d e g (λ n. ap (implements n) r.new ∙ sym (ap (implements n) r.old)) (λ xs t c. ap (procs_in xs t c) r.new ∙ sym (ap (procs_in xs t c) r.old)) t c)

  pub axioms_there : count_by (λ (x : Decl). is_axiom x.body) (take at ds) < length (module_of ds).axioms
  axioms_there =
      let t : Table = table_of ds in
      let c : Counts = counts_after no_counts ds in
      let stands : is_axiom (get_or ds at e).body ≡ true = ap (λ (x : Decl). is_axiom x.body) (get_or_from_slice_get ds at d e g) ∙ ap is_axiom r.old in
      let one : length (axioms_in t c (get_or ds at e).body) ≡ 1 = one_each t c (get_or ds at e).body ∙ ap (λ b. cond b 1 0) stands in
      omega (arith, one, how_many t c (take at ds), length-flat_map-take (λ (x : Decl). axioms_in t c x.body) ds at e (slice_get_within ds at d g))
