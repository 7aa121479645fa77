-- What a function applies has a smaller number, and each definition stands at its function's number.
use Rattle.std.specs.Prelude.{◌≡◌, ⊤, ℕ, ◌+◌, ◌<◌, ◌≤◌, Bool, true, false, List, [], ◌∷◌, ◌++◌, slice_get, bytes_eq, Some, None}
use Rattle.std.proofs.Common.{refl, ap, sym, ◌∙◌, subst, arith, inl, inr, ◌⊎◌}
use Rattle.bpl_ast.specs.Statement.{Decl}
use Rattle.bpl_model.specs.Numbering.{defs_of}
use Rattle.bpl_scopes.specs.declared.part.Part.TheVariants.{Function as in_function}
use Rattle.bpl_scopes.specs.Scopes.{Text, Heading, Entity, a_constant, a_global, a_function, a_synonym, a_procedure, Table, table_of, Counts, no_counts, counts_after, entity_of, BoundVar, Meaning, declared_as, meaning}
use Rattle.bpl_scopes.specs.Sorts.{applied_heading}
use Rattle.bpl_scopes.specs.Functions.{is_function, in_number_order, position_of, function_number}
use Rattle.bpl_declaration_faults.specs.DeclFaults.{fault_of}
use Rattle.bpl_resolve.specs.Elaborate.{module_of}
use Rattle.bpl_resolve.proofs.Ways.{Member, same_text, text_itself}
use Rattle.bpl_resolve.proofs.FunctionOrder.{NextOf, OrderedAfter, either_side, in_order, order_has, order_only}
use Rattle.bpl_resolve.proofs.EntriesFine.{synonyms_fine}
use Rattle.bpl_resolve.proofs.ScopesKnown.{name_has, any_bounds}
use Rattle.bpl_resolve.proofs.ScopesFit.{def_of, def_at}
use Rattle.bpl_resolve.proofs.ModuleSorts.{fine, acyclic}

-- of names of which each stands behind those that it applies, one that is applied stands before
module _ (t : Table) (n m : Text) (next : Member m (NextOf t n)) where
  one_further : (k : Text) (ns : List Text) → position_of (k ∷ ns) m ≤ position_of ns m + 1
  one_further k ns = by (bytes_eq k m)
    where
      by : (b : Bool) → elim b [ true ↦ 0 | false ↦ position_of ns m + 1 ] ≤ position_of ns m + 1
      by true = omega arith
      by false = omega arith

  in_front : (k : Text) (ns : List Text) → m ≡ k → position_of (k ∷ ns) m ≡ 0
  in_front k ns z = by (bytes_eq k m) (subst (λ w. bytes_eq w m ≡ true) z (text_itself m))
    where
      by : (b : Bool) → b ≡ true → ◌≡◌ {A = ℕ} (elim b [ true ↦ 0 | false ↦ position_of ns m + 1 ]) 0
      by true e = refl
      by false e = absurd (cc)

  stands_before : (before ns : List Text) → OrderedAfter t before ns → Member n ns → Member m before ⊎ (position_of ns m < position_of ns n)
  stands_before before [] o i = absurd i
  stands_before before (k ∷ ns) o i = by (bytes_eq k n) refl i (λ j. stands_before (before ++ k ∷ []) ns o.1 j)
    where
      sides : Member m before ⊎ Member m (k ∷ []) → Member m before ⊎ (position_of (k ∷ ns) m < position_of ns n + 1)
      sides (inl h) = inl h
      sides (inr (inl z)) = let a = in_front k ns z in inr (omega (arith, a))
      sides (inr (inr z)) = absurd z

      further : Member m (before ++ k ∷ []) ⊎ (position_of ns m < position_of ns n) → Member m before ⊎ (position_of (k ∷ ns) m < position_of ns n + 1)
      further (inl h) = sides (either_side m before (k ∷ []) h)
      further (inr l) = let a = one_further k ns in inr (omega (arith, a, l))

      by : (b : Bool) → bytes_eq k n ≡ b → Member n (k ∷ ns) → (Member n ns → Member m (before ++ k ∷ []) ⊎ (position_of ns m < position_of ns n))
          → Member m before ⊎ (position_of (k ∷ ns) m < elim b [ true ↦ 0 | false ↦ position_of ns n + 1 ])
      by true e j later = inl (o.0 m (subst (λ w. Member m (NextOf t w)) (sym (same_text k n e)) next))
      by false e (inl z) later = let bad : true ≡ false = sym (subst (λ w. bytes_eq w n ≡ true) z (text_itself n)) ∙ e in absurd (cc)
      by false e (inr j) later = further (later j)

module _ (ds : List Decl) (none : fault_of ds ≡ None) where
  abbrev T : Table
  T = table_of ds

  abbrev C : Counts
  C = counts_after no_counts ds

  -- what a function applies has a smaller number
  pub applied_before : (n m : Text) → is_function (entity_of T n) ≡ true → Member m (NextOf T n) → function_number T m < function_number T n
  unfolding function_number
  applied_before n m x i = by (stands_before T n m i [] (in_number_order T) (in_order T (synonyms_fine T C (fine ds none)) (acyclic ds none)) (order_has T (synonyms_fine T C (fine ds none)) (acyclic ds none) n x))
    where
      by : Member m [] ⊎ (position_of (in_number_order T) m < position_of (in_number_order T) n) → position_of (in_number_order T) m < position_of (in_number_order T) n
      by (inl h) = absurd h
      by (inr h) = h

  -- a function's definition stands at its number
  pub def_there : (n : Text) (h : Heading) → entity_of T n ≡ Some (a_function h) → slice_get (defs_of (module_of ds)) (function_number T n) ≡ Some (def_of ds T C n h)
  unfolding function_number
  def_there n h e =
      def_at ds T C (in_number_order T) n h (order_only T (synonyms_fine T C (fine ds none)) (acyclic ds none))
      (order_has T (synonyms_fine T C (fine ds none)) (acyclic ds none) n (ap is_function e)) e

  -- what is applied in a function's scope is a function
  abbrev IsIt : Text → Meaning → Type 0
  IsIt n m = (h : Heading) → applied_heading m ≡ Some h → is_function (entity_of T n) ≡ true

  entity_is : (n : Text) (e : Entity) → entity_of T n ≡ Some e → IsIt n (declared_as e)
  entity_is n (a_function f) q h e = ap is_function q
  entity_is n (a_constant k s) q h e = absurd (cc)
  entity_is n (a_global k s) q h e = absurd (cc)
  entity_is n (a_synonym s) q h e = absurd (cc)
  entity_is n (a_procedure k d) q h e = absurd (cc)

  pub applied_is_function : (bs : List BoundVar) (n : Text) → IsIt n (meaning (record { table = T; counts = C; part = in_function; vars = []; bounds = bs }) n)
  applied_is_function bs n = name_has (IsIt n) (λ h e. absurd (cc)) (λ o. ⊤) (λ j o i h e. absurd (cc)) (record { table = T; counts = C; part = in_function; vars = []; bounds = bs }) n (entity_is n) tt (any_bounds bs)
