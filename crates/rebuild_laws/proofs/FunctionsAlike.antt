-- The new numbers of functions whose names are met: the old number comes back, and parameters, result and whether it is logical stay.
use Rattle.std.specs.Prelude.{◌≡◌, ℕ, zero, suc, Bool, true, false, ◌&&◌, ◌==◌, List, [], ◌∷◌, ◌++◌, map, flat_map, slice_get, Option, Some, None}
use Rattle.std.proofs.Common.{refl, ap, sym, ◌∙◌, subst, inl, inr, ◌⊎◌}
use Rattle.logic_core.proofs.Booleans.{both_true}
use Rattle.logic_core.specs.Tree.{Kind}
use Rattle.bpl_ast.specs.Place.{Ty}
use Rattle.bpl_ast.specs.Statement.{Argument, Decl}
use Rattle.bpl_model.specs.Module.{Proc}
use Rattle.bpl_scopes.specs.Scopes.{Text, Heading, Entity, a_function, Table, table_of, Counts, no_counts, counts_after, entity_of, texts_of}
use Rattle.bpl_scopes.specs.Sorts.{sort_of_type, argument_sorts}
use Rattle.bpl_scopes.specs.Functions.{names_in_type, is_logical, in_number_order, function_number, argument_names}
use Rattle.bpl_texts.specs.Uses.{type_uses, guard_uses, arguments_uses}
use Rattle.bpl_declaration_faults.specs.DeclFaults.{fault_of}
use Rattle.canonical_text.specs.Same.{bare_type}
use Rattle.canonical_text.specs.SameStatement.{bare_argument}
use Rattle.bpl_resolve.proofs.Ways.{Member}
use Rattle.bpl_resolve.proofs.FunctionOrder.{stays, order_only}
use Rattle.bpl_resolve.proofs.EntriesFine.{synonyms_fine}
use Rattle.bpl_resolve.proofs.ModuleSorts.{fine, acyclic}
use Rattle.bpl_resolve.proofs.ScopesFit.{some_heading}
use Rattle.bpl_resolve.proofs.TypeSorts.{member_right}
use Rattle.rebuild_laws.specs.Twins.{Twins}
use Rattle.rebuild_laws.proofs.NamesInUse.{Met, used}
use Rattle.rebuild_laws.proofs.Settled.{same_number}
use Rattle.rebuild_laws.proofs.UsedNames.{entity_entry}
use Rattle.rebuild_laws.proofs.EntityUses.{entity_uses, plain_uses, used_in_entity}
use Rattle.rebuild_laws.proofs.SameSorts.{same_type_sort}
use Rattle.rebuild_laws.proofs.SameNames.{of_name, is_met, so_met, function_met, functions_met, new_function, function_there}
use Rattle.rebuild_laws.proofs.AppliedNames.{bare_heading}
use Rattle.rebuild_laws.proofs.SameLogical.{both_functions, same_heading, same_logical}

slice_member : (ns : List Text) (k : ℕ) (n : Text) → slice_get ns k ≡ Some n → Member n ns
slice_member [] k n e = absurd (cc)
slice_member (m ∷ ms) zero n e = let z : m ≡ n = cc in inl (sym z)
slice_member (m ∷ ms) (suc k) n e = inr (slice_member ms k n e)

some_name : (f : Text → Bool) (o : Option Text) → of_name false f o ≡ true → (n : Text) × (o ≡ Some n) × (f n ≡ true)
some_name f None e = absurd (cc)
some_name f (Some n) e = (n, refl, e)

in_uses : (s : Ty) (m : Text) → Member m (names_in_type s) → Member m (type_uses [] s)
in_uses s m i = subst (Member m) (sym (plain_uses (names_in_type s))) i

module _ (ds : List Decl) (p : Proc) (es : List Decl) (q : Proc) (twins : Twins ds p es q) (back : Twins es q ds p) (none : fault_of ds ≡ None) (none_there : fault_of es ≡ None) where
  abbrev T : Table
  T = table_of ds

  abbrev U : Table
  U = table_of es

  same_arguments : (xs ys : List Argument) → map bare_argument xs ≡ map bare_argument ys → ((m : Text) → Member m (arguments_uses xs) → Met ds p m) → argument_sorts T xs ≡ argument_sorts U ys
  same_arguments [] [] e h = refl
  same_arguments [] (y ∷ ys) e h = absurd (cc)
  same_arguments (x ∷ xs) [] e h = absurd (cc)
  same_arguments (x ∷ xs) (y ∷ ys) e h =
      let first : bare_argument x ≡ bare_argument y = cc in
      let rest : map bare_argument xs ≡ map bare_argument ys = cc in
      λ i. same_type_sort ds p es q twins back none none_there x.type y.type (ap (λ (a : Argument). a.type) first) (λ m k. h m (stays m (type_uses [] x.type) (arguments_uses xs) (in_uses x.type m k))) i
      ∷ same_arguments xs ys rest (λ m k. h m (member_right m (type_uses [] x.type) (arguments_uses xs) k)) i

  -- a function that is met, here and there
  pub record BothFunctions (f : ℕ) : Type 0 where
    pub name : Text
    pub at : slice_get (in_number_order T) f ≡ Some name
    pub met : Met ds p name
    pub number : function_number T name ≡ f
    pub heading : Heading
    pub here : entity_of T name ≡ Some (a_function heading)
    pub new_heading : Heading
    pub is_there : entity_of U name ≡ Some (a_function new_heading)
    pub new : new_function ds es f ≡ function_number U name
    pub old : new_function es ds (new_function ds es f) ≡ f
    pub same : bare_heading heading ≡ bare_heading new_heading
    pub ins : argument_sorts T heading.ins ≡ argument_sorts U new_heading.ins
    pub result : sort_of_type T [] heading.result ≡ sort_of_type U [] new_heading.result
    pub logical : is_logical T name ≡ is_logical U name

  used_by : (n : Text) (g : Heading) → Met ds p n → entity_of T n ≡ Some (a_function g) → (m : Text) → Member m (entity_uses (a_function g)) → Met ds p m
  used_by n g u e m i =
      let r = entity_entry T n (a_function g) e in
      used (used_in_entity ds p n m r.0 u r.1 (subst (λ w. Member m (entity_uses w)) (sym r.2) i))

  pub both_met : (f : ℕ) → functions_met ds p f ≡ true → BothFunctions f
  both_met f h =
      let r = some_name (function_met ds p f) (slice_get (in_number_order T) f) h in
      let b = both_true (is_met ds p r.0) (function_number T r.0 == f) r.2 in
      let u = so_met ds p r.0 b.0 in
      let number = same_number (function_number T r.0) f b.1 in
      let is = order_only T (synonyms_fine T (counts_after no_counts ds) (fine ds none)) (acyclic ds none) r.0 (slice_member (in_number_order T) f r.0 r.1) in
      let g = some_heading (entity_of T r.0) is in
      let k = some_heading (entity_of U r.0) (sym (both_functions ds p es q twins back none none_there r.0 u) ∙ is) in
      let s = same_heading ds p es q twins back none none_there r.0 g.0 k.0 u g.1 k.1 in
      let new : new_function ds es f ≡ function_number U r.0 = ap (of_name 0 (λ n. function_number U n)) r.1 in
      let old = ap (new_function es ds) new ∙ (ap (of_name 0 (λ n. function_number T n)) (function_there es none_there r.0 k.0 k.1) ∙ number) in
      record {
        name = r.0;
        at = r.1;
        met = u;
        number = number;
        heading = g.0;
        here = g.1;
        new_heading = k.0;
        is_there = k.1;
        new = new;
        old = old;
        same = s;
        ins = same_arguments (g.0).ins (k.0).ins (ap (λ (w : Heading). w.ins) s) (λ m i. used_by r.0 g.0 u g.1 m (stays m (arguments_uses (g.0).ins) _ i));
        result = same_type_sort ds p es q twins back none none_there (g.0).result (k.0).result (ap (λ (w : Heading). w.result) s)
            (λ m i. used_by r.0 g.0 u g.1 m (member_right m (arguments_uses (g.0).ins) (type_uses [] (g.0).result ++ guard_uses (texts_of (argument_names (g.0).ins)) (g.0).value) (stays m (type_uses [] (g.0).result) _ (in_uses (g.0).result m i))));
        logical = same_logical ds p es q twins back none none_there r.0 u is;
      }
