-- In the module of a program without faults the numbers in a modifies are numbers of globals.
use Rattle.std.proofs.Common.{◌≡◌, refl, sym, ◌∙◌, subst, ℕ, zero, suc, ◌+◌, ◌<◌, arith, List, [], ◌∷◌, length, Option, Some, None}
use Rattle.std.specs.Prelude.{filter_map, Contains}
use Rattle.std.specs.List.{AllByRecursion, range_with_len, cons_option}
use Rattle.std.proofs.lemmas.List.Elements.{Contains-append_right}
use Rattle.std.proofs.lemmas.Option.{slice_get_within}
use Rattle.bpl_ast.specs.Place.{Name}
use Rattle.bpl_ast.specs.Statement.{Decl}
use Rattle.bpl_model.specs.Numbering.{global_numbers, global_sorts}
use Rattle.bpl_scopes.specs.Scopes.{Text, Entity, a_constant, a_global, a_function, a_synonym, a_procedure, entity_of}
use Rattle.bpl_declaration_faults.specs.DeclFaults.{fault_of}
use Rattle.bpl_resolve.specs.Elaborate.{entity_number, modified_number}
use Rattle.bpl_resolve.proofs.ModuleSorts.{T, C, M, numbered_entity, constants_count}
use Rattle.bpl_resolve.proofs.ProcedureVariables.{map_length}

in_range : (a n k : ℕ) → k < n → Contains (range_with_len a n) (a + k)
in_range a zero k l = absurd (omega (arith, l))
in_range a (suc n) zero l = let e : a ≡ a + 0 = omega arith in (0, omega arith, e)
in_range a (suc n) (suc k) l = let e : a + 1 + k ≡ a + suc k = omega arith in
    subst (Contains (range_with_len a (suc n))) e (Contains-append_right (a ∷ []) (range_with_len (a + 1) n) (a + 1 + k) (in_range (a + 1) n k (omega (arith, l))))

module _ (ds : List Decl) (none : fault_of ds ≡ None) where
  one : (n : Text) (o : Option Entity) → entity_of (T ds none) n ≡ o → (xs : List ℕ) → AllByRecursion (Contains (global_numbers (M ds none))) xs
      → AllByRecursion (Contains (global_numbers (M ds none))) (cons_option (entity_number (C ds none) o) xs)
  one n None q xs h = h
  one n (Some (a_global k s)) q xs h =
      let a = slice_get_within (global_sorts (M ds none)) k _ (numbered_entity ds none n (a_global k s) q) in
      let d = map_length (λ c. c.sort) (M ds none).globals in
      let b = map_length (λ c. c.sort) (M ds none).consts in
      let e : length (M ds none).consts ≡ (C ds none).constants = sym b ∙ constants_count ds none in
      (subst (λ w. Contains (global_numbers (M ds none)) (w + k)) e (in_range (length (M ds none).consts) (length (M ds none).globals) k (omega (arith, a, d))), h)
  one n (Some (a_constant k s)) q xs h = h
  one n (Some (a_function f)) q xs h = h
  one n (Some (a_synonym s)) q xs h = h
  one n (Some (a_procedure k d)) q xs h = h

  pub modifies_globals : (ns : List Name) → AllByRecursion (Contains (global_numbers (M ds none))) (filter_map (modified_number (T ds none) (C ds none)) ns)
  modifies_globals [] = tt
  modifies_globals (n ∷ ns) = one n.text (entity_of (T ds none) n.text) refl _ (modifies_globals ns)
