-- Variables with their clauses, one after another, are those of each group.
use Rattle.std.proofs.Common.{◌≡◌, refl, sym, ap, ◌∙◌, ℕ, ◌+◌, false, List, [], ◌∷◌, ◌++◌, append_assoc, append-nil, map, flat_map, Option}
use Rattle.logic_core.specs.Tree.{Tree}
use Rattle.bpl_ast.specs.Place.{Name, Ty}
use Rattle.bpl_ast.specs.Tree.{Groups, no_groups, group}
use Rattle.bpl_ast.specs.Statement.{Signature}
use Rattle.bpl_model.specs.Module.{Global, Local}
use Rattle.bpl_scopes.specs.declared.part.Part.TheVariants.{ClauseOfGlobal as in_clause_of_global, ClauseOfIn as in_clause_of_in, ClauseOfOut as in_clause_of_out, ClauseOfLocal as in_clause_of_local}
use Rattle.bpl_scopes.specs.declared.part.Role.{Role}
use Rattle.bpl_scopes.specs.Scopes.{Text, Table, Counts, Scope, typed_names, names_of, texts_of, signature_names}
use Rattle.bpl_scopes.specs.Sorts.{sort_of_type}
use Rattle.bpl_declaration_faults.specs.Variables.{vars_from, locals_of, names_in_body, in_vars, out_vars, local_vars, parameters, body_vars, scope_of}
use Rattle.bpl_terms.specs.Terms.{sort_or_int}
use Rattle.bpl_resolve.specs.Elaborate.{clause_term, clause_terms, locals_with, globals_with}
use Rattle.bpl_resolve.specs.Locals.{locals_in, globals_of}

module _ (s : Scope) (hidden : List Text) (r : Role) where
  abbrev Made : List (Name × Ty) → List (Option Tree) → List Local → Type 0
  Made ps cs ls = (k : ℕ) → locals_with (vars_from s.table hidden r k ps) cs ≡ ls

  abbrev one : Ty → Option Tree → Name → Local
  one t c n = record { name = n.text; sort = sort_or_int (sort_of_type s.table hidden t); own = false; clause = c }

  -- those of a group, before others
  names_made : (t : Ty) (c : Option Tree) (ns : List Name) (ps : List (Name × Ty)) (cs : List (Option Tree)) (ls : List Local) → Made ps cs ls
      → Made (typed_names ns t ++ ps) (map (λ (n : Name). c) ns ++ cs) (map (one t c) ns ++ ls)
  names_made t c [] ps cs ls h = h
  names_made t c (n ∷ ns) ps cs ls h = λ k. ap (λ w. one t c n ∷ w) (names_made t c ns ps cs ls h (k + 1))

  groups_made : (gs : Groups) (ps : List (Name × Ty)) (cs : List (Option Tree)) (ls : List Local) → Made ps cs ls → Made (names_of gs ++ ps) (clause_terms s gs ++ cs) (locals_in s hidden gs ++ ls)
  groups_made no_groups ps cs ls h = h
  groups_made (group ns t c gs) ps cs ls h = λ k.
      (λ i. locals_with (vars_from s.table hidden r k (append_assoc (typed_names ns t) (names_of gs) ps i)) (append_assoc (map (λ (n : Name). clause_term s c) ns) (clause_terms s gs) cs i))
      ∙ names_made t (clause_term s c) ns (names_of gs ++ ps) (clause_terms s gs ++ cs) (locals_in s hidden gs ++ ls) (groups_made gs ps cs ls h) k
      ∙ sym (append_assoc (map (one t (clause_term s c)) ns) (locals_in s hidden gs) ls)

  pub locals_are : (k : ℕ) (gs : Groups) → locals_with (vars_from s.table hidden r k (names_of gs)) (clause_terms s gs) ≡ locals_in s hidden gs
  locals_are k gs = sym (λ i. locals_with (vars_from s.table hidden r k (append-nil (names_of gs) i)) (append-nil (clause_terms s gs) i))
      ∙ groups_made gs [] [] [] (λ j. refl) k ∙ append-nil (locals_in s hidden gs)

  pub each_locals_are : (vs : List Groups) (k : ℕ) → locals_with (vars_from s.table hidden r k (locals_of vs)) (flat_map (clause_terms s) vs) ≡ flat_map (locals_in s hidden) vs
  each_locals_are [] k = refl
  each_locals_are (v ∷ vs) k = groups_made v (locals_of vs) (flat_map (clause_terms s) vs) (flat_map (locals_in s hidden) vs) (each_locals_are vs) k

module _ (t : Table) (c : Counts) (g : Signature) where
  pub ins_are : locals_with (in_vars t c g) (clause_terms (scope_of t c in_clause_of_in (parameters t c g)) g.ins) ≡ locals_in (scope_of t c in_clause_of_in (parameters t c g)) (texts_of (signature_names g)) g.ins
  ins_are = locals_are (scope_of t c in_clause_of_in (parameters t c g)) (texts_of (signature_names g)) _ _ g.ins

  pub outs_are : locals_with (out_vars t c g) (clause_terms (scope_of t c in_clause_of_out (parameters t c g)) g.outs) ≡ locals_in (scope_of t c in_clause_of_out (parameters t c g)) (texts_of (signature_names g)) g.outs
  outs_are = locals_are (scope_of t c in_clause_of_out (parameters t c g)) (texts_of (signature_names g)) _ _ g.outs

  pub body_locals_are : (vs : List Groups) → locals_with (local_vars t c g vs) (flat_map (clause_terms (scope_of t c in_clause_of_local (body_vars t c g vs))) vs)
      ≡ flat_map (locals_in (scope_of t c in_clause_of_local (body_vars t c g vs)) (texts_of (names_in_body g vs))) vs
  body_locals_are vs = each_locals_are (scope_of t c in_clause_of_local (body_vars t c g vs)) (texts_of (names_in_body g vs)) _ vs _

module _ (s : Scope) where
  abbrev one_global : Ty → Option Tree → Name → Global
  one_global t c n = record { name = n.text; sort = sort_or_int (sort_of_type s.table [] t); clause = c }

  global_names_made : (c : Counts) (t : Ty) (k : Option Tree) (ns : List Name) (ps : List (Name × Ty)) (cs : List (Option Tree)) → globals_with s.table c (typed_names ns t ++ ps) (map (λ (n : Name). k) ns ++ cs) ≡ map (one_global t k) ns ++ globals_with s.table c ps cs
  global_names_made c t k [] ps cs = refl
  global_names_made c t k (n ∷ ns) ps cs = ap (λ w. one_global t k n ∷ w) (global_names_made c t k ns ps cs)

  globals_made : (c : Counts) (gs : Groups) → globals_with s.table c (names_of gs) (clause_terms s gs) ≡ globals_of s gs
  globals_made c no_groups = refl
  globals_made c (group ns t k gs) = global_names_made c t (clause_term s k) ns (names_of gs) (clause_terms s gs) ∙ ap (λ w. map (one_global t (clause_term s k)) ns ++ w) (globals_made c gs)

pub globals_are : (t : Table) (c : Counts) (gs : Groups) → globals_with t c (names_of gs) (clause_terms (scope_of t c in_clause_of_global []) gs) ≡ globals_of (scope_of t c in_clause_of_global []) gs
globals_are t c gs = globals_made (scope_of t c in_clause_of_global []) c gs
