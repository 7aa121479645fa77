-- The where clauses of groups without faults in both readings are of the type of truth values; so are the clauses of contracts.
use Rattle.std.proofs.Common.{◌≡◌, Option, List, [], ◌∷◌, ◌++◌, map}
use Rattle.std.specs.List.{AllByRecursion}
use Rattle.logic_core.specs.Tree.{Tree}
use Rattle.bpl_ast.specs.Place.{Name, Ty as Written}
use Rattle.bpl_ast.specs.Tree.{Expr, Groups, no_groups, group, Clause, no_clause, clause}
use Rattle.bpl_model.specs.Module.{Global}
use Rattle.bpl_scopes.specs.Scopes.{Table, Counts, Var, Scope}
use Rattle.bpl_faults.specs.ExprFaults.{formula_faults, clause_faults, group_clause_faults}
use Rattle.bpl_terms.specs.Terms.{term_of}
use Rattle.bpl_resolve.specs.Elaborate.{clause_term, clause_terms, locals_with, globals_with}
use Rattle.bpl_resolve.proofs.HasSort.{first_empty, second_empty}
use Rattle.bpl_sorts.specs.Types.{Ty}
use Rattle.bpl_sorts.specs.DeclaredTypes.{Types}
use Rattle.bpl_sorts.specs.TypedModule.{IsTruth, IsOptional, AreClauses}

module _ (T : Types) (types : List Ty) where
  pub with_clauses : (vs : List Var) (cs : List (Option Tree)) → AllByRecursion (IsOptional T types) cs → AreClauses T types (locals_with vs cs)
  with_clauses [] cs h = tt
  with_clauses (v ∷ vs) [] h = tt
  with_clauses (v ∷ vs) (c ∷ cs) h = (h.0, with_clauses vs cs h.1)

  pub globals_clauses : (t : Table) (c : Counts) (ps : List (Name × Written)) (cs : List (Option Tree)) → AllByRecursion (IsOptional T types) cs → AllByRecursion (λ (g : Global). IsOptional T types g.clause) (globals_with t c ps cs)
  globals_clauses t c [] cs h = tt
  globals_clauses t c (p ∷ ps) [] h = tt
  globals_clauses t c (p ∷ ps) (k ∷ cs) h = (h.0, globals_clauses t c ps cs h.1)

  -- over two scopes in which formulas without faults are of the type of truth values
  module _ (s u : Scope) (truth : (x : Expr) → formula_faults s x ≡ [] → formula_faults u x ≡ [] → IsTruth T types (term_of s x)) where
    clause_typed : (c : Clause) → clause_faults s c ≡ [] → clause_faults u c ≡ [] → IsOptional T types (clause_term s c)
    clause_typed no_clause e g = tt
    clause_typed (clause p x) e g = truth x e g

    each : (ns : List Name) (o : Option Tree) (cs : List (Option Tree)) → IsOptional T types o → AllByRecursion (IsOptional T types) cs → AllByRecursion (IsOptional T types) (map (λ (n : Name). o) ns ++ cs)
    each [] o cs h g = g
    each (n ∷ ns) o cs h g = (h, each ns o cs h g)

    pub groups_typed : (gs : Groups) → group_clause_faults s gs ≡ [] → group_clause_faults u gs ≡ [] → AllByRecursion (IsOptional T types) (clause_terms s gs)
    groups_typed no_groups e g = tt
    groups_typed (group ns t c gs) e g = each ns (clause_term s c) (clause_terms s gs) (clause_typed c (first_empty _ _ e) (first_empty _ _ g)) (groups_typed gs (second_empty (clause_faults s c) _ e) (second_empty (clause_faults u c) _ g))
