-- The variables of one group more.
use Rattle.std.proofs.Common.{◌≡◌, sym, ap, ◌∙◌, ℕ, ◌+◌, ◌<◌, false, length, drop, get_or, List, [], ◌++◌, map, append_assoc, Option}
use Rattle.logic_core.specs.Tree.{Kind, Tree}
use Rattle.bpl_ast.specs.Place.{Name}
use Rattle.bpl_ast.specs.ExprView.{groups_of, clause_of}
use Rattle.bpl_ast.specs.declared.expr.Group.{Group}
use Rattle.bpl_model.specs.Module.{Global, Local}
use Rattle.bpl_scopes.specs.Scopes.{Text, Scope}
use Rattle.bpl_scopes.specs.Sorts.{sort_of_type}
use Rattle.bpl_faults.proofs.ListedNames.{next_dropped}
use Rattle.bpl_terms.specs.Terms.{sort_or_int}
use Rattle.bpl_resolve.specs.Elaborate.{clause_term}
use Rattle.bpl_resolve.specs.Locals.{locals_in, globals_of}

module _ (s : Scope) where
  abbrev pub named_locals : Option Kind → Option Tree → List Name → List Local
  named_locals k c ns = map (λ (n : Name). record { name = n.text; sort = sort_or_int k; own = false; clause = c }) ns

  abbrev pub named_globals : Option Kind → Option Tree → List Name → List Global
  named_globals k c ns = map (λ (n : Name). record { name = n.text; sort = sort_or_int k; clause = c }) ns

  pub locals_pushed : (h : List Text) (xs : List Group) (i : ℕ) (x : Group) (k : Option Kind) (before after total : List Local) → i < length xs → x ≡ get_or xs i x → k ≡ sort_of_type s.table h x.of
      → after ≡ before ++ named_locals k (clause_term s (clause_of x.condition)) x.names.items
      → before ++ locals_in s h (groups_of (drop i xs)) ≡ total → after ++ locals_in s h (groups_of (drop (i + 1) xs)) ≡ total
  locals_pushed h xs i x k before after total within is sort step made =
      ap (λ w. w ++ locals_in s h (groups_of (drop (i + 1) xs))) (step ∙ ap (λ j. before ++ named_locals j (clause_term s (clause_of x.condition)) x.names.items) sort)
      ∙ append_assoc before (named_locals (sort_of_type s.table h x.of) (clause_term s (clause_of x.condition)) x.names.items) (locals_in s h (groups_of (drop (i + 1) xs)))
      ∙ ap (λ l. before ++ locals_in s h (groups_of l)) (sym (next_dropped xs i x within is)) ∙ made

  pub globals_pushed : (xs : List Group) (i : ℕ) (x : Group) (k : Option Kind) (before after total : List Global) → i < length xs → x ≡ get_or xs i x → k ≡ sort_of_type s.table [] x.of
      → after ≡ before ++ named_globals k (clause_term s (clause_of x.condition)) x.names.items
      → before ++ globals_of s (groups_of (drop i xs)) ≡ total → after ++ globals_of s (groups_of (drop (i + 1) xs)) ≡ total
  globals_pushed xs i x k before after total within is sort step made =
      ap (λ w. w ++ globals_of s (groups_of (drop (i + 1) xs))) (step ∙ ap (λ j. before ++ named_globals j (clause_term s (clause_of x.condition)) x.names.items) sort)
      ∙ append_assoc before (named_globals (sort_of_type s.table [] x.of) (clause_term s (clause_of x.condition)) x.names.items) (globals_of s (groups_of (drop (i + 1) xs)))
      ∙ ap (λ l. before ++ globals_of s (groups_of l)) (sym (next_dropped xs i x within is)) ∙ made
