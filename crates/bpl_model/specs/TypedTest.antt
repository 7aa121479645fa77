-- What a module's type keeps, as a test: each of its parts has one over the procedures, the definitions and the variables.
use Rattle.std.specs.Prelude.{ℕ, ◌==◌, nat_le, nat_lt, Bool, true, false, ◌&&◌, ◌||◌, not, cond, List, [], ◌∷◌, ◌++◌, length, take, map, slice_index_or, slice_get, Option, Some, None, bytes_eq}
use Rattle.std.specs.List.{list_any, list_all}
use Rattle.logic_core.specs.Tree.{Kind, int, boolean, Tree}
use Rattle.logic_core.specs.Def.{Def}
use Rattle.logic_core.specs.Same.{same_kinds}
use Rattle.logic_core.specs.Sorts.{sort_of, is, are, bodies_sorted}
use Rattle.logic_core.specs.Variables.{variables}
use Rattle.logic_core.specs.View.{trees_of}
use Rattle.flow_core.specs.State.{sorts_at}
use Rattle.bpl_model.specs.declared.variables.Variables.{Variables}
use Rattle.bpl_model.specs.Module.{Name, Spec, requires, ensures, modifies, Stmt, assert, assume, havoc, assign, call, if_else, while, break, return, goto, labelled, Stmts, no_stmts, stmt, is_scope, Local, Proc, DeclText, Module}
use Rattle.bpl_model.specs.Numbering.{defs_of, const_sorts, global_sorts, local_sorts}
use Rattle.bpl_model.specs.VariablesView.{variables_of}

abbrev pub distinct : List ℕ → Bool
distinct [] = true
distinct (x ∷ xs) = not (list_any (λ y. y == x) xs) && distinct xs

-- from the first number on, and below the second
abbrev pub between : ℕ → ℕ → ℕ → Bool
between low high v = nat_le low v && nat_lt v high

-- the labels by which a break may leave the statement, and those around it
abbrev pub labels_within : List Name → List Name → Stmt → List Name
labels_within new ls s = cond (is_scope s) (new ++ ls) ls

-- globals, outs and locals may be set
abbrev pub may_be_set : Variables → ℕ → Bool
may_be_set v x = between v.first_global v.first_entry x || between v.first_out (length v.sorts) x

abbrev pub are_targets : Variables → List ℕ → Bool
are_targets v xs = distinct xs && list_all (may_be_set v) xs

abbrev pub is_old : Variables → ℕ → Bool
is_old v x = between v.first_entry v.first_in x

-- an entry value, or an out
abbrev pub is_only_later : Variables → ℕ → Bool
is_only_later v x = is_old v x || nat_le v.first_out x

module _ (defs : List Def) where
  abbrev pub is_formula : List Kind → Tree → Bool
  is_formula vars E = is boolean (sort_of vars defs [] E)

  abbrev pub is_formula_or_none : List Kind → Option Tree → Bool
  is_formula_or_none vars None = true
  is_formula_or_none vars (Some E) = is_formula vars E

  -- the term has the sort of the variable
  abbrev pub fits : List Kind → ℕ × Tree → Bool
  fits vars a = is (slice_index_or vars a.0 int) (sort_of vars defs [] a.1)

  abbrev pub is_call_of : List Kind → Option Proc → List Tree → List ℕ → Bool
  is_call_of vars None es xs = false
  is_call_of vars (Some q) es xs = are vars defs [] (local_sorts q.ins) (trees_of es) && same_kinds (sorts_at vars xs) (local_sorts q.outs)

  module _ (v : Variables) where
    -- a contract reads no local, and a requires no entry value and no out
    abbrev pub is_spec : Spec → Bool
    is_spec (requires free at E) = is_formula (take v.first_local v.sorts) E && not (list_any (is_only_later v) (variables E))
    is_spec (ensures free at E) = is_formula (take v.first_local v.sorts) E
    is_spec (modifies xs) = list_all (between v.first_global v.first_entry) xs

    -- a clause over the first of the variables, which reads no entry value
    abbrev pub is_clause : ℕ → Option Tree → Bool
    is_clause n None = true
    is_clause n (Some E) = is_formula (take n v.sorts) E && not (list_any (is_old v) (variables E))

    -- variables of the program's text, with such clauses
    abbrev pub are_declared : ℕ → List Local → Bool
    are_declared n ls = list_all (λ l. not l.own && is_clause n l.clause) ls

  module _ (procs : List Proc) (v : Variables) where
    abbrev mutual
      -- inside a loop or not, and under these labels
      pub is_typed : Bool → List Name → Stmt → Bool
      is_typed inside ls (assert mark E) = is_formula v.sorts E
      is_typed inside ls (assume at E) = is_formula v.sorts E
      is_typed inside ls (havoc at xs) = are_targets v xs
      is_typed inside ls (assign at ps) = are_targets v (map (λ a. a.0) ps) && list_all (fits v.sorts) ps
      is_typed inside ls (call at q es xs) = are_targets v xs && is_call_of v.sorts (slice_get procs q) es xs
      is_typed inside ls (if_else at has_else g ss ts) = is_formula_or_none v.sorts g && (are_typed inside ls ss && are_typed inside ls ts)
      is_typed inside ls (while at g is ss) = is_formula_or_none v.sorts g && (list_all (λ i. is_formula v.sorts i.formula) is && are_typed true ls ss)
      is_typed inside ls (break at None) = inside
      is_typed inside ls (break at (Some l)) = list_any (bytes_eq l) ls
      is_typed inside ls (return at) = true
      is_typed inside ls (goto at to) = true
      is_typed inside ls (labelled new s) = is_typed inside (labels_within new ls s) s

      pub are_typed : Bool → List Name → Stmts → Bool
      are_typed inside ls no_stmts = true
      are_typed inside ls (stmt s ss) = is_typed inside ls s && are_typed inside ls ss

    abbrev pub is_body : Option Stmts → Bool
    is_body None = true
    is_body (Some ss) = are_typed false [] ss

    abbrev pub is_typed_proc : Proc → Bool
    is_typed_proc p =
        are_declared v v.first_out p.ins
        && (are_declared v v.first_local p.outs && (are_declared v (length v.sorts) p.locals
        && (list_all (is_spec v) p.specs && is_body p.body)))

-- the positions are those of declarations, of which there are n
abbrev pub is_text : ℕ → DeclText → Bool
is_text n d = list_all (λ k. nat_lt k n) d.leads && list_all (λ k. nat_lt k n) d.contract_leads

-- over the definitions, the sorts of the constants, and those of the constants and globals
abbrev pub is_typed_over : List Def → List Kind → List Kind → Module → Bool
is_typed_over defs consts shared m =
    bodies_sorted consts [] defs
    && (list_all (is_formula defs consts) m.axioms
    && (list_all (λ g. is_formula_or_none defs shared g.clause) m.globals
    && (list_all (λ p. is_typed_proc defs m.procs (variables_of m p) p) m.procs
    && list_all (is_text (length m.texts)) m.texts)))

-- an axiom reads constants, and a global's clause constants and globals
abbrev pub is_typed_module : Module → Bool
is_typed_module m = is_typed_over (defs_of m) (const_sorts m) (const_sorts m ++ global_sorts m) m
