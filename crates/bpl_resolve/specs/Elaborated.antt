-- What declarations without faults give a typed module.
use Rattle.std.specs.Prelude.{◌≡◌, ℕ, Bool, true, false, List, [], ◌∷◌, ◌++◌, map, filter_map, flat_map, bytes_eq, Option, Some, None, option_map}
use Rattle.bv_base.specs.declared.place.Place.{Place}
use Rattle.flow_core.specs.declared.block.Invariant.{Invariant as Assumed}
use Rattle.flow_core.specs.declared.mark.GoalKind.TheVariants.{Assert}
use Rattle.logic_core.specs.Tree.{Tree, free, truth}
use Rattle.bpl_ast.specs.Place.{Name, Ty}
use Rattle.bpl_ast.specs.Tree.{Expr, Exprs, no_exprs, item, Groups, no_groups, group, Clause, no_clause, clause}
use Rattle.bpl_ast.specs.Statement.{Target, Guard, Invariant, Stmt as Statement, stmt as statement, Action, assert, assume, havoc, assign, call, branches, loop, «break», «return», goto, Branches, branch, otherwise, no_branch, Stmts as Statements, no_stmts as no_statements, next, Spec as SpecTree, requires, ensures, modifies, Body, Signature, Argument, DeclBody, constant, axiom_of, variables, procedure, implementation, Decl}
use Rattle.bpl_model.specs.Module.{Const, Function, Global, Local, Spec, Stmt, Stmts, Proc, Module}
use Rattle.bpl_scopes.specs.declared.part.Part.TheVariants.{Axiom as in_axiom, Requires as in_requires, Ensures as in_ensures, Body as in_body, ClauseOfGlobal as in_clause_of_global, ClauseOfIn as in_clause_of_in, ClauseOfOut as in_clause_of_out, ClauseOfLocal as in_clause_of_local}
use Rattle.bpl_scopes.specs.Scopes.{Text, Heading, Entity, a_global, a_procedure, Table, table_of, Counts, no_counts, counts_after, names_of, texts_of, entity_of, Var, Scope, meaning}
use Rattle.bpl_scopes.specs.Sorts.{sort_of_type, argument_sorts}
use Rattle.bpl_scopes.specs.Functions.{function_in, is_logical, in_number_order}
use Rattle.bpl_declaration_faults.specs.Variables.{in_vars, out_vars, local_vars, parameters, body_vars, scope_of, function_scope}
use Rattle.bpl_terms.specs.Terms.{term_of, terms_in, meaning_term, stored, sort_or_int, no_term, global_number}

-- the number of a variable that is set
abbrev pub number_of_term : Tree → ℕ
number_of_term (free v) = v
number_of_term t = 0

abbrev pub target_number : Scope → Name → ℕ
target_number s n = number_of_term (meaning_term false s.counts (meaning s n.text))

abbrev pub target_numbers : Scope → List Name → List ℕ
target_numbers s ns = map (target_number s) ns

-- a target with its right side
abbrev pub assignment : Scope → Target → Expr → ℕ × Tree
assignment s t x = (target_number s t.name, stored (free (target_number s t.name)) (terms_in s false t.indices) (term_of s x))

-- each target with its right side
abbrev pub assignments : Scope → List Target → Exprs → List (ℕ × Tree)
assignments s [] xs = []
assignments s (t ∷ ts) no_exprs = []
assignments s (t ∷ ts) (item x xs) = assignment s t x ∷ assignments s ts xs

abbrev pub arguments : Scope → Exprs → List Tree
arguments s no_exprs = []
arguments s (item x xs) = term_of s x ∷ arguments s xs

abbrev pub procedure_number : Option Entity → ℕ
procedure_number (Some (a_procedure k c)) = k
procedure_number e = 0

abbrev pub guard_of : Scope → Guard → Option Tree
guard_of s g = option_map (term_of s) g

-- the invariants of a loop
abbrev pub invariants_of : Scope → List Invariant → List Assumed
invariants_of s is = map (λ (i : Invariant). record { free = i.free; place = i.at; formula = term_of s i.formula }) is

-- labels stand around a statement
abbrev pub labelled_as : List Name → Stmt → Stmt
labelled_as [] s = s
labelled_as (n ∷ ns) s = Stmt.labelled (texts_of (n ∷ ns)) s

-- what goes on behind a branch is an else list
abbrev pub is_else : Branches → Bool
is_else (branch p g xs bs) = false
is_else (otherwise xs) = true
is_else no_branch = false

abbrev mutual
  pub stmts_of : Scope → Statements → Stmts
  stmts_of s no_statements = Stmts.no_stmts
  stmts_of s (next x xs) = Stmts.stmt (stmt_of s x) (stmts_of s xs)

  pub stmt_of : Scope → Statement → Stmt
  stmt_of s (statement ls p a) = labelled_as ls (action_of s p a)

  pub action_of : Scope → Place → Action → Stmt
  action_of s p (assert x) = Stmt.assert (record { place = p; kind = Assert }) (term_of s x)
  action_of s p (assume x) = Stmt.assume p (term_of s x)
  action_of s p (havoc ns) = Stmt.havoc p (target_numbers s ns)
  action_of s p (assign ts xs) = Stmt.assign p (assignments s ts xs)
  action_of s p (call ns f xs) = Stmt.call p (procedure_number (entity_of s.table f.text)) (arguments s xs) (target_numbers s ns)
  action_of s p (branches bs) = chain_of s p bs
  action_of s p (loop g is xs) = Stmt.while p (guard_of s g) (invariants_of s is) (stmts_of s xs)
  action_of s p («break» l) = Stmt.break p (option_map (λ (n : Name). n.text) l)
  action_of s p «return» = Stmt.return p
  action_of s p (goto ns) = Stmt.goto p (texts_of ns)

  -- an `else if` is the only statement of the other branch, which is no else list then
  pub chain_of : Scope → Place → Branches → Stmt
  chain_of s q (branch p g xs bs) = Stmt.if_else p (is_else bs) (guard_of s g) (stmts_of s xs) (others_of s bs)
  chain_of s q (otherwise xs) = Stmt.if_else q true (Some (truth false)) Stmts.no_stmts (stmts_of s xs)
  chain_of s q no_branch = Stmt.if_else q false (Some (truth false)) Stmts.no_stmts Stmts.no_stmts

  pub others_of : Scope → Branches → Stmts
  others_of s (branch p g xs bs) = Stmts.stmt (Stmt.if_else p (is_else bs) (guard_of s g) (stmts_of s xs) (others_of s bs)) Stmts.no_stmts
  others_of s (otherwise xs) = stmts_of s xs
  others_of s no_branch = Stmts.no_stmts

abbrev pub clause_term : Scope → Clause → Option Tree
clause_term s no_clause = None
clause_term s (clause p x) = Some (term_of s x)

-- the clause of each name of groups: that of a group belongs to each of its names
abbrev pub clause_terms : Scope → Groups → List (Option Tree)
clause_terms s no_groups = []
clause_terms s (group ns t c gs) = map (λ (n : Name). clause_term s c) ns ++ clause_terms s gs

-- variables with their clauses
abbrev pub locals_with : List Var → List (Option Tree) → List Local
locals_with [] cs = []
locals_with (v ∷ vs) [] = []
locals_with (v ∷ vs) (c ∷ cs) = record { name = v.name; sort = sort_or_int v.sort; own = false; clause = c } ∷ locals_with vs cs

-- the number of a global variable
abbrev pub entity_number : Counts → Option Entity → Option ℕ
entity_number c (Some (a_global k t)) = Some (global_number c k)
entity_number c e = None

abbrev pub modified_number : Table → Counts → Name → Option ℕ
modified_number t c n = entity_number c (entity_of t n.text)

-- the clauses of a contract, where these are the parameters
abbrev pub spec_in : Table → Counts → List Var → SpecTree → Spec
spec_in t c vs (requires p f x) = Spec.requires f p (term_of (scope_of t c in_requires vs) x)
spec_in t c vs (ensures p f x) = Spec.ensures f p (term_of (scope_of t c in_ensures vs) x)
spec_in t c vs (modifies p ns) = Spec.modifies (filter_map (modified_number t c) ns)

abbrev pub spec_of : Table → Counts → Signature → SpecTree → Spec
spec_of t c g s = spec_in t c (parameters t c g) s

-- a body, with the parameters of the declaration in which it stands
abbrev pub Implemented : Type 0
Implemented = Signature × Body

abbrev pub or_else : Option Implemented → Option Implemented → Option Implemented
or_else None b = b
or_else (Some a) b = Some a

abbrev pub implements : Text → DeclBody → Option Implemented
implements n (implementation m ps g b) = elim (bytes_eq m.text n) [ true ↦ Some (g, b) | false ↦ None ]
implements n d = None

-- the first `implementation` of a procedure
abbrev pub implementation_of : List Decl → Text → Option Implemented
implementation_of [] n = None
implementation_of (d ∷ ds) n = or_else (implements n d.body) (implementation_of ds n)

abbrev pub own_body : Signature → Option Body → Option Implemented
own_body g None = None
own_body g (Some b) = Some (g, b)

abbrev pub proc_locals : Table → Counts → Option Implemented → List Local
proc_locals t c None = []
proc_locals t c (Some i) = locals_with (local_vars t c i.0 i.1.locals) (flat_map (clause_terms (scope_of t c in_clause_of_local (body_vars t c i.0 i.1.locals))) i.1.locals)

abbrev pub proc_body : Table → Counts → Option Implemented → Option Stmts
proc_body t c None = None
proc_body t c (Some i) = Some (stmts_of (scope_of t c in_body (body_vars t c i.0 i.1.locals)) i.1.stmts)

abbrev pub proc_of : Table → Counts → Text → Signature → List SpecTree → Option Implemented → Proc
proc_of t c n g ss i = record {
  name = n;
  ins = locals_with (in_vars t c g) (clause_terms (scope_of t c in_clause_of_in (parameters t c g)) g.ins);
  outs = locals_with (out_vars t c g) (clause_terms (scope_of t c in_clause_of_out (parameters t c g)) g.outs);
  locals = proc_locals t c i;
  specs = map (spec_of t c g) ss;
  body = proc_body t c i;
}

-- what a declaration gives the module
module _ (t : Table) (c : Counts) where
  abbrev pub consts_in : DeclBody → List Const
  consts_in (constant u ns s) = map (λ (n : Name). record { name = n.text; sort = sort_or_int (sort_of_type t [] s) }) ns
  consts_in d = []

  abbrev pub globals_with : List (Name × Ty) → List (Option Tree) → List Global
  globals_with [] cs = []
  globals_with (p ∷ ps) [] = []
  globals_with (p ∷ ps) (k ∷ ks) = record { name = (p.0).text; sort = sort_or_int (sort_of_type t [] p.1); clause = k } ∷ globals_with ps ks

  abbrev pub globals_in : DeclBody → List Global
  globals_in (variables gs) = globals_with (names_of gs) (clause_terms (scope_of t c in_clause_of_global []) gs)
  globals_in d = []

  abbrev pub axioms_in : DeclBody → List Tree
  axioms_in (axiom_of x) = term_of (scope_of t c in_axiom []) x ∷ []
  axioms_in d = []

  abbrev pub value_term : List Argument → Option Expr → Tree
  value_term ins None = no_term
  value_term ins (Some x) = term_of (function_scope t c ins) x

  -- the function of a name
  abbrev pub function_def : Text → Option Heading → List Function
  function_def n None = []
  function_def n (Some h) = record {
    name = n;
    def = record { params = map sort_or_int (argument_sorts t h.ins); sort = sort_or_int (sort_of_type t [] h.result); logical = is_logical t n; body = value_term h.ins h.value };
  } ∷ []

-- among all declarations of the program
abbrev pub procs_in : List Decl → Table → Counts → DeclBody → List Proc
procs_in ds t c (procedure n ps g ss b) = proc_of t c n.text g ss (or_else (own_body g b) (implementation_of ds n.text)) ∷ []
procs_in ds t c d = []

-- what all declarations give it
module _ (ds : List Decl) (t : Table) (c : Counts) where
  abbrev pub all_consts : List Const
  all_consts = flat_map (λ (d : Decl). consts_in t c d.body) ds

  abbrev pub all_axioms : List Tree
  all_axioms = flat_map (λ (d : Decl). axioms_in t c d.body) ds

  abbrev pub all_functions : List Function
  all_functions = flat_map (λ n. function_def t c n (function_in (entity_of t n))) (in_number_order t)

  abbrev pub all_globals : List Global
  all_globals = flat_map (λ (d : Decl). globals_in t c d.body) ds

  abbrev pub all_procs : List Proc
  all_procs = flat_map (λ (d : Decl). procs_in ds t c d.body) ds

-- over the declarations' names and numbers
pub record IsElaboratedBy (ds : List Decl) (t : Table) (c : Counts) (m : Module) : Type 0 where
  pub consts : m.consts ≡ all_consts ds t c
  pub axioms : m.axioms ≡ all_axioms ds t c
  pub functions : m.functions ≡ all_functions ds t c
  pub globals : m.globals ≡ all_globals ds t c
  pub procs : m.procs ≡ all_procs ds t c

-- the module of declarations without faults; of their texts nothing is said
abbrev pub IsElaborated : List Decl → Module → Type 0
IsElaborated ds m = IsElaboratedBy ds (table_of ds) (counts_after no_counts ds) m
