-- The faults of each declaration, and the first fault of a program.
use Rattle.std.specs.Prelude.{ℕ, ◌+◌, Bool, true, false, ◌&&◌, List, [], ◌∷◌, ◌++◌, flat_map, bytes_eq, Option, Some, None}
use Rattle.bv_base.specs.declared.place.Place.{Place}
use Rattle.logic_terms.specs.Tree.{Kind}
use Rattle.logic_terms.specs.Same.{same_kind}
use Rattle.bpl_ast.specs.Place.{Name, Params, Ty}
use Rattle.bpl_ast.specs.Tree.{Expr, first_place, Groups}
use Rattle.bpl_ast.specs.Statement.{Argument, Body, Spec, requires, ensures, modifies, Signature, DeclBody, constant, function, axiom_of, variables, synonym, procedure, implementation, Decl}
use Rattle.bpl_scopes.specs.declared.fault.TypeKind.TheVariants.{Twice as twice, Unknown as unknown, Kind as wrong_kind, Arity as arity, Cycle as cycle, Unbuilt as unbuilt}
use Rattle.bpl_scopes.specs.declared.fault.Construct.TheVariants.{UniqueWord as unique_word, Uninterpreted as uninterpreted, TypeWord as type_word}
use Rattle.bpl_scopes.specs.declared.fault.Fault.{Fault}
use Rattle.bv_base.specs.Text.{is_among}
use Rattle.bpl_scopes.specs.Fault.{fault, unless, if_so, again, first_fault}
use Rattle.bpl_scopes.specs.declared.part.Part.TheVariants.{Axiom as in_axiom, Requires as in_requires, Ensures as in_ensures, Body as in_body, ClauseOfGlobal as in_clause_of_global, ClauseOfIn as in_clause_of_in, ClauseOfOut as in_clause_of_out, ClauseOfLocal as in_clause_of_local}
use Rattle.bpl_scopes.specs.Scopes.{Text, contract_with, Entity, a_constant, a_global, a_function, a_synonym, a_procedure, Table, table_of, Counts, counts_after, no_counts, declared_names, names_of, only_names, texts_of, signature_names, entity_of, Var}
use Rattle.bpl_scopes.specs.Sorts.{sort_of_type, sorts_of_names}
use Rattle.bpl_scopes.specs.Functions.{leads_to_itself, argument_names}
use Rattle.bpl_scopes.specs.TypeFaults.{type_faults, group_type_faults, group_where_faults, params_faults}
use Rattle.bpl_faults.specs.NameFaults.{same_sort_faults}
use Rattle.bpl_faults.specs.ExprFaults.{expr_faults, formula_faults, group_clause_faults}
use Rattle.bpl_scopes.specs.Sorts.{sort_in}
use Rattle.bpl_declaration_faults.specs.Variables.{names_in_body, parameters, body_vars, scope_of, function_scope}
use Rattle.bpl_statement_faults.specs.StmtFaults.{modified_by, is_global, body_stmts_faults}

abbrev pub argument_type_faults : Table → List Argument → List Fault
argument_type_faults t ins = flat_map (λ (a : Argument). type_faults t [] a.type) ins

abbrev pub function_body_faults : Table → Counts → List Argument → Ty → Expr → List Fault
function_body_faults t c ins r x = expr_faults (function_scope t c ins) true x ++ same_sort_faults (sort_of_type t [] r) (sort_in (function_scope t c ins) x) (first_place x)

abbrev pub function_value_faults : Table → Counts → Name → List Argument → Ty → Option Expr → List Fault
function_value_faults t c n ins r None = fault (unbuilt uninterpreted) n.at
function_value_faults t c n ins r (Some x) = function_body_faults t c ins r x

abbrev pub unique_faults : Option Place → List Fault
unique_faults None = []
unique_faults (Some p) = fault (unbuilt unique_word) p

-- the word `type` is a declaration's first
abbrev pub start : Place
start = record { line = 1; col = 1 }

abbrev pub synonym_faults : Table → Option Ty → List Fault
synonym_faults t None = fault (unbuilt type_word) start
synonym_faults t (Some s) = type_faults t [] s

abbrev pub cycle_faults : Table → Name → List Fault
cycle_faults t n = if_so (leads_to_itself t n.text) cycle n.at

-- types and type parameters of a signature, where its own names hide types
abbrev pub signature_faults : Table → Option Params → Signature → List Fault
signature_faults t ps g = params_faults ps ++ (group_type_faults t (texts_of (signature_names g)) g.ins ++ group_type_faults t (texts_of (signature_names g)) g.outs)

-- the where clauses of a procedure's parameters
abbrev pub parameter_clause_faults : Table → Counts → Signature → List Fault
parameter_clause_faults t c g = group_clause_faults (scope_of t c in_clause_of_in (parameters t c g)) g.ins
    ++ group_clause_faults (scope_of t c in_clause_of_out (parameters t c g)) g.outs

-- a name of `modifies`, which parameters may hide
abbrev pub modified_entity_faults : Option Entity → Place → List Fault
modified_entity_faults None p = fault unknown p
modified_entity_faults (Some e) p = unless (is_global (Some e)) wrong_kind p

abbrev pub modified_faults : Table → List Text → Name → List Fault
modified_faults t hidden n = elim (is_among hidden n.text) [ true ↦ fault wrong_kind n.at | false ↦ modified_entity_faults (entity_of t n.text) n.at ]

-- a clause where these are the parameters, whose names are no global variables
abbrev pub clause_faults_in : Table → Counts → List Var → List Text → Spec → List Fault
clause_faults_in t c vs hidden (requires p f x) = formula_faults (scope_of t c in_requires vs) x
clause_faults_in t c vs hidden (ensures p f x) = formula_faults (scope_of t c in_ensures vs) x
clause_faults_in t c vs hidden (modifies p ns) = flat_map (modified_faults t hidden) ns

abbrev pub spec_faults : Table → Counts → Signature → Spec → List Fault
spec_faults t c g s = clause_faults_in t c (parameters t c g) (texts_of (signature_names g)) s

-- locals among others, with their where clauses
abbrev pub local_faults : Table → Counts → Signature → List Groups → Groups → List Fault
local_faults t c g vs gs = group_type_faults t (texts_of (names_in_body g vs)) gs ++ group_clause_faults (scope_of t c in_clause_of_local (body_vars t c g vs)) gs

-- a body of a procedure that modifies these, where it is one's
abbrev pub body_faults : Table → Counts → Signature → Option (List Text) → Body → List Fault
body_faults t c g ms b = flat_map (local_faults t c g b.locals) b.locals ++ body_stmts_faults (scope_of t c in_body (body_vars t c g b.locals)) ms b.stmts

abbrev pub optional_locals : Option Body → List Groups
optional_locals None = []
optional_locals (Some b) = b.locals

abbrev pub optional_body_faults : Table → Counts → Signature → Option (List Text) → Option Body → List Fault
optional_body_faults t c g ms None = []
optional_body_faults t c g ms (Some b) = body_faults t c g ms b

abbrev pub has_body : Option Body → Bool
has_body None = false
has_body (Some b) = true

-- two lists of sorts, where one that is missing differs from none
abbrev pub agree : List (Option Kind) → List (Option Kind) → Bool
agree [] [] = true
agree [] (k ∷ ks) = false
agree (j ∷ js) [] = false
agree (None ∷ js) (k ∷ ks) = agree js ks
agree (Some j ∷ js) (None ∷ ks) = agree js ks
agree (Some j ∷ js) (Some k ∷ ks) = same_kind j k && agree js ks

abbrev pub same_texts : List Text → List Text → Bool
same_texts [] [] = true
same_texts [] (n ∷ ns) = false
same_texts (m ∷ ms) [] = false
same_texts (m ∷ ms) (n ∷ ns) = bytes_eq m n && same_texts ms ns

-- the same names and sorts, in order
abbrev pub same_groups : Table → Signature → Signature → Groups → Groups → Bool
same_groups t g h gs hs = same_texts (texts_of (only_names (names_of gs))) (texts_of (only_names (names_of hs)))
    && agree (sorts_of_names t (texts_of (signature_names g)) (names_of gs)) (sorts_of_names t (texts_of (signature_names h)) (names_of hs))

abbrev pub same_parameters : Table → Signature → Signature → Bool
same_parameters t g h = same_groups t g h g.ins h.ins && same_groups t g h g.outs h.outs

-- what an `implementation` names
abbrev pub implemented_faults : Table → Option Entity → Signature → Place → List Fault
implemented_faults t None g p = fault unknown p
implemented_faults t (Some (a_procedure k c)) g p = unless (same_parameters t c.signature g) arity p
implemented_faults t (Some (a_constant k s)) g p = fault wrong_kind p
implemented_faults t (Some (a_global k s)) g p = fault wrong_kind p
implemented_faults t (Some (a_function h)) g p = fault wrong_kind p
implemented_faults t (Some (a_synonym s)) g p = fault wrong_kind p

abbrev pub implemented_modifies : Table → Option Entity → Option (List Text)
implemented_modifies t (Some (a_procedure k c)) = Some (modified_by t c)
implemented_modifies t e = None

-- what went before a declaration: names that are declared, and procedures that have a body
pub record Before : Type 0 where
  pub names : List Text
  pub bodies : List Text

module _ (t : Table) (c : Counts) where
  abbrev pub decl_faults : Before → DeclBody → List Fault
  decl_faults b (constant u ns s) = unique_faults u ++ (again twice b.names ns ++ type_faults t [] s)
  decl_faults b (function n ps ins r x) = again twice b.names (n ∷ []) ++ (cycle_faults t n ++ (params_faults ps
      ++ (again twice [] (argument_names ins) ++ (argument_type_faults t ins ++ (type_faults t [] r ++ function_value_faults t c n ins r x)))))
  decl_faults b (axiom_of x) = formula_faults (scope_of t c in_axiom []) x
  decl_faults b (variables gs) = again twice b.names (only_names (names_of gs)) ++ (group_type_faults t [] gs ++ group_clause_faults (scope_of t c in_clause_of_global []) gs)
  decl_faults b (synonym n s) = again twice b.names (n ∷ []) ++ (cycle_faults t n ++ synonym_faults t s)
  decl_faults b (procedure n ps g ss body) = again twice b.names (n ∷ []) ++ (if_so (has_body body && is_among b.bodies n.text) twice n.at
      ++ (signature_faults t ps g ++ (parameter_clause_faults t c g ++ (again twice [] (names_in_body g (optional_locals body)) ++ (flat_map (spec_faults t c g) ss
      ++ optional_body_faults t c g (Some (modified_by t (contract_with g ss))) body)))))
  decl_faults b (implementation n ps g body) = if_so (is_among b.bodies n.text) twice n.at ++ (implemented_faults t (entity_of t n.text) g n.at
      ++ (signature_faults t ps g ++ (group_where_faults g.ins ++ (group_where_faults g.outs ++ (again twice [] (names_in_body g body.locals)
      ++ body_faults t c g (implemented_modifies t (entity_of t n.text)) body)))))

-- the procedures that a declaration gives a body
abbrev pub body_names : DeclBody → List Text
body_names (procedure n ps g ss (Some b)) = n.text ∷ []
body_names (procedure n ps g ss None) = []
body_names (implementation n ps g b) = n.text ∷ []
body_names (constant u ns s) = []
body_names (function n ps ins r x) = []
body_names (axiom_of x) = []
body_names (variables gs) = []
body_names (synonym n s) = []

abbrev pub before_with : Before → DeclBody → Before
before_with b d = record { names = texts_of (declared_names d) ++ b.names; bodies = body_names d ++ b.bodies }

-- the faults of each declaration, in order
abbrev pub faults_after : Table → Counts → Before → List Decl → List (List Fault)
faults_after t c b [] = []
faults_after t c b (x ∷ xs) = decl_faults t c b x.body ∷ faults_after t c (before_with b x.body) xs

abbrev pub nothing_before : Before
nothing_before = record { names = []; bodies = [] }

abbrev pub faults_of_each : List Decl → List (List Fault)
faults_of_each ds = faults_after (table_of ds) (counts_after no_counts ds) nothing_before ds

-- a fault of a program: the position of its declaration, and the fault there
abbrev pub in_decl : ℕ → Option Fault → Option (ℕ × Fault) → Option (ℕ × Fault)
in_decl d None later = later
in_decl d (Some f) later = Some (d, f)

abbrev pub first_from : ℕ → List (List Fault) → Option (ℕ × Fault)
first_from d [] = None
first_from d (fs ∷ rest) = in_decl d (first_fault fs) (first_from (d + 1) rest)

-- the first fault by declaration, then place, then number
abbrev pub fault_of : List Decl → Option (ℕ × Fault)
fault_of ds = first_from 0 (faults_of_each ds)
