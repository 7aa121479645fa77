-- The faults of the statements of a body.
use Rattle.std.specs.Prelude.{ℕ, suc, nat_eq, Bool, true, false, ◌&&◌, not, List, [], ◌∷◌, ◌++◌, map, length, flat_map, filter, drop, Option, Some, None}
use Rattle.std.specs.List.{list_all}
use Rattle.bv_base.specs.declared.place.Place.{Place}
use Rattle.logic_terms.specs.Tree.{Kind, int, boolean}
use Rattle.logic_terms.specs.Sorts.{is, range}
use Rattle.logic_terms.specs.Wide.{when, ◌>>=◌}
use Rattle.bpl_ast.specs.Place.{Name}
use Rattle.bpl_ast.specs.Tree.{Exprs, no_exprs, item}
use Rattle.bpl_ast.specs.Statement.{Target, Guard, Invariant, Stmt, stmt, Action, assert, assume, havoc, assign, call, branches, loop, «break», «return», goto, Branches, branch, otherwise, no_branch, Stmts, no_stmts, next}
use Rattle.bpl_scopes.specs.declared.fault.TypeKind.TheVariants.{Twice as twice, Unknown as unknown, Kind as wrong_kind, Arity as arity, NotAssignable as not_assignable, NotModified as not_modified, TargetTwice as target_twice, BreakHere as break_here, GotoHere as goto_here, Labels as many_labels}
use Rattle.bpl_scopes.specs.declared.fault.Fault.{Fault}
use Rattle.bv_base.specs.Text.{is_among}
use Rattle.bpl_scopes.specs.Fault.{fault, unless, again}
use Rattle.bpl_scopes.specs.declared.part.Role.{Role}
use Rattle.bpl_scopes.specs.declared.part.Role.TheVariants.{In as in_parameter, Out as out_parameter, Local as local_variable}
use Rattle.bpl_scopes.specs.Scopes.{Text, Contract, Entity, a_constant, a_global, a_function, a_synonym, a_procedure, Table, names_of, texts_of, signature_names, entity_of, Scope, Meaning, bound_to, stands_for, declared_as, nothing, meaning}
use Rattle.bpl_scopes.specs.Sorts.{sort_in, sort_of_meaning, sorts_of_names}
use Rattle.bpl_faults.specs.NameFaults.{same_sort_faults, map_faults}
use Rattle.bpl_faults.specs.ExprFaults.{faults_as, formula_faults, argument_faults, count}
use Rattle.bpl_statement_faults.specs.Limits.{label_limit}

abbrev pub is_global : Option Entity → Bool
is_global (Some (a_global k t)) = true
is_global e = false

-- the global variables that a procedure modifies
abbrev pub modified_by : Table → Contract → List Text
modified_by t c = filter (λ n. is_global (entity_of t n) && not (is_among (texts_of (signature_names c.signature)) n)) c.modified

-- the labels of the statements, in order, those inside them too
abbrev mutual
  pub labels_of : Stmts → List Name
  labels_of no_stmts = []
  labels_of (next s ss) = labels_in s ++ labels_of ss

  pub labels_in : Stmt → List Name
  labels_in (stmt ls p a) = ls ++ inner_labels a

  pub inner_labels : Action → List Name
  inner_labels (branches bs) = branch_labels bs
  inner_labels (loop g is ss) = labels_of ss
  inner_labels a = []

  pub branch_labels : Branches → List Name
  branch_labels (branch p g ss bs) = labels_of ss ++ branch_labels bs
  branch_labels (otherwise ss) = labels_of ss
  branch_labels no_branch = []

-- the labels that the gotos in statements name
abbrev mutual
  pub goto_labels : Stmts → List Text
  goto_labels no_stmts = []
  goto_labels (next s ss) = goto_labels_in s ++ goto_labels ss

  pub goto_labels_in : Stmt → List Text
  goto_labels_in (stmt ls p a) = inner_goto_labels a

  pub inner_goto_labels : Action → List Text
  inner_goto_labels (branches bs) = branch_goto_labels bs
  inner_goto_labels (loop g is ss) = goto_labels ss
  inner_goto_labels (goto ns) = texts_of ns
  inner_goto_labels a = []

  pub branch_goto_labels : Branches → List Text
  branch_goto_labels (branch p g ss bs) = goto_labels ss ++ branch_goto_labels bs
  branch_goto_labels (otherwise ss) = goto_labels ss
  branch_goto_labels no_branch = []

-- the labels that gotos name, in the order of the text, where they label their statements
abbrev pub named_labels : Stmts → List Name
named_labels ss = filter (λ (n : Name). is_among (goto_labels ss) n.text) (labels_of ss)

abbrev pub first_label_faults : List Name → List Fault
first_label_faults [] = []
first_label_faults (n ∷ ns) = fault many_labels n.at

-- the first of them that is one too many
abbrev pub many_labels_faults : Stmts → List Fault
many_labels_faults ss = first_label_faults (drop label_limit (named_labels ss))

-- where a body stands: its scope, what its procedure modifies, where it is one's, and the labels of all its statements
pub record BodyScope : Type 0 where
  pub scope : Scope
  pub modified : Option (List Text)
  pub labels : List Text

-- the labels of the statements of one list
abbrev pub labels_of_list : Stmts → List Text
labels_of_list no_stmts = []
labels_of_list (next (stmt ls p a) ss) = texts_of ls ++ labels_of_list ss

-- A label in a `goto` is forward where it labels a statement of the list that holds the `goto`, or of a list around that one,
-- and that statement comes later in its list than the statement of the same list that is the `goto` or holds it.
-- Where a statement stands: inside a loop or not; under the labels of these ifs and whiles; and with these labels ahead,
-- those of the statements that come later in its list, and later in the lists around it
pub record Position : Type 0 where
  pub in_loop : Bool
  pub around : List Text
  pub ahead : List Text

abbrev pub outermost : Position
outermost = record { in_loop = false; around = []; ahead = [] }

-- a label in a `goto`: it has to stand in the body, and to be forward
abbrev pub label_faults : BodyScope → Position → Name → List Fault
label_faults b w l = elim (is_among b.labels l.text) [ true ↦ unless (is_among w.ahead l.text) goto_here l.at | false ↦ fault unknown l.at ]

abbrev pub may_modify : Option (List Text) → Text → Bool
may_modify None n = true
may_modify (Some ms) n = is_among ms n

-- a variable that is set
abbrev pub role_faults : Role → Place → List Fault
role_faults in_parameter p = fault not_assignable p
role_faults out_parameter p = []
role_faults local_variable p = []

abbrev pub target_entity_faults : BodyScope → Text → Entity → Place → List Fault
target_entity_faults b n (a_constant k t) p = fault not_assignable p
target_entity_faults b n (a_global k t) p = unless (may_modify b.modified n) not_modified p
target_entity_faults b n (a_function h) p = fault wrong_kind p
target_entity_faults b n (a_synonym t) p = fault wrong_kind p
target_entity_faults b n (a_procedure k c) p = fault wrong_kind p

abbrev pub set_faults : BodyScope → Text → Meaning → Place → List Fault
set_faults b n (bound_to i k) p = []
set_faults b n (stands_for v) p = role_faults v.role p
set_faults b n (declared_as e) p = target_entity_faults b n e p
set_faults b n nothing p = fault unknown p

abbrev pub target_faults : BodyScope → Name → List Fault
target_faults b n = set_faults b n.text (meaning b.scope n.text) n.at

-- targets, and a variable twice among them
abbrev pub targets_faults : BodyScope → List Name → List Fault
targets_faults b ns = flat_map (target_faults b) ns ++ again target_twice [] ns

abbrev pub target_sort : Scope → Name → Option Kind
target_sort s n = sort_of_meaning s (meaning s n.text)

-- the entry of a map at the indices of a target
abbrev pub entry_at : Scope → Option Kind → Exprs → Option Kind
entry_at s m no_exprs = m
entry_at s m (item x xs) = entry_at s (m >>= λ k. range k >>= λ r. when (is int (sort_in s x)) (Some r)) xs

abbrev pub entry_faults : Scope → Place → Option Kind → Exprs → List Fault
entry_faults s p m no_exprs = []
entry_faults s p m (item x xs) = map_faults m p ++ (faults_as s false int x ++ entry_faults s p (m >>= λ k. range k >>= λ r. when (is int (sort_in s x)) (Some r)) xs)

abbrev pub indices_faults : Scope → Target → List Fault
indices_faults s t = entry_faults s t.name.at (target_sort s t.name) t.indices

-- what the right sides have to be
abbrev pub sides_sorts : Scope → List Target → List (Option Kind)
sides_sorts s ts = map (λ (t : Target). entry_at s (target_sort s t.name) t.indices) ts

-- as many right sides as targets
abbrev pub count_faults : List Target → Exprs → List Fault
count_faults [] xs = []
count_faults (t ∷ ts) xs = unless (nat_eq (suc (length ts)) (count xs)) arity t.name.at

abbrev pub assignment_faults : BodyScope → List Target → Exprs → List Fault
assignment_faults b ts xs = count_faults ts xs ++ (targets_faults b (map (λ (t : Target). t.name) ts)
    ++ (flat_map (indices_faults b.scope) ts ++ argument_faults b.scope (sides_sorts b.scope ts) xs))

-- outs are compared where their number and that of the arguments are right; the call is their right side
abbrev pub outs_faults : List (Option Kind) → List (Option Kind) → Place → List Fault
outs_faults [] js p = []
outs_faults (k ∷ ks) [] p = []
outs_faults (k ∷ ks) (j ∷ js) p = same_sort_faults k j p ++ outs_faults ks js p

abbrev pub counted_outs_faults : Bool → List (Option Kind) → List (Option Kind) → Place → List Fault
counted_outs_faults true ks js p = outs_faults ks js p
counted_outs_faults false ks js p = fault arity p

abbrev pub contract_faults : BodyScope → List Name → Contract → ℕ → Place → List Fault
contract_faults b ns c arguments p =
    counted_outs_faults (nat_eq (length (names_of c.signature.ins)) arguments && nat_eq (length (names_of c.signature.outs)) (length ns))
    (map (target_sort b.scope) ns) (sorts_of_names b.scope.table (texts_of (signature_names c.signature)) (names_of c.signature.outs)) p
    ++ unless (list_all (may_modify b.modified) (modified_by b.scope.table c)) not_modified p

-- what is called, with so many arguments
abbrev pub callee_faults : BodyScope → List Name → Meaning → ℕ → Place → List Fault
callee_faults b ns (bound_to i k) arguments p = fault wrong_kind p
callee_faults b ns (stands_for v) arguments p = fault wrong_kind p
callee_faults b ns (declared_as (a_procedure k c)) arguments p = contract_faults b ns c arguments p
callee_faults b ns (declared_as (a_constant k t)) arguments p = fault wrong_kind p
callee_faults b ns (declared_as (a_global k t)) arguments p = fault wrong_kind p
callee_faults b ns (declared_as (a_function h)) arguments p = fault wrong_kind p
callee_faults b ns (declared_as (a_synonym t)) arguments p = fault wrong_kind p
callee_faults b ns nothing arguments p = fault unknown p

abbrev pub callee_sorts : Table → Meaning → List (Option Kind)
callee_sorts t (declared_as (a_procedure k c)) = sorts_of_names t (texts_of (signature_names c.signature)) (names_of c.signature.ins)
callee_sorts t m = []

abbrev pub call_faults : BodyScope → List Name → Name → Exprs → List Fault
call_faults b ns f xs = targets_faults b ns ++ (callee_faults b ns (meaning b.scope f.text) (count xs) f.at ++ argument_faults b.scope (callee_sorts b.scope.table (meaning b.scope f.text)) xs)

abbrev pub guard_faults : Scope → Guard → List Fault
guard_faults s None = []
guard_faults s (Some x) = faults_as s false boolean x

-- `break` out of the innermost loop, or by the label of an `if` or `while` around
abbrev pub may_break : Position → Option Name → Bool
may_break w None = w.in_loop
may_break w (Some l) = is_among w.around l.text

abbrev mutual
  pub stmts_faults : BodyScope → Position → Stmts → List Fault
  stmts_faults b w no_stmts = []
  stmts_faults b w (next s ss) = stmt_faults b (record w { ahead = labels_of_list ss ++ w.ahead }) s ++ stmts_faults b w ss

  pub stmt_faults : BodyScope → Position → Stmt → List Fault
  stmt_faults b w (stmt ls p a) = action_faults b w (texts_of ls) p a

  pub action_faults : BodyScope → Position → List Text → Place → Action → List Fault
  action_faults b w ls p (assert x) = formula_faults b.scope x
  action_faults b w ls p (assume x) = formula_faults b.scope x
  action_faults b w ls p (havoc ns) = targets_faults b ns
  action_faults b w ls p (assign ts xs) = assignment_faults b ts xs
  action_faults b w ls p (call ns f xs) = call_faults b ns f xs
  action_faults b w ls p (branches bs) = branches_faults b (record w { around = ls ++ w.around }) bs
  action_faults b w ls p (loop g is ss) = guard_faults b.scope g ++ (flat_map (λ (i : Invariant). formula_faults b.scope i.formula) is ++ stmts_faults b (record w { in_loop = true; around = ls ++ w.around }) ss)
  action_faults b w ls p («break» l) = unless (may_break w l) break_here p
  action_faults b w ls p «return» = []
  action_faults b w ls p (goto ns) = flat_map (label_faults b w) ns

  pub branches_faults : BodyScope → Position → Branches → List Fault
  branches_faults b w (branch p g ss bs) = guard_faults b.scope g ++ (stmts_faults b w ss ++ branches_faults b w bs)
  branches_faults b w (otherwise ss) = stmts_faults b w ss
  branches_faults b w no_branch = []

-- the statements of a body where names stand for these, of a procedure that modifies these, where it is one's
abbrev pub body_stmts_faults : Scope → Option (List Text) → Stmts → List Fault
body_stmts_faults s ms ss = again twice [] (labels_of ss) ++ (many_labels_faults ss
    ++ stmts_faults (record { scope = s; modified = ms; labels = texts_of (labels_of ss) }) outermost ss)
