-- The names in a declaration's canonical text that stand for declarations.
use Rattle.std.specs.Prelude.{ℕ, nat_eq, Bool, true, false, List, [], ◌∷◌, ◌++◌, filter, flat_map, Option, Some, None}
use Rattle.std.specs.List.{list_any, range_with_len}
use Rattle.bpl_ast.specs.Place.{Name, Ty, Tys}
use Rattle.bpl_ast.specs.Tree.{Expr, expr, Node, number, truth, variable, apply, old, choose, quantified, iffs, implies, ands, ors, related, sums, products, negation, minus, indexed, Exprs, no_exprs, item, Terms, no_terms, plus, less, Indices, no_indices, at_index, update, Triggers, no_triggers, trigger, Groups, no_groups, group, Clause, no_clause, clause}
use Rattle.bpl_ast.specs.Statement.{Target, Guard, Invariant, Stmt, stmt, Action, assert, assume, havoc, assign, call, branches, loop, «break», «return», goto, Branches, branch, otherwise, no_branch, Stmts, no_stmts, next, Spec, requires, ensures, modifies, Body, Signature, Argument, DeclBody, constant, function, axiom_of, variables, synonym, procedure, implementation}
use Rattle.bv_base.specs.Text.{is_among}
use Rattle.bpl_scopes.specs.Scopes.{Text, Entry, Table, names_of, only_names, texts_of, signature_names, entry_of}
use Rattle.bpl_scopes.specs.Functions.{names_in_type, names_in_types, argument_names}

-- a name that no variable hides
abbrev pub use_of : List Text → Text → List Text
use_of h n = elim (is_among h n) [ true ↦ [] | false ↦ n ∷ [] ]

abbrev pub uses_of : List Text → List Name → List Text
uses_of h ns = flat_map (λ (n : Name). use_of h n.text) ns

abbrev pub type_uses : List Text → Ty → List Text
type_uses h t = flat_map (use_of h) (names_in_type t)

abbrev pub types_uses : List Text → Tys → List Text
types_uses h ts = flat_map (use_of h) (names_in_types ts)

abbrev pub hiding : Groups → List Text → List Text
hiding gs h = texts_of (only_names (names_of gs)) ++ h

-- where variables hide these names; bound variables from `::` on
abbrev mutual
  pub expr_uses : List Text → Expr → List Text
  expr_uses h (expr p n) = node_uses h n

  pub node_uses : List Text → Node → List Text
  node_uses h (number n) = []
  node_uses h (truth b) = []
  node_uses h (variable n) = use_of h n.text
  node_uses h (apply n xs) = use_of h n.text ++ exprs_uses h xs
  node_uses h (old p x) = expr_uses h x
  node_uses h (choose c x y) = expr_uses h c ++ (expr_uses h x ++ expr_uses h y)
  node_uses h (quantified q p ps gs rs x) = groups_uses h gs ++ (triggers_uses (hiding gs h) rs ++ expr_uses (hiding gs h) x)
  node_uses h (iffs xs) = exprs_uses h xs
  node_uses h (implies xs) = exprs_uses h xs
  node_uses h (ands xs) = exprs_uses h xs
  node_uses h (ors xs) = exprs_uses h xs
  node_uses h (related o x y) = expr_uses h x ++ expr_uses h y
  node_uses h (sums x ts) = expr_uses h x ++ terms_uses h ts
  node_uses h (products xs) = exprs_uses h xs
  node_uses h (negation x) = expr_uses h x
  node_uses h (minus x) = expr_uses h x
  node_uses h (indexed x is) = expr_uses h x ++ indices_uses h is

  pub exprs_uses : List Text → Exprs → List Text
  exprs_uses h no_exprs = []
  exprs_uses h (item x xs) = expr_uses h x ++ exprs_uses h xs

  pub terms_uses : List Text → Terms → List Text
  terms_uses h no_terms = []
  terms_uses h (plus x ts) = expr_uses h x ++ terms_uses h ts
  terms_uses h (less x ts) = expr_uses h x ++ terms_uses h ts

  pub indices_uses : List Text → Indices → List Text
  indices_uses h no_indices = []
  indices_uses h (at_index x is) = expr_uses h x ++ indices_uses h is
  indices_uses h (update x y is) = expr_uses h x ++ (expr_uses h y ++ indices_uses h is)

  pub triggers_uses : List Text → Triggers → List Text
  triggers_uses h no_triggers = []
  triggers_uses h (trigger p xs rs) = exprs_uses h xs ++ triggers_uses h rs

  -- the types of groups and their where clauses
  pub groups_uses : List Text → Groups → List Text
  groups_uses h no_groups = []
  groups_uses h (group ns t c gs) = type_uses h t ++ (clause_uses h c ++ groups_uses h gs)

  pub clause_uses : List Text → Clause → List Text
  clause_uses h no_clause = []
  clause_uses h (clause p x) = expr_uses h x

abbrev pub guard_uses : List Text → Guard → List Text
guard_uses h None = []
guard_uses h (Some x) = expr_uses h x

abbrev pub target_uses : List Text → Target → List Text
target_uses h t = use_of h t.name.text ++ exprs_uses h t.indices

abbrev pub invariant_uses : List Text → Invariant → List Text
invariant_uses h i = expr_uses h i.formula

abbrev mutual
  pub stmts_uses : List Text → Stmts → List Text
  stmts_uses h no_stmts = []
  stmts_uses h (next s ss) = stmt_uses h s ++ stmts_uses h ss

  pub stmt_uses : List Text → Stmt → List Text
  stmt_uses h (stmt ls p a) = action_uses h a

  pub action_uses : List Text → Action → List Text
  action_uses h (assert x) = expr_uses h x
  action_uses h (assume x) = expr_uses h x
  action_uses h (havoc ns) = uses_of h ns
  action_uses h (assign ts xs) = flat_map (target_uses h) ts ++ exprs_uses h xs
  action_uses h (call ns f xs) = uses_of h ns ++ (use_of h f.text ++ exprs_uses h xs)
  action_uses h (branches bs) = branches_uses h bs
  action_uses h (loop g is ss) = guard_uses h g ++ (flat_map (invariant_uses h) is ++ stmts_uses h ss)
  action_uses h («break» l) = []
  action_uses h «return» = []
  action_uses h (goto ns) = []

  pub branches_uses : List Text → Branches → List Text
  branches_uses h (branch p g ss bs) = guard_uses h g ++ (stmts_uses h ss ++ branches_uses h bs)
  branches_uses h (otherwise ss) = stmts_uses h ss
  branches_uses h no_branch = []

abbrev pub spec_uses : List Text → Spec → List Text
spec_uses h (requires p f x) = expr_uses h x
spec_uses h (ensures p f x) = expr_uses h x
spec_uses h (modifies p ns) = uses_of h ns

-- the names of a body's variables, and then of the parameters
abbrev pub local_texts : Body → List Text
local_texts b = texts_of (only_names (flat_map names_of b.locals))

abbrev pub locals_uses : List Text → List Groups → List Text
locals_uses h vs = flat_map (groups_uses h) vs

abbrev pub body_uses : Signature → Body → List Text
body_uses g b = locals_uses (local_texts b ++ texts_of (signature_names g)) b.locals
    ++ stmts_uses (local_texts b ++ texts_of (signature_names g)) b.stmts

abbrev pub optional_body_uses : Signature → Option Body → List Text
optional_body_uses g None = []
optional_body_uses g (Some b) = body_uses g b

abbrev pub optional_type_uses : Option Ty → List Text
optional_type_uses None = []
optional_type_uses (Some t) = type_uses [] t

abbrev pub signature_uses : Signature → List Text
signature_uses g = groups_uses (texts_of (signature_names g)) g.ins ++ groups_uses (texts_of (signature_names g)) g.outs

abbrev pub arguments_uses : List Argument → List Text
arguments_uses ins = flat_map (λ (a : Argument). type_uses [] a.type) ins

-- of the text without a body; a function keeps its body there
abbrev pub contract_uses : DeclBody → List Text
contract_uses (constant u ns t) = type_uses [] t
contract_uses (function n ps ins t x) = arguments_uses ins ++ (type_uses [] t ++ guard_uses (texts_of (argument_names ins)) x)
contract_uses (axiom_of x) = expr_uses [] x
contract_uses (variables gs) = groups_uses [] gs
contract_uses (synonym n t) = optional_type_uses t
contract_uses (procedure n ps g ss b) = signature_uses g ++ flat_map (spec_uses (texts_of (signature_names g))) ss
contract_uses (implementation n ps g b) = n.text ∷ signature_uses g

abbrev pub last_uses : DeclBody → List Text
last_uses (procedure n ps g ss b) = optional_body_uses g b
last_uses (implementation n ps g b) = body_uses g b
last_uses (constant u ns t) = []
last_uses (function n ps ins t x) = []
last_uses (axiom_of x) = []
last_uses (variables gs) = []
last_uses (synonym n t) = []

-- of the whole text
abbrev pub decl_uses : DeclBody → List Text
decl_uses d = contract_uses d ++ last_uses d

abbrev pub is_declared_at : Option Entry → ℕ → Bool
is_declared_at None d = false
is_declared_at (Some e) d = nat_eq e.decl d

-- the positions of the declarations that the names stand for, in rising order, among so many
abbrev pub leads_of : Table → ℕ → List Text → List ℕ
leads_of t count ns = filter (λ d. list_any (λ n. is_declared_at (entry_of t n) d) ns) (range_with_len 0 count)
