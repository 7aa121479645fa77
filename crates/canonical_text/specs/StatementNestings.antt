-- How many nestings lie around the deepest token of a statement and of a declaration in the canonical text.
use Rattle.std.specs.Prelude.{ℕ, zero, suc, max, List, [], ◌∷◌, Option, Some, None}
use Rattle.bpl_ast.specs.Tree.{Exprs, no_exprs, item, Groups}
use Rattle.bpl_ast.specs.Statement.{Target, Guard, Invariant, Stmt, stmt, Action, assert, assume, havoc, assign, call, branches, loop, «break», «return», goto, Branches, branch, otherwise, no_branch, Stmts, no_stmts, next, Spec, requires, ensures, modifies, Body, Signature, Argument, DeclBody, constant, function, axiom_of, variables, synonym, procedure, implementation}
use Rattle.canonical_text.specs.Nestings.{type_depth, expression_depth, enclosed_depth, groups_depth}

-- the deepest of expressions that stand in no brackets of their own
abbrev pub values_depth : Exprs → ℕ
values_depth no_exprs = 0
values_depth (item x xs) = max (expression_depth x) (values_depth xs)

abbrev pub targets_depth : List Target → ℕ
targets_depth [] = 0
targets_depth (t ∷ ts) = max (enclosed_depth t.indices) (targets_depth ts)

-- a guard stands in parentheses
abbrev pub guard_depth : Guard → ℕ
guard_depth None = 1
guard_depth (Some x) = suc (expression_depth x)

abbrev pub invariants_depth : List Invariant → ℕ
invariants_depth [] = 0
invariants_depth (i ∷ is) = max (expression_depth i.formula) (invariants_depth is)

abbrev mutual
  pub stmt_depth : Stmt → ℕ
  stmt_depth (stmt ls p a) = action_depth a

  pub action_depth : Action → ℕ
  action_depth (assert x) = expression_depth x
  action_depth (assume x) = expression_depth x
  action_depth (havoc ns) = 0
  action_depth (assign ts xs) = max (targets_depth ts) (values_depth xs)
  action_depth (call ns f xs) = enclosed_depth xs
  action_depth (branches bs) = branches_depth bs
  action_depth (loop g is ss) = max (guard_depth g) (max (invariants_depth is) (block_depth ss))
  action_depth («break» l) = 0
  action_depth «return» = 0
  action_depth (goto ns) = 0

  pub branches_depth : Branches → ℕ
  branches_depth (branch p g ss bs) = max (guard_depth g) (max (block_depth ss) (branches_depth bs))
  branches_depth (otherwise ss) = block_depth ss
  branches_depth no_branch = 0

  pub block_depth : Stmts → ℕ
  block_depth no_stmts = 0
  block_depth (next s ss) = suc (max (stmt_depth s) (stmts_depth ss))

  pub stmts_depth : Stmts → ℕ
  stmts_depth no_stmts = 0
  stmts_depth (next s ss) = max (stmt_depth s) (stmts_depth ss)

abbrev pub locals_depth : List Groups → ℕ
locals_depth [] = 0
locals_depth (g ∷ gs) = max (groups_depth g) (locals_depth gs)

-- inside brackets, which may be empty
abbrev pub raised : ℕ → ℕ
raised zero = 0
raised (suc n) = suc (suc n)

abbrev pub body_depth : Body → ℕ
body_depth b = raised (max (locals_depth b.locals) (stmts_depth b.stmts))

abbrev pub spec_depth : Spec → ℕ
spec_depth (requires p f x) = expression_depth x
spec_depth (ensures p f x) = expression_depth x
spec_depth (modifies p ns) = 0

abbrev pub specs_depth : List Spec → ℕ
specs_depth [] = 0
specs_depth (s ∷ ss) = max (spec_depth s) (specs_depth ss)

abbrev pub arguments_depth : List Argument → ℕ
arguments_depth [] = 0
arguments_depth (a ∷ rest) = max (suc (type_depth a.type)) (arguments_depth rest)

abbrev pub signature_depth : Signature → ℕ
signature_depth s = raised (max (groups_depth s.ins) (groups_depth s.outs))

abbrev pub optional_depth : {A : Type 0} → (A → ℕ) → Option A → ℕ
optional_depth f None = 0
optional_depth f (Some x) = f x

abbrev pub decl_depth : DeclBody → ℕ
decl_depth (constant u ns t) = type_depth t
decl_depth (function n ps ins t b) = max (arguments_depth ins) (max (type_depth t) (optional_depth (λ x. suc (expression_depth x)) b))
decl_depth (axiom_of x) = expression_depth x
decl_depth (variables gs) = groups_depth gs
decl_depth (synonym n t) = optional_depth type_depth t
decl_depth (procedure n ps s ss b) = max (signature_depth s) (max (specs_depth ss) (optional_depth body_depth b))
decl_depth (implementation n ps s b) = max (signature_depth s) (body_depth b)
