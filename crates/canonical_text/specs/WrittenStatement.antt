-- What holds of every statement and declaration that some tokens spell.
use Rattle.std.specs.Prelude.{Bool, true, false, List, [], ◌∷◌, Option, Some, None, IsTrue}
use Rattle.bpl_ast.specs.Tree.{Groups}
use Rattle.bpl_ast.specs.Statement.{Target, Guard, Invariant, Stmt, stmt, Action, assert, assume, havoc, assign, call, branches, loop, «break», «return», goto, Branches, branch, otherwise, no_branch, Stmts, no_stmts, next, Spec, requires, ensures, modifies, Body, Signature, Argument, DeclBody, constant, function, axiom_of, variables, synonym, procedure, implementation}
use Rattle.canonical_text.specs.WrittenExpression.{IsName, AreNames, SomeNames, AreParams, IsWrittenType, some_exprs, some_groups, IsWritten, AreWritten, AreWrittenGroups}

abbrev pub AreTargets : List Target → Type 0
AreTargets [] = Unit {0}
AreTargets (t ∷ ts) = IsName t.name × AreWritten t.indices × AreTargets ts

abbrev pub SomeTargets : List Target → Type 0
SomeTargets [] = ⊥
SomeTargets (t ∷ ts) = AreTargets (t ∷ ts)

abbrev pub IsGuard : Guard → Type 0
IsGuard None = Unit {0}
IsGuard (Some x) = IsWritten x

abbrev pub AreInvariants : List Invariant → Type 0
AreInvariants [] = Unit {0}
AreInvariants (i ∷ is) = IsWritten i.formula × AreInvariants is

abbrev pub is_branch : Branches → Bool
is_branch (branch p g ss bs) = true
is_branch bs = false

abbrev mutual
  pub IsWrittenStmt : Stmt → Type 0
  IsWrittenStmt (stmt ls p a) = AreNames ls × IsWrittenAction a

  pub IsWrittenAction : Action → Type 0
  IsWrittenAction (assert x) = IsWritten x
  IsWrittenAction (assume x) = IsWritten x
  IsWrittenAction (havoc ns) = SomeNames ns
  IsWrittenAction (assign ts xs) = SomeTargets ts × IsTrue (some_exprs xs) × AreWritten xs
  IsWrittenAction (call ns f xs) = AreNames ns × IsName f × AreWritten xs
  IsWrittenAction (branches bs) = IsTrue (is_branch bs) × AreWrittenBranches bs
  IsWrittenAction (loop g is ss) = IsGuard g × AreInvariants is × AreWrittenStmts ss
  IsWrittenAction («break» None) = Unit {0}
  IsWrittenAction («break» (Some n)) = IsName n
  IsWrittenAction «return» = Unit {0}
  IsWrittenAction (goto ns) = SomeNames ns

  pub AreWrittenBranches : Branches → Type 0
  AreWrittenBranches (branch p g ss bs) = IsGuard g × AreWrittenStmts ss × AreWrittenBranches bs
  AreWrittenBranches (otherwise ss) = AreWrittenStmts ss
  AreWrittenBranches no_branch = Unit {0}

  pub AreWrittenStmts : Stmts → Type 0
  AreWrittenStmts no_stmts = Unit {0}
  AreWrittenStmts (next s ss) = IsWrittenStmt s × AreWrittenStmts ss

abbrev pub SomeGroups : Groups → Type 0
SomeGroups gs = IsTrue (some_groups gs) × AreWrittenGroups gs

abbrev pub AreLocals : List Groups → Type 0
AreLocals [] = Unit {0}
AreLocals (g ∷ gs) = SomeGroups g × AreLocals gs

abbrev pub IsWrittenBody : Body → Type 0
IsWrittenBody b = AreLocals b.locals × AreWrittenStmts b.stmts

abbrev pub IsWrittenSpec : Spec → Type 0
IsWrittenSpec (requires p f x) = IsWritten x
IsWrittenSpec (ensures p f x) = IsWritten x
IsWrittenSpec (modifies p ns) = AreNames ns

abbrev pub AreWrittenSpecs : List Spec → Type 0
AreWrittenSpecs [] = Unit {0}
AreWrittenSpecs (s ∷ ss) = IsWrittenSpec s × AreWrittenSpecs ss

abbrev pub IsWrittenSignature : Signature → Type 0
IsWrittenSignature s = AreWrittenGroups s.ins × AreWrittenGroups s.outs

abbrev pub IsWrittenArgument : Argument → Type 0
IsWrittenArgument a = (elim a.name [ Some n ↦ IsName n | None ↦ Unit {0} ]) × IsWrittenType a.type

abbrev pub AreWrittenArguments : List Argument → Type 0
AreWrittenArguments [] = Unit {0}
AreWrittenArguments (a ∷ rest) = IsWrittenArgument a × AreWrittenArguments rest

abbrev pub IsOptional : {A : Type 0} → (A → Type 0) → Option A → Type 0
IsOptional P None = Unit {0}
IsOptional P (Some x) = P x

abbrev pub IsWrittenDecl : DeclBody → Type 0
IsWrittenDecl (constant u ns t) = SomeNames ns × IsWrittenType t
IsWrittenDecl (function n ps ins t b) = IsName n × AreParams ps × AreWrittenArguments ins × IsWrittenType t × IsOptional IsWritten b
IsWrittenDecl (axiom_of x) = IsWritten x
IsWrittenDecl (variables gs) = SomeGroups gs
IsWrittenDecl (synonym n t) = IsName n × IsOptional IsWrittenType t
IsWrittenDecl (procedure n ps s ss b) = IsName n × AreParams ps × IsWrittenSignature s × AreWrittenSpecs ss × IsOptional IsWrittenBody b
IsWrittenDecl (implementation n ps s b) = IsName n × AreParams ps × IsWrittenSignature s × IsWrittenBody b
