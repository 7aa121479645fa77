-- Each expression of a module has its type, where these are the types of what is declared.
use Rattle.std.specs.Prelude.{◌≡◌, ⊤, ℕ, List, [], ◌++◌, map, length, take, Option, Some, None, slice_get}
use Rattle.std.specs.List.{AllByRecursion, AllZip}
use Rattle.logic_core.specs.Tree.{Tree}
use Rattle.bpl_model.specs.Module.{Spec, requires, ensures, modifies, Stmt, assert, assume, havoc, assign, call, if_else, while, break, return, goto, labelled, Stmts, no_stmts, stmt, Local, Proc, Module}
use Rattle.bpl_model.specs.Numbering.{defs_of, const_sorts, global_sorts, local_sorts}
use Rattle.bpl_sorts.specs.Types.{Ty, truths, kinds_of}
use Rattle.bpl_sorts.specs.Typed.{HasType, AreTypedDefs}
use Rattle.bpl_sorts.specs.DeclaredTypes.{ProcTypes, Types}

module _ (T : Types) where
  -- constants, globals and their entry values have the first numbers
  abbrev pub with_own : List Ty → List Ty
  with_own own = T.consts ++ (T.globals ++ (T.globals ++ own))

  -- what a contract reads, and what a body reads
  abbrev pub contract_types : ProcTypes → List Ty
  contract_types p = with_own (p.ins ++ p.outs)

  abbrev pub body_types : ProcTypes → List Ty
  body_types p = with_own (p.ins ++ (p.outs ++ p.locals))

  module _ (vars : List Ty) where
    abbrev pub IsTruth : Tree → Type 0
    IsTruth E = HasType vars T.functions [] E truths

    abbrev pub IsOptional : Option Tree → Type 0
    IsOptional None = ⊤
    IsOptional (Some E) = IsTruth E

    -- a right side has the type of its variable
    pub record IsSide (a : ℕ × Tree) : Type 0 where
      pub type : Ty
      pub variable : slice_get vars a.0 ≡ Some type
      pub side : HasType vars T.functions [] a.1 type

    -- arguments have the types of the procedure's in-parameters, and variables that take its results those of its outs
    pub record IsCall (q : ℕ) (es : List Tree) (xs : List ℕ) : Type 0 where
      pub callee : ProcTypes
      pub there : slice_get T.procs q ≡ Some callee
      pub arguments : AllZip (λ t e. HasType vars T.functions [] e t) callee.ins es
      pub results : map (slice_get vars) xs ≡ map (λ t. Some t) callee.outs

    abbrev mutual
      pub IsStmt : Stmt → Type 0
      IsStmt (assert mark E) = IsTruth E
      IsStmt (assume at E) = IsTruth E
      IsStmt (havoc at xs) = ⊤
      IsStmt (assign at ps) = AllByRecursion IsSide ps
      IsStmt (call at q es xs) = IsCall q es xs
      IsStmt (if_else at has_else g ss ts) = IsOptional g × AreStmts ss × AreStmts ts
      IsStmt (while at g is ss) = IsOptional g × AllByRecursion (λ i. IsTruth i.formula) is × AreStmts ss
      IsStmt (break at l) = ⊤
      IsStmt (return at) = ⊤
      IsStmt (goto at to) = ⊤
      IsStmt (labelled ls s) = IsStmt s

      pub AreStmts : Stmts → Type 0
      AreStmts no_stmts = ⊤
      AreStmts (stmt s ss) = IsStmt s × AreStmts ss

    abbrev pub IsBody : Option Stmts → Type 0
    IsBody None = ⊤
    IsBody (Some ss) = AreStmts ss

    abbrev pub IsSpec : Spec → Type 0
    IsSpec (requires free at E) = IsTruth E
    IsSpec (ensures free at E) = IsTruth E
    IsSpec (modifies xs) = ⊤

    abbrev pub AreClauses : List Local → Type 0
    AreClauses ls = AllByRecursion (λ l. IsOptional l.clause) ls

  pub record IsTypedProc (p : ProcTypes) (q : Proc) : Type 0 where
    -- the types are those of its variables
    pub ins : kinds_of p.ins ≡ local_sorts q.ins
    pub outs : kinds_of p.outs ≡ local_sorts q.outs
    pub locals : kinds_of p.locals ≡ local_sorts q.locals
    pub in_clauses : AreClauses (contract_types p) q.ins
    pub out_clauses : AreClauses (contract_types p) q.outs
    pub local_clauses : AreClauses (body_types p) q.locals
    pub specs : AllByRecursion (IsSpec (contract_types p)) q.specs
    pub body : IsBody (body_types p) q.body

-- axioms and functions read constants alone; of the axioms these are the program's own, which are the first
pub record HasTypes (T : Types) (own_axioms : ℕ) (m : Module) : Type 0 where
  pub consts : kinds_of T.consts ≡ const_sorts m
  pub globals : kinds_of T.globals ≡ global_sorts m
  pub axioms : AllByRecursion (IsTruth T T.consts) (take own_axioms m.axioms)
  pub as_many : length T.functions ≡ length (defs_of m)
  pub functions : AreTypedDefs T.consts T.functions (defs_of m)
  pub clauses : AllByRecursion (λ g. IsOptional T (with_own T []) g.clause) m.globals
  pub procs : AllZip (IsTypedProc T) T.procs m.procs
