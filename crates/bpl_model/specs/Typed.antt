-- What a module's type keeps.
use Rattle.std.specs.Prelude.{◌≡◌, ◌≢◌, ℕ, ◌<◌, ◌≤◌, Bool, true, false, not, cond, IsTrue, List, [], ◌++◌, map, length, slice_get, slice_index_or, Option, Some, None, Contains, AllPairs, ◌⊎◌, ⊤, bytes_eq}
use Rattle.std.specs.List.{list_any, AllByRecursion, AllZip}
use Rattle.logic_core.specs.Tree.{Kind, int, Tree}
use Rattle.logic_core.specs.Def.{Def}
use Rattle.logic_core.specs.Sorts.{sort_of, bodies_sorted}
use Rattle.logic_core.specs.WellSorted.{IsFormula}
use Rattle.flow_core.specs.Reading.{Mentions}
use Rattle.flow_core.specs.State.{sorts_at}
use Rattle.bpl_model.specs.Module.{Name, Guard, Spec, requires, ensures, modifies, Stmt, assert, assume, havoc, assign, call, if_else, while, break, return, goto, labelled, Stmts, no_stmts, stmt, is_scope, Local, Proc, DeclText, Module}
use Rattle.bpl_model.specs.Numbering.{defs_of, const_sorts, global_sorts, local_sorts, in_sorts, contract_sorts, sorts_of, first_global, first_entry, first_in, first_out, global_numbers}

-- a term over these variables and definitions has this sort
abbrev pub HasSort : List Kind → List Def → Kind → Tree → Type 0
HasSort vars defs k t = sort_of vars defs [] t ≡ Some k

module _ (m : Module) (p : Proc) where
  abbrev pub IsGuard : Guard → Type 0
  IsGuard None = ⊤
  IsGuard (Some E) = IsFormula (sorts_of m p) (defs_of m) E

  -- globals, outs and locals may be set
  abbrev pub MayBeSet : ℕ → Type 0
  MayBeSet v = ((first_global m ≤ v) × (v < first_entry m)) ⊎ ((first_out m p ≤ v) × (v < length (sorts_of m p)))

  -- the variables may be set, and none stands there twice
  abbrev pub AreTargets : List ℕ → Type 0
  AreTargets xs = AllPairs (λ x y. x ≢ y) xs × AllByRecursion MayBeSet xs

  -- the term has the sort of the variable
  abbrev pub Fits : ℕ × Tree → Type 0
  Fits a = HasSort (sorts_of m p) (defs_of m) (slice_index_or (sorts_of m p) a.0 int) a.1

  -- the procedure of this number takes the arguments, and gives the variables values of their sorts
  pub record IsCall (q : ℕ) (es : List Tree) (xs : List ℕ) : Type 0 where
    pub callee : Proc
    pub named : slice_get m.procs q ≡ Some callee
    pub arguments : AllZip (HasSort (sorts_of m p) (defs_of m)) (local_sorts callee.ins) es
    pub results : sorts_at (sorts_of m p) xs ≡ local_sorts callee.outs

  abbrev mutual
    -- inside a loop or not, and under the labels of these ifs and whiles
    pub IsTyped : Bool → List Name → Stmt → Type 0
    IsTyped inside ls (assert mark E) = IsFormula (sorts_of m p) (defs_of m) E
    IsTyped inside ls (assume at E) = IsFormula (sorts_of m p) (defs_of m) E
    IsTyped inside ls (havoc at xs) = AreTargets xs
    IsTyped inside ls (assign at ps) = AreTargets (map (λ a. a.0) ps) × AllByRecursion Fits ps
    IsTyped inside ls (call at q es xs) = AreTargets xs × IsCall q es xs
    IsTyped inside ls (if_else at has_else g ss ts) = IsGuard g × AreTyped inside ls ss × AreTyped inside ls ts
    IsTyped inside ls (while at g is ss) = IsGuard g × AllByRecursion (λ i. IsFormula (sorts_of m p) (defs_of m) i.formula) is × AreTyped true ls ss
    IsTyped inside ls (break at None) = IsTrue inside
    IsTyped inside ls (break at (Some l)) = IsTrue (list_any (bytes_eq l) ls)
    IsTyped inside ls (return at) = ⊤
    IsTyped inside ls (goto at to) = ⊤
    IsTyped inside ls (labelled new s) = IsTyped inside (cond (is_scope s) (new ++ ls) ls) s

    pub AreTyped : Bool → List Name → Stmts → Type 0
    AreTyped inside ls no_stmts = ⊤
    AreTyped inside ls (stmt s ss) = IsTyped inside ls s × AreTyped inside ls ss

  -- an entry value, or an out
  abbrev pub IsOnlyLater : ℕ → Type 0
  IsOnlyLater v = ((first_entry m ≤ v) × (v < first_in m)) ⊎ (first_out m p ≤ v)

  -- a contract reads no local, and a requires no entry value and no out
  abbrev pub IsSpec : Spec → Type 0
  IsSpec (requires free at E) = IsFormula (contract_sorts m p) (defs_of m) E × ((v : ℕ) → IsOnlyLater v → ¬ Mentions E v)
  IsSpec (ensures free at E) = IsFormula (contract_sorts m p) (defs_of m) E
  IsSpec (modifies xs) = AllByRecursion (Contains (global_numbers m)) xs

  -- an entry value
  abbrev pub IsOld : ℕ → Type 0
  IsOld v = (first_entry m ≤ v) × (v < first_in m)

  -- a clause over variables of these sorts, which reads no entry value
  abbrev pub IsClause : List Kind → Option Tree → Type 0
  IsClause vars None = ⊤
  IsClause vars (Some E) = IsFormula vars (defs_of m) E × ((v : ℕ) → IsOld v → ¬ Mentions E v)

  abbrev pub HaveClauses : List Kind → List Local → Type 0
  HaveClauses vars ls = AllByRecursion (λ l. IsClause vars l.clause) ls

  abbrev pub IsBody : Option Stmts → Type 0
  IsBody None = ⊤
  IsBody (Some ss) = AreTyped false [] ss

  -- no parameter and no local stands for a replaced call
  pub record IsTypedProc : Type 0 where
    pub specs : AllByRecursion IsSpec p.specs
    -- an in-parameter's clause reads globals and in-parameters, an out's the outs too, and a local's all but entry values
    pub in_clauses : HaveClauses (in_sorts m p) p.ins
    pub out_clauses : HaveClauses (contract_sorts m p) p.outs
    pub local_clauses : HaveClauses (sorts_of m p) p.locals
    pub body : IsBody p.body
    pub none_own : AllByRecursion (λ l. IsTrue (not l.own)) (p.ins ++ (p.outs ++ p.locals))

-- a global's clause reads constants and globals
abbrev pub IsGlobalClause : Module → Option Tree → Type 0
IsGlobalClause m None = ⊤
IsGlobalClause m (Some E) = IsFormula (const_sorts m ++ global_sorts m) (defs_of m) E

-- the positions are those of declarations
abbrev pub IsText : Module → DeclText → Type 0
IsText m d = AllByRecursion (λ k. k < length m.texts) d.leads × AllByRecursion (λ k. k < length m.texts) d.contract_leads

-- each function's body reads constants and its own parameters alone, and uses functions of lower numbers; an axiom reads constants alone
pub record IsTypedModule (m : Module) : Type 0 where
  pub functions : IsTrue (bodies_sorted (const_sorts m) [] (defs_of m))
  pub axioms : AllByRecursion (IsFormula (const_sorts m) (defs_of m)) m.axioms
  pub clauses : AllByRecursion (λ g. IsGlobalClause m g.clause) m.globals
  pub procs : AllByRecursion (IsTypedProc m) m.procs
  pub texts : AllByRecursion (IsText m) m.texts
