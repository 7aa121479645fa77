-- Formulas, statements, clauses and variables over numbers, and the same over new ones, whatever their places.
use Rattle.std.specs.Prelude.{◌≡◌, ℕ, Bool, List, [], ◌∷◌, map, Option, Some, None}
use Rattle.std.specs.List.{AllByRecursion}
use Rattle.bv_base.specs.declared.place.Place.{Place}
use Rattle.logic_core.specs.Tree.{Tree}
use Rattle.logic_core.specs.Renamed.{both_renamed, EachHas}
use Rattle.flow_core.specs.declared.mark.Mark.{Mark}
use Rattle.flow_core.specs.declared.block.Invariant.{Invariant}
use Rattle.bpl_model.specs.Module.{Name, Spec, requires, ensures, modifies, Guard, Stmt, assert, assume, havoc, assign, call, if_else, while, break, return, goto, labelled, Stmts, no_stmts, stmt, Local}

-- a variable that is set, and its right side
abbrev pub Sets : (D V : ℕ → Type 0) → ℕ × Tree → Type 0
Sets D V p = V p.0 × EachHas V D p.1

-- over the new numbers of definitions and variables, and which of them are renamed
module _ (new_def new_var : ℕ → ℕ) (D V : ℕ → Type 0) where
  -- invariants, wherever they stand
  pub record AlikeInvariant (i j : Invariant) : Type 0 where
    pub free : j.free ≡ i.free
    pub covered : EachHas V D i.formula
    pub formula : j.formula ≡ both_renamed new_def new_var i.formula

  pub data AlikeInvariants : List Invariant → List Invariant → Type 0 where
    no_invariants : AlikeInvariants [] []
    one_invariant : {i j : Invariant} {is js : List Invariant} → AlikeInvariant i j → AlikeInvariants is js → AlikeInvariants (i ∷ is) (j ∷ js)

-- and the callees that go alike
module _ (new_def new_var : ℕ → ℕ) (D V : ℕ → Type 0) (C : ℕ → ℕ → Type 0) where
  pub data AlikeGuard : Guard → Guard → Type 0 where
    free_choice : AlikeGuard None None
    guarded : {E : Tree} → EachHas V D E → AlikeGuard (Some E) (Some (both_renamed new_def new_var E))

  mutual
    pub data AlikeStmt : Stmt → Stmt → Type 0 where
      asserts : {m n : Mark} {E : Tree} → EachHas V D E → AlikeStmt (assert m E) (assert n (both_renamed new_def new_var E))
      assumes : {p q : Place} {E : Tree} → EachHas V D E → AlikeStmt (assume p E) (assume q (both_renamed new_def new_var E))
      havocs : {p q : Place} {vs : List ℕ} → AllByRecursion V vs → AlikeStmt (havoc p vs) (havoc q (map new_var vs))
      assigns : {p q : Place} {ps : List (ℕ × Tree)} → AllByRecursion (Sets D V) ps → AlikeStmt (assign p ps) (assign q (map (λ r. (new_var r.0, both_renamed new_def new_var r.1)) ps))
      branches : {p q : Place} {e f : Bool} {g h : Guard} {ss ts us ws : Stmts} → AlikeGuard g h → AlikeStmts ss ts → AlikeStmts us ws → AlikeStmt (if_else p e g ss us) (if_else q f h ts ws)
      loops : {p q : Place} {g h : Guard} {is js : List Invariant} {ss ts : Stmts} → AlikeGuard g h → AlikeInvariants new_def new_var D V is js → AlikeStmts ss ts → AlikeStmt (while p g is ss) (while q h js ts)
      breaks : {p q : Place} {l : Option Name} → AlikeStmt (break p l) (break q l)
      returns : {p q : Place} → AlikeStmt (return p) (return q)
      jumps : {p q : Place} {ls : List Name} → AlikeStmt (goto p ls) (goto q ls)
      calls_so : {p q : Place} {k l : ℕ} {es : List Tree} {vs : List ℕ} → C k l → AllByRecursion (EachHas V D) es → AllByRecursion V vs → AlikeStmt (call p k es vs) (call q l (map (both_renamed new_def new_var) es) (map new_var vs))
      labels : {ls : List Name} {s t : Stmt} → AlikeStmt s t → AlikeStmt (labelled ls s) (labelled ls t)

    pub data AlikeStmts : Stmts → Stmts → Type 0 where
      none_more : AlikeStmts no_stmts no_stmts
      a_stmt : {s t : Stmt} {ss ts : Stmts} → AlikeStmt s t → AlikeStmts ss ts → AlikeStmts (stmt s ss) (stmt t ts)

module _ (new_def new_var : ℕ → ℕ) (D V : ℕ → Type 0) where
  abbrev pub AlikeClause : Option Tree → Option Tree → Type 0
  AlikeClause = AlikeGuard new_def new_var D V (λ k l. ⊥)

  -- of one sort, with clauses that go alike
  pub data AlikeLocals : List Local → List Local → Type 0 where
    no_locals : AlikeLocals [] []
    a_local : {k l : Local} {ks ls : List Local} → l.sort ≡ k.sort → l.own ≡ k.own → AlikeClause k.clause l.clause → AlikeLocals ks ls → AlikeLocals (k ∷ ks) (l ∷ ls)

  -- formulas that go alike
  pub record AlikeTerms (ts us : List Tree) : Type 0 where
    pub same : us ≡ map (both_renamed new_def new_var) ts
    pub covered : AllByRecursion (EachHas V D) ts

-- clauses of contracts, whatever their places
module _ (new_def new_var : ℕ → ℕ) (D W : ℕ → Type 0) where
  pub data AlikeSpec : Spec → Spec → Type 0 where
    both_require : {f : Bool} {p q : Place} {E : Tree} → EachHas W D E → AlikeSpec (requires f p E) (requires f q (both_renamed new_def new_var E))
    both_ensure : {f : Bool} {p q : Place} {E : Tree} → EachHas W D E → AlikeSpec (ensures f p E) (ensures f q (both_renamed new_def new_var E))
    both_modify : {vs : List ℕ} → AllByRecursion W vs → AlikeSpec (modifies vs) (modifies (map new_var vs))

  pub data AlikeSpecs : List Spec → List Spec → Type 0 where
    no_specs : AlikeSpecs [] []
    a_spec : {s t : Spec} {ss ts : List Spec} → AlikeSpec s t → AlikeSpecs ss ts → AlikeSpecs (s ∷ ss) (t ∷ ts)
