-- Statements and declarations.
use Rattle.std.specs.Prelude.{ℕ, suc, Bool, List, [], ◌∷◌, ◌++◌, Option, codes, decimal}
use Rattle.bv_base.specs.declared.place.Place.{Place}
use Rattle.bpl_ast.specs.Place.{Name, Params, Ty}
use Rattle.bpl_ast.specs.Tree.{Expr, Exprs, Groups, no_groups, group}

-- a target: a variable, and the indices of one of its entries
pub record Target : Type 0 where
  pub name : Name
  pub indices : Exprs

-- a guard that is None is `*`
abbrev pub Guard : Type 0
Guard = Option Expr

-- with the place of the word `invariant`
pub record Invariant : Type 0 where
  pub at : Place
  pub free : Bool
  pub formula : Expr

mutual
  -- labels, the place of the first token after them, and the rest
  pub data Stmt : Type 0 where
    stmt : List Name → Place → Action → Stmt

  pub data Action : Type 0 where
    assert : Expr → Action
    assume : Expr → Action
    havoc : List Name → Action
    assign : List Target → Exprs → Action
    call : List Name → Name → Exprs → Action
    branches : Branches → Action
    loop : Guard → List Invariant → Stmts → Action
    «break» : Option Name → Action
    «return» : Action
    goto : List Name → Action

  -- one chain of `else if`: each branch has the place of its `if`
  pub data Branches : Type 0 where
    branch : Place → Guard → Stmts → Branches → Branches
    otherwise : Stmts → Branches
    no_branch : Branches

  pub data Stmts : Type 0 where
    no_stmts : Stmts
    next : Stmt → Stmts → Stmts

-- with the place of the word
pub data Spec : Type 0 where
  requires : Place → Bool → Expr → Spec
  ensures : Place → Bool → Expr → Spec
  modifies : Place → List Name → Spec

pub record Body : Type 0 where
  pub locals : List Groups
  pub stmts : Stmts

pub record Signature : Type 0 where
  pub ins : Groups
  pub outs : Groups

-- an argument of a function, perhaps without a name
pub record Argument : Type 0 where
  pub name : Option Name
  pub type : Ty

pub data DeclBody : Type 0 where
  -- with the place of the word `unique`
  constant : Option Place → List Name → Ty → DeclBody
  -- no name of the result
  function : Name → Option Params → List Argument → Ty → Option Expr → DeclBody
  axiom_of : Expr → DeclBody
  variables : Groups → DeclBody
  synonym : Name → Option Ty → DeclBody
  procedure : Name → Option Params → Signature → List Spec → Option Body → DeclBody
  implementation : Name → Option Params → Signature → Body → DeclBody

-- a declaration: its name (`implementation P`, `@k` of an axiom), the place of its bytes in the text, and these
pub record Decl : Type 0 where
  pub name : List ℕ
  pub start : ℕ
  pub finish : ℕ
  pub source : List ℕ
  pub body : DeclBody

abbrev pub first_name : List Name → List ℕ
first_name [] = []
first_name (n ∷ ns) = n.text

abbrev pub first_of_groups : Groups → List ℕ
first_of_groups no_groups = []
first_of_groups (group ns t c gs) = first_name ns

-- a declaration's name, where k axioms stand before it
abbrev pub name_of : ℕ → DeclBody → List ℕ
name_of k (constant u ns t) = first_name ns
name_of k (function n ps ins t b) = n.text
name_of k (axiom_of x) = codes "@" ++ decimal (suc k)
name_of k (variables gs) = first_of_groups gs
name_of k (synonym n t) = n.text
name_of k (procedure n ps s ss b) = n.text
name_of k (implementation n ps s b) = codes "implementation " ++ n.text

-- how many axioms there are with this declaration, where there were k before it
abbrev pub axioms_with : ℕ → DeclBody → ℕ
axioms_with k (axiom_of x) = suc k
axioms_with k b = k
