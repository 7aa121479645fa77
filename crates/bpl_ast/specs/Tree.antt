-- Expressions.
use Rattle.std.specs.Prelude.{ℕ, Bool, List, Option, Some, None}
use Rattle.bv_base.specs.declared.place.Place.{Place}
use Rattle.bpl_ast.specs.Place.{Name, Params, Ty}

pub data Relation : Type 0 where
  eq ne lt le gt ge : Relation

pub data Quantifier : Type 0 where
  for_all exists : Quantifier

-- One list for each run of <==>, ==>, && and ||, each sum, product and run of indices. No parentheses.
mutual
  -- a node, and the place of its first token, an opening parenthesis around it counted
  pub data Expr : Type 0 where
    expr : Place → Node → Expr

  pub data Node : Type 0 where
    number : ℕ → Node
    truth : Bool → Node
    variable : Name → Node
    apply : Name → Exprs → Node
    -- with the place of the word
    old : Place → Expr → Node
    choose : Expr → Expr → Expr → Node
    -- with the place of its parenthesis
    quantified : Quantifier → Place → Option Params → Groups → Triggers → Expr → Node
    iffs : Exprs → Node
    -- it nests to the right
    implies : Exprs → Node
    ands : Exprs → Node
    ors : Exprs → Node
    related : Relation → Expr → Expr → Node
    -- the first part, then the others with their signs
    sums : Expr → Terms → Node
    products : Exprs → Node
    negation : Expr → Node
    minus : Expr → Node
    -- a base, then each [i] and [i := e]
    indexed : Expr → Indices → Node

  pub data Exprs : Type 0 where
    no_exprs : Exprs
    item : Expr → Exprs → Exprs

  pub data Terms : Type 0 where
    no_terms : Terms
    plus : Expr → Terms → Terms
    less : Expr → Terms → Terms

  pub data Indices : Type 0 where
    no_indices : Indices
    at_index : Expr → Indices → Indices
    update : Expr → Expr → Indices → Indices

  -- triggers, each with the place of its brace
  pub data Triggers : Type 0 where
    no_triggers : Triggers
    trigger : Place → Exprs → Triggers → Triggers

  -- names, their type, and their where clause
  pub data Groups : Type 0 where
    no_groups : Groups
    group : List Name → Ty → Clause → Groups → Groups

  -- a clause has the place of the word `where`
  pub data Clause : Type 0 where
    no_clause : Clause
    clause : Place → Expr → Clause

abbrev pub first_place : Expr → Place
first_place (expr p n) = p

-- the same expression in parentheses that begin there
abbrev pub expr_from : Place → Expr → Expr
expr_from p (expr q n) = expr p n

-- the one part alone, or a node of all of them
abbrev pub run : (Exprs → Node) → Exprs → Option Expr
run f no_exprs = None
run f (item x no_exprs) = Some x
run f (item x (item y xs)) = Some (expr (first_place x) (f (item x (item y xs))))
