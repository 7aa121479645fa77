-- Definitions, signatures and obligations, as contracts see them.
use Rattle.std.specs.Prelude.{Bool, List}
use Rattle.logic_terms.specs.Tree.{Kind, Tree}

-- a definition: the sorts of its parameters, its own, whether it is logical, and its body
pub record Def : Type 0 where
  pub params : List Kind
  pub sort : Kind
  pub logical : Bool
  pub body : Tree

-- the sorts of the variables, and the definitions, each by number
pub record Signature : Type 0 where
  pub vars : List Kind
  pub defs : List Def

pub record Obligation : Type 0 where
  pub vars : List Kind
  pub defs : List Def
  pub axioms : List Tree
  pub goal : Tree
