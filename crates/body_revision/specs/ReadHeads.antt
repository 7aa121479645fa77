-- The heads of declarations: what they declare, where another type stands for each user type.
use Rattle.std.specs.Prelude.{ℕ, List, [], ◌∷◌, Some, None}
use Rattle.bv_base.specs.declared.place.Place.{Place}
use Rattle.bpl_ast.specs.Place.{Ty}
use Rattle.bpl_ast.specs.Tree.{no_groups}
use Rattle.bpl_ast.specs.Statement.{DeclBody, constant, function, axiom_of, variables, synonym, procedure, implementation, Decl}
use Rattle.user_types.specs.Erased.{users_with}

-- axioms and implementations declare nothing, and the body of a procedure adds nothing
module _ (stands : ℕ → Place → Ty) where
  abbrev pub head_in : ℕ → DeclBody → DeclBody
  head_in k (constant u ns s) = constant u ns s
  head_in k (synonym n None) = synonym n (Some (stands k n.at))
  head_in k (synonym n (Some s)) = synonym n (Some s)
  head_in k (function n ps ins r x) = function n ps ins r x
  head_in k (axiom_of x) = variables no_groups
  head_in k (variables gs) = variables gs
  head_in k (procedure n ps s ss b) = procedure n ps s ss None
  head_in k (implementation n ps s b) = variables no_groups

  -- where k user types stand before
  abbrev pub heads_from : ℕ → List Decl → List Decl
  heads_from k [] = []
  heads_from k (d ∷ ds) = record { name = []; start = d.start; finish = d.finish; source = []; body = head_in (users_with k d.body) d.body } ∷ heads_from (users_with k d.body) ds
