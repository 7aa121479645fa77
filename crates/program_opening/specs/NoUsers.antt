-- Whether declarations have user types.
use Rattle.std.specs.Prelude.{Bool, true, false, List, Some, None}
use Rattle.std.specs.List.{list_any}
use Rattle.bpl_ast.specs.Statement.{DeclBody, constant, function, axiom_of, variables, synonym, procedure, implementation, Decl}

abbrev pub is_user_type : DeclBody → Bool
is_user_type (constant u ns s) = false
is_user_type (function n ps ins t x) = false
is_user_type (axiom_of x) = false
is_user_type (variables gs) = false
is_user_type (synonym n None) = true
is_user_type (synonym n (Some s)) = false
is_user_type (procedure n ps s ss b) = false
is_user_type (implementation n ps s b) = false

abbrev pub has_user_types : List Decl → Bool
has_user_types ds = list_any (λ (d : Decl). is_user_type d.body) ds
