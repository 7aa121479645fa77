-- Which declarations declare procedures or functions, and which state axioms; and where the procedure stands that a declaration declares or implements.
use Rattle.std.specs.Prelude.{ℕ, suc, nat_eq, Bool, true, false, cond, List, [], ◌∷◌, bytes_eq, Option, Some, None, option_map, get_or}
use Rattle.std.specs.List.{list_any}
use Rattle.bpl_ast.specs.Statement.{DeclBody, axiom_of, function, procedure, implementation, Decl}
use Rattle.bpl_scopes.specs.Scopes.{Text}
use Rattle.body_revision.specs.declared.places.Sought.{Sought}
use Rattle.body_revision.specs.declared.places.Sought.TheVariants.{WithoutBody, Implementation}

abbrev pub is_procedure : DeclBody → Bool
is_procedure (procedure n ps g ss b) = true
is_procedure d = false

abbrev pub is_implementation : DeclBody → Bool
is_implementation (implementation n ps g b) = true
is_implementation d = false

abbrev pub is_axiom : DeclBody → Bool
is_axiom (axiom_of x) = true
is_axiom d = false

abbrev pub declares_function : DeclBody → Bool
declares_function (function n ps ins r x) = true
declares_function d = false

-- a procedure of this name that has no body of its own
abbrev pub lacks_body : Text → DeclBody → Bool
lacks_body m (procedure n ps g ss None) = bytes_eq n.text m
lacks_body m d = false

-- an implementation of the procedure of this name
abbrev pub gives_body : Text → DeclBody → Bool
gives_body m (implementation n ps g b) = bytes_eq n.text m
gives_body m d = false

abbrev pub is_sought : Sought → Text → DeclBody → Bool
is_sought WithoutBody m d = lacks_body m d
is_sought Implementation m d = gives_body m d

abbrev pub any_decl : (DeclBody → Bool) → List Decl → Bool
any_decl f ds = list_any (λ (d : Decl). f d.body) ds

-- the place of the only declaration that is so
abbrev pub only_place : (DeclBody → Bool) → List Decl → Option ℕ
only_place f [] = None
only_place f (d ∷ ds) = cond (f d.body) (cond (any_decl f ds) None (Some 0)) (option_map suc (only_place f ds))

-- a place, where another one is this
abbrev pub if_at : ℕ → Option ℕ → Option ℕ → Option ℕ
if_at at None place = None
if_at at (Some k) place = cond (nat_eq k at) place None

-- The place of the procedure that the declaration at a place declares or implements: of one without a body where nothing implements it, and of the only one that an implementation alone gives its body.
abbrev pub procedure_place : List Decl → ℕ → DeclBody → Option ℕ
procedure_place ds at (procedure n ps g ss (Some b)) = Some at
procedure_place ds at (procedure n ps g ss None) = cond (any_decl (gives_body n.text) ds) None (Some at)
procedure_place ds at (implementation n ps g b) = if_at at (only_place (gives_body n.text) ds) (only_place (lacks_body n.text) ds)
procedure_place ds at d = None

-- that procedure: the declaration itself, or the one at the place
abbrev pub procedure_by : List Decl → ℕ → Decl → DeclBody
procedure_by ds place e = cond (is_procedure e.body) e.body (get_or ds place e).body
