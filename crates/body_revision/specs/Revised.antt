-- A procedure with other clauses or another body, an implementation with another body, an axiom with another expression, or a function with another value that applies the same functions.
use Rattle.std.specs.Prelude.{◌≡◌, ◌⊎◌, Bool, false, List, [], flat_map, Option, Some, None, is_some}
use Rattle.bpl_ast.specs.Place.{Name, Params, Ty}
use Rattle.bpl_ast.specs.Tree.{Expr}
use Rattle.bpl_ast.specs.Statement.{Argument, Body, DeclBody, Signature, Spec, axiom_of, function, procedure, implementation}
use Rattle.bpl_scopes.specs.Functions.{applied_in, argument_names, is_quantified}
use Rattle.bpl_scopes.specs.Scopes.{Text, texts_of, spec_names}

-- the names in the clauses `modifies`, in order
abbrev pub names_modified : List Spec → List Text
names_modified ss = texts_of (flat_map spec_names ss)

-- a procedure, what stands before its clauses, and its clauses and body
pub record HasParts (d : DeclBody) (name : Name) (params : Option Params) (signature : Signature) (specs : List Spec) (has_body : Bool) : Type 0 where
  pub body : Option Body
  pub is : d ≡ procedure name params signature specs body
  pub told : has_body ≡ is_some body

-- an implementation, and what stands before its body
pub record IsImplementation (d : DeclBody) (name : Name) (params : Option Params) (signature : Signature) : Type 0 where
  pub body : Body
  pub is : d ≡ implementation name params signature body

-- two procedures of one head that name the same in `modifies`; both have a body, or none has
pub record IsOtherProcedure (d e : DeclBody) : Type 0 where
  pub name : Name
  pub params : Option Params
  pub signature : Signature
  pub specs : List Spec
  pub new_specs : List Spec
  pub before : Option Body
  pub after : Option Body
  pub modified : names_modified new_specs ≡ names_modified specs
  pub bodies : is_some after ≡ is_some before
  pub old : d ≡ procedure name params signature specs before
  pub new : e ≡ procedure name params signature new_specs after

-- two implementations of one head
pub record IsOtherImplementation (d e : DeclBody) : Type 0 where
  pub name : Name
  pub params : Option Params
  pub signature : Signature
  pub before : Body
  pub after : Body
  pub old : d ≡ implementation name params signature before
  pub new : e ≡ implementation name params signature after

-- two axioms
pub record IsOtherAxiom (d e : DeclBody) : Type 0 where
  pub before : Expr
  pub after : Expr
  pub old : d ≡ axiom_of before
  pub new : e ≡ axiom_of after

-- a function, what stands before its value, and its value, if it has one
pub record HasValue (d : DeclBody) (name : Name) (params : Option Params) (ins : List Argument) (result : Ty) (value : Option Expr) : Type 0 where
  pub is : d ≡ function name params ins result value

-- what a value applies, where these are the parameters
abbrev pub value_applies : List Argument → Option Expr → List Text
value_applies ins v = elim v [ None ↦ [] | Some x ↦ applied_in (texts_of (argument_names ins)) x ]

abbrev pub value_quantified : Option Expr → Bool
value_quantified v = elim v [ None ↦ false | Some x ↦ is_quantified x ]

-- two values apply the same functions in the same order; both have a quantifier, or none has
pub record ApplyTheSame (ins : List Argument) (before after : Option Expr) : Type 0 where
  pub applied : value_applies ins after ≡ value_applies ins before
  pub quantified : value_quantified after ≡ value_quantified before

-- two functions of one head with such values
pub record IsOtherFunction (d e : DeclBody) : Type 0 where
  pub name : Name
  pub params : Option Params
  pub ins : List Argument
  pub result : Ty
  pub before : Option Expr
  pub after : Option Expr
  pub same : ApplyTheSame ins before after
  pub old : d ≡ function name params ins result before
  pub new : e ≡ function name params ins result after

abbrev pub IsRevised : DeclBody → DeclBody → Type 0
IsRevised d e = IsOtherProcedure d e ⊎ (IsOtherImplementation d e ⊎ (IsOtherAxiom d e ⊎ IsOtherFunction d e))
