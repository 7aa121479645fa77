-- Declarations without their bodies: their tokens, and what their texts tell.
use Rattle.std.specs.Prelude.{◌≡◌, ℕ, List, [], ◌∷◌, ◌++◌, map, flat_map, Option, Some, None, option_map}
use Rattle.std.specs.List.{AllByRecursion}
use Rattle.bpl_ast.specs.Place.{Name, Params}
use Rattle.bpl_ast.specs.Statement.{no_stmts, Spec, Body, Signature, DeclBody, constant, function, axiom_of, variables, synonym, procedure, implementation}
use Rattle.canonical_text.specs.Glyph.{Glyph, plain, word}
use Rattle.canonical_text.specs.Lines.{signature, ended, text, contract}
use Rattle.canonical_text.specs.SameStatement.{bare_decl}
use Rattle.canonical_text.specs.WrittenStatement.{IsWrittenDecl}
use Rattle.canonical_text.specs.Tokens.{specs_tokens, decl_tokens}

-- the tokens of all but a procedure's body
abbrev pub head_tokens : DeclBody → List Glyph
head_tokens (procedure n ps s ss b) = word "procedure" ∷ plain n.text ∷ (signature ps s ++ (ended b ++ specs_tokens ss))
head_tokens (implementation n ps s b) = word "implementation" ∷ plain n.text ∷ signature ps s
head_tokens (constant u ns t) = decl_tokens (constant u ns t)
head_tokens (function n ps ins t b) = decl_tokens (function n ps ins t b)
head_tokens (axiom_of x) = decl_tokens (axiom_of x)
head_tokens (variables gs) = decl_tokens (variables gs)
head_tokens (synonym n t) = decl_tokens (synonym n t)

-- what stands for a body that is left out
abbrev pub no_body : Body
no_body = record { locals = []; stmts = no_stmts }

-- a declaration without a procedure's body
abbrev pub head_of : DeclBody → DeclBody
head_of (procedure n ps s ss b) = procedure n ps s ss (option_map (λ x. no_body) b)
head_of (implementation n ps s b) = implementation n ps s no_body
head_of (constant u ns t) = constant u ns t
head_of (function n ps ins t b) = function n ps ins t b
head_of (axiom_of x) = axiom_of x
head_of (variables gs) = variables gs
head_of (synonym n t) = synonym n t

-- without places too
abbrev pub bare_head : DeclBody → DeclBody
bare_head d = bare_decl (head_of d)

-- a procedure with a body, or one without and its implementation
pub data HaveBody : List DeclBody → Type 0 where
  whole : {n : Name} {ps : Option Params} {s : Signature} {ss : List Spec} {b : Body} → HaveBody (procedure n ps s ss (Some b) ∷ [])
  apart : {n m : Name} {ps qs : Option Params} {s t : Signature} {ss : List Spec} {b : Body} → HaveBody (procedure n ps s ss None ∷ implementation m qs t b ∷ [])

abbrev pub AreWrittenBodies : List DeclBody → Type 0
AreWrittenBodies ds = AllByRecursion IsWrittenDecl ds

-- the canonical texts of the first, and those of the others without bodies of procedures
abbrev pub text_with : List DeclBody → List DeclBody → List ℕ
text_with own others = flat_map text own ++ flat_map contract others

-- such a text of a procedure's own declarations and of others tells all of them but for places, and the others but for their bodies
abbrev pub TextsTellDeclarations : Type 0
TextsTellDeclarations = (own mine others theirs : List DeclBody) → HaveBody own → HaveBody mine
    → AreWrittenBodies own → AreWrittenBodies mine → AreWrittenBodies others → AreWrittenBodies theirs
    → text_with own others ≡ text_with mine theirs
    → (map bare_decl own ≡ map bare_decl mine) × (map bare_head others ≡ map bare_head theirs)
