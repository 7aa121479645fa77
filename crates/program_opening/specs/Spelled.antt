-- Declarations of texts.
use Rattle.std.specs.Prelude.{◌≡◌, ℕ, List, Contains}
use Rattle.std.specs.List.{AllByRecursion}
use Rattle.bpl_ast.specs.Statement.{Decl, name_of}
use Rattle.bpl_grammar.specs.Programs.{SpellsProgram}

-- a text has the declaration, perhaps at another place, and behind another number of axioms
pub record IsSpelled (d : Decl) : Type 0 where
  pub text : List ℕ
  pub decls : List Decl
  pub one : Decl
  pub spelled : SpellsProgram text decls
  pub there : Contains decls one
  pub source : d.source ≡ one.source
  pub body : d.body ≡ one.body
  pub axioms_before : ℕ
  pub name : d.name ≡ name_of axioms_before d.body

abbrev pub AreSpelled : List Decl → Type 0
AreSpelled ds = AllByRecursion IsSpelled ds
