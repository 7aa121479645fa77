-- The modules of programs, procedures of which have equal obligations where their dependency texts are equal.
use Rattle.std.specs.Prelude.{◌≡◌, ℕ, ◌<◌, ◌^◌, List, length, None}
use Rattle.bpl_ast.specs.Statement.{Decl}
use Rattle.bpl_model.specs.Module.{Module}
use Rattle.bpl_declaration_faults.specs.DeclFaults.{fault_of}
use Rattle.canonical_text.specs.RoundTrip.{AreWrittenDecls}
use Rattle.bpl_resolve.specs.Elaborate.{module_of}
use Rattle.vc_build.specs.Rebuild.{TextsFixObligations}

-- the module of declarations without faults that tokens spell, with names of their own, and of which a list can be held
pub record IsResolved (m : Module) : Type 0 where
  pub decls : List Decl
  pub written : AreWrittenDecls 0 decls
  pub faultless : fault_of decls ≡ None
  pub few : length decls < 2 ^ 64
  pub is : m ≡ module_of decls

abbrev pub EqualDependencyTextsHaveEqualObligations : Type 0
EqualDependencyTextsHaveEqualObligations = TextsFixObligations IsResolved
