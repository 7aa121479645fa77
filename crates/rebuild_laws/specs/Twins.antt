-- Over two programs and a procedure of each, what it is that they reach the same declarations but for places.
use Rattle.std.specs.Prelude.{◌≡◌, ◌⊎◌, ℕ, true, List, slice_get, Some, None}
use Rattle.std.specs.List.{Contains}
use Rattle.bpl_ast.specs.Statement.{DeclBody, Decl}
use Rattle.bpl_model.specs.Module.{Proc}
use Rattle.bpl_model.specs.Reach.{among, own_positions, reached_by}
use Rattle.bpl_declaration_faults.specs.DeclFaults.{fault_of}
use Rattle.canonical_text.specs.SameStatement.{bare_decl}
use Rattle.canonical_text.specs.RoundTrip.{AreWrittenDecls}
use Rattle.vc_build.specs.Depends.{depends}
use Rattle.vc_build.specs.Rebuild.{with_body}
use Rattle.bpl_resolve.specs.Elaborate.{module_of}
use Rattle.canonical_text.specs.Heads.{bare_head}

-- the procedure's own declarations, and all that are reached with them
abbrev pub Own : List Decl → Proc → ℕ → Type 0
Own ds p d = among (own_positions (module_of ds) p) d ≡ true

abbrev pub Reached : List Decl → Proc → ℕ → Type 0
Reached ds p d = Own ds p d ⊎ (among (reached_by (module_of ds) p) d ≡ true)

-- a declaration of the other program
pub record Twin (Stands : ℕ → Type 0) (es : List Decl) (like : DeclBody → Type 0) : Type 0 where
  pub position : ℕ
  pub decl : Decl
  pub stands : Stands position
  pub at : slice_get es position ≡ Some decl
  pub same : like decl.body

-- each of the procedure's own declarations stands among those of the other one but for places, and each that is reached but for places and bodies of procedures
pub record Twins (ds : List Decl) (p : Proc) (es : List Decl) (q : Proc) : Type 0 where
  pub own : (d : ℕ) (x : Decl) → Own ds p d → slice_get ds d ≡ Some x → Twin (Own es q) es (λ y. bare_decl x.body ≡ bare_decl y)
  pub all : (d : ℕ) (x : Decl) → Reached ds p d → slice_get ds d ≡ Some x → Twin (Reached es q) es (λ y. bare_head x.body ≡ bare_head y)

-- of one dependency text, in two programs without faults
abbrev pub DependencyTextsMakeTwins : Type 0
DependencyTextsMakeTwins = (ds es : List Decl) (p q : Proc) → AreWrittenDecls 0 ds → AreWrittenDecls 0 es → fault_of ds ≡ None → fault_of es ≡ None
    → Contains (with_body (module_of ds)) p → Contains (with_body (module_of es)) q
    → depends (module_of ds) p ≡ depends (module_of es) q
    → Twins ds p es q
