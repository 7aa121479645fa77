-- What equal dependency texts of two procedures tell.
use Rattle.std.specs.Prelude.{◌≡◌, ℕ, not, List, map, filter, filter_map, slice_get, None, option_map}
use Rattle.std.specs.List.{Contains}
use Rattle.bpl_ast.specs.Statement.{DeclBody, Decl}
use Rattle.bpl_model.specs.Module.{Proc, Module}
use Rattle.bpl_model.specs.Reach.{among, own_positions, reached_by}
use Rattle.bpl_declaration_faults.specs.DeclFaults.{fault_of}
use Rattle.canonical_text.specs.SameStatement.{bare_decl}
use Rattle.canonical_text.specs.RoundTrip.{AreWrittenDecls}
use Rattle.canonical_text.specs.Heads.{bare_head}
use Rattle.bpl_resolve.specs.Elaborate.{module_of}
use Rattle.vc_build.specs.Depends.{depends}
use Rattle.vc_build.specs.Rebuild.{with_body}

-- the declarations at these positions
abbrev pub bodies_at : List Decl → List ℕ → List DeclBody
bodies_at ds ns = filter_map (λ n. option_map (λ (d : Decl). d.body) (slice_get ds n)) ns

-- those that are reached, but for the procedure's own
abbrev pub other_positions : Module → Proc → List ℕ
other_positions m p = filter (λ d. not (among (own_positions m p) d)) (reached_by m p)

-- the same declaration and implementation but for places, and the same other declarations, one after another, but for places and bodies of procedures
abbrev pub DependencyTextsTell : Type 0
DependencyTextsTell = (ds es : List Decl) (p q : Proc) → AreWrittenDecls 0 ds → AreWrittenDecls 0 es → fault_of ds ≡ None → fault_of es ≡ None
    → Contains (with_body (module_of ds)) p → Contains (with_body (module_of es)) q
    → depends (module_of ds) p ≡ depends (module_of es) q
    → (map bare_decl (bodies_at ds (own_positions (module_of ds) p)) ≡ map bare_decl (bodies_at es (own_positions (module_of es) q)))
    × (map bare_head (bodies_at ds (other_positions (module_of ds) p)) ≡ map bare_head (bodies_at es (other_positions (module_of es) q)))
