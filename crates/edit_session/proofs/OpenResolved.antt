-- The module of declarations without a fault by names and types is that of a program without faults.
use Rattle.std.specs.Prelude.{◌≡◌, ℕ, ◌<◌, ◌^◌, List, length, Option, Some, None}
use Rattle.std.proofs.Common.{refl, ap, ◌∙◌, arith}
use Rattle.std.proofs.lemmas.List.{length-map}
use Rattle.bv_base.specs.declared.place.Place.{Place}
use Rattle.bpl_ast.specs.Statement.{Decl}
use Rattle.bpl_scopes.specs.declared.fault.Fault.{Fault}
use Rattle.bpl_scopes.specs.Scopes.{table_of}
use Rattle.bpl_declaration_faults.specs.DeclFaults.{fault_of}
use Rattle.bpl_model.specs.Module.{Module}
use Rattle.user_types.specs.Erased.{erased}
use Rattle.user_types.specs.CarrierFaults.{carrier_fault}
use Rattle.canonical_text.specs.RoundTrip.{AreWrittenDecls}
use Rattle.bpl_resolve.specs.Elaborate.{decl_text, module_of}
use Rattle.rebuild_laws.specs.Resolved.{IsResolved}
use Rattle.program_opening.specs.Opening.{typed, typing_by_carriers, typing_by, typing}
use Rattle.edit_session.proofs.ErasedWritten.{erased_written}

-- without faults, and the module is that of the erased declarations
record IsFaultless (ds : List Decl) (m : Module) : Type 0 where
  pub none : fault_of (erased ds) ≡ None
  pub is : m ≡ module_of (erased ds)

by_carriers : (ds : List Decl) (m : Module) (o : Option (ℕ × Place)) → typing_by_carriers ds o ≡ typed m → m ≡ module_of (erased ds)
by_carriers ds m None h = cc
by_carriers ds m (Some p) h = absurd (cc)

by_fault : (ds : List Decl) (m : Module) (o : Option (ℕ × Fault)) → fault_of (erased ds) ≡ o → typing_by ds o ≡ typed m → IsFaultless ds m
by_fault ds m None e h = record { none = e; is = by_carriers ds m (carrier_fault ds) h }
by_fault ds m (Some p) e h = absurd (cc)

-- a module has as many texts as declarations
pub as_many_texts : (ds : List Decl) → length (module_of ds).texts ≡ length ds
as_many_texts ds = length-map ds (decl_text (table_of ds) (length ds))

pub typed_resolved : (ds : List Decl) (m : Module) → AreWrittenDecls 0 ds → length m.texts < 2 ^ 64 → typing ds ≡ typed m → IsResolved m
typed_resolved ds m written few t =
    let f = by_fault ds m (fault_of (erased ds)) refl t in
    let many : length m.texts ≡ length (erased ds) = ap (λ (x : Module). length x.texts) f.is ∙ as_many_texts (erased ds) in
    let below : length (erased ds) < 2 ^ 64 = omega (few, many, arith) in
    record { decls = erased ds; written = erased_written ds written below; faultless = f.none; few = below; is = f.is }
