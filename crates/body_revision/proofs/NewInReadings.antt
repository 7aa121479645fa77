-- What is made over the names of a program in the reading of its user types as integers is new in the reading.
use Rattle.std.proofs.Common.{◌≡◌, sym, ap, ◌∙◌, ℕ, ◌<◌, List, [], ◌∷◌, length, slice_get, Some}
use Rattle.bpl_ast.specs.Statement.{Decl}
use Rattle.bpl_scopes.specs.Scopes.{table_of, no_counts, counts_after}
use Rattle.user_types.specs.Erased.{erased}
use Rattle.bpl_resolve.specs.Elaborate.{decl_text, procs_in, axioms_in}
use Rattle.body_revision.specs.Revised.{IsRevised}
use Rattle.body_revision.specs.Procedures.{procedure_by}
use Rattle.body_revision.specs.Names.{AreNamesOf, own_fault}
use Rattle.body_revision.specs.Revision.{values_in, IsPartOf, IsNew, IsMade}
use Rattle.body_revision.specs.declared.declared_names.DeclaredNames.{DeclaredNames}
use Rattle.body_revision.specs.declared.revised.ModulePart.{ModulePart}
use Rattle.body_revision.specs.declared.revised.ModulePart.TheVariants.{Procedure, Axiom, Function}
use Rattle.body_revision.specs.declared.revised.Revision.{Revision}
use Rattle.body_revision.proofs.FoundPlaces.{procedure_there}
use Rattle.body_revision.proofs.ReadBodies.{erased_there, erased_revised, place_read, procedures_read, axioms_read, procedure_read}

module _ (ds : List Decl) (at : ℕ) (e : Decl) (n : DeclaredNames) (names : AreNamesOf (erased ds) n) (there : at < length ds) where
  part_is_new : (part : ModulePart) → IsPartOf (table_of n.declarations) (counts_after no_counts n.declarations) ds at e part → IsPartOf (table_of (erased ds)) (counts_after no_counts (erased ds)) (erased ds) at e part
  part_is_new (Procedure k p) made =
      let found = procedure_there ds at e made.place made.found there in
      record {
        place = made.place;
        found = place_read ds at e.body ∙ made.found;
        counted = made.counted ∙ sym (procedures_read ds made.place found.0);
        made = ap (procs_in (e ∷ []) _ _) (procedure_read ds made.place e found.0 found.1) ∙ sym (λ i. procs_in (e ∷ []) (names.alike.table i) (names.alike.counts i) (procedure_by ds made.place e)) ∙ made.made;
      }
  part_is_new (Axiom k f) made = record {
    counted = made.counted ∙ sym (axioms_read ds at there);
    made = sym (λ i. axioms_in (names.alike.table i) (names.alike.counts i) e.body) ∙ made.made;
  }
  part_is_new (Function k f) made = sym (λ i. values_in (names.alike.table i) (names.alike.counts i) e.body) ∙ made

  pub made_is_new : (count : ℕ) (r : Revision) → ((d : Decl) → slice_get ds at ≡ Some d → IsRevised d.body e.body) → count ≡ length (erased ds) → IsMade n ds at count e r → IsNew (erased ds) at e r
  made_is_new count r revised all made = record {
    there = erased_there ds at e there revised;
    revised = erased_revised ds at e there revised;
    faultless = sym (λ i. own_fault (names.alike.table i) (names.alike.counts i) e.body) ∙ made.faultless;
    placed = made.placed;
    part = part_is_new r.part made.part;
    text = made.text ∙ (λ i. decl_text (names.alike.table i) (all i) e);
  }
