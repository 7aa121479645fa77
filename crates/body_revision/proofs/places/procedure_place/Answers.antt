use Rattle.std.proofs.Common.{sym, ap, ◌∙◌}
use Rattle.bpl_ast.specs.DeclView.{body_of}
use Rattle.bpl_ast.specs.Place.{Name}
use Rattle.body_revision.proofs.FoundPlaces.{place_of_lacking, place_of_given}
use Rattle.body_revision.proofs.places.procedure_place.Goals as goal

pub returns-in-None : goal.returns-in-None
returns-in-None c =
    place_of_lacking c.args.decls.now c.args.at c.args.decl.now.body c.in-Procedure.name _ _ _ _ c.as_bytes.result.now c.unless_implemented.result
    (sym c.body.ensures ∙ ap body_of c.in-Procedure.is) c.in-None.is (c.as_bytes.ensures.value ∙ ap (λ (n : Name). n.text) c.name.view_is) c.unless_implemented.ensures

pub returns-in-Implementation : goal.returns-in-Implementation
returns-in-Implementation c =
    place_of_given c.args.decls.now c.args.at c.args.decl.now.body c.in-Implementation.name _ _ _ c.as_bytes-in-Implementation.result.now c.implemented_place.result
    (sym c.body.ensures ∙ ap body_of c.in-Implementation.is) (c.as_bytes-in-Implementation.ensures.value ∙ ap (λ (n : Name). n.text) c.name-in-Implementation.view_is) c.implemented_place.ensures
