use Rattle.std.proofs.Common.{◌≡◌, ◌∙◌, ap}
use Rattle.bpl_model.specs.Module.{Module}
use Rattle.bpl_model.specs.Names.{place}
use Rattle.bpl_model.specs.Reach.{positions}
use Rattle.bpl_model.specs.Walk.{row, rows_of}
use Rattle.bpl_model.specs.Links.{declared, named_rows}
use Rattle.bpl_model.proofs.Places.{named_is}
use Rattle.bpl_model.proofs.links.Links.named.Goals as goal

pub returns : goal.returns
returns c =
    let m = c.args.self.now in
    let n = c.args.name.now in
    let rows : rows_of c.deref.result.now ≡ named_rows m.texts (declared m) (positions m) = ap rows_of c.deref.ensures.value ∙ (c.self.invariant.named_are ∙ ap (λ (x : Module). named_rows x.texts (declared x) (positions x)) c.self.view_is) in
    let at : c.place.result ≡ place (declared m) n = c.place.ensures ∙ (λ i. place ((c.self.invariant.names_are ∙ ap declared c.self.view_is) i) n) in
    c.row_at.ensures ∙ ((λ i. row (rows i) (at i)) ∙ named_is m n)
