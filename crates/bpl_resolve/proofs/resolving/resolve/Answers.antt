use Rattle.std.proofs.Common.{◌≡◌, ◌∙◌, ap}
use Rattle.bpl_resolve.specs.Elaborate.{module_of}
use Rattle.bpl_resolve.proofs.resolving.resolve.Goals as goal

pub returns-clause-module : goal.returns-clause-module
returns-clause-module c =
    let same : c.in_ok-declarations.declarations ≡ c.args.program.now = c.in_ok-declarations.ensures ∙ c.deref.ensures.value ∙ c.program.view_is in
    c.new.ensures ∙ c.in_ok-parts-in-None.ensures ∙ ap module_of same
