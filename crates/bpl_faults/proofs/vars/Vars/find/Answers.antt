use Rattle.std.proofs.Common.{◌≡◌, ap, sym, ◌∙◌}
use Rattle.bpl_scopes.specs.Positions.{first_at}
use Rattle.bpl_scopes.specs.Scopes.{var_of}
use Rattle.bpl_faults.specs.VarsView.{looked_var}
use Rattle.bpl_faults.proofs.VarLookup.{var_looked}
use Rattle.bpl_faults.proofs.vars.Vars.find.Goals as goal

pub returns : goal.returns
returns c =
    c.var_at.ensures ∙ ap (λ vs. looked_var vs c.find.result) c.deref.ensures.value
    ∙ ap (looked_var c.self.inside.vars.items) (c.find.ensures ∙ ap (first_at c.args.name.now) c.self.invariant)
    ∙ sym (var_looked c.self.inside.vars.items c.args.name.now)
    ∙ ap (λ vs. var_of vs c.args.name.now) c.self.view_is
