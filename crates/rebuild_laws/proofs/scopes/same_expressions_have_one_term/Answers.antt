use Rattle.std.proofs.Common.{ap, sym, ◌∙◌}
use Rattle.bpl_terms.specs.Terms.{term_in}
use Rattle.rebuild_laws.proofs.BareTerms.{bare_term}
use Rattle.rebuild_laws.proofs.scopes.same_expressions_have_one_term.Goals as goal

pub returns : goal.returns
returns c = λ s in_old x y e. sym (bare_term s in_old x) ∙ ap (term_in s in_old) e ∙ bare_term s in_old y
