use Rattle.std.proofs.Common.{◌≡◌, ◌∙◌, ◌<◌, sym, ap, subst, not, map, length}
use Rattle.std.specs.List.{AllByRecursion}
use Rattle.term_bank.specs.Numbered.{at}
use Rattle.numbered_instances.proofs.passed.is_unpassed.Goals as goal

pub returns-in-Some : goal.returns-in-Some
returns-in-Some c = λ e ts low new h.
    ap (λ is. new (map (at ts) is)) c.in-Some.ensures.is ∙ h c.in-Some.term (subst (AllByRecursion (λ j. j < length ts)) c.in-Some.ensures.is low).0 ∙ ap not (sym c.contains.ensures) ∙ e
