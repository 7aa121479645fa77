use Rattle.std.proofs.Common.{sym, ap, ◌∙◌, Some}
use Rattle.bpl_scopes.specs.Shape.{kind_of, kind_seen}
use Rattle.bpl_scopes.proofs.Shapes.{one_sort}
use Rattle.bpl_scopes.proofs.synonyms.is_same.Goals as goal

pub returns-in-Some-other : goal.returns-in-Some-other
returns-in-Some-other c h =
    ap kind_seen c.in-Some.is ∙ ap Some (one_sort (kind_of c.in-Some.mine) (kind_of c.in-Some-other.other) (sym c.equals.ensures ∙ h)) ∙ sym (ap kind_seen c.in-Some-other.is)
