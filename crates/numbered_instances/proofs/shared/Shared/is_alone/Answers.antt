use Rattle.std.proofs.Common.{◌≡◌, ◌∙◌, sym, ap, get_or}
use Rattle.std.proofs.lemmas.Bool.{eqb-true}
use Rattle.numbered_instances.proofs.SharedAtoms.{alone}
use Rattle.numbered_instances.proofs.shared.Shared.is_alone.Goals as goal

pub returns : goal.returns
returns c = λ h ts facts counted. alone ts c.args.id facts c.args.self.now.counts.items
    (sym (c.count_of.ensures ∙ ap (λ xs. get_or xs c.args.id 0) c.deref.ensures.value) ∙ eqb-true c.count_of.result 1 h) counted
