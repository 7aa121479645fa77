use Rattle.std.proofs.Common.{◌∙◌, ◌++◌, ap, bytes_eq}
use Rattle.std.specs.Prelude.{codes, ◌||◌}
use Rattle.vc_rebuild.proofs.apart.names_it.Goals as goal

pub returns : goal.returns
returns c =
    let name = c.args.name.now in
    let own = c.as_slice.ensures.value ∙ c.in_ok-own.ensures ∙ ap (λ x. codes "implementation " ++ x) c.name_of-called.ensures in
    c.is_either.ensures ∙ (λ i. bytes_eq (c.name_of-called.ensures i) name || bytes_eq (own i) name)
