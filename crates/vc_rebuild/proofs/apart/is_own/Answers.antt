use Rattle.std.proofs.Common.{◌∙◌, ◌++◌, ap, bytes_eq}
use Rattle.std.specs.Prelude.{codes, ◌||◌}
use Rattle.bpl_model.specs.Walk.{text_at}
use Rattle.vc_rebuild.proofs.apart.is_own.Goals as goal

pub returns : goal.returns
returns c =
    let p = c.args.proc.now in
    c.in_ok-own.ensures ∙ ap (λ n. bytes_eq p.name n || bytes_eq (codes "implementation " ++ p.name) n) (c.name_at.ensures ∙ ap (λ ts. (text_at ts c.args.d).name) c.texts_of.ensures)
