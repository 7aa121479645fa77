use Rattle.std.proofs.Common.{◌∙◌, ◌++◌, ap, sym}
use Rattle.std.proofs.lemmas.List.{append-nil}
use Rattle.vc_build.specs.Marks.{contract_marks}
use Rattle.vc_build.proofs.marks.push_call.Goals as goal

pub returns-in-None : goal.returns-in-None
returns-in-None c = sym (append-nil c.args.marks.now.items) ∙ ap (λ o. c.args.marks.now.items ++ contract_marks c.args.at o) c.in-None.ensures
