use Rattle.std.proofs.Common.{◌≡◌}
use Rattle.logic_laws.proofs.SameValue.{value_stable}
use Rattle.logic_laws.proofs.MentionedVariables.{same_where_mentioned}
use Rattle.logic_laws.proofs.variables.other_variables_dont_matter.Goals as goal

pub returns : goal.returns
returns c = λ defs frees frees' t b a w. same_where_mentioned frees frees' defs t b a (λ v. v ≡ w) (λ v. value_stable v w)
