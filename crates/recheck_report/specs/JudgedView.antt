-- What the code says of a line.
use Rattle.proof_core.specs.RuleView.{rule_of}
use Rattle.recheck_report.specs.Judged.{Judgement, accepted, missing, bad, rejected}
use Rattle.recheck_report.specs.declared.goal.Judged.{Judged}
use Rattle.recheck_report.specs.declared.goal.Judged.TheVariants.{Accepted, Missing, Bad, Rejected}

abbrev pub judged_of : Judged → Judgement
judged_of Accepted = accepted
judged_of Missing = missing
judged_of (Bad at) = bad at
judged_of (Rejected node rule) = rejected node (rule_of rule)
