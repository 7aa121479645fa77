-- What a fault's text says.
use Rattle.std.specs.Prelude.{ℕ, List, ◌++◌, codes, decimal}
use Rattle.proof_core.specs.Rule.{rule_word}
use Rattle.proof_core.specs.RuleView.{rule_of}
use Rattle.proof_check.specs.declared.fault.CheckFault.{CheckFault}
use Rattle.proof_check.specs.declared.fault.CheckFault.TheVariants.{Memory, Rejected}

abbrev pub fault_text : CheckFault → List ℕ
fault_text Memory = codes "out of memory"
fault_text (Rejected n r) = codes "node " ++ (decimal n ++ (codes ": " ++ (rule_word (rule_of r) ++ codes " is refused")))
