-- The exit status of each way in which a run ends.
use Rattle.std.specs.Prelude.{ℕ}
use Rattle.text_answers.specs.declared.status.Status.{Status}
use Rattle.text_answers.specs.declared.status.Status.TheVariants.{Done, NotAll, Usage, ReadFault, WriteFault, Memory, Refused, SessionFull}

abbrev pub exit_code : Status → ℕ
exit_code Done = 0
exit_code NotAll = 1
exit_code Usage = 2
exit_code ReadFault = 3
exit_code WriteFault = 4
exit_code Memory = 5
exit_code Refused = 6
exit_code SessionFull = 7

-- the run wrote an answer to the whole input
abbrev pub IsAnswering : Status → Type 0
IsAnswering Done = Unit {0}
IsAnswering NotAll = Unit {0}
IsAnswering Usage = ⊥
IsAnswering ReadFault = ⊥
IsAnswering WriteFault = ⊥
IsAnswering Memory = ⊥
IsAnswering Refused = Unit {0}
IsAnswering SessionFull = ⊥

-- the run ended before it wrote anything
abbrev pub IsSilent : Status → Type 0
IsSilent Done = ⊥
IsSilent NotAll = ⊥
IsSilent Usage = ⊥
IsSilent ReadFault = Unit {0}
IsSilent WriteFault = ⊥
IsSilent Memory = Unit {0}
IsSilent Refused = ⊥
IsSilent SessionFull = Unit {0}
