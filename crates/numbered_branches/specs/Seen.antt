-- What is read of numbers of these terms, and of one whose tightened fact is known.
use Rattle.std.specs.Prelude.{ℕ, true, false, List}
use Rattle.logic_core.specs.Tree.{Tree, nodes}
use Rattle.logic_core.specs.Size.{capped}
use Rattle.logic_core.specs.Junction.{is_truth}
use Rattle.term_bank.specs.Numbered.{at}
use Rattle.numbered_branches.specs.NumberedChange.{Read}

abbrev pub seen_of : List Tree → Read
seen_of ts = record { is_true = λ i. is_truth true (at ts i); tight = λ i. i; size = λ i. capped (nodes (at ts i)) }

-- the number of the tightened fact alone
abbrev pub tight_as : ℕ → Read
tight_as tight = record { is_true = λ i. false; tight = λ i. tight; size = λ i. 0 }
