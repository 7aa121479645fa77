-- What the end of a search stands for.
use Rattle.std.specs.Prelude.{map}
use Rattle.tableau.specs.Search as spec
use Rattle.tableau_branch.specs.View.{played_of}
use Rattle.tableau.specs.declared.ended.Answer.{Answer}
use Rattle.tableau.specs.declared.ended.Run.{Run}
use Rattle.tableau.specs.declared.ended.Verdict.{Verdict}
use Rattle.tableau.specs.declared.ended.Verdict.TheVariants.{Proved, Open, Turns, Wide}

abbrev pub verdict_of : Verdict → spec.Verdict
verdict_of Proved = spec.proved
verdict_of Open = spec.«open»
verdict_of Turns = spec.turns
verdict_of Wide = spec.wide

abbrev pub run_of : Run → spec.Run
run_of r = record { verdict = verdict_of r.verdict; moves = map played_of r.moves.items }

abbrev pub answer_seen : Answer → spec.Answer
answer_seen a = record { verdict = verdict_of a.verdict; found = a.proof }
