use Rattle.std.proofs.Common.{◌≡◌, map, take, string_bytes}
use Rattle.tableau.specs.RunView.{verdict_of}
use Rattle.report_laws.specs.Scratch.{verdicts}
use Rattle.check_report.proofs.reports.report.Given as goal

abbrev pub invariant-loop-proc : goal.invariant-loop-proc
invariant-loop-proc l = record {
  names : map string_bytes l.names.items ≡ map (λ p. p.name) (take l.proc-index l.procs);
  marked : map (λ ms. ms.items) l.marked.items ≡ map (λ p. map (λ g. g.mark) p.goals) (take l.proc-index l.procs);
  found : map (λ vs. map verdict_of vs.items) l.found.items ≡ map (λ p. verdicts l.fn.turns p.goals) (take l.proc-index l.procs);
}
