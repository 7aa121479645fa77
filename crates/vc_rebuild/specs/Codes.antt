-- The codes of what is kept of a procedure and of a program, by which proofs tell them apart: those of their fields.
use Rattle.std.specs.Prelude.{ℕ, List, refl}
use Rattle.std.specs.Coded.{Coded, code_by, coded×, coded_ℕ, coded_list}
use Rattle.vc_build.specs.declared.goal.Goal.{Goal}
use Rattle.vc_build.specs.contracts.goal.Goal as goal_row
use Rattle.vc_build.specs.Rebuild.{BuiltProc}
use Rattle.vc_rebuild.specs.Kept.{Program}

abbrev pub coded_proc : Coded BuiltProc
coded_proc = code_by (List ℕ × (List ℕ × List Goal)) (coded× (coded_list coded_ℕ) (coded× (coded_list coded_ℕ) (coded_list goal_row.the_row.coded))) (λ b. (b.name, (b.depends, b.goals))) (λ q. record { name = q.0; depends = q.1.0; goals = q.1.1 }) (λ _. refl)

abbrev pub coded_program : Coded Program
coded_program = code_by (List BuiltProc × ℕ) (coded× (coded_list coded_proc) coded_ℕ) (λ p. (p.procs, p.rebuilt)) (λ q. record { procs = q.0; rebuilt = q.1 }) (λ _. refl)
