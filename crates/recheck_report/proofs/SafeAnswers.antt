-- Where the answer on a program is `accepted`, its goals are valid, and its procedures safe.
use Rattle.std.proofs.Common.{◌≡◌, refl, subst, sym, ℕ, Bool, true, cond, is_some, List, [], ◌∷◌, ◌++◌, map, filter, Option, Some, None, option_map, Contains}
use Rattle.std.specs.List.{AllByRecursion}
use Rattle.std.proofs.lemmas.List.Elements.{All-from_recursion, All-contains}
use Rattle.logic_core.specs.Valid.{Valid}
use Rattle.proof_core.specs.Verdict.{RefusesTheOthers}
use Rattle.bpl_model.specs.Module.{Stmts, Proc, Module}
use Rattle.bpl_goto.specs.Removed.{body_without, removed, remove_gotos}
use Rattle.vc_build.specs.declared.goal.Goal.{Goal}
use Rattle.vc_build.specs.Goals.{goals, goals_with_body}
use Rattle.program_opening.specs.ProcGoals.{ProcGoals, goals_of_proc, goals_by_proc}
use Rattle.program_opening.specs.Laws.{ModulesAreSound, ProgramsAreSound}
use Rattle.vc_build.specs.Proved.{HasProof, ProvedGoalsAreValid}
use Rattle.recheck_report.specs.Recheck.{Head, head_of, heads_in, heads, Rechecks, all_accepted, has_proof, lacks_one}
use Rattle.recheck_report.specs.Worth.{AcceptedIsSafe}
use Rattle.recheck_report.proofs.ExactAnswers.{all_by_line}

abbrev HaveProofs : List Head → Type 0
HaveProofs hs = AllByRecursion (λ h. HasProof h.obligation) hs

abbrev AreProved : List Goal → Type 0
AreProved gs = AllByRecursion (λ g. HasProof g.obligation) gs

have_proofs : {hs : List Head} {ls : List (List ℕ)} {answer : List ℕ} {all : Bool} → RefusesTheOthers → Rechecks hs ls answer all → all ≡ true → HaveProofs hs
have_proofs judges all_accepted e = tt
have_proofs judges (has_proof {g = g} h r) e = ((h.0, (judges g.obligation h.0).0 h.2), have_proofs judges r e)
have_proofs judges (lacks_one j k d) e = absurd (cc)

-- from heads to goals

all_first : (hs ks : List Head) → HaveProofs (hs ++ ks) → HaveProofs hs
all_first [] ks h = tt
all_first (x ∷ hs) ks h = (h.0, all_first hs ks h.1)

all_second : (hs ks : List Head) → HaveProofs (hs ++ ks) → HaveProofs ks
all_second [] ks h = h
all_second (x ∷ hs) ks h = all_second hs ks h.1

of_goals : (name : List ℕ) (gs : List Goal) → HaveProofs (map (head_of name) gs) → AreProved gs
of_goals name [] h = tt
of_goals name (g ∷ gs) h = (h.0, of_goals name gs h.1)

of_procs : (ps : List ProcGoals) → HaveProofs (heads ps) → AllByRecursion (λ (p : ProcGoals). AreProved p.goals) ps
of_procs [] h = tt
of_procs (p ∷ ps) h = (of_goals p.name p.goals (all_first (heads_in p) (heads ps) h), of_procs ps (all_second (heads_in p) (heads ps) h))

-- a procedure without a body has no goals
no_goals : (m : Module) (p : Proc) → p.body ≡ None → goals m p ≡ []
no_goals m p e = λ i. goals_with_body (remove_gotos m) (removed p) (option_map body_without (e i))

each_proc : (m : Module) (ps : List Proc) → AllByRecursion (λ (q : ProcGoals). AreProved q.goals) (map (goals_of_proc m) (filter (λ (p : Proc). is_some p.body) ps)) → AllByRecursion (λ (p : Proc). AreProved (goals m p)) ps
each_proc m [] h = tt
each_proc m (p ∷ ps) h = by_body p.body refl (each_proc m ps) h
  where
    others : List Proc
    others = filter (λ (p : Proc). is_some p.body) ps

    by_body : (b : Option Stmts) → p.body ≡ b → (AllByRecursion (λ (q : ProcGoals). AreProved q.goals) (map (goals_of_proc m) others) → AllByRecursion (λ (p : Proc). AreProved (goals m p)) ps)
        → AllByRecursion (λ (q : ProcGoals). AreProved q.goals) (map (goals_of_proc m) (cond (is_some b) (p ∷ others) others)) → AreProved (goals m p) × AllByRecursion (λ (p : Proc). AreProved (goals m p)) ps
    by_body None e rest k = (subst AreProved (sym (no_goals m p e)) tt, rest k)
    by_body (Some ss) e rest k = (k.0, rest k.1)

module _ (judges : RefusesTheOthers) (valid : ProvedGoalsAreValid) (sound : ModulesAreSound) (safe : ProgramsAreSound) where
  pub accepted_is_safe : AcceptedIsSafe
  accepted_is_safe text m ls all opens r =
      let s = sound text m opens in
      let proved = each_proc m m.procs (of_procs (goals_by_proc m) (have_proofs judges r (all_by_line r refl))) in
      let are_valid : (p : Proc) → Contains m.procs p → AllByRecursion (λ (g : Goal). Valid g.obligation) (goals m p) = λ p there. valid m p s.typed s.forward there (All-contains (λ (p : Proc). AreProved (goals m p)) m.procs p (All-from_recursion (λ (p : Proc). AreProved (goals m p)) m.procs proved) there) in
      record { valid = are_valid; safe = λ p there. safe text m p opens there (are_valid p there) }
