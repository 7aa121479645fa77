-- What was built of a program, and what declarations are.
use Rattle.std.proofs.Common.{◌≡◌, ◌∙◌, refl, sym, ap, arith, ℕ, ◌+◌, ◌≤◌, nat_lt, Bool, true, false, cond, List, [], ◌∷◌, ◌++◌, map, length, Option, Some, None}
use Rattle.std.specs.Prelude.{filter, flat_map, is_some, option_map}
use Rattle.std.proofs.lemmas.Bool.{ltb-false}
use Rattle.std.proofs.lemmas.List.{length-map}
use Rattle.bpl_ast.specs.Statement.{Decl}
use Rattle.bpl_model.specs.Module.{Stmts, Proc, Module}
use Rattle.bpl_goto.specs.Removed.{body_without, removed, remove_gotos}
use Rattle.fault_text.specs.Written.{Written}
use Rattle.vc_build.specs.declared.goal.Goal.{Goal}
use Rattle.vc_build.specs.declared.fault.Measure.{Measure}
use Rattle.vc_build.specs.declared.fault.Measure.TheVariants.{Count, Bytes}
use Rattle.vc_build.specs.Depends.{depends}
use Rattle.obligation_text.specs.Text.{obligation_text}
use Rattle.vc_build.specs.Goals.{goals_with_body, goals}
use Rattle.vc_build.specs.Large.{count_limit, byte_limit, large_after, sizes_of, large, program_goals, program_large}
use Rattle.vc_build.specs.Rebuild.{BuiltProc, with_body, built}
use Rattle.request_text.specs.Request.{Reply}
use Rattle.program_opening.specs.Opening.{Opening, program, refused, Typing, typed, ill_typed, typing, opening, size_fault, unless_large, within_limits}
use Rattle.program_opening.specs.ProcGoals.{ProcGoals, goals_of_proc, goals_by_proc}
use Rattle.report_laws.proofs.Mapped.{map_flat}
use Rattle.edit_session.specs.Program.{IsModuleOf, question, questions, keys}
use Rattle.edit_session.specs.Asking.{Taken, taken, denied, fault_reply, judged, Outcome, Asks}
use Rattle.edit_session.specs.Built.{proc_goals, questions_of}
use Rattle.board_core.specs.Board.{first}
use Rattle.tableau.specs.Settled.{Settled}
use Rattle.program_opening.proofs.Openings.{program_of}
use Rattle.program_edits.specs.Edited.{edited, IsEdited}
use Rattle.request_text.specs.Request as asked
use Rattle.edit_session.specs.Kept.{IsReady}

-- ---- what was built

as_made : (m : Module) (ps : List Proc) → map proc_goals (map (λ p. record { name = p.name; depends = depends m p; goals = goals m p }) ps) ≡ map (goals_of_proc m) ps
as_made m [] = refl
as_made m (p ∷ ps) = ap (λ qs. goals_of_proc m p ∷ qs) (as_made m ps)

pub procs_are : (m : Module) (bs : List BuiltProc) → bs ≡ built m → map proc_goals bs ≡ goals_by_proc m
procs_are m bs e = ap (map proc_goals) e ∙ as_made m (with_body m)

by_shown : (turns : ℕ) (bs : List BuiltProc) → questions_of turns bs ≡ flat_map (λ (p : ProcGoals). map (question turns) p.goals) (map proc_goals bs)
by_shown turns [] = refl
by_shown turns (b ∷ bs) = ap (λ qs. map (question turns) b.goals ++ qs) (by_shown turns bs)

-- procedures without a body have no goals
no_goals : (m : Module) (p : Proc) (o : Option Stmts) → p.body ≡ o → is_some o ≡ false → goals m p ≡ []
no_goals m p None e f = λ i. goals_with_body (remove_gotos m) (removed p) (option_map body_without (e i))
no_goals m p (Some ss) e f = absurd (cc)

of_bodies : (turns : ℕ) (m : Module) (ps : List Proc) → flat_map (λ (q : ProcGoals). map (question turns) q.goals) (map (goals_of_proc m) (filter (λ (p : Proc). is_some p.body) ps)) ≡ flat_map (λ (p : Proc). map (question turns) (goals m p)) ps
of_bodies turns m [] = refl
of_bodies turns m (p ∷ ps) = by_test (is_some p.body) refl (of_bodies turns m ps)
  where
    by_test : (b : Bool) → is_some p.body ≡ b
        → flat_map (λ (q : ProcGoals). map (question turns) q.goals) (map (goals_of_proc m) (filter (λ (x : Proc). is_some x.body) ps)) ≡ flat_map (λ (x : Proc). map (question turns) (goals m x)) ps
        → flat_map (λ (q : ProcGoals). map (question turns) q.goals) (map (goals_of_proc m) (cond b (p ∷ filter (λ (x : Proc). is_some x.body) ps) (filter (λ (x : Proc). is_some x.body) ps))) ≡ map (question turns) (goals m p) ++ flat_map (λ (x : Proc). map (question turns) (goals m x)) ps
    by_test true e rest = ap (λ qs. map (question turns) (goals m p) ++ qs) rest
    by_test false e rest = rest ∙ ap (λ gs. map (question turns) gs ++ flat_map (λ (x : Proc). map (question turns) (goals m x)) ps) (sym (no_goals m p p.body refl e))

-- by the procedures' goals
pub questions_by : (turns : ℕ) (m : Module) (bs : List BuiltProc) → map proc_goals bs ≡ goals_by_proc m → questions_of turns bs ≡ questions turns m
questions_by turns m bs e =
    by_shown turns bs ∙ ap (flat_map (λ (p : ProcGoals). map (question turns) p.goals)) e ∙ of_bodies turns m m.procs ∙ sym (map_flat (goals m) (question turns) m.procs)

-- ---- there are few goals

below_limit : (n b : ℕ) (sizes : List ℕ) → n ≤ count_limit → large_after n b sizes ≡ None → n + length sizes ≤ count_limit
below_limit n b [] below e = omega (arith, below)
below_limit n b (size ∷ sizes) below e = by_count (nat_lt count_limit (n + 1)) refl (nat_lt byte_limit (b + size)) (λ l f. below_limit (n + 1) (b + size) sizes l f) e
  where
    by_count : (c : Bool) → nat_lt count_limit (n + 1) ≡ c → (d : Bool) → (n + 1 ≤ count_limit → large_after (n + 1) (b + size) sizes ≡ None → n + 1 + length sizes ≤ count_limit)
        → cond c (Some (Count, n + 1)) (cond d (Some (Bytes, b + size)) (large_after (n + 1) (b + size) sizes)) ≡ None → n + length (size ∷ sizes) ≤ count_limit
    by_count true c d rest f = absurd (cc)
    by_count false c true rest f = absurd (cc)
    by_count false c false rest f = omega (arith, rest (ltb-false _ _ c) f)

not_large : (m n : Module) (o : Option (Measure × ℕ)) → program_large n ≡ o → unless_large n o ≡ program m → program_large m ≡ None
not_large m n None e h = let same : n ≡ m = cc in ap program_large (sym same) ∙ e
not_large m n (Some p) e h = absurd (cc)

of_typing : (m : Module) (t : Typing) → within_limits t ≡ program m → program_large m ≡ None
of_typing m (typed n) h = not_large m n (program_large n) refl h
of_typing m (ill_typed w) h = absurd (cc)

pub few_within : (m : Module) → program_large m ≡ None → length (program_goals m) ≤ count_limit
few_within m within = omega (arith, below_limit 0 0 (sizes_of (program_goals m)) (omega arith) within, length-map (program_goals m) (λ (g : Goal). length (obligation_text g.obligation)))

pub few_goals : (ds : List Decl) (m : Module) → IsModuleOf ds m → length (program_goals m) ≤ count_limit
few_goals ds m is = few_within m (of_typing m (typing ds) is)

-- ---- what declarations are

pub opens_so : (ds : List Decl) (m : Module) → typing ds ≡ typed m → program_large m ≡ None → opening ds ≡ program m
opens_so ds m t none = ap within_limits t ∙ ap (unless_large m) none

too_large : (ds : List Decl) (m : Module) (what : Measure) (number : ℕ) → typing ds ≡ typed m → program_large m ≡ Some (what, number) → opening ds ≡ refused (size_fault what number)
too_large ds m what number t large = ap within_limits t ∙ ap (unless_large m) large

is_denied : (ds : List Decl) (w : Written) (x : Reply) → opening ds ≡ refused w → x ≡ fault_reply w → judged ds (opening ds) ≡ denied x
is_denied ds w x o is = ap (judged ds) o ∙ ap denied (sym is)

pub large_denied : (ds : List Decl) (m : Module) (what : Measure) (number : ℕ) (w : Written) (x : Reply) → typing ds ≡ typed m → program_large m ≡ Some (what, number) → w ≡ size_fault what number
    → x ≡ fault_reply w → judged ds (opening ds) ≡ denied x
large_denied ds m what number w x t large is told = is_denied ds (size_fault what number) x (too_large ds m what number t large) (told ∙ ap fault_reply is)

pub ill_denied : (ds : List Decl) (w : Written) (x : Reply) → typing ds ≡ ill_typed w → x ≡ fault_reply w → judged ds (opening ds) ≡ denied x
ill_denied ds w x t told = is_denied ds w x (ap within_limits t) told

pub is_taken : (ds : List Decl) (m : Module) → typing ds ≡ typed m → program_large m ≡ None → judged ds (opening ds) ≡ taken (record { decls = ds; typed = m })
is_taken ds m t none = ap (judged ds) (opens_so ds m t none)

-- what is taken are the declarations
taken_by : (ds : List Decl) (o : Opening) (p : Taken) → judged ds o ≡ taken p → p.decls ≡ ds
taken_by ds (program m) p e = cc
taken_by ds (refused w) p e = absurd (cc)

pub taken_decls : (ds : List Decl) (p : Taken) → judged ds (opening ds) ≡ taken p → p.decls ≡ ds
taken_decls ds p e = taken_by ds (opening ds) p e

module_by : (ds : List Decl) (o : Opening) (p : Taken) → judged ds o ≡ taken p → o ≡ program p.typed
module_by ds (program m) p e = let same : record { decls = ds; typed = m } ≡ p = cc in ap (λ (q : Taken). program q.typed) same
module_by ds (refused w) p e = absurd (cc)

pub taken_module : (ds : List Decl) (p : Taken) → judged ds (opening ds) ≡ taken p → IsModuleOf ds p.typed
taken_module ds p e = module_by ds (opening ds) p e

-- what is edited is what is judged
pub edited_asks : (old ds : List Decl) (r : asked.Request) (o : Outcome) → IsEdited old r (edited ds) → judged ds (opening ds) ≡ o → Asks old r o
edited_asks old ds r o is e = record { edit = edited ds; is_edited = is; is = sym e }

-- no declarations have no goals
pub no_keys : (turns : ℕ) (m : Module) → IsModuleOf [] m → [] ≡ keys turns m
no_keys turns m is = sym (ap (keys turns) (program_of [] m (sym is)).1)

pub nothing_ready : (turns : ℕ) (m : Module) → IsModuleOf [] m → IsReady turns 0 m (first Settled)
nothing_ready turns m is = record { goals = no_keys turns m is; version = refl; unclosed = refl }
