-- What stands at one place among the names and the verdicts of procedures is one procedure's.
use Rattle.std.proofs.Common.{◌≡◌, ◌∙◌, refl, sym, ap, arith, ℕ, zero, suc, Bool, Some, None, is_some, List, [], ◌∷◌, map, length, slice_get, Contains, filter, All}
use Rattle.std.specs.List.{AllByRecursion}
use Rattle.std.proofs.lemmas.List.Elements.{All-from_recursion, All-map, All-filter, All-contains, Contains-get_or}
use Rattle.std.proofs.lemmas.Option.{slice_get_read}
use Rattle.tableau.specs.Search.{Verdict}
use Rattle.bpl_model.specs.Module.{Proc, Module}
use Rattle.vc_build.specs.Goals.{goals}
use Rattle.vc_build.specs.Rebuild.{with_body}
use Rattle.report_text.specs.Called.{IsName}
use Rattle.program_opening.specs.ProcGoals.{ProcGoals, goals_of_proc, goals_by_proc}
use Rattle.program_opening.specs.Laws.{HaveOwnNames}
use Rattle.report_laws.specs.Scratch.{verdicts}

-- one of these procedures has the name and the verdicts
pub record IsAmong (turns : ℕ) (m : Module) (ps : List Proc) (name : List ℕ) (vs : List Verdict) : Type 0 where
  pub proc : Proc
  pub there : Contains ps proc
  pub named : proc.name ≡ name
  pub given : verdicts turns (goals m proc) ≡ vs

longer : {A : Type 0} (x : A) (xs : List A) (z : A) → Contains xs z → Contains (x ∷ xs) z
longer x xs z (k, lt, e) = (suc k, omega (arith, lt), e)

pub at_place : (turns : ℕ) (m : Module) (ps : List Proc) (i : ℕ) (name : List ℕ) (vs : List Verdict)
    → slice_get (map (λ (q : ProcGoals). q.name) (map (goals_of_proc m) ps)) i ≡ Some name → slice_get (map (λ (q : ProcGoals). verdicts turns q.goals) (map (goals_of_proc m) ps)) i ≡ Some vs
    → IsAmong turns m ps name vs
at_place turns m [] i name vs a b = absurd (let e : None ≡ Some name = a in cc)
at_place turns m (p ∷ ps) zero name vs a b =
    let e : Some p.name ≡ Some name = a in
    let f : Some (verdicts turns (goals m p)) ≡ Some vs = b in
    record { proc = p; there = (0, omega arith, refl); named = cc; given = cc }
at_place turns m (p ∷ ps) (suc i) name vs a b =
    let r = at_place turns m ps i name vs a b in
    record { proc = r.proc; there = longer p ps r.proc r.there; named = r.named; given = r.given }

-- what passes a test is in the list
pub was_there : {A : Type 0} (test : A → Bool) (xs : List A) (z : A) → Contains (filter test xs) z → Contains xs z
was_there test xs z there = All-contains (Contains xs) (filter test xs) z (All-filter test (Contains xs) xs (λ k d lt. Contains-get_or xs k d lt)) there

-- the names of a report are names, where those of the module's procedures are
pub report_names : (m : Module) → AllByRecursion (λ p. IsName p.name) m.procs → All IsName (map (λ (q : ProcGoals). q.name) (goals_by_proc m))
report_names m h =
    let kept = All-filter (λ (p : Proc). is_some p.body) (λ (p : Proc). IsName p.name) m.procs (All-from_recursion (λ (p : Proc). IsName p.name) m.procs h) in
    All-map IsName (λ (q : ProcGoals). q.name) (goals_by_proc m) (All-map (λ (q : ProcGoals). IsName q.name) (goals_of_proc m) (with_body m) kept)

-- procedures of one name are one
pub same_proc : (ps : List Proc) (p q : Proc) → HaveOwnNames ps → Contains ps p → Contains ps q → p.name ≡ q.name → p ≡ q
same_proc ps p q own (i, below, e) (j, within, f) named =
    let first : slice_get ps i ≡ Some p = slice_get_read ps (length ps) i p refl below (sym e) in
    let other : slice_get ps j ≡ Some q = slice_get_read ps (length ps) j q refl within (sym f) in
    let same : Some p ≡ Some q = sym first ∙ ap (slice_get ps) (own i j p q first other named) ∙ other in
    cc
