-- Goals of all procedures, one procedure after another.
use Rattle.std.specs.Prelude.{◌≡◌, refl, ℕ, zero, suc, ◌<◌, ◌≤◌, List, [], ◌∷◌, length, map, flat_map, drop}
use Rattle.std.specs.List.{AllByRecursion}
use Rattle.std.proofs.Common.{arith, ap, sym, ◌∙◌, get_or, drop-cons}
use Rattle.std.proofs.lemmas.List.{length-append}
use Rattle.std.proofs.lemmas.List.Folds.{flat_map-map}
use Rattle.bpl_model.specs.Module.{Proc, Module}
use Rattle.bpl_model.specs.NoGoto.{BodyHasNoGoto}
use Rattle.bpl_goto.specs.Removed.{removed, remove_gotos}
use Rattle.bpl_goto.proofs.NoneLeft.{none_left}
use Rattle.vc_build.specs.declared.goal.Goal.{Goal}
use Rattle.vc_build.specs.Goals.{goals_by_passes, goals}
use Rattle.vc_build.specs.Large.{program_goals}
use Rattle.program_opening.specs.ProcGoals.{goal_counts}

-- ---- a module without gotos

none_in : (ps : List Proc) → AllByRecursion (λ (p : Proc). BodyHasNoGoto p.body) (map removed ps)
none_in [] = tt
none_in (p ∷ ps) = (none_left p, none_in ps)

pub without_gotos : (m : Module) → AllByRecursion (λ (p : Proc). BodyHasNoGoto p.body) (remove_gotos m).procs
without_gotos m = none_in m.procs

pub same_goals : (m : Module) → flat_map (goals_by_passes (remove_gotos m)) (remove_gotos m).procs ≡ program_goals m
same_goals m = flat_map-map (goals_by_passes (remove_gotos m)) removed m.procs

counts_in : (m : Module) (ps : List Proc) → map (λ (p : Proc). length (goals_by_passes (remove_gotos m) p)) (map removed ps) ≡ map (λ (p : Proc). length (goals m p)) ps
counts_in m [] = refl
counts_in m (p ∷ ps) = ap (λ ns. length (goals m p) ∷ ns) (counts_in m ps)

pub same_counts : (m : Module) → map (λ (p : Proc). length (goals_by_passes (remove_gotos m) p)) (remove_gotos m).procs ≡ goal_counts m
same_counts m = counts_in m m.procs

-- ---- procedures that are left

-- the procedure at a place, and then those behind it
pub here : (ps qs : List Proc) (i : ℕ) (p d : Proc) → qs ≡ ps → i < length ps → p ≡ get_or qs i d → drop i ps ≡ p ∷ drop (suc i) ps
here ps qs i p d same below is =
    drop-cons ps i d below ∙ ap (λ x. x ∷ drop (suc i) ps) (sym (is ∙ ap (λ xs. get_or xs i d) same))

-- as many are left as the procedure at a place has
enough_in : (f : Proc → List Goal) (ps : List Proc) (i : ℕ) → get_or (map (λ (p : Proc). length (f p)) ps) i 0 ≤ length (flat_map f (drop i ps))
enough_in f [] zero = omega arith
enough_in f [] (suc i) = omega arith
enough_in f (p ∷ ps) zero = omega (arith, length-append (f p) (flat_map f ps))
enough_in f (p ∷ ps) (suc i) = enough_in f ps i

pub enough : (m : Module) (counts : List ℕ) (left : List Goal) (i : ℕ) → counts ≡ goal_counts m → left ≡ flat_map (goals m) (drop i m.procs) → get_or counts i 0 ≤ length left
enough m counts left i same is = omega (arith, enough_in (goals m) m.procs i, ap (λ ns. get_or ns i 0) same, ap length is)
