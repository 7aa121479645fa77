-- Each variable keeps a value of its sort along a run.
use Rattle.std.proofs.Common.{◌≡◌, refl, ℕ, zero, suc, true, List, [], ◌∷◌, set}
use Rattle.std.specs.Prelude.{slice_index_or}
use Rattle.std.proofs.lemmas.Bool.{and_parts, and_from}
use Rattle.logic_core.specs.Tree.{Kind, int}
use Rattle.logic_core.specs.Value.{Value, is_of, are_of}
use Rattle.logic_core.specs.Def.{Def}
use Rattle.flow_core.specs.State.{State, sorts_at, FitSorts, update}
use Rattle.flow_core.specs.Graph.{Graph}
use Rattle.flow_core.specs.Run.{Position, Step, enter, assert_holds, assume_holds, assigned, havocked, follow, Run, stay, go}
use Rattle.flow_core.specs.RunLaws.{state_in, RunsKeepSorts}

pub set_sorted : (sorts : List Kind) (σ : State) (x : ℕ) (v : Value) → are_of sorts σ ≡ true → is_of (slice_index_or sorts x int) v ≡ true → are_of sorts (set σ x v) ≡ true
set_sorted [] [] x v h fits = refl
set_sorted [] (w ∷ σ) x v h fits = absurd (cc)
set_sorted (k ∷ ks) [] x v h fits = absurd (cc)
set_sorted (k ∷ ks) (w ∷ σ) zero v h fits = and_from (is_of k v) (are_of ks σ) fits (and_parts (is_of k w) (are_of ks σ) h).1
set_sorted (k ∷ ks) (w ∷ σ) (suc x) v h fits = let both = and_parts (is_of k w) (are_of ks σ) h in and_from (is_of k w) (are_of ks (set σ x v)) both.0 (set_sorted ks σ x v both.1 fits)

pub update_sorted : (sorts : List Kind) (xs : List ℕ) (vs : List Value) (σ : State) → are_of sorts σ ≡ true → FitSorts sorts xs vs → are_of sorts (update σ xs vs) ≡ true
update_sorted sorts [] vs σ h fit = h
update_sorted sorts (x ∷ xs) [] σ h fit = absurd (cc)
update_sorted sorts (x ∷ xs) (v ∷ vs) σ h fit =
    let both = and_parts (is_of (slice_index_or sorts x int) v) (are_of (sorts_at sorts xs) vs) fit in
    update_sorted sorts xs vs (set σ x v) (set_sorted sorts σ x v h both.0) both.1

module _ (defs : List Def) (sorts : List Kind) (g : Graph) where
  step_sorted : (p q : Position) → Step defs sorts g p q → are_of sorts (state_in p) ≡ true → are_of sorts (state_in q) ≡ true
  step_sorted _ _ (enter pass) h = h
  step_sorted _ _ (assert_holds holds) h = h
  step_sorted _ _ (assume_holds holds) h = h
  step_sorted _ _ (assigned {ps = ps} {σ = σ} vs values fit) h = update_sorted sorts _ vs σ h fit
  step_sorted _ _ (havocked {xs = xs} {σ = σ} vs fit) h = update_sorted sorts xs vs σ h fit
  step_sorted _ _ (follow c e) h = h

  run_sorted : (p q : Position) → Run defs sorts g p q → are_of sorts (state_in p) ≡ true → are_of sorts (state_in q) ≡ true
  run_sorted _ _ stay h = h
  run_sorted _ _ (go {p} {q} {r} s rest) h = run_sorted q r rest (step_sorted p q s h)

pub runs_keep_sorts : RunsKeepSorts
runs_keep_sorts = run_sorted
