-- A term with other variables means what the term means, where the new variables, and those of the definitions' bodies, have the values of the old ones.
use Rattle.std.specs.Prelude.{◌≡◌, refl, ℕ, nat_eq, ◌+◌, List, [], ◌∷◌, reverse}
use Rattle.std.specs.List.{AllByRecursion}
use Rattle.std.proofs.Common.{ap, ◌∙◌}
use mathlib.Core.Path.{sym}
use Rattle.logic_core.specs.Tree.{Tree, num, truth, free, bound, linear, mul, read, write, choose, call, negation, all, some, equal, at_most, for_all, exists, Trees, no_trees, tree, Parts, no_parts, part, Patterns, no_patterns, pattern}
use Rattle.logic_core.specs.Variables.{variables, renamed, each_renamed, parts_renamed, patterns_renamed}
use Rattle.logic_core.proofs.Mentioned.{variables_stand}
use Rattle.logic_core.specs.Value.{Value, at}
use Rattle.logic_core.specs.Def.{Def}
use Rattle.logic_core.specs.Meaning.{If, With}
use Rattle.logic_core.specs.Valid.{Calls, with_def, calls_from, calls_of}
use Rattle.logic_laws.proofs.BothRenamedMeanings.{same_meaning}

abbrev itself : ℕ → ℕ
itself n = n

-- nothing renamed
mutual
  pub renames_nothing : (t : Tree) → renamed itself t ≡ t
  renames_nothing (num n) = refl
  renames_nothing (truth x) = refl
  renames_nothing (free v) = refl
  renames_nothing (bound v) = refl
  renames_nothing (linear ps c) = λ j. linear (no_parts_renamed ps j) c
  renames_nothing (mul x y) = λ j. mul (renames_nothing x j) (renames_nothing y j)
  renames_nothing (read x y) = λ j. read (renames_nothing x j) (renames_nothing y j)
  renames_nothing (write x y z) = λ j. write (renames_nothing x j) (renames_nothing y j) (renames_nothing z j)
  renames_nothing (choose x y z) = λ j. choose (renames_nothing x j) (renames_nothing y j) (renames_nothing z j)
  renames_nothing (call f ts) = λ j. call f (none_renamed ts j)
  renames_nothing (negation x) = λ j. negation (renames_nothing x j)
  renames_nothing (all ts) = λ j. all (none_renamed ts j)
  renames_nothing (some ts) = λ j. some (none_renamed ts j)
  renames_nothing (equal x y) = λ j. equal (renames_nothing x j) (renames_nothing y j)
  renames_nothing (at_most x y) = λ j. at_most (renames_nothing x j) (renames_nothing y j)
  renames_nothing (for_all ss ps t) = λ j. for_all ss (no_patterns_renamed ps j) (renames_nothing t j)
  renames_nothing (exists ss ps t) = λ j. exists ss (no_patterns_renamed ps j) (renames_nothing t j)

  none_renamed : (ts : Trees) → each_renamed itself ts ≡ ts
  none_renamed no_trees = refl
  none_renamed (tree t ts) = λ j. tree (renames_nothing t j) (none_renamed ts j)

  no_parts_renamed : (ps : Parts) → parts_renamed itself ps ≡ ps
  no_parts_renamed no_parts = refl
  no_parts_renamed (part k t ps) = λ j. part k (renames_nothing t j) (no_parts_renamed ps j)

  no_patterns_renamed : (ps : Patterns) → patterns_renamed itself ps ≡ ps
  no_patterns_renamed no_patterns = refl
  no_patterns_renamed (pattern ts ps) = λ j. pattern (none_renamed ts j) (no_patterns_renamed ps j)

module _ (frees frees' : List Value) where
  -- the new variables of a term have the values of its own
  abbrev pub Carries : (ℕ → ℕ) → Tree → Type 0
  Carries new t = AllByRecursion (λ v. at frees' (new v) ≡ at frees v) (variables t)

  pub same_over : (new : ℕ → ℕ) (calls calls' : Calls) → calls' ≡ calls → (t : Tree) → Carries new t → With frees' calls' (renamed new t) ≡ With frees calls t
  same_over new calls calls' same t h =
      same_meaning itself new frees frees' calls calls' (λ v. at frees' (new v) ≡ at frees v) (λ f. Unit {0}) (λ v e. e) (λ f u. ap (λ (c : Calls). c f) same) t (variables_stand (λ v. at frees' (new v) ≡ at frees v) t h)

  -- the variables of the definitions' bodies have the same values
  abbrev pub Agree : List Def → Type 0
  Agree ds = AllByRecursion (λ d. Carries itself d.body) ds

  same_from : (ds : List Def) (n : ℕ) (calls calls' : Calls) → calls' ≡ calls → Agree ds → calls_from frees' n ds calls' ≡ calls_from frees n ds calls
  same_from [] n calls calls' same h = same
  same_from (d ∷ ds) n calls calls' same h =
      let body : With frees' calls' d.body ≡ With frees calls d.body = ap (With frees' calls') (sym (renames_nothing d.body)) ∙ same_over itself calls calls' same d.body h.0 in
      same_from ds (n + 1) (with_def frees n d calls) (with_def frees' n d calls') (λ j f vs P. If (nat_eq f n) (body j (reverse vs) P) (same j f vs P)) h.1

  pub same_calls : (defs : List Def) → Agree defs → calls_of frees' defs ≡ calls_of frees defs
  same_calls defs h = same_from defs 0 _ _ refl h

  pub renamed_means : (defs : List Def) (new : ℕ → ℕ) (t : Tree) → Agree defs → Carries new t → With frees' (calls_of frees' defs) (renamed new t) ≡ With frees (calls_of frees defs) t
  renamed_means defs new t agree carries = same_over new (calls_of frees defs) (calls_of frees' defs) (same_calls defs agree) t carries
