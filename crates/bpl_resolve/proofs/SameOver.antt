-- A term has the same sort over other lists, where they have the same at the numbers of its variables and of the definitions that it calls.
use Rattle.std.proofs.Common.{◌≡◌, ap, sym, ◌∙◌, ℕ, List, Option, slice_get}
use Rattle.logic_core.specs.Tree.{Kind, Tree}
use Rattle.logic_core.specs.Def.{Def}
use Rattle.logic_core.specs.Wide.{◌>>=◌}
use Rattle.logic_core.specs.Renamed.{EachHas}
use Rattle.logic_core.specs.Sorts.{sort_of}
use Rattle.logic_laws.proofs.RenamedSorts.{same_sort}
use Rattle.logic_laws.proofs.RenamedVariables.{renames_nothing}

-- the lists have the same at the number
abbrev pub SameAt : {A : Type 0} → List A → List A → ℕ → Type 0
SameAt xs ys n = slice_get xs n ≡ slice_get ys n

pub same_over : (vars vars' : List Kind) (defs defs' : List Def) (b : List Kind) (t : Tree) → EachHas (SameAt vars' vars) (SameAt defs' defs) t → sort_of vars' defs' b t ≡ sort_of vars defs b t
same_over vars vars' defs defs' b t h = ap (sort_of vars' defs' b) (sym (renames_nothing t))
    ∙ same_sort (λ n. n) (λ n. n) vars vars' defs defs' (SameAt vars' vars) (SameAt defs' defs) (λ v e. e) (λ f e g. ap (λ (o : Option Def). o >>= λ d. g d.params d.sort) e) t b h
