-- A renamed term has the sort of the term, where the new variables have the sorts of the old ones and the definitions are renamed.
use Rattle.std.proofs.Common.{◌≡◌, ◌∙◌, refl, sym, ap, ℕ, Bool, IsTrue, List, ◌++◌, reverse, slice_get, Option}
use Rattle.std.specs.Option.{IfSome}
use Rattle.logic_core.specs.Tree.{Kind, Tree, free}
use Rattle.logic_core.specs.Def.{Def}
use Rattle.logic_core.specs.Wide.{◌>>=◌}
use Rattle.logic_core.specs.Sorts.{sort_of}
use Rattle.logic_core.specs.Traversed.{as_deep}
use Rattle.logic_core.specs.Renamed.{for_free, both_renamed, EachHas}
use Rattle.logic_laws.specs.RenamingLaws.{AreRenamed, RenamingKeepsSorts}
use Rattle.logic_laws.proofs.TraversedSorts.{SameHead, traversed_sort}

module _ (new_def new_var : ℕ → ℕ) (vars vars' : List Kind) (defs defs' : List Def) (V C : ℕ → Type 0)
    (same_vars : (v : ℕ) → V v → slice_get vars' (new_var v) ≡ slice_get vars v) (heads : (f : ℕ) → C f → SameHead defs defs' f (new_def f)) where
  new_sort : (t : Tree) (d : ℕ) (b b' : List Kind) → b' ≡ b → EachHas V C t → IfSome (for_free new_var d t) (λ u. sort_of vars' defs' b' u ≡ sort_of vars defs b t)
  new_sort (free v) d b b' r h = same_vars v h
  new_sort t d b b' r h = tt

  pub same_sort : (t : Tree) (b : List Kind) → EachHas V C t → sort_of vars' defs' b (both_renamed new_def new_var t) ≡ sort_of vars defs b t
  same_sort t b h = traversed_sort (for_free new_var) as_deep new_def vars vars' defs defs' V C (λ d b b'. b' ≡ b) (λ d b b' ss r. ap (λ c. reverse ss ++ c) r)
      new_sort (λ v d g e. absurd (cc)) (λ v d b b' r e. ap (λ c. slice_get c v) r) heads t 0 b b refl h

pub renamed_head : (new_def new_var : ℕ → ℕ) (defs? vars? : ℕ → Bool) (defs defs' : List Def) → AreRenamed new_def new_var defs? vars? defs defs' → (f : ℕ) → IsTrue (defs? f) → SameHead defs defs' f (new_def f)
renamed_head new_def new_var defs? vars? defs defs' renamed f c g =
    let r = renamed f c in
    ap (λ (o : Option Def). o >>= λ d. g d.params d.sort) r.new ∙ sym (ap (λ (o : Option Def). o >>= λ d. g d.params d.sort) r.old)

pub renaming_keeps_sorts : RenamingKeepsSorts
renaming_keeps_sorts new_def new_var defs? vars? vars vars' defs defs' b t sorts renamed covered =
    same_sort new_def new_var vars vars' defs defs' (λ v. IsTrue (vars? v)) (λ f. IsTrue (defs? f)) sorts (renamed_head new_def new_var defs? vars? defs defs' renamed) t b covered
