-- Replacing closed terms by closed terms of their sort keeps sorts.
use Rattle.std.proofs.Common.{◌≡◌, ◌∙◌, refl, sym, ap, subst, Bool, true, Some, None, List, [], ◌++◌, reverse, slice_get}
use Rattle.std.specs.Option.{IfSome}
use Rattle.logic_core.specs.Tree.{Kind, Tree}
use Rattle.logic_core.specs.Def.{Def}
use Rattle.logic_core.specs.Same.{same_term}
use Rattle.logic_core.specs.Sorts.{sort_of}
use Rattle.logic_core.specs.Traversed.{as_deep, kept}
use Rattle.logic_core.specs.Replace.{for_picked, replace}
use Rattle.logic_core.specs.Subterm.{replaced}
use Rattle.logic_core.proofs.SameTerm.{same_is_equal}
use Rattle.logic_core.proofs.Mentioned.{Any, all_stand}
use Rattle.logic_laws.proofs.Options.{cond_has}
use Rattle.logic_laws.proofs.TraversedSorts.{traversed_sort}
use Rattle.logic_laws.proofs.SortFrame.{within_itself, within_none, sort_over}

module _ (vars : List Kind) (defs : List Def) where
  pub replace_sort : (picks : Tree → Bool) (new : Tree) → ((t : Tree) (b : List Kind) → picks t ≡ true → sort_of vars defs b new ≡ sort_of vars defs b t) → (t : Tree) (b : List Kind) → sort_of vars defs b (replace picks new t) ≡ sort_of vars defs b t
  replace_sort picks new agrees t b = traversed_sort (for_picked picks new) as_deep kept vars vars defs defs Any Any (λ d b b'. b' ≡ b) (λ d b b' ss r. ap (λ c. reverse ss ++ c) r)
      (λ t d b b' r h. cond_has (λ o. IfSome o (λ u. sort_of vars defs b' u ≡ sort_of vars defs b t)) (picks t) (Some new) None (λ p. ap (λ c. sort_of vars defs c new) r ∙ agrees t b p) (λ _. tt))
      (λ v d h e. refl) (λ v d b b' r e. ap (λ c. slice_get c v) r) (λ f c g. refl) t 0 b b refl (all_stand t)

  -- a closed term has its sort under binders
  pub closed_sort : (t : Tree) (b : List Kind) (k : Kind) → sort_of vars defs [] t ≡ Some k → sort_of vars defs b t ≡ Some k
  closed_sort t b k s = sort_over vars defs vars defs (within_itself vars) (within_itself defs) t [] b (within_none b) k s

  pub replaced_sort : (old new t : Tree) (b : List Kind) (j k : Kind) → sort_of vars defs [] old ≡ Some j → sort_of vars defs [] new ≡ Some j → sort_of vars defs b t ≡ Some k → sort_of vars defs b (replaced old new t) ≡ Some k
  replaced_sort old new t b j k so sn s = replace_sort (same_term old) new
      (λ u c p. closed_sort new c j sn ∙ sym (subst (λ x. sort_of vars defs c x ≡ Some j) (same_is_equal old u p) (closed_sort old c j so))) t b ∙ s
