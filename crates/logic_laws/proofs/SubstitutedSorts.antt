-- A body whose binder is taken away has its sort, where the closed terms have the sorts of the binder's variables, one by one.
-- Here d is how many variables of inner binders were passed, of the sorts b'; b are these and the binder's.
use Rattle.std.proofs.Common.{◌≡◌, ◌∙◌, refl, sym, ap, ℕ, zero, suc, ◌+◌, ◌-◌, ◌<◌, ◌≤◌, nat_lt, Option, Some, None, unwrap_or, List, [], ◌∷◌, ◌++◌, reverse, slice_get, length, length-append, append_assoc, arith, ltb-true, ltb-false}
use Rattle.std.specs.Option.{IfSome}
use Rattle.std.proofs.lemmas.List.{length-reverse}
use Rattle.std.proofs.lemmas.Option.{slice_get_past}
use Rattle.logic_core.specs.Tree.{Kind, Tree, bound}
use Rattle.logic_core.specs.Def.{Def}
use Rattle.logic_core.specs.Sorts.{sort_of}
use Rattle.logic_core.specs.Traversed.{deeper, kept}
use Rattle.logic_core.specs.Renamed.{EachHas}
use Rattle.logic_core.specs.Substitute.{for_bound, put_within}
use Rattle.logic_core.proofs.Mentioned.{Any, all_stand}
use Rattle.logic_laws.proofs.Options.{cond_has}
use Rattle.logic_laws.proofs.Paired.{Paired, AtPlace, at_place}
use Rattle.logic_laws.proofs.TraversedSorts.{traversed_sort}
use Rattle.logic_laws.proofs.ReplacedSorts.{closed_sort}

-- an element of two lists joined stands in the one or the other
pub get_first : {A : Type 0} (xs ys : List A) (n : ℕ) → n < length xs → slice_get (xs ++ ys) n ≡ slice_get xs n
get_first [] ys n h = absurd (omega arith)
get_first (z ∷ xs) ys zero h = refl
get_first (z ∷ xs) ys (suc n) h = get_first xs ys n (omega arith)

pub get_second : {A : Type 0} (xs ys : List A) (n : ℕ) → length xs ≤ n → slice_get (xs ++ ys) n ≡ slice_get ys (n - length xs)
get_second [] ys n h = let q : n ≡ n - 0 = omega arith in ap (slice_get ys) q
get_second (z ∷ xs) ys zero h = absurd (omega arith)
get_second (z ∷ xs) ys (suc n) h = let q : n - length xs ≡ suc n - suc (length xs) = omega arith in get_second xs ys n (omega arith) ∙ ap (slice_get ys) q

-- where a list has no element, it has ended
pub past_end : {A : Type 0} (xs : List A) (n : ℕ) → slice_get xs n ≡ None → length xs ≤ n
past_end [] n e = omega arith
past_end (x ∷ xs) zero e = absurd (cc)
past_end (x ∷ xs) (suc n) e = let p = past_end xs n e in omega arith

-- one binder more
pub one_deeper : {A : Type 0} (d : ℕ) (ss : List Kind) (vs b b' ks : List A) → length vs ≡ length ss → (d ≡ length b') × (b ≡ b' ++ ks) → (deeper d ss ≡ length (vs ++ b')) × (vs ++ b ≡ (vs ++ b') ++ ks)
one_deeper d ss vs b b' ks e r = ((let p = length-append vs b' in let q = r.0 in omega arith), ap (λ c. vs ++ c) r.1 ∙ sym (append_assoc vs b' ks))

module _ (vars : List Kind) (defs : List Def) (terms : List Tree) (ks : List Kind) (sorts : Paired (λ u k. sort_of vars defs [] u ≡ Some k) terms ks) where
  abbrev Reach : ℕ → List Kind → List Kind → Type 0
  Reach d b b' = (d ≡ length b') × (b ≡ b' ++ ks)

  beyond : (v d : ℕ) (b b' : List Kind) → Reach d b b' → d ≤ v → sort_of vars defs b' (unwrap_or (slice_get terms (v - d)) (bound (v - length terms))) ≡ slice_get b v
  beyond v d b b' r h = by_place (slice_get terms (v - d)) (slice_get ks (v - d)) refl (at_place (λ u k. sort_of vars defs [] u ≡ Some k) terms ks (v - d) sorts) ∙ sym (ap (λ c. slice_get c v) r.1 ∙ get_second b' ks v (let q = r.0 in omega arith) ∙ ap (λ n. slice_get ks (v - n)) (sym r.0))
    where
      by_place : (o : Option Tree) (p : Option Kind) → slice_get terms (v - d) ≡ o → AtPlace (λ u k. sort_of vars defs [] u ≡ Some k) o p → sort_of vars defs b' (unwrap_or o (bound (v - length terms))) ≡ p
      by_place (Some u) (Some k) e s = closed_sort vars defs u b' k s
      by_place None None e s = slice_get_past b' (v - length terms) (let q = r.0 in let l = past_end terms (v - d) e in omega arith)
      by_place (Some u) None e s = absurd s
      by_place None (Some k) e s = absurd s

  new_sort : (t : Tree) (d : ℕ) (b b' : List Kind) → Reach d b b' → EachHas Any Any t → IfSome (for_bound terms d t) (λ u. sort_of vars defs b' u ≡ sort_of vars defs b t)
  new_sort (bound v) d b b' r h = cond_has (λ x. sort_of vars defs b' x ≡ slice_get b v) (nat_lt v d) (bound v) (unwrap_or (slice_get terms (v - d)) (bound (v - length terms)))
      (λ p. sym (ap (λ c. slice_get c v) r.1 ∙ get_first b' ks v (let l = ltb-true v d p in let q = r.0 in omega arith)))
      (λ p. beyond v d b b' r (let l = ltb-false v d p in omega arith))
  new_sort t d b b' r h = tt

  pub put_within_sort : (t : Tree) (d : ℕ) (b b' : List Kind) → Reach d b b' → sort_of vars defs b' (put_within terms d t) ≡ sort_of vars defs b t
  put_within_sort t d b b' r = traversed_sort (for_bound terms) deeper kept vars vars defs defs Any Any Reach (λ d b b' ss r. one_deeper d ss (reverse ss) b b' ks (length-reverse ss) r)
      new_sort (λ v d h e. refl) (λ v d b b' r e. absurd (cc)) (λ f c g. refl) t d b b' r (all_stand t)
