-- A body whose binder is taken away has the value that it has with the values of the terms for the binder's variables.
-- Here d is how many variables of inner binders were passed, of the values b'; b are these and the binder's, q that they are.
use Rattle.std.proofs.Common.{◌≡◌, ◌∙◌, refl, sym, ap, subst, ℕ, zero, suc, pos, ◌+◌, ◌-◌, ◌≤◌, true, nat_lt, Option, Some, None, unwrap_or, List, [], ◌∷◌, ◌++◌, reverse, slice_get, length, arith, ltb-true, ltb-false}
use Rattle.std.specs.Option.{IfSome}
use Rattle.std.proofs.lemmas.List.{length-reverse}
use Rattle.logic_core.specs.Tree.{Kind, Tree, bound, Trees, no_trees, tree}
use Rattle.logic_core.specs.Def.{Def}
use Rattle.logic_core.specs.Value.{Value, whole, at}
use Rattle.logic_core.specs.Meaning.{With}
use Rattle.logic_core.specs.Valid.{Calls}
use Rattle.logic_core.specs.Sorts.{sort_of, are}
use Rattle.logic_core.specs.Traversed.{deeper}
use Rattle.logic_core.specs.Substitute.{for_bound, put_within, substitute}
use Rattle.logic_core.specs.Subterm.{listed}
use Rattle.logic_core.proofs.Values.{HasOne}
use Rattle.logic_core.proofs.Kept.{Keeps}
use Rattle.logic_core.proofs.Replaced.{Same}
use Rattle.logic_laws.proofs.Options.{cond_has}
use Rattle.logic_laws.proofs.NormalSorts.{first_of_sort}
use Rattle.logic_laws.proofs.SubstitutedSorts.{past_end, one_deeper, put_within_sort}
use Rattle.logic_laws.proofs.Tables.{at_next, are_of_length}
use Rattle.logic_laws.proofs.Gives.{Gives, GivesEach, same_values}
use Rattle.logic_laws.proofs.ValueFrame.{at_first, at_second}
use Rattle.logic_laws.proofs.ReplacedValues.{closed_gives}
use Rattle.logic_laws.proofs.Paired.{Paired, paired_reverse, AtPlace, at_place}
use Rattle.logic_laws.proofs.TraversedValues.{traversed_gives}

-- the terms have these sorts, one by one
pub sorts_paired : (vars : List Kind) (defs : List Def) (ks : List Kind) (ts : Trees) → are vars defs [] ks ts ≡ true → Paired (λ u k. sort_of vars defs [] u ≡ Some k) (listed ts) ks
sorts_paired vars defs [] no_trees s = tt
sorts_paired vars defs (k ∷ ks) (tree t ts) s = let p = first_of_sort vars defs k ks t ts [] s in (p.0, sorts_paired vars defs ks ts p.1)
sorts_paired vars defs [] (tree t ts) s = absurd (cc)
sorts_paired vars defs (k ∷ ks) no_trees s = absurd (cc)

-- a body whose binder is taken away keeps its sort
pub substituted_sort : (vars : List Kind) (defs : List Def) (ks : List Kind) (ts : Trees) (body : Tree) (k : Kind) → are vars defs [] ks ts ≡ true → sort_of vars defs (reverse ks) body ≡ Some k → sort_of vars defs [] (substitute body (listed ts)) ≡ Some k
substituted_sort vars defs ks ts body k s h = put_within_sort vars defs (reverse (listed ts)) (reverse ks) (paired_reverse (λ u k. sort_of vars defs [] u ≡ Some k) (listed ts) ks (sorts_paired vars defs ks ts s)) body 0 (reverse ks) [] (refl, refl) ∙ h

at_get : (vs : List Value) (n : ℕ) → at vs n ≡ unwrap_or (slice_get vs n) (whole (pos 0))
at_get [] n = refl
at_get (v ∷ vs) zero = refl
at_get (v ∷ vs) (suc n) = at_next v vs n ∙ at_get vs n

at_past : (vs : List Value) (n : ℕ) → length vs ≤ n → at vs n ≡ whole (pos 0)
at_past [] n h = refl
at_past (v ∷ vs) zero h = absurd (omega arith)
at_past (v ∷ vs) (suc n) h = at_next v vs n ∙ at_past vs n (omega arith)

module _ (vars : List Kind) (defs : List Def) (frees : List Value) (calls : Calls) (has_call : (f : ℕ) (vs : List Value) → HasOne (calls f vs)) (keeps_call : (f : ℕ) (vs : List Value) → Keeps (calls f vs)) where
  -- a closed term and its value
  abbrev pub HasValue : Tree → Value → Type 0
  HasValue u v = (k : Kind) × (sort_of vars defs [] u ≡ Some k) × Gives frees calls u [] v

  -- the terms have these values, one by one
  pub values_paired : (ks : List Kind) (ts : Trees) (vs : List Value) → are vars defs [] ks ts ≡ true → GivesEach frees calls ts [] vs → Paired HasValue (listed ts) vs
  values_paired [] no_trees vs s g = subst (Paired HasValue []) (sym g) tt
  values_paired (k ∷ ks) (tree t ts) vs s g = let p = first_of_sort vars defs k ks t ts [] s in subst (Paired HasValue (t ∷ listed ts)) (sym g.4) ((k, p.0, g.2), values_paired ks ts g.1 p.1 g.3)
  values_paired [] (tree t ts) vs s g = absurd (cc)
  values_paired (k ∷ ks) no_trees vs s g = absurd (cc)

  module _ (terms : List Tree) (ws : List Value) (values : Paired HasValue terms ws) where
    abbrev Reach : ℕ → List Value → List Value → Type 0
    Reach d b b' = (d ≡ length b') × (b ≡ b' ++ ws)

    beyond : (v d : ℕ) (b b' : List Value) → Reach d b b' → d ≤ v → Gives frees calls (unwrap_or (slice_get terms (v - d)) (bound (v - length terms))) b' (at b v)
    beyond v d b b' q h = subst (Gives frees calls (unwrap_or (slice_get terms (v - d)) (bound (v - length terms))) b') (sym (ap (λ c. at c v) q.1 ∙ at_second b' ws v (let e = q.0 in omega arith) ∙ ap (λ n. at ws (v - n)) (sym q.0) ∙ at_get ws (v - d)))
        (by_place (slice_get terms (v - d)) (slice_get ws (v - d)) refl (at_place HasValue terms ws (v - d) values))
      where
        by_place : (o : Option Tree) (p : Option Value) → slice_get terms (v - d) ≡ o → AtPlace HasValue o p → Gives frees calls (unwrap_or o (bound (v - length terms))) b' (unwrap_or p (whole (pos 0)))
        by_place (Some u) (Some w) e s = closed_gives frees calls has_call keeps_call vars defs u [] b' s.0 w s.1 s.2
        by_place None None e s = sym (at_past b' (v - length terms) (let l = past_end terms (v - d) e in let i = q.0 in omega arith))
        by_place (Some u) None e s = absurd s
        by_place None (Some w) e s = absurd s

    new_gives : (t : Tree) (d : ℕ) (b b' : List Value) (r : Value) → Reach d b b' → Gives frees calls t b r → IfSome (for_bound terms d t) (λ u. Gives frees calls u b' r)
    new_gives (bound v) d b b' r q g = cond_has (λ x. Gives frees calls x b' r) (nat_lt v d) (bound v) (unwrap_or (slice_get terms (v - d)) (bound (v - length terms)))
        (λ p. g ∙ ap (λ c. at c v) q.1 ∙ at_first b' ws v (let l = ltb-true v d p in let e = q.0 in omega arith))
        (λ p. subst (Gives frees calls (unwrap_or (slice_get terms (v - d)) (bound (v - length terms))) b') (sym g) (beyond v d b b' q (let l = ltb-false v d p in omega arith)))
    new_gives t d b b' r q g = tt

    pub put_within_gives : (t : Tree) (d : ℕ) (b b' : List Value) (r : Value) → Reach d b b' → Gives frees calls t b r → Gives frees calls (put_within terms d t) b' r
    put_within_gives t d b b' r q g = traversed_gives frees calls has_call keeps_call (for_bound terms) deeper Reach (λ d b b' ss vs h q. one_deeper d ss (reverse vs) b b' ws (length-reverse vs ∙ are_of_length ss vs h) q)
        new_gives (λ v d b b' q e. absurd (cc)) t d b b' r q g

  -- at the values of the terms the body says what the body with the terms says
  pub same_substituted : (ks : List Kind) (ts : Trees) (vs : List Value) (body : Tree) → are vars defs [] ks ts ≡ true → GivesEach frees calls ts [] vs → Same (With frees calls body (reverse vs)) (With frees calls (substitute body (listed ts)) [])
  same_substituted ks ts vs body s g = same_values frees calls has_call keeps_call frees calls has_call keeps_call body (substitute body (listed ts)) (reverse vs) []
      (λ r i. put_within_gives (reverse (listed ts)) (reverse vs) (paired_reverse HasValue (listed ts) vs (values_paired ks ts vs s g)) body 0 (reverse vs) [] r (refl, refl) i)
