-- The operands of an And or an Or, by number.
use Rattle.std.proofs.Common.{◌≡◌, sym, ap, subst, ◌∙◌, ℕ, Vec, ◌<◌, ◌≤◌, false, None, Result, Ok, Err, IfOk, List, [], ◌∷◌, ◌++◌, length, drop}
use Rattle.std.specs.List.{AllByRecursion}
use Rattle.std.specs.declared.alloc.Global.{Global}
use Rattle.std.specs.declared.alloc.AllocError.{AllocError}
use Rattle.std.proofs.lemmas.List.{map-append, at_drop_all}
use Rattle.logic_core.specs.Tree.{Tree, Trees}
use Rattle.logic_core.specs.View.{trees_of}
use Rattle.logic_core.specs.Before.{before, tree_before}
use Rattle.logic_core.specs.declared.junction.Connective.{Connective}
use Rattle.logic_core.specs.Junction.{is_truth, neutral, joined, as_joined, with_operand, operands}
use Rattle.logic_core.proofs.Junctions.{taken_in, nested, other_operand}
use Rattle.logic_core.proofs.Made.{trees_before_none, before_push}
use Rattle.logic_core.proofs.EachOf.{every_append}
use Rattle.term_bank.specs.Numbered.{at}
use Rattle.numbered_terms.specs.Lists.{terms_at}

pub both_below : (n : ℕ) (ps is : List ℕ) (r : Result (Vec ℕ Global) AllocError) → AllByRecursion (λ j. j < n) ps → AllByRecursion (λ j. j < n) is → IfOk r (λ v. v.items ≡ ps ++ is) → IfOk r (λ v. AllByRecursion (λ j. j < n) v.items)
both_below n ps is (Ok v) h g e = subst (AllByRecursion (λ j. j < n)) (sym e) (every_append (λ j. j < n) ps is h g)
both_below n ps is (Err a) h g e = tt

module _ (ts : List Tree) (c : Connective) where
  module _ (id : ℕ) (ps : List ℕ) where
    -- the parts of a nested one of the kind
    pub taken : (is : List ℕ) (r : Result (Vec ℕ Global) AllocError) → at ts id ≡ joined c (trees_of (terms_at ts is)) → IfOk r (λ v. v.items ≡ ps ++ is)
        → IfOk r (λ v. (us : Trees) → before tree_before (terms_at ts v.items) us ≡ before tree_before (terms_at ts ps) (with_operand c (at ts id) us))
    taken is (Ok v) n e = λ us. ap (λ ws. before tree_before (terms_at ts ws) us) e
        ∙ ap (λ xs. before tree_before xs us) (map-append (at ts) ps is)
        ∙ taken_in (terms_at ts ps) (terms_at ts is) us
        ∙ ap (before tree_before (terms_at ts ps)) (sym (nested c (trees_of (terms_at ts is)) us) ∙ ap (λ t. with_operand c t us) (sym n))
    taken is (Err a) n e = tt

    -- any other part
    pub put_last : (r : Result (Vec ℕ Global) AllocError) → as_joined c (at ts id) ≡ None → is_truth (neutral c) (at ts id) ≡ false → IfOk r (λ v. v.items ≡ ps ++ id ∷ [])
        → IfOk r (λ v. (us : Trees) → before tree_before (terms_at ts v.items) us ≡ before tree_before (terms_at ts ps) (with_operand c (at ts id) us))
    put_last (Ok v) other plain e = λ us. ap (λ ws. before tree_before (terms_at ts ws) us) e
        ∙ ap (λ xs. before tree_before xs us) (map-append (at ts) ps (id ∷ []))
        ∙ before_push tree_before (terms_at ts ps) (at ts id) us
        ∙ ap (before tree_before (terms_at ts ps)) (sym (other_operand c (at ts id) us other plain))
    put_last (Err a) other plain e = tt

  -- the end of the list
  pub operands_all : (made is : List ℕ) (i : ℕ) (whole : Trees) → length is ≤ i → before tree_before (terms_at ts made) (operands c (trees_of (terms_at ts (drop i is)))) ≡ whole → trees_of (terms_at ts made) ≡ whole
  operands_all made is i whole l so_far = sym (trees_before_none (terms_at ts made)) ∙ ap (before tree_before (terms_at ts made)) (sym (at_drop_all (λ xs. operands c (trees_of (terms_at ts xs))) is i l)) ∙ so_far
