-- Replacing closed terms by closed terms of their value keeps values, under quantifiers too.
use Rattle.std.proofs.Common.{◌≡◌, refl, ap, subst, ℕ, Bool, true, Some, None, List, [], ◌++◌, reverse}
use Rattle.std.specs.Option.{IfSome}
use Rattle.logic_core.specs.Tree.{Kind, Tree}
use Rattle.logic_core.specs.Def.{Def}
use Rattle.logic_core.specs.Value.{Value, at}
use Rattle.logic_core.specs.Meaning.{With}
use Rattle.logic_core.specs.Valid.{Calls}
use Rattle.logic_core.specs.Same.{same_term}
use Rattle.logic_core.specs.Sorts.{sort_of}
use Rattle.logic_core.specs.Traversed.{as_deep}
use Rattle.logic_core.specs.Replace.{for_picked, replace}
use Rattle.logic_core.specs.Subterm.{replaced}
use Rattle.logic_core.proofs.Values.{HasOne}
use Rattle.logic_core.proofs.Kept.{Keeps, keeps}
use Rattle.logic_core.proofs.Replaced.{Same}
use Rattle.logic_core.proofs.SameTerm.{same_is_equal}
use Rattle.logic_laws.proofs.Options.{cond_has}
use Rattle.logic_laws.proofs.SameValue.{value_stable}
use Rattle.logic_laws.proofs.Gives.{Gives, said, gives, gives_one, same_values}
use Rattle.logic_laws.proofs.ValueFrame.{agree_itself, agree_none, gives_over}
use Rattle.logic_laws.proofs.TraversedValues.{traversed_gives}

module _ (frees : List Value) (calls : Calls) (has_call : (f : ℕ) (vs : List Value) → HasOne (calls f vs)) (keeps_call : (f : ℕ) (vs : List Value) → Keeps (calls f vs)) where
  pub replace_gives : (picks : Tree → Bool) (new : Tree) → ((t : Tree) (b : List Value) (r : Value) → picks t ≡ true → Gives frees calls t b r → Gives frees calls new b r) → (t : Tree) (b : List Value) (r : Value) → Gives frees calls t b r → Gives frees calls (replace picks new t) b r
  replace_gives picks new agrees t b r g = traversed_gives frees calls has_call keeps_call (for_picked picks new) as_deep (λ d b b'. b ≡ b') (λ d b b' ss vs h q. ap (λ c. reverse vs ++ c) q)
      (λ t d b b' r q g. cond_has (λ o. IfSome o (λ u. Gives frees calls u b' r)) (picks t) (Some new) None (λ p. subst (λ c. Gives frees calls new c r) q (agrees t b r p g)) (λ _. tt))
      (λ v d b b' q e. ap (λ c. at c v) q) t 0 b b r refl g

  module _ (vars : List Kind) (defs : List Def) where
    -- a closed term has its value under binders
    pub closed_gives : (t : Tree) (b b' : List Value) (k : Kind) (r : Value) → sort_of vars defs [] t ≡ Some k → Gives frees calls t b r → Gives frees calls t b' r
    closed_gives t b b' k r s g = gives_over vars defs frees calls has_call keeps_call frees calls has_call keeps_call (agree_itself vars frees) (λ f d vs r e h. h) t [] b b' k r (agree_none b b') s g

    pub replaced_gives : (old new : Tree) (j : Kind) (v : Value) → sort_of vars defs [] old ≡ Some j → sort_of vars defs [] new ≡ Some j → Gives frees calls old [] v → Gives frees calls new [] v → (t : Tree) (b : List Value) (r : Value) → Gives frees calls t b r → Gives frees calls (replaced old new t) b r
    replaced_gives old new j v so sn go gn t b r g = replace_gives (same_term old) new
        (λ u c x p h. let q : v ≡ x = gives_one frees calls has_call keeps_call u c v x (subst (λ z. Gives frees calls z c v) (same_is_equal old u p) (closed_gives old [] c j v so go)) h in
        subst (Gives frees calls new c) q (closed_gives new [] c j v sn gn)) t b r g

    -- where two closed terms of one sort say the same, a term says the same with the one replaced by the other
    pub same_replaced : (old new t : Tree) (b : List Value) (j : Kind) → sort_of vars defs [] old ≡ Some j → sort_of vars defs [] new ≡ Some j → Same (With frees calls old []) (With frees calls new []) → Same (With frees calls t b) (With frees calls (replaced old new t) b)
    same_replaced old new t b j so sn e P s =
        let f : (v : Value) → Gives frees calls old [] v → Gives frees calls new [] v → (With frees calls t b P → With frees calls (replaced old new t) b P) × (With frees calls (replaced old new t) b P → With frees calls t b P)
        = λ v go gn. same_values frees calls has_call keeps_call frees calls has_call keeps_call t (replaced old new t) b b (λ r g. replaced_gives old new j v so sn go gn t b r g) P s in
        let both : ((v : Value) → Gives frees calls old [] v → Gives frees calls new [] v → ⊥) → ⊥
        = λ k. gives frees calls has_call keeps_call old [] (λ v go. gives frees calls has_call keeps_call new [] (λ w gn.
        let q : w ≡ v = (said frees calls has_call keeps_call new [] w gn (λ x. x ≡ v) (λ x. value_stable x v)).0 ((e (λ x. x ≡ v) (λ x. value_stable x v)).0 ((said frees calls has_call keeps_call old [] v go (λ x. x ≡ v) (λ x. value_stable x v)).1 refl)) in
        k v go (subst (Gives frees calls new []) q gn))) in (
          (λ h. keeps frees calls keeps_call (replaced old new t) b P s (λ n. both (λ v go gn. n ((f v go gn).0 h)))),
          (λ h. keeps frees calls keeps_call t b P s (λ n. both (λ v go gn. n ((f v go gn).1 h)))),
        )
