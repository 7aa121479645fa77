-- Numbers, each once, and an index of them.
use Rattle.std.proofs.Common.{◌≡◌, refl, sym, ap, subst, ◌∙◌, true≢false, ℕ, zero, suc, ◌+◌, ◌<◌, nat_eq, Bool, true, false, ◌||◌, cond, List, [], ◌∷◌, ◌++◌, length, take, get_or, arith}
use mathlib.Core.Logic.{inl, inr}
use Rattle.std.specs.List.{list_any}
use Rattle.std.proofs.lemmas.Bool.{eqb-true, eq-eqb}
use Rattle.std.proofs.lemmas.List.{take_more, length_push}
use Rattle.indexmap.specs.IndexSet.{insert_key}
use Rattle.logic_core.proofs.Anywhere.{any_append}
use Rattle.logic_core.proofs.Booleans.{or_first, or_second}
use Rattle.numbered_facts.specs.Atoms.{AreOnce}
use Rattle.numbered_facts.specs.Members.{AreFound, AreMembers}

-- a number that isn't there joins the end
pub joins : (is : List ℕ) (i : ℕ) → list_any (nat_eq i) is ≡ false → insert_key nat_eq is i ≡ is ++ i ∷ []
joins is i h = ap (λ b. cond b is (is ++ i ∷ [])) h

stands_at : (is : List ℕ) (k x : ℕ) → k < length is → x ≡ get_or is k x → list_any (nat_eq x) is ≡ true
stands_at [] k x l e = absurd (omega (arith, l))
stands_at (i ∷ is) zero x l e = or_first (nat_eq x i) (list_any (nat_eq x) is) (eq-eqb x i e)
stands_at (i ∷ is) (suc k) x l e = or_second (nat_eq x i) (list_any (nat_eq x) is) (stands_at is k x (omega (arith, l)) e)

-- of numbers that are each once none stands before its place
not_before : (is : List ℕ) (k x : ℕ) → AreOnce is → k < length is → x ≡ get_or is k x → list_any (nat_eq x) (take k is) ≡ false
not_before [] k x h l e = absurd (omega (arith, l))
not_before (i ∷ is) zero x h l e = refl
not_before (i ∷ is) (suc k) x h l e = by (nat_eq x i) refl (not_before is k x h.1 (omega (arith, l)) e)
  where
    there : list_any (nat_eq x) is ≡ true
    there = stands_at is k x (omega (arith, l)) e

    by : (b : Bool) → nat_eq x i ≡ b → list_any (nat_eq x) (take k is) ≡ false → (nat_eq x i || list_any (nat_eq x) (take k is)) ≡ false
    by true q rest = absurd (true≢false (sym there ∙ ap (λ y. list_any (nat_eq y) is) (eqb-true x i q) ∙ h.0))
    by false q rest = ap (λ b. b || list_any (nat_eq x) (take k is)) q ∙ rest

pub listed_next : (is : List ℕ) (i x : ℕ) (old new : List ℕ) → AreOnce is → i < length is → x ≡ get_or is i x → old ≡ take i is → new ≡ insert_key nat_eq old x → new ≡ take (i + 1) is
listed_next is i x old new h l e so_far added = added ∙ ap (λ ks. insert_key nat_eq ks x) so_far ∙ joins (take i is) x (not_before is i x h l e)
    ∙ ap (λ y. take i is ++ y ∷ []) e ∙ sym (take_more is i x l)

-- where there are many, the index has them
pub looked_up : (is keys : List ℕ) → AreFound is keys → 16 < length is → keys ≡ is
looked_up is keys (inl few) l = absurd (omega (arith, few, l))
looked_up is keys (inr same) l = same

once_push : (is : List ℕ) (i : ℕ) → AreOnce is → list_any (nat_eq i) is ≡ false → AreOnce (is ++ i ∷ [])
once_push [] i h n = (refl, tt)
once_push (j ∷ is) i h n = (any_append (nat_eq j) is (i ∷ []) ∙ none (list_any (nat_eq j) is) (nat_eq j i) h.0 (other (nat_eq j i) refl), once_push is i h.1 (second (nat_eq i j) (list_any (nat_eq i) is) n))
  where
    none : (a b : Bool) → a ≡ false → b ≡ false → (a || (b || false)) ≡ false
    none a b p q = λ k. p k || (q k || false)

    second : (a b : Bool) → (a || b) ≡ false → b ≡ false
    second true b p = absurd (true≢false p)
    second false b p = p

    first : (a b : Bool) → (a || b) ≡ false → a ≡ false
    first true b p = absurd (true≢false p)
    first false b p = refl

    other : (b : Bool) → nat_eq j i ≡ b → nat_eq j i ≡ false
    other true q = absurd (true≢false (sym (eq-eqb i j (sym (eqb-true j i q))) ∙ first (nat_eq i j) (list_any (nat_eq i) is) n))
    other false q = q

-- one more number, where they stay a few
pub members_few : (is js keys : List ℕ) (i : ℕ) → AreMembers is keys → list_any (nat_eq i) is ≡ false → js ≡ is ++ i ∷ [] → length is < 16 → AreMembers js keys
members_few is js keys i h n e l = record {
  once = subst AreOnce (sym e) (once_push is i h.once n);
  found = inl (omega (arith, l, ap length e, length_push is i));
}

-- and where it joins the index too
pub members_many : (is js keys more : List ℕ) (i : ℕ) → AreOnce is → list_any (nat_eq i) is ≡ false → js ≡ is ++ i ∷ [] → keys ≡ is → more ≡ insert_key nat_eq keys i → AreMembers js more
members_many is js keys more i h n e k m = record {
  once = subst AreOnce (sym e) (once_push is i h n);
  found = inr (m ∙ ap (λ ks. insert_key nat_eq ks i) k ∙ joins is i n ∙ sym e);
}
