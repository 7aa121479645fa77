-- In how many facts each atom occurs, one fact after another.
use Rattle.std.proofs.Common.{◌≡◌, refl, sym, ap, subst, ◌∙◌, ℕ, zero, suc, ◌+◌, ◌-◌, ◌<◌, ◌≤◌, nat_eq, Bool, true, false, true≢false, ◌&&◌, ◌||◌, cond, List, [], ◌∷◌, ◌++◌, map, length, take, get_or, arith}
use mathlib.Core.Logic.{◌⊎◌, inl, inr}
use Rattle.std.specs.List.{list_any, AllByRecursion}
use Rattle.std.proofs.lemmas.Bool.{cases_lt, eqb-true, ne_eqb}
use Rattle.logic_core.specs.Tree.{Tree, truth}
use Rattle.logic_core.specs.Subterm.{occurs}
use Rattle.term_bank.specs.Numbered.{at, Begins}
use Rattle.term_bank.proofs.Numbers.{begins_at, begins_length, begins_then}
use Rattle.tableau_branch.proofs.Lists.{take_item}
use Rattle.numbered_terms.specs.Stored.{AreStored}
use Rattle.numbered_terms.proofs.Occurring.{higher_dont}
use Rattle.numbered_facts.specs.Atoms.{is_atom, AreOnce, AreAtomsIn}
use Rattle.numbered_instances.specs.Shared.{in_one, in_two, times, has_atom, facts_with, AreCounted, AreShared, IsOneMore, IsOneLess, IsCounted}
use Rattle.numbered_instances.specs.declared.shared.Shared.{Shared}

-- numbers one after another
times_append : (j : ℕ) (xs ys : List ℕ) → times j (xs ++ ys) ≡ times j xs + times j ys
times_append j [] ys = omega arith
times_append j (x ∷ xs) ys = omega (arith, times_append j xs ys)

pub times_next : (j : ℕ) (xs : List ℕ) (i x : ℕ) → i < length xs → x ≡ get_or xs i x → times j (take (i + 1) xs) ≡ times j (take i xs) + cond (nat_eq j x) 1 0
times_next j xs i x l e = ap (times j) (take_item xs i x l e) ∙ times_append j (take i xs) (x ∷ []) ∙ omega arith

times_once : (j : ℕ) (is : List ℕ) → AreOnce is → times j is ≡ cond (list_any (nat_eq j) is) 1 0
times_once j [] h = refl
times_once j (i ∷ is) h = by (nat_eq j i) refl (times_once j is h.1)
  where
    by : (b : Bool) → nat_eq j i ≡ b → times j is ≡ cond (list_any (nat_eq j) is) 1 0 → cond b 1 0 + times j is ≡ cond (b || list_any (nat_eq j) is) 1 0
    by true q r = let none : times j is ≡ 0 = r ∙ ap (λ b. cond b 1 0) (ap (λ n. list_any (nat_eq n) is) (eqb-true j i q) ∙ h.0) in omega (arith, none)
    by false q r = omega (arith, r)

-- one number's count is put in place of another
pub one_more : (old mid new : List ℕ) (i n : ℕ) → ((j : ℕ) → get_or mid j 0 ≡ get_or old j 0) → n ≡ get_or mid i 0 + 1 → ((j : ℕ) → get_or new j 0 ≡ cond (nat_eq j i) n (get_or mid j 0))
    → (j : ℕ) → get_or new j 0 ≡ get_or old j 0 + cond (nat_eq j i) 1 0
one_more old mid new i n room e g j = g j ∙ by (nat_eq j i) refl
  where
    by : (b : Bool) → nat_eq j i ≡ b → cond b n (get_or mid j 0) ≡ get_or old j 0 + cond b 1 0
    by true q = let r : get_or mid i 0 ≡ get_or old j 0 = ap (λ k. get_or mid k 0) (sym (eqb-true j i q)) ∙ room j in omega (arith, e, r)
    by false q = omega (arith, room j)

pub one_less : (old new : List ℕ) (i n : ℕ) → n ≡ get_or old i 0 - 1 → ((j : ℕ) → get_or new j 0 ≡ cond (nat_eq j i) n (get_or old j 0)) → (j : ℕ) → get_or new j 0 ≡ get_or old j 0 - cond (nat_eq j i) 1 0
one_less old new i n e g j = g j ∙ by (nat_eq j i) refl
  where
    by : (b : Bool) → nat_eq j i ≡ b → cond b n (get_or old j 0) ≡ get_or old j 0 - cond b 1 0
    by true q = e ∙ ap (λ k. get_or old k 0 - 1) (sym (eqb-true j i q))
    by false q = omega arith

past_all : (xs : List ℕ) (i : ℕ) → length xs ≤ i → get_or xs i 0 ≡ 0
past_all [] i l = refl
past_all (x ∷ xs) zero l = absurd (omega (arith, l))
past_all (x ∷ xs) (suc i) l = past_all xs i (omega (arith, l))

pub none_there : (xs : List ℕ) (i : ℕ) → length xs ≤ i → (j : ℕ) → get_or xs j 0 ≡ get_or xs j 0 - cond (nat_eq j i) 1 0
none_there xs i l j = by (nat_eq j i) refl
  where
    by : (b : Bool) → nat_eq j i ≡ b → get_or xs j 0 ≡ get_or xs j 0 - cond b 1 0
    by true q = let e : get_or xs j 0 ≡ 0 = ap (λ k. get_or xs k 0) (eqb-true j i q) ∙ past_all xs i l in omega (arith, e)
    by false q = omega arith

-- facts one after another
module _ (has : ℕ → ℕ → Bool) where
  with_append : (j : ℕ) (xs ys : List ℕ) → facts_with has j (xs ++ ys) ≡ facts_with has j xs + facts_with has j ys
  with_append j [] ys = omega arith
  with_append j (x ∷ xs) ys = omega (arith, with_append j xs ys)

  between : (j : ℕ) (xs ys : List ℕ) (t : ℕ) → facts_with has j (xs ++ t ∷ ys) ≡ cond (has j t) 1 0 + facts_with has j (xs ++ ys)
  between j xs ys t = omega (arith, with_append j xs (t ∷ ys), with_append j xs ys)

  counted_in : (xs ys c d : List ℕ) (t : ℕ) → AreCounted has (xs ++ ys) c → ((j : ℕ) → get_or d j 0 ≡ get_or c j 0 + cond (has j t) 1 0) → AreCounted has (xs ++ t ∷ ys) d
  counted_in xs ys c d t h g j = omega (arith, g j, h j, between j xs ys t)

  counted_out : (xs ys c d : List ℕ) (t : ℕ) → AreCounted has (xs ++ t ∷ ys) c → ((j : ℕ) → get_or d j 0 ≡ get_or c j 0 - cond (has j t) 1 0) → AreCounted has (xs ++ ys) d
  counted_out xs ys c d t h g j = omega (arith, g j, h j, between j xs ys t)

-- the atoms of a fact, in a store that goes on
beyond : (us : List Tree) (j : ℕ) → length us ≤ j → at us j ≡ truth true
beyond [] j l = refl
beyond (u ∷ us) zero l = absurd (omega (arith, l))
beyond (u ∷ us) (suc j) l = beyond us j (omega (arith, l))

not_among : (n j : ℕ) (is : List ℕ) → n ≤ j → AllByRecursion (λ i. i < n) is → list_any (nat_eq j) is ≡ false
not_among n j [] l h = refl
not_among n j (i ∷ is) l h = λ k. (ne_eqb j i (λ e. absurd (omega (arith, e, h.0, l))) k || not_among n j is l h.1 k)

and_false : (a b : Bool) → b ≡ false → (a && b) ≡ false
and_false true b e = e
and_false false b e = refl

module _ (ts us : List Tree) (b : Begins ts us) (stored : AreStored us) (i : ℕ) (is : List ℕ) (low : i < length ts) (atoms : AreAtomsIn ts i is) (j : ℕ) where
  new_dont : length ts ≤ j → (j < length us) ⊎ (length us ≤ j) → has_atom us j i ≡ false
  new_dont n (inl w) = and_false (is_atom (at us j)) (occurs (at us j) (at us i)) (by (occurs (at us j) (at us i)) refl)
    where
      by : (x : Bool) → occurs (at us j) (at us i) ≡ x → x ≡ false
      by true e = absurd (higher_dont us stored i j (omega (arith, low, n)) w e)
      by false e = refl
  new_dont n (inr w) = ap (λ t. is_atom t && occurs t (at us i)) (beyond us j w)

  atoms_are : (j < length ts) ⊎ (length ts ≤ j) → has_atom us j i ≡ list_any (nat_eq j) is
  atoms_are (inl l) = (λ k. is_atom (begins_at ts us j b l k) && occurs (begins_at ts us j b l k) (begins_at ts us i b low k)) ∙ sym (atoms.are j l)
  atoms_are (inr n) = new_dont n (cases_lt j (length us)) ∙ sym (not_among (length ts) j is n atoms.within)

  times_are : times j is ≡ cond (has_atom us j i) 1 0
  times_are = times_once j is atoms.once ∙ ap (λ x. cond x 1 0) (sym (atoms_are (cases_lt j (length ts))))

pub atoms_more : (ts : List Tree) (i : ℕ) (is old new : List ℕ) → i < length ts → AreAtomsIn ts i is → ((j : ℕ) → get_or new j 0 ≡ get_or old j 0 + times j is) → IsOneMore ts i old new
atoms_more ts i is old new low atoms g us b stored j = g j ∙ ap (λ n. get_or old j 0 + n) (times_are ts us b stored i is low atoms j)

pub atoms_less : (ts : List Tree) (i : ℕ) (is old new : List ℕ) → i < length ts → AreAtomsIn ts i is → ((j : ℕ) → get_or new j 0 ≡ get_or old j 0 - times j is) → IsOneLess ts i old new
atoms_less ts i is old new low atoms g us b stored j = g j ∙ ap (λ n. get_or old j 0 - n) (times_are ts us b stored i is low atoms j)

-- what is counted, in a store that goes on
module _ (ts us : List Tree) (b : Begins ts us) where
  pub shared_on : (is counts : List ℕ) → AreShared ts is counts → AreShared us is counts
  shared_on is counts h vs c stored = h vs (begins_then ts us vs b c) stored

  pub shared_in : (xs ys c d : List ℕ) (t : ℕ) → AreShared ts (xs ++ ys) c → IsOneMore us t c d → AreShared us (xs ++ t ∷ ys) d
  shared_in xs ys c d t h g vs e stored = counted_in (has_atom vs) xs ys c d t (h vs (begins_then ts us vs b e) stored) (g vs e stored)

  pub shared_out : (xs ys c d : List ℕ) (t : ℕ) → AreShared ts (xs ++ t ∷ ys) c → IsOneLess us t c d → AreShared us (xs ++ ys) d
  shared_out xs ys c d t h g vs e stored = counted_out (has_atom vs) xs ys c d t (h vs (begins_then ts us vs b e) stored) (g vs e stored)

  pub numbers_on : (is : List ℕ) → AllByRecursion (λ i. i < length ts) is → AllByRecursion (λ i. i < length us) is
  numbers_on [] h = tt
  numbers_on (i ∷ is) h = (omega (arith, h.0, begins_length ts us b), numbers_on is h.1)

  pub counted_on : (s : Shared) → IsCounted ts s → IsCounted us s
  counted_on s h = (numbers_on s.listed.items h.0, shared_on s.listed.items s.counts.items h.1)

pub none_shared : (ts : List Tree) (is counts : List ℕ) → is ≡ [] → counts ≡ [] → AreShared ts is counts
none_shared ts is counts e f us b stored j = (λ k. get_or (f k) j 0) ∙ sym (ap (facts_with (has_atom us) j) e)

-- an atom that one fact alone has
module _ (ts : List Tree) (j : ℕ) where
  abbrev count : List ℕ → ℕ
  count is = facts_with (has_atom ts) j is

  none_has : is_atom (at ts j) ≡ false → (is : List ℕ) → count is ≡ 0
  none_has e [] = refl
  none_has e (i ∷ is) = let none : ◌≡◌ {A = ℕ} (cond (has_atom ts j i) 1 0) 0 = ap (λ b. cond (b && occurs (at ts j) (at ts i)) 1 0) e in omega (arith, none, none_has e is)

  one_has : is_atom (at ts j) ≡ true → (is : List ℕ) → in_one (at ts j) (map (at ts) is) ≡ true → 1 ≤ count is
  one_has e [] h = absurd (true≢false (sym h))
  one_has e (i ∷ is) h = by (is_atom (at ts j)) (occurs (at ts j) (at ts i)) e (one_has e is) h
    where
      by : (p q : Bool) → p ≡ true → (in_one (at ts j) (map (at ts) is) ≡ true → 1 ≤ count is) → (q || in_one (at ts j) (map (at ts) is)) ≡ true → 1 ≤ cond (p && q) 1 0 + count is
      by true true f rec k = omega arith
      by true false f rec k = omega (arith, rec k)
      by false q f rec k = absurd (true≢false (sym f))

  two_have : is_atom (at ts j) ≡ true → (is : List ℕ) → in_two (at ts j) (map (at ts) is) ≡ true → 2 ≤ count is
  two_have e [] h = absurd (true≢false (sym h))
  two_have e (i ∷ is) h = by (is_atom (at ts j)) (occurs (at ts j) (at ts i)) (in_one (at ts j) (map (at ts) is)) e (one_has e is) (two_have e is) h
    where
      by : (p q r : Bool) → p ≡ true → (r ≡ true → 1 ≤ count is) → (in_two (at ts j) (map (at ts) is) ≡ true → 2 ≤ count is) → ((q && r) || in_two (at ts j) (map (at ts) is)) ≡ true → 2 ≤ cond (p && q) 1 0 + count is
      by true true true f one two k = omega (arith, one refl)
      by true true false f one two k = omega (arith, two k)
      by true false r f one two k = omega (arith, two k)
      by false q r f one two k = absurd (true≢false (sym f))

  pub alone : (is counts : List ℕ) → get_or counts j 0 ≡ 1 → AreCounted (has_atom ts) is counts → in_two (at ts j) (map (at ts) is) ≡ false
  alone is counts one h = by (is_atom (at ts j)) (in_two (at ts j) (map (at ts) is)) refl refl
    where
      by : (a b : Bool) → is_atom (at ts j) ≡ a → in_two (at ts j) (map (at ts) is) ≡ b → b ≡ false
      by a false p q = refl
      by true true p q = absurd (omega (arith, two_have p is q, h j, one))
      by false true p q = absurd (omega (arith, none_has p is, h j, one))
