-- One more number at the end of an indexed list.
use Rattle.std.proofs.Common.{◌≡◌, refl, sym, ap, ◌∙◌, true≢false, ℕ, zero, suc, ◌+◌, ◌<◌, ◌≤◌, nat_eq, Bool, true, false, cond, List, [], ◌∷◌, ◌++◌, length, take, get_or, Option, Some, None, IsSome, is_some, take-take, ◌-◌, arith}
use mathlib.Core.Logic.{◌⊎◌, inl, inr}
use Rattle.std.specs.Map.{lookup}
use Rattle.std.proofs.lemmas.Bool.{eqb-true, eq-eqb, cases_lt}
use Rattle.std.proofs.lemmas.List.{length_push, get_or_append_left, get_or_push, take-append-le, take_at}
use Rattle.indexmap.specs.IndexMap.{insert_entry}
use Rattle.term_bank.specs.LastAt.{or_first, last_at, IsIndexed}
use Rattle.term_bank.specs.Candidate.{NotBefore}

pub last_push : (ns : List ℕ) (n m : ℕ) → last_at (ns ++ m ∷ []) n ≡ cond (nat_eq n m) (Some (length ns)) (last_at ns n)
last_push [] n m = by (nat_eq n m)
  where
    by : (b : Bool) → or_first None b ≡ cond b (Some 0) None
    by true = refl
    by false = refl
last_push (k ∷ ns) n m = ap (λ o. or_first o (nat_eq n k)) (last_push ns n m) ∙ by (nat_eq n m)
  where
    by : (b : Bool) → or_first (cond b (Some (length ns)) (last_at ns n)) (nat_eq n k) ≡ cond b (Some (suc (length ns))) (or_first (last_at ns n) (nat_eq n k))
    by true = refl
    by false = refl

pub looked_up : (n : ℕ) (es : List (ℕ × ℕ)) (k v : ℕ) → lookup (nat_eq n) (insert_entry nat_eq es k v) ≡ cond (nat_eq n k) (Some v) (lookup (nat_eq n) es)
looked_up n [] k v = refl
looked_up n (e ∷ es) k v = by (nat_eq k e.0) refl (looked_up n es k v)
  where
    same : (b : Bool) → cond b (Some v) (lookup (nat_eq n) es) ≡ cond b (Some v) (cond b (Some e.1) (lookup (nat_eq n) es))
    same true = refl
    same false = refl

    other : (b d : Bool) → (b ≡ true → d ≡ true → ⊥) → lookup (nat_eq n) (insert_entry nat_eq es k v) ≡ cond d (Some v) (lookup (nat_eq n) es)
        → cond b (Some e.1) (lookup (nat_eq n) (insert_entry nat_eq es k v)) ≡ cond d (Some v) (cond b (Some e.1) (lookup (nat_eq n) es))
    other true true h g = absurd (h refl refl)
    other true false h g = refl
    other false d h g = g

    by : (b : Bool) → nat_eq k e.0 ≡ b → lookup (nat_eq n) (insert_entry nat_eq es k v) ≡ cond (nat_eq n k) (Some v) (lookup (nat_eq n) es)
        → lookup (nat_eq n) (cond b ((e.0, v) ∷ es) (e ∷ insert_entry nat_eq es k v)) ≡ cond (nat_eq n k) (Some v) (cond (nat_eq n e.0) (Some e.1) (lookup (nat_eq n) es))
    by true h g = let one : e.0 ≡ k = sym (eqb-true k e.0 h) in
        same (nat_eq n e.0) ∙ ap (λ t. cond (nat_eq n t) (Some v) (cond (nat_eq n e.0) (Some e.1) (lookup (nat_eq n) es))) one
    by false h g = other (nat_eq n e.0) (nat_eq n k)
        (λ p q. let one : nat_eq k e.0 ≡ true = ap (λ t. nat_eq t e.0) (sym (eqb-true n k q)) ∙ p in true≢false (sym one ∙ h)) g

-- with the number's last place so far beside it
pub indexed_push : (ns : List ℕ) (la : List (ℕ × ℕ)) (ea : List (Option ℕ)) (n : ℕ) → IsIndexed ns la ea → IsIndexed (ns ++ n ∷ []) (insert_entry nat_eq la n (length ns)) (ea ++ lookup (nat_eq n) la ∷ [])
indexed_push ns la ea n h = record {
  last = λ k. looked_up k la n (length ns) ∙ ap (cond (nat_eq k n) (Some (length ns))) (h.last k) ∙ sym (last_push ns k n);
  as_many = omega (arith, length_push ea (lookup (nat_eq n) la), length_push ns n, h.as_many);
  before = λ i l. by i l (cases_lt i (length ns));
}
  where
    by : (i : ℕ) → i < length (ns ++ n ∷ []) → (i < length ns) ⊎ (length ns ≤ i) → get_or (ea ++ lookup (nat_eq n) la ∷ []) i None ≡ last_at (take i (ns ++ n ∷ [])) (get_or (ns ++ n ∷ []) i 0)
    by i l (inl less) = get_or_append_left ea (lookup (nat_eq n) la ∷ []) None i (omega (arith, h.as_many, less)) ∙ h.before i less
        ∙ (λ j. last_at (sym (take-append-le i ns (n ∷ []) (omega (arith, less))) j) (sym (get_or_append_left ns (n ∷ []) 0 i less) j))
    by i l (inr more) = let here : length ns ≡ i = omega (arith, l, more, length_push ns n) in
        get_or_push ea (lookup (nat_eq n) la) None i (h.as_many ∙ here) ∙ h.last n
        ∙ (λ j. last_at (sym (take_at ns (n ∷ []) i here) j) (sym (get_or_push ns n 0 i here) j))

-- the same, told by equations
pub indexed_next : (ns ms : List ℕ) (la lb : List (ℕ × ℕ)) (ea eb : List (Option ℕ)) (n p : ℕ) (before : Option ℕ) → IsIndexed ns la ea
    → ms ≡ ns ++ n ∷ [] → before ≡ lookup (nat_eq n) la → eb ≡ ea ++ before ∷ [] → p ≡ length ns → lb ≡ insert_entry nat_eq la n p → IsIndexed ms lb eb
indexed_next ns ms la lb ea eb n p before h em eq ee ep el = rw (em, el, ee, eq, ep) (indexed_push ns la ea n h)

-- the last number stands somewhere
pub last_there : (ns ms : List ℕ) (la : List (ℕ × ℕ)) (ea : List (Option ℕ)) (m : ℕ) → IsIndexed ns la ea → ns ≡ ms ++ m ∷ [] → IsSome (lookup (nat_eq m) la)
last_there ns ms la ea m h en = ap is_some (h.last m ∙ ap (λ xs. last_at xs m) en ∙ last_push ms m m ∙ ap (λ b. cond b (Some (length ms)) (last_at ms m)) (eq-eqb m m refl))

-- the last number goes, and its last place is again the one before
module _ (ns ms : List ℕ) (la lb : List (ℕ × ℕ)) (ea fa : List (Option ℕ)) (m : ℕ) (before : Option ℕ) (h : IsIndexed ns la ea) (en : ns ≡ ms ++ m ∷ []) where
  pub indexed_pop : ea ≡ fa ++ before ∷ [] → ((n : ℕ) → lookup (nat_eq n) lb ≡ cond (nat_eq m n) before (lookup (nat_eq n) la)) → IsIndexed ms lb fa
  indexed_pop ee back = record {
    last = λ n. back n ∙ by n (nat_eq m n) refl;
    as_many = as_many;
    before = λ i l. sym (get_or_append_left fa (before ∷ []) None i (omega (arith, l, as_many))) ∙ ap (λ xs. get_or xs i None) (sym ee) ∙ h.before i (omega (arith, l, longer))
        ∙ (λ j. last_at (take i (en j)) (get_or (en j) i 0))
        ∙ (λ j. last_at (take-append-le i ms (m ∷ []) (omega (arith, l)) j) (get_or_append_left ms (m ∷ []) 0 i l j));
  }
    where
      longer : length ns ≡ length ms + 1
      longer = omega (arith, ap length en, length_push ms m)

      as_many : length fa ≡ length ms
      as_many = omega (arith, longer, h.as_many, ap length ee, length_push fa before)

      here : before ≡ last_at ms m
      here = sym (get_or_push fa before None (length ms) as_many) ∙ ap (λ xs. get_or xs (length ms) None) (sym ee) ∙ h.before (length ms) (omega (arith, longer))
          ∙ (λ j. last_at (take (length ms) (en j)) (get_or (en j) (length ms) 0))
          ∙ (λ j. last_at (take_at ms (m ∷ []) (length ms) refl j) (get_or_push ms m 0 (length ms) refl j))

      other : (n : ℕ) (b : Bool) → nat_eq n m ≡ b → nat_eq m n ≡ false → b ≡ false
      other n false q e = refl
      other n true q e = absurd (true≢false (sym (eq-eqb m n (sym (eqb-true n m q))) ∙ e))

      by : (n : ℕ) (b : Bool) → nat_eq m n ≡ b → cond b before (lookup (nat_eq n) la) ≡ last_at ms n
      by n true e = here ∙ ap (last_at ms) (eqb-true m n e)
      by n false e = h.last n ∙ ap (λ xs. last_at xs n) en ∙ last_push ms n m ∙ ap (λ b. cond b (Some (length ms)) (last_at ms n)) (other n (nat_eq n m) refl e)

-- as the last of more numbers goes, those that are to stay do
pub still_there : (xs ys zs : List ℕ) (n : ℕ) → n < length ys → zs ≡ take (length ys - 1) ys → take n ys ≡ take n xs → take n zs ≡ take n xs
still_there xs ys zs n l e h = ap (take n) e ∙ take-take n (length ys - 1) ys (omega (arith, l)) ∙ h

-- the last place is a place of the number, and no place of it comes later
pub record IsLast (ns : List ℕ) (n i : ℕ) : Type 0 where
  pub within : i < length ns
  pub here : get_or ns i 0 ≡ n

pub last_is : (ns : List ℕ) (n i : ℕ) → last_at ns n ≡ Some i → IsLast ns n i
last_is [] n i h = absurd (cc)
last_is (m ∷ ns) n i h = by (last_at ns n) refl (last_is ns n) (nat_eq n m) refl h
  where
    by : (o : Option ℕ) → last_at ns n ≡ o → ((j : ℕ) → last_at ns n ≡ Some j → IsLast ns n j) → (b : Bool) → nat_eq n m ≡ b → or_first o b ≡ Some i → IsLast (m ∷ ns) n i
    by (Some j) e r b t g = let one : i ≡ suc j = cc in let l = r j e in rw one (record { within = omega (arith, l.within); here = l.here })
    by None e r true t g = let one : i ≡ 0 = cc in rw one (record { within = omega arith; here = sym (eqb-true n m t) })
    by None e r false t g = absurd (cc)

-- where the number stands at a place there is a last place, no earlier than that
pub no_later : (ns : List ℕ) (n j : ℕ) → j < length ns → get_or ns j 0 ≡ n → NotBefore (last_at ns n) j
no_later [] n j l e = absurd (omega (arith, l))
no_later (m ∷ ns) n zero l e = by (last_at ns n) (nat_eq n m) (rw (sym e) (self m))
  where
    self : (k : ℕ) → nat_eq k k ≡ true
    self k = eq-eqb k k refl

    by : (o : Option ℕ) (b : Bool) → b ≡ true → NotBefore (or_first o b) 0
    by (Some i) b t = omega arith
    by None true t = omega arith
    by None false t = absurd (cc)
no_later (m ∷ ns) n (suc j) l e = by (last_at ns n) (nat_eq n m) (no_later ns n j (omega (arith, l)) e)
  where
    by : (o : Option ℕ) (b : Bool) → NotBefore o j → NotBefore (or_first o b) (suc j)
    by (Some i) b h = omega (arith, h)
    by None b h = absurd h
