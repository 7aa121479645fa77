-- What an exchange does to values: it undoes itself, keeps sorts and equality, and goes through reads and writes.
use Rattle.std.proofs.Common.{◌≡◌, ◌∙◌, refl, sym, ap, subst, ℕ, zero, suc, ℤ, int_eq, int_lt, nat_eq, Bool, true, false, ◌&&◌, not, cond, Some, List, [], ◌∷◌, ◌++◌, reverse, slice_get}
use Rattle.std.proofs.lemmas.Bool.Decides.{Decides-int_eq}
use Rattle.std.proofs.lemmas.List.{map-append}
use Rattle.logic_core.proofs.Booleans.{both_true, same_test}
use mathlib.Core.List.{reverse-cons}
use Rattle.logic_core.specs.Tree.{Kind, int, map as map_of}
use Rattle.logic_core.specs.Value.{Value, whole, flag, table, Entries, no_entries, entry, same, look_in, look, kept, put_in, put, above, is_of, are_entries, are_of, at}
use Rattle.logic_laws.proofs.Options.{cond_has}
use Rattle.logic_laws.proofs.SameValue.{same_equal, equal_same}
use Rattle.logic_laws.proofs.Tables.{at_next, are_of_reverse, are_of_bound}
use Rattle.bpl_sorts.specs.Types.{Ty, integers, truths, carriers, maps, kind_of, kinds_of}
use Rattle.bpl_sorts.specs.Exchange.{each_entry, each_held, other_of, swapped, exchange, exchanged}

cond_true : {A : Type 0} (c : Bool) (x y : A) → c ≡ true → cond c x y ≡ x
cond_true true x y e = refl
cond_true false x y e = absurd (cc)

cond_false : {A : Type 0} (c : Bool) (x y : A) → c ≡ false → cond c x y ≡ y
cond_false true x y e = absurd (cc)
cond_false false x y e = refl

itself : (i : ℤ) → int_eq i i ≡ true
itself i = (Decides-int_eq i i).1 refl

equal_number : (i j : ℤ) → int_eq i j ≡ true → i ≡ j
equal_number i j e = (Decides-int_eq i j).0 e

-- of a test's two answers
through_cond : {A B : Type 0} (f : A → B) (c : Bool) (x y : A) → f (cond c x y) ≡ cond c (f x) (f y)
through_cond f true x y = refl
through_cond f false x y = refl

other_twice : (a c n : ℤ) → other_of a c (other_of a c n) ≡ n
other_twice a c n = cond_has (λ x. other_of a c x ≡ n) (int_eq n a) c (cond (int_eq n c) a n)
    (λ e. cond_has (λ x. x ≡ n) (int_eq c a) c (cond (int_eq c c) a c) (λ g. equal_number c a g ∙ sym (equal_number n a e)) (λ g. cond_true (int_eq c c) a c (itself c) ∙ sym (equal_number n a e)))
    (λ e. cond_has (λ x. other_of a c x ≡ n) (int_eq n c) a n
    (λ g. cond_true (int_eq a a) c (cond (int_eq a c) a a) (itself a) ∙ sym (equal_number n c g))
    (λ g. cond_false (int_eq n a) c (cond (int_eq n c) a n) e ∙ cond_false (int_eq n c) a n g))

swapped_twice : (a c : ℤ) (v : Value) → swapped a c (swapped a c v) ≡ v
swapped_twice a c (whole n) = ap whole (other_twice a c n)
swapped_twice a c (flag b) = refl
swapped_twice a c (table d es) = refl

-- a change of values that undoes itself
module _ (f : Value → Value) (twice : (v : Value) → f (f v) ≡ v) where
  entries_twice : (es : Entries) → each_entry f (each_entry f es) ≡ es
  entries_twice no_entries = refl
  entries_twice (entry i v es) = λ j. entry i (twice v j) (entries_twice es j)

  pub held_twice : (v : Value) → each_held f (each_held f v) ≡ v
  held_twice (whole n) = refl
  held_twice (flag b) = refl
  held_twice (table d es) = λ j. table (twice d j) (entries_twice es j)

  pub same_after : (v w : Value) → same (f v) (f w) ≡ same v w
  same_after v w = same_test (same (f v) (f w)) (same v w) (λ h. equal_same v w (sym (twice v) ∙ (ap f (same_equal (f v) (f w) h) ∙ twice w))) (λ h. equal_same (f v) (f w) (ap f (same_equal v w h)))

  look_in_after : (d : Value) (es : Entries) (i : ℤ) → look_in (f d) (each_entry f es) i ≡ f (look_in d es i)
  look_in_after d no_entries i = refl
  look_in_after d (entry j v es) i = ap (cond (int_eq i j) (f v)) (look_in_after d es i) ∙ sym (through_cond f (int_eq i j) v (look_in d es i))

  pub look_after : (k : Kind) (m : Value) (i : ℤ) → is_of (map_of k) m ≡ true → look (each_held f m) i ≡ f (look m i)
  look_after k (whole n) i h = absurd (cc)
  look_after k (flag b) i h = absurd (cc)
  look_after k (table d es) i h = look_in_after d es i

  kept_after : (d : Value) (i : ℤ) (v : Value) (es : Entries) → kept (f d) i (f v) (each_entry f es) ≡ each_entry f (kept d i v es)
  kept_after d i v es = ap (λ c. cond c (each_entry f es) (entry i (f v) (each_entry f es))) (same_after v d) ∙ sym (through_cond (each_entry f) (same v d) es (entry i v es))

  put_in_after : (d : Value) (es : Entries) (i : ℤ) (v : Value) → put_in (f d) (each_entry f es) i (f v) ≡ each_entry f (put_in d es i v)
  put_in_after d no_entries i v = kept_after d i v no_entries
  put_in_after d (entry j w es) i v =
      (λ l. cond (int_eq i j) (kept_after d i v es l) (cond (int_lt i j) (kept_after d i v (entry j w es) l) (entry j (f w) (put_in_after d es i v l))))
      ∙ (ap (cond (int_eq i j) (each_entry f (kept d i v es))) (sym (through_cond (each_entry f) (int_lt i j) (kept d i v (entry j w es)) (entry j w (put_in d es i v))))
      ∙ sym (through_cond (each_entry f) (int_eq i j) (kept d i v es) (cond (int_lt i j) (kept d i v (entry j w es)) (entry j w (put_in d es i v)))))

  pub put_after : (m : Value) (i : ℤ) (v : Value) → put (each_held f m) i (f v) ≡ each_held f (put m i v)
  put_after (whole n) i v = refl
  put_after (flag b) i v = refl
  put_after (table d es) i v = ap (table (f d)) (put_in_after d es i v)

  above_after : (i : ℤ) (es : Entries) → above i (each_entry f es) ≡ above i es
  above_after i no_entries = refl
  above_after i (entry j v es) = refl

  -- values keep that sort
  module _ (k : Kind) (keeps : (v : Value) → is_of k (f v) ≡ is_of k v) where
    are_entries_after : (d : Value) (es : Entries) → are_entries k (f d) (each_entry f es) ≡ are_entries k d es
    are_entries_after d no_entries = refl
    are_entries_after d (entry i v es) = λ j. keeps v j && (not (same_after v d j) && (above_after i es j && are_entries_after d es j))

    pub held_is_of : (v : Value) → is_of (map_of k) (each_held f v) ≡ is_of (map_of k) v
    held_is_of (whole n) = refl
    held_is_of (flag b) = refl
    held_is_of (table d es) = λ j. keeps d j && are_entries_after d es j

swapped_is_of : (a c : ℤ) (v : Value) → is_of int (swapped a c v) ≡ is_of int v
swapped_is_of a c (whole n) = refl
swapped_is_of a c (flag b) = refl
swapped_is_of a c (table d es) = refl

user_twice : (a c : ℤ) (u : Bool) (v : Value) → cond u (swapped a c (cond u (swapped a c v) v)) (cond u (swapped a c v) v) ≡ v
user_twice a c true v = swapped_twice a c v
user_twice a c false v = refl

user_is_of : (a c : ℤ) (u : Bool) (v : Value) → is_of int (cond u (swapped a c v) v) ≡ is_of int v
user_is_of a c true v = swapped_is_of a c v
user_is_of a c false v = refl

module _ (user : ℕ) (a c : ℤ) where
  abbrev x : Ty → Value → Value
  x = exchange user a c

  abbrev xs : List Ty → List Value → List Value
  xs = exchanged user a c

  pub twice : (t : Ty) (v : Value) → x t (x t v) ≡ v
  twice integers v = refl
  twice truths v = refl
  twice (carriers n) v = user_twice a c (nat_eq n user) v
  twice (maps t) v = held_twice (x t) (twice t) v

  pub exchange_is_of : (t : Ty) (v : Value) → is_of (kind_of t) (x t v) ≡ is_of (kind_of t) v
  exchange_is_of integers v = refl
  exchange_is_of truths v = refl
  exchange_is_of (carriers n) v = user_is_of a c (nat_eq n user) v
  exchange_is_of (maps t) v = held_is_of (x t) (twice t) (kind_of t) (exchange_is_of t) v

  pub each_twice : (ts : List Ty) (vs : List Value) → xs ts (xs ts vs) ≡ vs
  each_twice [] vs = refl
  each_twice (t ∷ ts) [] = refl
  each_twice (t ∷ ts) (v ∷ vs) = λ j. twice t v j ∷ each_twice ts vs j

  pub exchanged_are_of : (ts : List Ty) (vs : List Value) → are_of (kinds_of ts) (xs ts vs) ≡ are_of (kinds_of ts) vs
  exchanged_are_of [] vs = refl
  exchanged_are_of (t ∷ ts) [] = refl
  exchanged_are_of (t ∷ ts) (v ∷ vs) = λ j. exchange_is_of t v j && exchanged_are_of ts vs j

  pub exchanged_at : (ts : List Ty) (vs : List Value) (n : ℕ) (t : Ty) → are_of (kinds_of ts) vs ≡ true → slice_get ts n ≡ Some t → at (xs ts vs) n ≡ x t (at vs n)
  exchanged_at [] vs n t h e = absurd (cc)
  exchanged_at (s ∷ ts) [] n t h e = absurd (cc)
  exchanged_at (s ∷ ts) (v ∷ vs) zero t h e = let p : s ≡ t = cc in ap (λ u. x u v) p
  exchanged_at (s ∷ ts) (v ∷ vs) (suc n) t h e = at_next (x s v) (xs ts vs) n ∙ (exchanged_at ts vs n t (both_true (is_of (kind_of s) v) (are_of (kinds_of ts) vs) h).1 e ∙ sym (ap (x t) (at_next v vs n)))

  pub exchanged_append : (ts us : List Ty) (vs ws : List Value) → are_of (kinds_of ts) vs ≡ true → xs (ts ++ us) (vs ++ ws) ≡ xs ts vs ++ xs us ws
  exchanged_append [] us [] ws h = refl
  exchanged_append [] us (v ∷ vs) ws h = absurd (cc)
  exchanged_append (t ∷ ts) us [] ws h = absurd (cc)
  exchanged_append (t ∷ ts) us (v ∷ vs) ws h = ap (λ l. x t v ∷ l) (exchanged_append ts us vs ws (both_true (is_of (kind_of t) v) (are_of (kinds_of ts) vs) h).1)

-- lists of types and their kinds
pub kinds_append : (ts us : List Ty) → kinds_of (ts ++ us) ≡ kinds_of ts ++ kinds_of us
kinds_append ts us = map-append kind_of ts us

pub kinds_reverse : (ts : List Ty) → kinds_of (reverse ts) ≡ reverse (kinds_of ts)
kinds_reverse [] = refl
kinds_reverse (t ∷ ts) = ap kinds_of (reverse-cons t ts) ∙ (kinds_append (reverse ts) (t ∷ []) ∙ (ap (λ l. l ++ kind_of t ∷ []) (kinds_reverse ts) ∙ sym (reverse-cons (kind_of t) (kinds_of ts))))

-- under a binder
pub kinds_within : (ts us : List Ty) → kinds_of (reverse ts ++ us) ≡ reverse (kinds_of ts) ++ kinds_of us
kinds_within ts us = kinds_append (reverse ts) us ∙ ap (λ l. l ++ kinds_of us) (kinds_reverse ts)

pub kinds_reversed : (ts : List Ty) (vs : List Value) → are_of (kinds_of ts) vs ≡ true → are_of (kinds_of (reverse ts)) (reverse vs) ≡ true
kinds_reversed ts vs h = subst (λ ks. are_of ks (reverse vs) ≡ true) (sym (kinds_reverse ts)) (are_of_reverse (kinds_of ts) vs h)

pub fits_within : (ts us : List Ty) (vs ws : List Value) → are_of (kinds_of ts) vs ≡ true → are_of (kinds_of us) ws ≡ true → are_of (kinds_of (reverse ts ++ us)) (reverse vs ++ ws) ≡ true
fits_within ts us vs ws h f = subst (λ ks. are_of ks (reverse vs ++ ws) ≡ true) (sym (kinds_within ts us)) (are_of_bound (kinds_of ts) (kinds_of us) vs ws h f)

module _ (user : ℕ) (a c : ℤ) where
  pub exchanged_reverse : (ts : List Ty) (vs : List Value) → are_of (kinds_of ts) vs ≡ true → exchanged user a c (reverse ts) (reverse vs) ≡ reverse (exchanged user a c ts vs)
  exchanged_reverse [] [] h = refl
  exchanged_reverse [] (v ∷ vs) h = absurd (cc)
  exchanged_reverse (t ∷ ts) [] h = absurd (cc)
  exchanged_reverse (t ∷ ts) (v ∷ vs) h = let p = (both_true (is_of (kind_of t) v) (are_of (kinds_of ts) vs) h).1 in
      (λ j. exchanged user a c (reverse-cons t ts j) (reverse-cons v vs j)) ∙ (exchanged_append user a c (reverse ts) (t ∷ []) (reverse vs) (v ∷ []) (kinds_reversed ts vs p)
      ∙ (ap (λ l. l ++ exchange user a c t v ∷ []) (exchanged_reverse ts vs p) ∙ sym (reverse-cons (exchange user a c t v) (exchanged user a c ts vs))))

  pub exchanged_within : (ts us : List Ty) (vs ws : List Value) → are_of (kinds_of ts) vs ≡ true → exchanged user a c (reverse ts ++ us) (reverse vs ++ ws) ≡ reverse (exchanged user a c ts vs) ++ exchanged user a c us ws
  exchanged_within ts us vs ws h = exchanged_append user a c (reverse ts) us (reverse vs) ws (kinds_reversed ts vs h) ∙ ap (λ l. l ++ exchanged user a c us ws) (exchanged_reverse ts vs h)
