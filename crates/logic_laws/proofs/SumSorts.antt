-- Sums and products of numbers are numbers.
-- Here s is a sort, h that the atoms so far are numbers, e what the computation gives; p and q are its steps, f the sorts of the first part and of the rest.
use Rattle.std.proofs.Common.{◌≡◌, refl, sym, subst, ℤ, pos, negsuc, ◌+ℤ◌, ◌*ℤ◌, true, ◌&&◌, Some, None, option_map, List, int_eq, Ordering, Less, Equal, Greater}
use Rattle.logic_core.proofs.Booleans.{both_true, all_true}
use Rattle.logic_core.specs.Tree.{Kind, int, boolean, Tree, num, linear, mul, at_most, Parts, no_parts, part}
use Rattle.logic_core.specs.Def.{Def}
use Rattle.logic_core.specs.Order.{order}
use Rattle.logic_core.specs.Wide.{◌>>=◌, checked_add, checked_mul, checked}
use Rattle.logic_core.specs.Sorts.{is, sort_of, are_ints}
use Rattle.logic_core.specs.Sum.{Linear, constant, with_part, add_atom, add_number, add_parts, add_term, sum_term, term_of, affine, difference, in_order, product_with, product}
use Rattle.logic_laws.proofs.Options.{some_has, bind_some, map_some, when_some, when_true, cond_has, cond_some}
use Rattle.logic_laws.proofs.SortTests.{is_sort, sort_is}

-- what a pair put in order has, where both orders have it
in_order_by : (P : Tree × Tree → Type 0) (a b : Tree) (o : Ordering) → P (a, b) → P (b, a) → P (elim o [ Less ↦ (b, a) | Equal ↦ (a, b) | Greater ↦ (a, b) ])
in_order_by P a b Less h k = k
in_order_by P a b Equal h k = h
in_order_by P a b Greater h k = h

pub in_order_has : (P : Tree × Tree → Type 0) (a b : Tree) → P (a, b) → P (b, a) → P (in_order a b)
in_order_has P a b h k = in_order_by P a b (order b a) h k

-- the number that was checked
pub checked_is : (n m : ℤ) → checked n ≡ Some m → n ≡ m
checked_is n m h = cond_some (λ m. n ≡ m) _ (Some n) None m h (λ _ e. cc) (λ _ e. absurd (cc))

-- a number joins the constant
pub number_is : (k n : ℤ) (s r : Linear) → add_number k n s ≡ Some r → (r.parts ≡ s.parts) × (r.rest ≡ s.rest +ℤ (k *ℤ n))
number_is k n s r h =
    let p = bind_some (checked_mul k n) (λ m. checked_add s.rest m >>= λ c. Some (record { parts = s.parts; rest = c })) r h in
    let q = bind_some (checked_add s.rest p.0) (λ c. Some (record { parts = s.parts; rest = c })) r p.2 in
    some_has (λ x. (x.parts ≡ s.parts) × (x.rest ≡ s.rest +ℤ (k *ℤ n))) (record { parts = s.parts; rest = q.0 }) r q.2
    (let a = checked_is (k *ℤ n) p.0 p.1 in let b = checked_is (s.rest +ℤ p.0) q.0 q.1 in (refl, cc))

module _ (vars : List Kind) (defs : List Def) where
  pub one_more_int : (k : ℤ) (t : Tree) (ps : Parts) (b : List Kind) → sort_of vars defs b t ≡ Some int → are_ints vars defs b ps ≡ true → are_ints vars defs b (part k t ps) ≡ true
  one_more_int k t ps b s h = all_true (is int (sort_of vars defs b t)) (are_ints vars defs b ps) (sort_is int (sort_of vars defs b t) s) h

  pub with_part_ints : (k : ℤ) (t : Tree) (ps : Parts) (b : List Kind) → sort_of vars defs b t ≡ Some int → are_ints vars defs b ps ≡ true → are_ints vars defs b (with_part k t ps) ≡ true
  with_part_ints k t ps b s h = cond_has (λ qs. are_ints vars defs b qs ≡ true) (int_eq k (pos 0)) ps (part k t ps) (λ _. h) (λ _. one_more_int k t ps b s h)

  pub first_int : (k : ℤ) (t : Tree) (ps : Parts) (b : List Kind) → are_ints vars defs b (part k t ps) ≡ true → (sort_of vars defs b t ≡ Some int) × (are_ints vars defs b ps ≡ true)
  first_int k t ps b h = let p = both_true (is int (sort_of vars defs b t)) (are_ints vars defs b ps) h in (is_sort int (sort_of vars defs b t) p.0, p.1)

  atom_by : (k : ℤ) (t : Tree) (j : ℤ) (u : Tree) (ps qs : Parts) (b : List Kind) (o : Ordering) → sort_of vars defs b t ≡ Some int → are_ints vars defs b (part j u ps) ≡ true → ((rs : Parts) → add_atom k t ps ≡ Some rs → are_ints vars defs b rs ≡ true)
      → (elim o [ Greater ↦ Some (with_part k t (part j u ps)) | Equal ↦ option_map (λ n. with_part n u ps) (checked_add j k) | Less ↦ option_map (λ rs. part j u rs) (add_atom k t ps) ]) ≡ Some qs → are_ints vars defs b qs ≡ true
  atom_by k t j u ps qs b Greater s h ih e = some_has (λ rs. are_ints vars defs b rs ≡ true) (with_part k t (part j u ps)) qs e (with_part_ints k t (part j u ps) b s h)
  atom_by k t j u ps qs b Equal s h ih e = let f = first_int j u ps b h in let p = map_some (λ n. with_part n u ps) (checked_add j k) qs e in subst (λ rs. are_ints vars defs b rs ≡ true) p.2 (with_part_ints p.0 u ps b f.0 f.1)
  atom_by k t j u ps qs b Less s h ih e = let f = first_int j u ps b h in let p = map_some (λ rs. part j u rs) (add_atom k t ps) qs e in subst (λ rs. are_ints vars defs b rs ≡ true) p.2 (one_more_int j u p.0 b f.0 (ih p.0 p.1))

  pub atom_ints : (ps : Parts) (k : ℤ) (t : Tree) (qs : Parts) (b : List Kind) → sort_of vars defs b t ≡ Some int → are_ints vars defs b ps ≡ true → add_atom k t ps ≡ Some qs → are_ints vars defs b qs ≡ true
  atom_ints no_parts k t qs b s h e = some_has (λ rs. are_ints vars defs b rs ≡ true) (with_part k t no_parts) qs e (with_part_ints k t no_parts b s h)
  atom_ints (part j u ps) k t qs b s h e = atom_by k t j u ps qs b (order t u) s h (λ rs x. atom_ints ps k t rs b s (first_int j u ps b h).1 x) e

  pub parts_ints : (ps : Parts) (k : ℤ) (s r : Linear) (b : List Kind) → are_ints vars defs b ps ≡ true → are_ints vars defs b s.parts ≡ true → add_parts k ps s ≡ Some r → are_ints vars defs b r.parts ≡ true
  parts_ints no_parts k s r b i h e = some_has (λ x. are_ints vars defs b x.parts ≡ true) s r e h
  parts_ints (part j t ps) k s r b i h e = let f = first_int j t ps b i in
      let p = bind_some (checked_mul k j) (λ n. add_atom n t s.parts >>= λ qs. add_parts k ps (record { parts = qs; rest = s.rest })) r e in
      let q = bind_some (add_atom p.0 t s.parts) (λ qs. add_parts k ps (record { parts = qs; rest = s.rest })) r p.2 in
      parts_ints ps k (record { parts = q.0; rest = s.rest }) r b f.1 (atom_ints s.parts p.0 t q.0 b f.0 h q.1) q.2

  -- a number added to a sum of numbers
  pub term_ints : (t : Tree) (k : ℤ) (s r : Linear) (b : List Kind) → sort_of vars defs b t ≡ Some int → are_ints vars defs b s.parts ≡ true → add_term k t s ≡ Some r → are_ints vars defs b r.parts ≡ true
  term_ints (num n) k s r b i h e = subst (λ qs. are_ints vars defs b qs ≡ true) (sym (number_is k n s r e).0) h
  term_ints (linear ps c) k s r b i h e =
      let p = bind_some (add_parts k ps s) (λ x. add_number k c x) r e in
      subst (λ qs. are_ints vars defs b qs ≡ true) (sym (number_is k c p.0 r p.2).0) (parts_ints ps k s p.0 b (when_some (are_ints vars defs b ps) int int i).0 h p.1)
  term_ints t k s r b i h e =
      let p = map_some (λ qs. record { parts = qs; rest = s.rest }) (add_atom k t s.parts) r e in
      subst (λ x. are_ints vars defs b x.parts ≡ true) p.2 (atom_ints s.parts k t p.0 b i h p.1)

  pub sum_sort : (ps : Parts) (c : ℤ) (b : List Kind) → are_ints vars defs b ps ≡ true → sort_of vars defs b (sum_term ps c) ≡ Some int
  sum_sort no_parts c b h = refl
  sum_sort (part k t no_parts) c b h = cond_has (λ u. sort_of vars defs b u ≡ Some int) (int_eq k (pos 1) && int_eq c (pos 0)) t (linear (part k t no_parts) c) (λ _. (first_int k t no_parts b h).0) (λ _. when_true (are_ints vars defs b (part k t no_parts)) (Some int) h)
  sum_sort (part k t (part j u ps)) c b h = when_true (are_ints vars defs b (part k t (part j u ps))) (Some int) h

  pub affine_sort : (k : ℤ) (d : Tree) (c : ℤ) (u : Tree) (b : List Kind) → sort_of vars defs b d ≡ Some int → affine k d c ≡ Some u → sort_of vars defs b u ≡ Some int
  affine_sort k d c u b s e =
      let p = map_some term_of (add_term k d (constant c)) u e in
      subst (λ x. sort_of vars defs b x ≡ Some int) p.2 (sum_sort p.0.parts p.0.rest b (term_ints d k (constant c) p.0 b s refl p.1))

  pub difference_sort : (x y u : Tree) (b : List Kind) → sort_of vars defs b x ≡ Some int → sort_of vars defs b y ≡ Some int → difference x y ≡ Some u → sort_of vars defs b u ≡ Some int
  difference_sort x y u b sx sy e =
      let p = bind_some (add_term (pos 1) x (constant (pos 0))) (λ s. option_map term_of (add_term (negsuc 0) y s)) u e in
      let q = map_some term_of (add_term (negsuc 0) y p.0) u p.2 in
      subst (λ x. sort_of vars defs b x ≡ Some int) q.2 (sum_sort q.0.parts q.0.rest b (term_ints y (negsuc 0) p.0 q.0 b sy (term_ints x (pos 1) (constant (pos 0)) p.0 b sx refl p.1) q.1))

  -- two numbers side by side
  ints : (x y : Tree) (b : List Kind) → sort_of vars defs b x ≡ Some int → sort_of vars defs b y ≡ Some int → (is int (sort_of vars defs b x) && is int (sort_of vars defs b y)) ≡ true
  ints x y b sx sy = all_true (is int (sort_of vars defs b x)) (is int (sort_of vars defs b y)) (sort_is int (sort_of vars defs b x) sx) (sort_is int (sort_of vars defs b y) sy)

  pub mul_sort : (x y : Tree) (b : List Kind) → sort_of vars defs b x ≡ Some int → sort_of vars defs b y ≡ Some int → sort_of vars defs b (mul x y) ≡ Some int
  mul_sort x y b sx sy = when_true (is int (sort_of vars defs b x) && is int (sort_of vars defs b y)) (Some int) (ints x y b sx sy)

  pub at_most_sort : (x y : Tree) (b : List Kind) → sort_of vars defs b x ≡ Some int → sort_of vars defs b y ≡ Some int → sort_of vars defs b (at_most x y) ≡ Some boolean
  at_most_sort x y b sx sy = when_true (is int (sort_of vars defs b x) && is int (sort_of vars defs b y)) (Some boolean) (ints x y b sx sy)

  ordered_product_sort : (x y u : Tree) (b : List Kind) → sort_of vars defs b x ≡ Some int → sort_of vars defs b y ≡ Some int → Some (mul (in_order x y).0 (in_order x y).1) ≡ Some u → sort_of vars defs b u ≡ Some int
  ordered_product_sort x y u b sx sy e = some_has (λ t. sort_of vars defs b t ≡ Some int) (mul (in_order x y).0 (in_order x y).1) u e (in_order_has (λ p. sort_of vars defs b (mul p.0 p.1) ≡ Some int) x y (mul_sort x y b sx sy) (mul_sort y x b sy sx))

  product_with_sort : (y x u : Tree) (b : List Kind) → sort_of vars defs b x ≡ Some int → sort_of vars defs b y ≡ Some int → product_with x y ≡ Some u → sort_of vars defs b u ≡ Some int
  product_with_sort (num n) x u b sx sy e = affine_sort n x (pos 0) u b sx e
  product_with_sort y x u b sx sy e = ordered_product_sort x y u b sx sy e

  pub product_sort : (x y u : Tree) (b : List Kind) → sort_of vars defs b x ≡ Some int → sort_of vars defs b y ≡ Some int → product x y ≡ Some u → sort_of vars defs b u ≡ Some int
  product_sort (num n) y u b sx sy e = affine_sort n y (pos 0) u b sy e
  product_sort x y u b sx sy e = product_with_sort y x u b sx sy e
