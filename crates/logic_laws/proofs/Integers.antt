-- Laws of the integers.
use Rattle.std.proofs.Common.{◌≡◌, ◌∙◌, sym, ap, refl, ℕ, zero, suc, ℤ, pos, negsuc, ◌+ℤ◌, ◌*ℤ◌, neg_ℤ, arith, Bool, true, false, not, int_le, int_eq}
use lib.IntN.{suc_ℤ-*ℤ, pred_ℤ-*ℤ, zero-*ℤ, +ℤ_invr}
use Rattle.std.proofs.lemmas.Int.{ints}
use Rattle.std.proofs.lemmas.Bool.Decides.{Decides-int_eq}
use Rattle.logic_core.proofs.Booleans.{same_test}

pos_times_plus : (n : ℕ) (a b : ℤ) → pos n *ℤ (a +ℤ b) ≡ (pos n *ℤ a) +ℤ (pos n *ℤ b)
pos_times_plus zero a b = omega (arith, ints)
pos_times_plus (suc n) a b = omega (arith, ints, pos_times_plus n a b, suc_ℤ-*ℤ (pos n) (a +ℤ b), suc_ℤ-*ℤ (pos n) a, suc_ℤ-*ℤ (pos n) b)

neg_times_plus : (n : ℕ) (a b : ℤ) → negsuc n *ℤ (a +ℤ b) ≡ (negsuc n *ℤ a) +ℤ (negsuc n *ℤ b)
neg_times_plus zero a b = omega (arith, ints)
neg_times_plus (suc n) a b = omega (arith, ints, neg_times_plus n a b, pred_ℤ-*ℤ (negsuc n) (a +ℤ b), pred_ℤ-*ℤ (negsuc n) a, pred_ℤ-*ℤ (negsuc n) b)

pub times_plus : (k a b : ℤ) → k *ℤ (a +ℤ b) ≡ (k *ℤ a) +ℤ (k *ℤ b)
times_plus (pos n) a b = pos_times_plus n a b
times_plus (negsuc n) a b = neg_times_plus n a b

pub times_swap : (a b : ℤ) → a *ℤ b ≡ b *ℤ a
times_swap a b = omega (arith, ints)

pub plus_times : (a b k : ℤ) → (a +ℤ b) *ℤ k ≡ (a *ℤ k) +ℤ (b *ℤ k)
plus_times a b k = omega (arith, ints, times_plus k a b)

pos_times_times : (n : ℕ) (a b : ℤ) → (pos n *ℤ a) *ℤ b ≡ pos n *ℤ (a *ℤ b)
pos_times_times zero a b = ap (λ x. x *ℤ b) (zero-*ℤ a) ∙ zero-*ℤ b ∙ sym (zero-*ℤ (a *ℤ b))
pos_times_times (suc n) a b = omega (arith, ints, ap (λ x. x *ℤ b) (suc_ℤ-*ℤ (pos n) a), plus_times (pos n *ℤ a) a b, pos_times_times n a b, suc_ℤ-*ℤ (pos n) (a *ℤ b))

minus_is : (a : ℤ) → negsuc 0 *ℤ a ≡ neg_ℤ a
minus_is a = omega (arith, ints)

pub minus_times : (a b : ℤ) → neg_ℤ a *ℤ b ≡ neg_ℤ (a *ℤ b)
minus_times a b = omega (arith, ints, plus_times a (neg_ℤ a) b, ap (λ x. x *ℤ b) (+ℤ_invr a), zero-*ℤ b)

neg_times_times : (n : ℕ) (a b : ℤ) → (negsuc n *ℤ a) *ℤ b ≡ negsuc n *ℤ (a *ℤ b)
neg_times_times zero a b = omega (arith, ints, ap (λ x. x *ℤ b) (minus_is a), minus_times a b)
neg_times_times (suc n) a b = omega (arith, ints, ap (λ x. x *ℤ b) (pred_ℤ-*ℤ (negsuc n) a), plus_times (negsuc n *ℤ a) (neg_ℤ a) b, minus_times a b, neg_times_times n a b, pred_ℤ-*ℤ (negsuc n) (a *ℤ b))

pub times_times : (k a b : ℤ) → (k *ℤ a) *ℤ b ≡ k *ℤ (a *ℤ b)
times_times (pos n) a b = pos_times_times n a b
times_times (negsuc n) a b = neg_times_times n a b

-- a = b where a - b is zero
pub difference_zero : (a b : ℤ) → int_eq (a +ℤ (negsuc 0 *ℤ b)) (pos 0) ≡ int_eq a b
difference_zero a b = same_test (int_eq (a +ℤ (negsuc 0 *ℤ b)) (pos 0)) (int_eq a b) (λ h. (Decides-int_eq a b).1 (let e : a +ℤ (negsuc 0 *ℤ b) ≡ pos 0 = (Decides-int_eq (a +ℤ (negsuc 0 *ℤ b)) (pos 0)).0 h in omega (arith, ints))) (λ h. (Decides-int_eq (a +ℤ (negsuc 0 *ℤ b)) (pos 0)).1 (let e : a ≡ b = (Decides-int_eq a b).0 h in omega (arith, ints)))

pub negative_zero : (a : ℤ) → int_eq (negsuc 0 *ℤ a) (pos 0) ≡ int_eq a (pos 0)
negative_zero a = same_test (int_eq (negsuc 0 *ℤ a) (pos 0)) (int_eq a (pos 0)) (λ h. (Decides-int_eq a (pos 0)).1 (let e : negsuc 0 *ℤ a ≡ pos 0 = (Decides-int_eq (negsuc 0 *ℤ a) (pos 0)).0 h in omega (arith, ints))) (λ h. (Decides-int_eq (negsuc 0 *ℤ a) (pos 0)).1 (let e : a ≡ pos 0 = (Decides-int_eq a (pos 0)).0 h in omega (arith, ints)))

-- a ≤ b where 0 ≤ b - a
pub difference_at_least_zero : (a b : ℤ) → int_le (pos 0) (b +ℤ (negsuc 0 *ℤ a)) ≡ int_le a b
difference_at_least_zero a b = same_test _ _ (λ h. grind (arith, ints)) (λ h. grind (arith, ints))

-- 0 ≤ -a - 1 where 0 ≤ a fails
pub not_at_least_zero : (a : ℤ) → int_le (pos 0) ((negsuc 0 *ℤ a) +ℤ negsuc 0) ≡ not (int_le (pos 0) a)
not_at_least_zero a = grind (arith, ints)

pub one_times : (x : ℤ) → pos 1 *ℤ x ≡ x
one_times x = omega (arith, ints)

-- a sum's part of coefficient zero
pub zero_part : (k x n : ℤ) → k ≡ pos 0 → (k *ℤ x) +ℤ n ≡ n
zero_part k x n e = omega (arith, ints, ap (λ j. j *ℤ x) e, zero-*ℤ x)

-- two parts of one atom
pub joined_parts : (j k l x m : ℤ) → j +ℤ k ≡ l → (k *ℤ x) +ℤ ((j *ℤ x) +ℤ m) ≡ (l *ℤ x) +ℤ m
joined_parts j k l x m e = omega (arith, ints, ap (λ i. i *ℤ x) e, plus_times j k x)

-- a part of a sum that is scaled
pub scaled_part : (k j l x n m : ℤ) → k *ℤ j ≡ l → (k *ℤ ((j *ℤ x) +ℤ n)) +ℤ m ≡ (k *ℤ n) +ℤ ((l *ℤ x) +ℤ m)
scaled_part k j l x n m e = omega (arith, ints, ap (λ i. i *ℤ x) e, times_times k j x, times_plus k (j *ℤ x) n)

-- a sum that is scaled, and its constant
pub scaled_sum : (k n c m : ℤ) → (k *ℤ (n +ℤ c)) +ℤ m ≡ (k *ℤ c) +ℤ ((k *ℤ n) +ℤ m)
scaled_sum k n c m = omega (arith, ints, times_plus k n c)

pub plus_plus_swap : (a b c : ℤ) → a +ℤ (b +ℤ c) ≡ b +ℤ (a +ℤ c)
plus_plus_swap a b c = omega (arith, ints)

pub plus_plus : (a b c : ℤ) → a +ℤ (b +ℤ c) ≡ (a +ℤ b) +ℤ c
plus_plus a b c = omega (arith, ints)

pub times_zero : (k m : ℤ) → (k *ℤ pos 0) +ℤ m ≡ m
times_zero k m = omega (arith, ints)

pub constant_last : (a x c : ℤ) → a +ℤ (x +ℤ c) ≡ x +ℤ (c +ℤ a)
constant_last a x c = omega (arith, ints)

-- one part alone, of coefficient 1
pub one_part : (k x m c : ℤ) → k ≡ pos 1 → c ≡ pos 0 → m ≡ pos 0 → ((k *ℤ x) +ℤ m) +ℤ c ≡ x
one_part k x m c e f g = omega (arith, ints, ap (λ i. i *ℤ x) e, one_times x)

pub minus_plus : (v w : ℤ) → (negsuc 0 *ℤ w) +ℤ ((pos 1 *ℤ v) +ℤ pos 0) ≡ v +ℤ (negsuc 0 *ℤ w)
minus_plus v w = omega (arith, ints, one_times v)

pub plus_zero : (x : ℤ) → x +ℤ pos 0 ≡ x
plus_zero x = omega (arith, ints)

pub zero_plus : (x : ℤ) → pos 0 +ℤ x ≡ x
zero_plus x = omega (arith, ints)

pub part_last : (a n m : ℤ) → (a +ℤ n) +ℤ m ≡ n +ℤ (a +ℤ m)
part_last a n m = omega (arith, ints)

pub times_minus : (a b : ℤ) → a *ℤ neg_ℤ b ≡ neg_ℤ (a *ℤ b)
times_minus a b = omega (arith, ints, minus_times b a, times_swap a (neg_ℤ b), times_swap a b)

pub times_nothing : (k : ℤ) → k *ℤ pos 0 ≡ pos 0
times_nothing k = omega (arith, ints)

-- a part of a sum that is divided by g
pub divided_part : (k g q x n m : ℤ) → k ≡ g *ℤ q → n ≡ g *ℤ m → (k *ℤ x) +ℤ n ≡ g *ℤ ((q *ℤ x) +ℤ m)
divided_part k g q x n m e f = omega (arith, ints, ap (λ i. i *ℤ x) e, times_times g q x, times_plus g (q *ℤ x) m, f)
