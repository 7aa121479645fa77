-- In a normal form each sum falls, whatever the term was.
use Rattle.std.specs.Prelude.{refl, ℤ, pos, negsuc, Bool, true, false, not, Option, Some, None, option_map, List, ◌++◌, reverse, IfSome, if◌then◌else◌}
use Rattle.std.specs.Ordering.{int_eq}
use Rattle.std.specs.declared.cmp.Ordering.{Ordering}
use Rattle.std.specs.declared.cmp.Ordering.TheVariants.{Less, Equal, Greater}
use Rattle.std.proofs.Common.{◌&&◌}
use Rattle.logic_core.specs.Tree.{Kind, int, boolean, map, Tree, num, truth, free, bound, linear, mul, read, write, choose, call, negation, all, some, equal, at_most, for_all, exists, Trees, no_trees, tree, Parts, no_parts, part, Patterns, no_patterns, pattern}
use Rattle.logic_core.specs.Def.{Def}
use Rattle.logic_core.specs.Same.{same_term}
use Rattle.logic_core.specs.Sorts.{sort_of}
use Rattle.logic_core.specs.Order.{order}
use Rattle.logic_core.specs.Wide.{checked_add, checked_mul, ◌>>=◌, when}
use Rattle.logic_core.specs.Junction.{append, operands, with_operand, has_truth, neutral, joined_or_alone, junction, conjunction, disjunction, is_zero, negated, negated_each}
use Rattle.logic_core.specs.declared.junction.Connective.{Connective}
use Rattle.logic_core.specs.declared.junction.Connective.TheVariants.{And, Or}
use Rattle.logic_core.specs.Sum.{Linear, constant, with_part, add_atom, add_number, add_parts, add_term, sum_term, term_of, affine, difference, in_order, product, product_with}
use Rattle.logic_core.specs.Combine.{sum_of}
use Rattle.logic_core.specs.Normal.{choice, has_negative_lead, equals_zero, zero_at_most, equivalence_with, equivalence, equation_of, equation, inequality, quantified, normal, normal_each, normal_sum, normal_patterns}
use Rattle.linear_certs.specs.FallingLaws.{FallStrictly, Falls, EachSumFalls, FallInEach, FallInParts, FallInPatterns, NormalSumsFall, LinearFormsFall}
use Rattle.linear_certs.proofs.FallingSums.{sums_fall}

pub some_then : {A B : Type 0} (P : A → Type 0) (Q : B → Type 0) (o : Option A) (f : A → Option B) → IfSome o P → ((a : A) → P a → IfSome (f a) Q) → IfSome (o >>= f) Q
some_then P Q None f h g = tt
some_then P Q (Some a) f h g = g a h

some_mapped : {A B : Type 0} (P : A → Type 0) (Q : B → Type 0) (o : Option A) (f : A → B) → IfSome o P → ((a : A) → P a → Q (f a)) → IfSome (option_map f o) Q
some_mapped P Q None f h g = tt
some_mapped P Q (Some a) f h g = g a h

some_both : {A : Type 0} (P Q : A → Type 0) (o : Option A) → IfSome o P → IfSome o Q → IfSome o (λ a. P a × Q a)
some_both P Q None h k = tt
some_both P Q (Some a) h k = (h, k)

abbrev Any : ℤ → Type 0
Any n = Unit {0}

anything : (n : Option ℤ) → IfSome n Any
anything None = tt
anything (Some n) = tt

chosen : (P : Tree → Type 0) (b : Bool) (x y : Tree) → P x → P y → P (if b then x else y)
chosen P true x y h k = h
chosen P false x y h k = k

some_chosen : (P : Tree → Type 0) (b : Bool) (x y : Option Tree) → IfSome x P → IfSome y P → IfSome (if b then x else y) P
some_chosen P true x y h k = h
some_chosen P false x y h k = k

-- a sum whose parts fall, and in whose atoms each sum falls
abbrev pub FallsWithin : Linear → Type 0
FallsWithin s = Falls s × FallInParts s.parts

part_within : (k : ℤ) (t : Tree) (ps : Parts) → EachSumFalls t → FallInParts ps → FallInParts (with_part k t ps)
part_within k t ps h g = by (int_eq k (pos 0))
  where
    by : (b : Bool) → FallInParts (if b then ps else part k t ps)
    by true = g
    by false = (h, g)

atom_within : (k : ℤ) (t : Tree) (ps : Parts) → EachSumFalls t → FallInParts ps → IfSome (add_atom k t ps) FallInParts
atom_within k t no_parts h g = part_within k t no_parts h tt
atom_within k t (part j u ps) h g = by (order t u) (atom_within k t ps h g.1)
  where
    by : (o : Ordering) → IfSome (add_atom k t ps) FallInParts
        → IfSome (elim o [ Greater ↦ Some (with_part k t (part j u ps)) | Equal ↦ option_map (λ n. with_part n u ps) (checked_add j k) | Less ↦ option_map (λ qs. part j u qs) (add_atom k t ps) ]) FallInParts
    by Greater rest = part_within k t (part j u ps) h g
    by Equal rest = some_mapped Any FallInParts (checked_add j k) (λ n. with_part n u ps) (anything (checked_add j k)) (λ n _. part_within n u ps g.0 g.1)
    by Less rest = some_mapped FallInParts FallInParts (add_atom k t ps) (λ qs. part j u qs) rest (λ qs r. (g.0, r))

-- of the sum alone
abbrev Within : Linear → Type 0
Within s = FallInParts s.parts

number_in : (k n : ℤ) (s : Linear) → Within s → IfSome (add_number k n s) Within
number_in k n s h = some_then Any Within (checked_mul k n) (λ m. checked_add s.rest m >>= λ c. Some (record { parts = s.parts; rest = c })) (anything (checked_mul k n))
    (λ m _. some_then Any Within (checked_add s.rest m) (λ c. Some (record { parts = s.parts; rest = c })) (anything (checked_add s.rest m)) (λ c _. h))

parts_in : (k : ℤ) (ps : Parts) (s : Linear) → FallInParts ps → Within s → IfSome (add_parts k ps s) Within
parts_in k no_parts s h g = g
parts_in k (part j t ps) s h g = some_then Any Within (checked_mul k j) (λ n. add_atom n t s.parts >>= λ qs. add_parts k ps (record { parts = qs; rest = s.rest })) (anything (checked_mul k j))
    (λ n _. some_then FallInParts Within (add_atom n t s.parts) (λ qs. add_parts k ps (record { parts = qs; rest = s.rest })) (atom_within n t s.parts h.0 g) (λ qs r. parts_in k ps (record { parts = qs; rest = s.rest }) h.1 r))

atom_in : (k : ℤ) (t : Tree) (s : Linear) → EachSumFalls t → Within s → IfSome (option_map (λ qs. record { parts = qs; rest = s.rest }) (add_atom k t s.parts)) Within
atom_in k t s h g = some_mapped FallInParts Within (add_atom k t s.parts) (λ qs. record { parts = qs; rest = s.rest }) (atom_within k t s.parts h g) (λ qs r. r)

term_in : (k : ℤ) (t : Tree) (s : Linear) → EachSumFalls t → Within s → IfSome (add_term k t s) Within
term_in k (num n) s h g = number_in k n s g
term_in k (linear ps c) s h g = some_then Within Within (add_parts k ps s) (λ r. add_number k c r) (parts_in k ps s h.1 g) (λ r q. number_in k c r q)
term_in k t s h g = atom_in k t s h g

pub term_within : (k : ℤ) (t : Tree) (s : Linear) → EachSumFalls t → FallsWithin s → IfSome (add_term k t s) FallsWithin
term_within k t s h g = some_both Falls Within (add_term k t s) (sums_fall.0 k t s g.0) (term_in k t s h g.1)

pub constant_within : (c : ℤ) → FallsWithin (constant c)
constant_within c = (tt, tt)

pub sum_falls : (ps : Parts) (c : ℤ) → FallStrictly ps → FallInParts ps → EachSumFalls (sum_term ps c)
sum_falls no_parts c h g = tt
sum_falls (part k t no_parts) c h g = chosen EachSumFalls (int_eq k (pos 1) && int_eq c (pos 0)) t (linear (part k t no_parts) c) g.0 (h, g)
sum_falls (part k t (part j u ps)) c h g = (h, g)

of_sum : (o : Option Linear) → IfSome o FallsWithin → IfSome (option_map term_of o) EachSumFalls
of_sum o h = some_mapped FallsWithin EachSumFalls o term_of h (λ s g. sum_falls s.parts s.rest g.0 g.1)

affine_falls : (k : ℤ) (d : Tree) (c : ℤ) → EachSumFalls d → IfSome (affine k d c) EachSumFalls
affine_falls k d c h = of_sum (add_term k d (constant c)) (term_within k d (constant c) h (constant_within c))

difference_falls : (a b : Tree) → EachSumFalls a → EachSumFalls b → IfSome (difference a b) EachSumFalls
difference_falls a b h g = some_then FallsWithin EachSumFalls (add_term (pos 1) a (constant (pos 0))) (λ s. option_map term_of (add_term (negsuc 0) b s)) (term_within (pos 1) a (constant (pos 0)) h (constant_within (pos 0)))
    (λ s r. of_sum (add_term (negsuc 0) b s) (term_within (negsuc 0) b s g r))

abbrev BothFall : Tree × Tree → Type 0
BothFall p = EachSumFalls p.0 × EachSumFalls p.1

in_order_fall : (a b : Tree) → EachSumFalls a → EachSumFalls b → BothFall (in_order a b)
in_order_fall a b h g = by (order b a)
  where
    by : (o : Ordering) → BothFall (elim o [ Less ↦ (b, a) | Equal ↦ (a, b) | Greater ↦ (a, b) ])
    by Less = (g, h)
    by Equal = (h, g)
    by Greater = (h, g)

product_with_falls : (a b : Tree) → EachSumFalls a → EachSumFalls b → IfSome (product_with a b) EachSumFalls
product_with_falls a (num n) h g = affine_falls n a (pos 0) h
product_with_falls a b h g = in_order_fall a b h g

product_falls : (a b : Tree) → EachSumFalls a → EachSumFalls b → IfSome (product a b) EachSumFalls
product_falls (num n) b h g = affine_falls n b (pos 0) g
product_falls a b h g = product_with_falls a b h g

pub zero_at_most_falls : (d : Tree) → EachSumFalls d → EachSumFalls (zero_at_most d)
zero_at_most_falls (num n) h = tt
zero_at_most_falls d h = (tt, h)

equal_zero_falls : (d : Tree) → EachSumFalls d → IfSome (option_map (λ e. equal e (num (pos 0))) (if has_negative_lead d then affine (negsuc 0) d (pos 0) else Some d)) EachSumFalls
equal_zero_falls d h = some_mapped EachSumFalls EachSumFalls (if has_negative_lead d then affine (negsuc 0) d (pos 0) else Some d) (λ e. equal e (num (pos 0)))
    (some_chosen EachSumFalls (has_negative_lead d) (affine (negsuc 0) d (pos 0)) (Some d) (affine_falls (negsuc 0) d (pos 0) h) h) (λ e r. (r, tt))

equals_zero_falls : (d : Tree) → EachSumFalls d → IfSome (equals_zero d) EachSumFalls
equals_zero_falls (num n) h = tt
equals_zero_falls d h = equal_zero_falls d h

choice_falls : (c x y : Tree) → EachSumFalls c → EachSumFalls x → EachSumFalls y → EachSumFalls (choice c x y)
choice_falls (truth b) x y h g k = chosen EachSumFalls b x y g k
choice_falls c x y h g k = chosen EachSumFalls (same_term x y) x (choose c x y) g (h, g, k)

-- And, Or and Not
append_falls : (ts us : Trees) → FallInEach ts → FallInEach us → FallInEach (append ts us)
append_falls no_trees us h g = g
append_falls (tree t ts) us h g = (h.0, append_falls ts us h.1 g)

operand_falls : (c : Connective) (t : Tree) (us : Trees) → EachSumFalls t → FallInEach us → FallInEach (with_operand c t us)
operand_falls And (all ts) us h g = append_falls ts us h g
operand_falls And (truth true) us h g = g
operand_falls Or (some ts) us h g = append_falls ts us h g
operand_falls Or (truth false) us h g = g
operand_falls c t us h g = (h, g)

operands_fall : (c : Connective) (ts : Trees) → FallInEach ts → FallInEach (operands c ts)
operands_fall c no_trees h = tt
operands_fall c (tree t ts) h = operand_falls c t (operands c ts) h.0 (operands_fall c ts h.1)

alone_falls : (c : Connective) (ts : Trees) → FallInEach ts → EachSumFalls (joined_or_alone c ts)
alone_falls c no_trees h = tt
alone_falls c (tree t no_trees) h = h.0
alone_falls And (tree t (tree u us)) h = h
alone_falls Or (tree t (tree u us)) h = h

junction_falls : (c : Connective) (ts : Trees) → FallInEach ts → EachSumFalls (junction c ts)
junction_falls c ts h = chosen EachSumFalls (has_truth (not (neutral c)) (operands c ts)) (truth (not (neutral c))) (joined_or_alone c (operands c ts)) tt (alone_falls c (operands c ts) (operands_fall c ts h))

at_most_negated : (z d : Tree) → EachSumFalls z → EachSumFalls d → IfSome (negated (at_most z d)) EachSumFalls
at_most_negated z d h g = some_chosen EachSumFalls (is_zero z) (option_map (λ e. at_most z e) (affine (negsuc 0) d (negsuc 0))) (Some (negation (at_most z d)))
    (some_mapped EachSumFalls EachSumFalls (affine (negsuc 0) d (negsuc 0)) (λ e. at_most z e) (affine_falls (negsuc 0) d (negsuc 0) g) (λ e r. (h, r))) (h, g)

mutual
  negated_falls : (t : Tree) → EachSumFalls t → IfSome (negated t) EachSumFalls
  negated_falls (num n) h = h
  negated_falls (truth x) h = tt
  negated_falls (free v) h = h
  negated_falls (bound v) h = h
  negated_falls (linear ps c) h = h
  negated_falls (mul x y) h = h
  negated_falls (read x y) h = h
  negated_falls (write x y z) h = h
  negated_falls (choose x y z) h = h
  negated_falls (call f ts) h = h
  negated_falls (negation x) h = h
  negated_falls (all ts) h = some_mapped FallInEach EachSumFalls (negated_each ts) disjunction (negated_each_fall ts h) (λ us g. junction_falls Or us g)
  negated_falls (some ts) h = some_mapped FallInEach EachSumFalls (negated_each ts) conjunction (negated_each_fall ts h) (λ us g. junction_falls And us g)
  negated_falls (equal x y) h = h
  negated_falls (at_most x y) h = at_most_negated x y h.0 h.1
  negated_falls (for_all ss ps x) h = some_mapped EachSumFalls EachSumFalls (negated x) (λ u. exists ss ps u) (negated_falls x h.1) (λ u g. (h.0, g))
  negated_falls (exists ss ps x) h = some_mapped EachSumFalls EachSumFalls (negated x) (λ u. for_all ss ps u) (negated_falls x h.1) (λ u g. (h.0, g))

  negated_each_fall : (ts : Trees) → FallInEach ts → IfSome (negated_each ts) FallInEach
  negated_each_fall no_trees h = tt
  negated_each_fall (tree t ts) h = some_then EachSumFalls FallInEach (negated t) (λ u. negated_each ts >>= λ us. Some (tree u us)) (negated_falls t h.0)
      (λ u g. some_then FallInEach FallInEach (negated_each ts) (λ us. Some (tree u us)) (negated_each_fall ts h.1) (λ us k. (g, k)))

-- equations
equivalence_with_falls : (x y : Tree) → EachSumFalls x → EachSumFalls y → IfSome (equivalence_with x y) EachSumFalls
equivalence_with_falls x (truth b) h g = some_chosen EachSumFalls b (Some x) (negated x) h (negated_falls x h)
equivalence_with_falls x y h g = in_order_fall x y h g

equivalence_falls : (x y : Tree) → EachSumFalls x → EachSumFalls y → IfSome (equivalence x y) EachSumFalls
equivalence_falls (truth b) y h g = some_chosen EachSumFalls b (Some y) (negated y) g (negated_falls y g)
equivalence_falls x y h g = equivalence_with_falls x y h g

equation_of_falls : (k : Option Kind) (x y : Tree) → EachSumFalls x → EachSumFalls y → IfSome (equation_of k x y) EachSumFalls
equation_of_falls None x y h g = (h, g)
equation_of_falls (Some int) x y h g = some_then EachSumFalls EachSumFalls (difference x y) equals_zero (difference_falls x y h g) equals_zero_falls
equation_of_falls (Some boolean) x y h g = equivalence_falls x y h g
equation_of_falls (Some (map k)) x y h g = in_order_fall x y h g

equation_falls : (k : Option Kind) (x y : Tree) → EachSumFalls x → EachSumFalls y → IfSome (equation k x y) EachSumFalls
equation_falls k x y h g = some_chosen EachSumFalls (same_term x y) (Some (truth true)) (equation_of k x y) tt (equation_of_falls k x y h g)

inequality_falls : (x y : Tree) → EachSumFalls x → EachSumFalls y → IfSome (inequality x y) EachSumFalls
inequality_falls x y h g = some_mapped EachSumFalls EachSumFalls (difference y x) zero_at_most (difference_falls y x g h) zero_at_most_falls

quantified_falls : (binder : Tree → Tree) → ((t : Tree) → EachSumFalls t → EachSumFalls (binder t)) → (t : Tree) → EachSumFalls t → EachSumFalls (quantified binder t)
quantified_falls binder bind (truth b) h = tt
quantified_falls binder bind t h = bind t h

module _ (vars : List Kind) (defs : List Def) where
  mutual
    normal_falls : (b : List Kind) (t : Tree) → IfSome (normal vars defs b t) EachSumFalls
    normal_falls b (num n) = tt
    normal_falls b (truth x) = tt
    normal_falls b (free v) = tt
    normal_falls b (bound v) = tt
    normal_falls b (linear ps c) = of_sum (normal_sum vars defs b ps (constant c)) (normal_sum_falls b ps (constant c) (constant_within c))
    normal_falls b (mul x y) = some_then EachSumFalls EachSumFalls (normal vars defs b x) (λ u. normal vars defs b y >>= λ v. product u v) (normal_falls b x) (λ u h. some_then EachSumFalls EachSumFalls (normal vars defs b y) (λ v. product u v) (normal_falls b y) (λ v g. product_falls u v h g))
    normal_falls b (read x y) = some_then EachSumFalls EachSumFalls (normal vars defs b x) (λ u. normal vars defs b y >>= λ v. Some (read u v)) (normal_falls b x) (λ u h. some_then EachSumFalls EachSumFalls (normal vars defs b y) (λ v. Some (read u v)) (normal_falls b y) (λ v g. (h, g)))
    normal_falls b (write x y z) = some_then EachSumFalls EachSumFalls (normal vars defs b x) (λ u. normal vars defs b y >>= λ v. normal vars defs b z >>= λ w. Some (write u v w)) (normal_falls b x) (λ u h. some_then EachSumFalls EachSumFalls (normal vars defs b y) (λ v. normal vars defs b z >>= λ w. Some (write u v w)) (normal_falls b y) (λ v g. some_then EachSumFalls EachSumFalls (normal vars defs b z) (λ w. Some (write u v w)) (normal_falls b z) (λ w k. (h, g, k))))
    normal_falls b (choose x y z) = some_then EachSumFalls EachSumFalls (normal vars defs b x) (λ u. normal vars defs b y >>= λ v. normal vars defs b z >>= λ w. Some (choice u v w)) (normal_falls b x) (λ u h. some_then EachSumFalls EachSumFalls (normal vars defs b y) (λ v. normal vars defs b z >>= λ w. Some (choice u v w)) (normal_falls b y) (λ v g. some_then EachSumFalls EachSumFalls (normal vars defs b z) (λ w. Some (choice u v w)) (normal_falls b z) (λ w k. choice_falls u v w h g k)))
    normal_falls b (call f ts) = some_mapped FallInEach EachSumFalls (normal_each vars defs b ts) (λ us. call f us) (normal_each_fall b ts) (λ us h. h)
    normal_falls b (negation x) = some_then EachSumFalls EachSumFalls (normal vars defs b x) (λ u. negated u) (normal_falls b x) negated_falls
    normal_falls b (all ts) = some_mapped FallInEach EachSumFalls (normal_each vars defs b ts) conjunction (normal_each_fall b ts) (λ us h. junction_falls And us h)
    normal_falls b (some ts) = some_mapped FallInEach EachSumFalls (normal_each vars defs b ts) disjunction (normal_each_fall b ts) (λ us h. junction_falls Or us h)
    normal_falls b (equal x y) = some_then EachSumFalls EachSumFalls (normal vars defs b x) (λ u. normal vars defs b y >>= λ v. equation (sort_of vars defs b x) u v) (normal_falls b x) (λ u h. some_then EachSumFalls EachSumFalls (normal vars defs b y) (λ v. equation (sort_of vars defs b x) u v) (normal_falls b y) (λ v g. equation_falls (sort_of vars defs b x) u v h g))
    normal_falls b (at_most x y) = some_then EachSumFalls EachSumFalls (normal vars defs b x) (λ u. normal vars defs b y >>= λ v. inequality u v) (normal_falls b x) (λ u h. some_then EachSumFalls EachSumFalls (normal vars defs b y) (λ v. inequality u v) (normal_falls b y) (λ v g. inequality_falls u v h g))
    normal_falls b (for_all ss ps x) = some_then FallInPatterns EachSumFalls (normal_patterns vars defs (reverse ss ++ b) ps) (λ qs. option_map (λ u. quantified (λ v. for_all ss qs v) u) (normal vars defs (reverse ss ++ b) x)) (normal_patterns_fall (reverse ss ++ b) ps) (λ qs h. some_mapped EachSumFalls EachSumFalls (normal vars defs (reverse ss ++ b) x) (λ u. quantified (λ v. for_all ss qs v) u) (normal_falls (reverse ss ++ b) x) (λ u g. quantified_falls (λ v. for_all ss qs v) (λ t k. (h, k)) u g))
    normal_falls b (exists ss ps x) = some_then FallInPatterns EachSumFalls (normal_patterns vars defs (reverse ss ++ b) ps) (λ qs. option_map (λ u. quantified (λ v. exists ss qs v) u) (normal vars defs (reverse ss ++ b) x)) (normal_patterns_fall (reverse ss ++ b) ps) (λ qs h. some_mapped EachSumFalls EachSumFalls (normal vars defs (reverse ss ++ b) x) (λ u. quantified (λ v. exists ss qs v) u) (normal_falls (reverse ss ++ b) x) (λ u g. quantified_falls (λ v. exists ss qs v) (λ t k. (h, k)) u g))

    normal_each_fall : (b : List Kind) (ts : Trees) → IfSome (normal_each vars defs b ts) FallInEach
    normal_each_fall b no_trees = tt
    normal_each_fall b (tree t ts) = some_then EachSumFalls FallInEach (normal vars defs b t) (λ u. normal_each vars defs b ts >>= λ us. Some (tree u us)) (normal_falls b t)
        (λ u h. some_then FallInEach FallInEach (normal_each vars defs b ts) (λ us. Some (tree u us)) (normal_each_fall b ts) (λ us g. (h, g)))

    normal_sum_falls : (b : List Kind) (ps : Parts) (s : Linear) → FallsWithin s → IfSome (normal_sum vars defs b ps s) FallsWithin
    normal_sum_falls b no_parts s h = h
    normal_sum_falls b (part k t ps) s h = some_then EachSumFalls FallsWithin (normal vars defs b t) (λ u. add_term k u s >>= λ r. normal_sum vars defs b ps r) (normal_falls b t)
        (λ u g. some_then FallsWithin FallsWithin (add_term k u s) (λ r. normal_sum vars defs b ps r) (term_within k u s g h) (λ r q. normal_sum_falls b ps r q))

    normal_patterns_fall : (b : List Kind) (ps : Patterns) → IfSome (normal_patterns vars defs b ps) FallInPatterns
    normal_patterns_fall b no_patterns = tt
    normal_patterns_fall b (pattern ts ps) = some_then FallInEach FallInPatterns (normal_each vars defs b ts) (λ us. normal_patterns vars defs b ps >>= λ qs. Some (pattern us qs)) (normal_each_fall b ts)
        (λ us h. some_then FallInPatterns FallInPatterns (normal_patterns vars defs b ps) (λ qs. Some (pattern us qs)) (normal_patterns_fall b ps) (λ qs g. (h, g)))

pub normal_sums_fall : NormalSumsFall
normal_sums_fall vars defs b t = normal_falls vars defs b t

-- the sums of facts
sum_of_falls : (d : Tree) → EachSumFalls d → Falls (sum_of d)
sum_of_falls (num n) h = tt
sum_of_falls (linear ps c) h = h.0
sum_of_falls t h = (refl, tt, tt)

when_falls : (b : Bool) (s : Linear) → Falls s → IfSome (when b (Some s)) Falls
when_falls true s h = h
when_falls false s h = tt

pub linear_forms_fall : LinearFormsFall
linear_forms_fall (at_most z d) h = when_falls (is_zero z) (sum_of d) (sum_of_falls d h.1)
linear_forms_fall (equal d z) h = when_falls (is_zero z) (sum_of d) (sum_of_falls d h.0)
linear_forms_fall t h = tt
