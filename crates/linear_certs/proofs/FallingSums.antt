-- What joins a falling sum leaves it falling.
use Rattle.std.specs.Prelude.{◌≡◌, refl, ℤ, pos, Bool, true, false, Option, Some, None, option_map, IfSome, if◌then◌else◌}
use Rattle.std.specs.Ordering.{int_eq, ordering_reverse}
use Rattle.std.specs.declared.cmp.Ordering.{Ordering}
use Rattle.std.specs.declared.cmp.Ordering.TheVariants.{Less, Equal, Greater}
use Rattle.std.proofs.Common.{ap, ◌∙◌}
use Rattle.logic_core.specs.Tree.{Tree, num, truth, free, bound, linear, mul, read, write, choose, call, negation, all, some, equal, at_most, for_all, exists, Parts, no_parts, part}
use Rattle.logic_core.specs.Order.{order}
use Rattle.logic_core.specs.Wide.{checked_add, checked_mul, ◌>>=◌}
use Rattle.logic_core.specs.Sum.{Linear, constant, with_part, add_atom, add_number, add_parts, add_term}
use Rattle.logic_core.specs.Combine.{add_multiple}
use Rattle.logic_laws.proofs.OrderKeys.{order_is_total}
use Rattle.linear_certs.specs.FallingLaws.{IsAbove, FallStrictly, Falls, SumsFall}

turned : (x y : Tree) (o : Ordering) → order x y ≡ o → order y x ≡ ordering_reverse o
turned x y o e = order_is_total.0.antisymm y x ∙ ap ordering_reverse e

greater_follows : (w u t : Tree) → order w u ≡ Greater → order u t ≡ Greater → order w t ≡ Greater
greater_follows w u t h k = turned t w Less (order_is_total.0.trans t u w (turned u t Greater k) (turned w u Greater h))

above_all : (w u : Tree) (ps : Parts) → order w u ≡ Greater → IsAbove u ps → IsAbove w ps
above_all w u no_parts h k = tt
above_all w u (part j t ps) h k = greater_follows w u t h k

with_part_falls : (k : ℤ) (t : Tree) (ps : Parts) → IsAbove t ps → FallStrictly ps → FallStrictly (with_part k t ps)
with_part_falls k t ps above falls = by_test (int_eq k (pos 0)) refl
  where
    by_test : (b : Bool) → int_eq k (pos 0) ≡ b → FallStrictly (if b then ps else part k t ps)
    by_test true e = falls
    by_test false e = (e, above, falls)

with_part_above : (w : Tree) (k : ℤ) (t : Tree) (ps : Parts) → order w t ≡ Greater → IsAbove t ps → IsAbove w (with_part k t ps)
with_part_above w k t ps h above = by_test (int_eq k (pos 0))
  where
    by_test : (b : Bool) → IsAbove w (if b then ps else part k t ps)
    by_test true = above_all w t ps h above
    by_test false = h

-- it falls, and an atom that is greater than what joins and than the first one is greater than the first one after
abbrev pub Joined : Tree → Parts → Parts → Type 0
Joined t ps qs = FallStrictly qs × ((w : Tree) → order w t ≡ Greater → IsAbove w ps → IsAbove w qs)

pub atom_joins : (k : ℤ) (t : Tree) (ps : Parts) → FallStrictly ps → IfSome (add_atom k t ps) (Joined t ps)
atom_joins k t no_parts h = (with_part_falls k t no_parts tt tt, λ w above _. with_part_above w k t no_parts above tt)
atom_joins k t (part j u ps) h = by_order (order t u) refl (atom_joins k t ps h.2)
  where
    equal_joins : (n : Option ℤ) → IfSome (option_map (λ n. with_part n u ps) n) (Joined t (part j u ps))
    equal_joins None = tt
    equal_joins (Some n) = (with_part_falls n u ps h.1 h.2, λ w _ above. with_part_above w n u ps above h.1)

    deeper : order t u ≡ Less → (qs : Option Parts) → IfSome qs (Joined t ps) → IfSome (option_map (λ qs. part j u qs) qs) (Joined t (part j u ps))
    deeper e None rest = tt
    deeper e (Some qs) rest = ((h.0, rest.1 u (turned t u Less e) h.1, rest.0), λ w _ above. above)

    by_order : (o : Ordering) → order t u ≡ o → IfSome (add_atom k t ps) (Joined t ps)
        → IfSome (elim o [ Greater ↦ Some (with_part k t (part j u ps)) | Equal ↦ option_map (λ n. with_part n u ps) (checked_add j k) | Less ↦ option_map (λ qs. part j u qs) (add_atom k t ps) ]) (Joined t (part j u ps))
    by_order Greater e rest = (with_part_falls k t (part j u ps) e h, λ w above _. with_part_above w k t (part j u ps) above e)
    by_order Equal e rest = equal_joins (checked_add j k)
    by_order Less e rest = deeper e (add_atom k t ps) rest

pub atom_falls : (k : ℤ) (t : Tree) (s : Linear) → Falls s → IfSome (option_map (λ qs. record { parts = qs; rest = s.rest }) (add_atom k t s.parts)) Falls
atom_falls k t s h = by (add_atom k t s.parts) (atom_joins k t s.parts h)
  where
    by : (qs : Option Parts) → IfSome qs (Joined t s.parts) → IfSome (option_map (λ qs. record { parts = qs; rest = s.rest }) qs) Falls
    by None k = tt
    by (Some qs) k = k.0

-- a computation that may leave 128 bits, and then one on a falling sum
then_falls : (o : Option Linear) (f : Linear → Option Linear) → IfSome o Falls → ((s : Linear) → Falls s → IfSome (f s) Falls) → IfSome (o >>= f) Falls
then_falls None f h g = tt
then_falls (Some s) f h g = g s h

pub number_falls : (k n : ℤ) (s : Linear) → Falls s → IfSome (add_number k n s) Falls
number_falls k n s h = by (checked_mul k n)
  where
    after : (c : Option ℤ) → IfSome (c >>= λ c. Some (record { parts = s.parts; rest = c })) Falls
    after None = tt
    after (Some c) = h

    by : (m : Option ℤ) → IfSome (m >>= λ m. checked_add s.rest m >>= λ c. Some (record { parts = s.parts; rest = c })) Falls
    by None = tt
    by (Some m) = after (checked_add s.rest m)

pub parts_fall : (k : ℤ) (ps : Parts) (s : Linear) → Falls s → IfSome (add_parts k ps s) Falls
parts_fall k no_parts s h = h
parts_fall k (part j t ps) s h = by (checked_mul k j) (λ n. atom_joins n t s.parts h) (λ r g. parts_fall k ps r g)
  where
    after : (qs : Option Parts) → IfSome qs (Joined t s.parts) → ((r : Linear) → Falls r → IfSome (add_parts k ps r) Falls) → IfSome (qs >>= λ qs. add_parts k ps (record { parts = qs; rest = s.rest })) Falls
    after None joins rest = tt
    after (Some qs) joins rest = rest (record { parts = qs; rest = s.rest }) joins.0

    by : (n : Option ℤ) → ((n : ℤ) → IfSome (add_atom n t s.parts) (Joined t s.parts)) → ((r : Linear) → Falls r → IfSome (add_parts k ps r) Falls)
        → IfSome (n >>= λ n. add_atom n t s.parts >>= λ qs. add_parts k ps (record { parts = qs; rest = s.rest })) Falls
    by None joins rest = tt
    by (Some n) joins rest = after (add_atom n t s.parts) (joins n) rest

term_falls : (k : ℤ) (t : Tree) (s : Linear) → Falls s → IfSome (add_term k t s) Falls
term_falls k (num n) s h = number_falls k n s h
term_falls k (linear ps c) s h = then_falls (add_parts k ps s) (λ r. add_number k c r) (parts_fall k ps s h) (λ r g. number_falls k c r g)
term_falls k (truth x) s h = atom_falls k (truth x) s h
term_falls k (free v) s h = atom_falls k (free v) s h
term_falls k (bound v) s h = atom_falls k (bound v) s h
term_falls k (mul x y) s h = atom_falls k (mul x y) s h
term_falls k (read x y) s h = atom_falls k (read x y) s h
term_falls k (write x y z) s h = atom_falls k (write x y z) s h
term_falls k (choose x y z) s h = atom_falls k (choose x y z) s h
term_falls k (call f ts) s h = atom_falls k (call f ts) s h
term_falls k (negation x) s h = atom_falls k (negation x) s h
term_falls k (all ts) s h = atom_falls k (all ts) s h
term_falls k (some ts) s h = atom_falls k (some ts) s h
term_falls k (equal x y) s h = atom_falls k (equal x y) s h
term_falls k (at_most x y) s h = atom_falls k (at_most x y) s h
term_falls k (for_all ss ps x) s h = atom_falls k (for_all ss ps x) s h
term_falls k (exists ss ps x) s h = atom_falls k (exists ss ps x) s h

pub sums_fall : SumsFall
sums_fall = (
  term_falls,
  λ a p b q. then_falls (add_multiple p a (constant (pos 0))) (λ s. add_multiple q b s) (term_falls p (linear a.parts a.rest) (constant (pos 0)) tt) (λ s h. term_falls q (linear b.parts b.rest) s h),
)
