-- What two readings of a sort say of a type, and what the sorts of constructs say of those of their parts.
use Rattle.std.proofs.Common.{◌≡◌, ◌∙◌, refl, sym, ap, subst, ℕ, zero, suc, Bool, true, ◌&&◌, Option, Some}
use Rattle.logic_core.proofs.Booleans.{both_true}
use Rattle.logic_core.specs.Tree.{Kind, int, boolean, map as map_of}
use Rattle.logic_core.specs.Wide.{when, ◌>>=◌}
use Rattle.logic_core.specs.Sorts.{is, range, read_sort, write_sort, choice_sort, equation_sort}
use Rattle.logic_laws.proofs.Options.{bind_some, when_some}
use Rattle.logic_laws.proofs.SortTests.{is_sort}
use Rattle.bpl_sorts.specs.Types.{Ty, integers, truths, carriers, maps, kind_of}
use Rattle.bpl_sorts.specs.Apart.{deep, apart}
use Rattle.bpl_sorts.specs.Readings.{Has}

depth : Kind → ℕ
depth int = 0
depth boolean = 0
depth (map_of k) = suc (depth k)

depth_deep : (k : ℕ) → depth (deep k) ≡ k
unfolding depth
depth_deep zero = refl
depth_deep (suc k) = ap suc (depth_deep k)

suc_same : (m n : ℕ) → suc m ≡ suc n → m ≡ n
suc_same m n e = cc

range_same : (j k : Kind) → map_of j ≡ map_of k → j ≡ k
range_same j k e = cc

-- the two sorts tell the type
pub one_type : (s t : Ty) → kind_of s ≡ kind_of t → apart s ≡ apart t → s ≡ t
one_type integers integers e f = refl
one_type integers truths e f = absurd (cc)
one_type integers (carriers k) e f = absurd (cc)
one_type integers (maps t) e f = absurd (cc)
one_type truths integers e f = absurd (cc)
one_type truths truths e f = refl
one_type truths (carriers k) e f = absurd (cc)
one_type truths (maps t) e f = absurd (cc)
one_type (carriers j) integers e f = absurd (cc)
one_type (carriers j) truths e f = absurd (cc)
one_type (carriers j) (carriers k) e f = ap carriers (suc_same j k (sym (depth_deep (suc j)) ∙ (ap depth f ∙ depth_deep (suc k))))
one_type (carriers j) (maps t) e f = absurd (cc)
one_type (maps s) integers e f = absurd (cc)
one_type (maps s) truths e f = absurd (cc)
one_type (maps s) (carriers k) e f = absurd (cc)
one_type (maps s) (maps t) e f = ap maps (one_type s t (range_same _ _ e) (range_same _ _ f))

pub has_known : (o p : Option Kind) (P : Ty → Type 0) (j k : Kind) (t : Ty) → Has o p P → o ≡ Some j → p ≡ Some k → kind_of t ≡ j → apart t ≡ k → P t
has_known o p P j k t h e f a b = let r = h j k e f in subst P (one_type r.0 t (r.1 ∙ sym a) (r.2 ∙ sym b)) r.3

pub has_integer : (o p : Option Kind) (P : Ty → Type 0) → Has o p P → is int o ≡ true → is int p ≡ true → P integers
has_integer o p P h e f = has_known o p P int int integers h (is_sort int o e) (is_sort int p f) refl refl

pub has_truth : (o p : Option Kind) (P : Ty → Type 0) → Has o p P → is boolean o ≡ true → is boolean p ≡ true → P truths
has_truth o p P h e f = has_known o p P boolean boolean truths h (is_sort boolean o e) (is_sort boolean p f) refl refl

-- a construct of one type, where tests pass
pub has_when : (a c : Bool) (t : Ty) (P : Ty → Type 0) → (a ≡ true → c ≡ true → P t) → Has (when a (Some (kind_of t))) (when c (Some (apart t))) P
has_when a c t P f j k e g = let p = when_some a (kind_of t) j e in let q = when_some c (apart t) k g in (t, p.1, q.1, f p.0 q.0)

range_map : (s k : Kind) → range s ≡ Some k → s ≡ map_of k
range_map int k e = absurd (cc)
range_map boolean k e = absurd (cc)
range_map (map_of j) k e = let q : j ≡ k = cc in ap map_of q

pub read_parts : (m i : Option Kind) (k : Kind) → read_sort m i ≡ Some k → (m ≡ Some (map_of k)) × (is int i ≡ true)
read_parts m i k e =
    let a = bind_some m (λ s. range s >>= λ r. when (is int i) (Some r)) k e in
    let b = bind_some (range a.0) (λ r. when (is int i) (Some r)) k a.2 in
    let c = when_some (is int i) b.0 k b.2 in
    (a.1 ∙ ap Some (range_map a.0 k (b.1 ∙ ap Some c.1)), c.0)

pub write_parts : (m i x : Option Kind) (k : Kind) → write_sort m i x ≡ Some k → (j : Kind) × (m ≡ Some (map_of j)) × (is int i ≡ true) × (x ≡ Some j) × (map_of j ≡ k)
write_parts m i x k e =
    let a = bind_some m (λ s. range s >>= λ r. when (is int i && is r x) (Some s)) k e in
    let b = bind_some (range a.0) (λ r. when (is int i && is r x) (Some a.0)) k a.2 in
    let c = when_some (is int i && is b.0 x) a.0 k b.2 in
    let d = both_true (is int i) (is b.0 x) c.0 in
    let s = range_map a.0 b.0 b.1 in
    (b.0, a.1 ∙ ap Some s, d.0, is_sort b.0 x d.1, sym s ∙ c.1)

pub choice_parts : (c x y : Option Kind) (k : Kind) → choice_sort c x y ≡ Some k → (is boolean c ≡ true) × (x ≡ Some k) × (y ≡ Some k)
choice_parts c x y k e =
    let a = bind_some x (λ s. when (is boolean c && is s y) (Some s)) k e in
    let b = when_some (is boolean c && is a.0 y) a.0 k a.2 in
    let d = both_true (is boolean c) (is a.0 y) b.0 in
    (d.0, a.1 ∙ ap Some b.1, is_sort a.0 y d.1 ∙ ap Some b.1)

pub equation_parts : (x y : Option Kind) (k : Kind) → equation_sort x y ≡ Some k → (j : Kind) × (x ≡ Some j) × (y ≡ Some j) × (boolean ≡ k)
equation_parts x y k e =
    let a = bind_some x (λ s. when (is s y) (Some boolean)) k e in
    let b = when_some (is a.0 y) boolean k a.2 in
    (a.0, a.1, is_sort a.0 y b.0, b.1)
