-- The value that a term has, as a relation: the values of its parts are named, so that laws are shown step by step. Where a contradiction is to be shown, each term has one.
-- Here g is the values of the parts of a term, and go the rest of a proof of a contradiction.
use Rattle.std.proofs.Common.{◌≡◌, refl, sym, subst, ℕ, ℤ, pos, ◌+ℤ◌, ◌*ℤ◌, int_le, Bool, true, false, ◌&&◌, ◌||◌, not, IsTrue, List, [], ◌∷◌, ◌++◌, reverse, ◌⊎◌, inl, inr}
use Rattle.logic_core.specs.Tree.{Kind, Tree, num, truth, free, bound, linear, mul, read, write, choose, call, negation, all, some, equal, at_most, for_all, exists, Trees, no_trees, tree, Parts, no_parts, part}
use Rattle.logic_core.specs.Value.{Value, whole, flag, int_of, holds, same, look, put, are_of, at}
use Rattle.logic_core.specs.Meaning.{Either, If, With, WithEach, WithEvery, WithAny, WithSum, Holds}
use Rattle.logic_core.specs.Valid.{Calls}
use Rattle.logic_core.proofs.Values.{HasOne}
use Rattle.logic_core.proofs.Kept.{Stable, Keeps, keeps_if, keeps, keeps_each, keeps_every, keeps_any, keeps_sum}
use Rattle.logic_core.proofs.Replaced.{Same}
use Rattle.logic_laws.proofs.SameValue.{value_stable}

-- true where A holds, and false where it doesn't
abbrev pub Decided : Type 0 → Value → Type 0
Decided A r = (A × (r ≡ flag true)) ⊎ ((¬ A) × (r ≡ flag false))

module _ (frees : List Value) (calls : Calls) where
  abbrev pub AllHold : List Kind → Tree → List Value → Type 0
  AllHold ss t b = (vs : List Value) → IsTrue (are_of ss vs) → Holds frees calls t (reverse vs ++ b)

  abbrev pub NoneHolds : List Kind → Tree → List Value → Type 0
  NoneHolds ss t b = (vs : List Value) → IsTrue (are_of ss vs) → ¬ Holds frees calls t (reverse vs ++ b)

  abbrev mutual
    pub Gives : Tree → List Value → Value → Type 0
    Gives (num n) b r = r ≡ whole n
    Gives (truth x) b r = r ≡ flag x
    Gives (free v) b r = r ≡ at frees v
    Gives (bound v) b r = r ≡ at b v
    Gives (linear ps c) b r = (n : ℤ) × GivesSum ps b n × (r ≡ whole (n +ℤ c))
    Gives (mul x y) b r = (v : Value) × (w : Value) × Gives x b v × Gives y b w × (r ≡ whole (int_of v *ℤ int_of w))
    Gives (read m i) b r = (v : Value) × (w : Value) × Gives m b v × Gives i b w × (r ≡ look v (int_of w))
    Gives (write m i x) b r = (v : Value) × (w : Value) × (u : Value) × Gives m b v × Gives i b w × Gives x b u × (r ≡ put v (int_of w) u)
    Gives (choose c x y) b r = (v : Value) × Gives c b v × If (holds v) (Gives x b r) (Gives y b r)
    Gives (call f ts) b r = (vs : List Value) × GivesEach ts b vs × calls f vs (λ v. v ≡ r)
    Gives (negation x) b r = (v : Value) × Gives x b v × (r ≡ flag (not (holds v)))
    Gives (all ts) b r = (h : Bool) × GivesEvery ts b h × (r ≡ flag h)
    Gives (some ts) b r = (h : Bool) × GivesAny ts b h × (r ≡ flag h)
    Gives (equal x y) b r = (v : Value) × (w : Value) × Gives x b v × Gives y b w × (r ≡ flag (same v w))
    Gives (at_most x y) b r = (v : Value) × (w : Value) × Gives x b v × Gives y b w × (r ≡ flag (int_le (int_of v) (int_of w)))
    Gives (for_all ss ps t) b r = Decided (AllHold ss t b) r
    Gives (exists ss ps t) b r = Decided (¬ NoneHolds ss t b) r

    pub GivesEach : Trees → List Value → List Value → Type 0
    GivesEach no_trees b vs = vs ≡ []
    GivesEach (tree t ts) b vs = (v : Value) × (ws : List Value) × Gives t b v × GivesEach ts b ws × (vs ≡ v ∷ ws)

    pub GivesEvery : Trees → List Value → Bool → Type 0
    GivesEvery no_trees b h = h ≡ true
    GivesEvery (tree t ts) b h = (v : Value) × (g : Bool) × Gives t b v × GivesEvery ts b g × (h ≡ (holds v && g))

    pub GivesAny : Trees → List Value → Bool → Type 0
    GivesAny no_trees b h = h ≡ false
    GivesAny (tree t ts) b h = (v : Value) × (g : Bool) × Gives t b v × GivesAny ts b g × (h ≡ (holds v || g))

    pub GivesSum : Parts → List Value → ℤ → Type 0
    GivesSum no_parts b n = n ≡ pos 0
    GivesSum (part k t ps) b n = (v : Value) × (m : ℤ) × Gives t b v × GivesSum ps b m × (n ≡ (k *ℤ int_of v) +ℤ m)

-- where the bodies hold alike for all values, the quantified formulas are decided alike
pub decided_every : (ss : List Kind) (H K : List Value → Type 0) (r : Value) → ((vs : List Value) → are_of ss vs ≡ true → (H vs → K vs) × (K vs → H vs)) → Decided ((vs : List Value) → IsTrue (are_of ss vs) → H vs) r → Decided ((vs : List Value) → IsTrue (are_of ss vs) → K vs) r
decided_every ss H K r f (inl a) = inl ((λ vs h. (f vs h).0 (a.0 vs h)), a.1)
decided_every ss H K r f (inr a) = inr ((λ k. a.0 (λ vs h. (f vs h).1 (k vs h))), a.1)

pub decided_some : (ss : List Kind) (H K : List Value → Type 0) (r : Value) → ((vs : List Value) → are_of ss vs ≡ true → (H vs → K vs) × (K vs → H vs)) → Decided (¬ ((vs : List Value) → IsTrue (are_of ss vs) → ¬ H vs)) r → Decided (¬ ((vs : List Value) → IsTrue (are_of ss vs) → ¬ K vs)) r
decided_some ss H K r f (inl a) = inl ((λ k. a.0 (λ vs h x. k vs h ((f vs h).0 x))), a.1)
decided_some ss H K r f (inr a) = inr ((λ k. a.0 (λ n. k (λ vs h x. n vs h ((f vs h).1 x)))), a.1)

pub if_map : (c : Bool) (G H G' H' : Type 0) → (G → G') → (H → H') → If c G H → If c G' H'
if_map true G H G' H' f k g = f g
if_map false G H G' H' f k g = k g

-- what is said with M is what is said of x, where it can be shown by contradiction
abbrev pub Says : {A : Type 0} → ((A → Type 0) → Type 0) → A → Type 1
Says {A} M x = (P : A → Type 0) → ((y : A) → Stable (P y)) → (M P → P x) × (P x → M P)

one : {A : Type 0} (x : A) → Says (λ (P : A → Type 0). P x) x
one x P s = ((λ h. h), (λ h. h))

moved : {A : Type 0} (M : (A → Type 0) → Type 0) (r x : A) → r ≡ x → Says M x → Says M r
moved M r x e h P s = ((λ m. subst P (sym e) ((h P s).0 m)), (λ p. (h P s).1 (subst P e p)))

mapped : {A B : Type 0} (M : (A → Type 0) → Type 0) (f : A → B) (x : A) → Says M x → Says (λ (P : B → Type 0). M (λ a. P (f a))) (f x)
mapped M f x h P s = h (λ a. P (f a)) (λ a. s (f a))

bound_by : {A B : Type 0} (M : (A → Type 0) → Type 0) (N : A → (B → Type 0) → Type 0) (x : A) (y : B) → ((a : A) → Keeps (N a)) → Says M x → Says (N x) y → Says (λ (P : B → Type 0). M (λ a. N a P)) y
bound_by M N x y kn h g P s = let m = h (λ a. N a P) (λ a. kn a P s) in ((λ k. (g P s).0 (m.0 k)), (λ p. m.1 ((g P s).1 p)))

two : {A B C : Type 0} (M : (A → Type 0) → Type 0) (N : (B → Type 0) → Type 0) (f : A → B → C) (x : A) (y : B) → Keeps N → Says M x → Says N y → Says (λ (P : C → Type 0). M (λ a. N (λ b. P (f a b)))) (f x y)
two M N f x y kn h g = bound_by M (λ a P. N (λ b. P (f a b))) x (f x y) (λ a P s. kn (λ b. P (f a b)) (λ b. s (f a b))) h (mapped N (f x) y g)

chosen : {A : Type 0} (h : Bool) (M N : (A → Type 0) → Type 0) (x : A) (G H : Type 0) → If h G H → (G → Says M x) → (H → Says N x) → Says (λ (P : A → Type 0). If h (M P) (N P)) x
chosen true M N x G H g f k = f g
chosen false M N x G H g f k = k g

decided : (A : Type 0) (r : Value) → Decided A r → Says (Either A) r
decided A r (inl a) = moved (Either A) r (flag true) a.1 (λ P s. ((λ h. h.0 a.0), (λ p. ((λ _. p), (λ na. absurd (na a.0))))))
decided A r (inr a) = moved (Either A) r (flag false) a.1 (λ P s. ((λ h. h.1 a.0), (λ p. ((λ x. absurd (a.0 x)), (λ _. p)))))

known : (M : (Value → Type 0) → Type 0) (r : Value) → HasOne M → Keeps M → M (λ v. v ≡ r) → Says M r
known M r has keep h P s = (
  (λ m. s r (λ no. has (λ v vi. no (subst P ((vi (λ u. u ≡ r)).0 h) ((vi P).0 m))))),
  (λ p. keep P s (λ no. has (λ v vi. no ((vi P).1 (subst P (sym ((vi (λ u. u ≡ r)).0 h)) p))))),
)

if_one : (h : Bool) (G H : Value → Type 0) → (((r : Value) → G r → ⊥) → ⊥) → (((r : Value) → H r → ⊥) → ⊥) → ((r : Value) → If h (G r) (H r) → ⊥) → ⊥
if_one true G H hg hh k = hg k
if_one false G H hg hh k = hh k

decides_one : (A : Type 0) → ((r : Value) → Decided A r → ⊥) → ⊥
decides_one A k = let no : ¬ A = λ a. k (flag true) (inl (a, refl)) in k (flag false) (inr (no, refl))

module _ (frees : List Value) (calls : Calls) (has_call : (f : ℕ) (vs : List Value) → HasOne (calls f vs)) (keeps_call : (f : ℕ) (vs : List Value) → Keeps (calls f vs)) where
  keep : (t : Tree) (b : List Value) → Keeps (With frees calls t b)
  keep = keeps frees calls keeps_call

  mutual
    -- what is said with a term is what is said of its value
    pub said : (t : Tree) (b : List Value) (r : Value) → Gives frees calls t b r → Says (With frees calls t b) r
    said (num n) b r g = moved (With frees calls (num n) b) r (whole n) g (one (whole n))
    said (truth x) b r g = moved (With frees calls (truth x) b) r (flag x) g (one (flag x))
    said (free v) b r g = moved (With frees calls (free v) b) r (at frees v) g (one (at frees v))
    said (bound v) b r g = moved (With frees calls (bound v) b) r (at b v) g (one (at b v))
    said (linear ps c) b r g = moved (With frees calls (linear ps c) b) r (whole (g.0 +ℤ c)) g.2 (mapped (WithSum frees calls ps b) (λ n. whole (n +ℤ c)) g.0 (said_sum ps b g.0 g.1))
    said (mul x y) b r g = moved (With frees calls (mul x y) b) r (whole (int_of g.0 *ℤ int_of g.1)) g.4 (two (With frees calls x b) (With frees calls y b) (λ v w. whole (int_of v *ℤ int_of w)) g.0 g.1 (keep y b) (said x b g.0 g.2) (said y b g.1 g.3))
    said (read x y) b r g = moved (With frees calls (read x y) b) r (look g.0 (int_of g.1)) g.4 (two (With frees calls x b) (With frees calls y b) (λ v w. look v (int_of w)) g.0 g.1 (keep y b) (said x b g.0 g.2) (said y b g.1 g.3))
    said (write m i x) b r g = moved (With frees calls (write m i x) b) r (put g.0 (int_of g.1) g.2) g.6
        (bound_by (With frees calls m b) (λ v P. With frees calls i b (λ w. With frees calls x b (λ u. P (put v (int_of w) u)))) g.0 (put g.0 (int_of g.1) g.2)
        (λ v P s. keep i b (λ w. With frees calls x b (λ u. P (put v (int_of w) u))) (λ w. keep x b (λ u. P (put v (int_of w) u)) (λ u. s (put v (int_of w) u))))
        (said m b g.0 g.3) (two (With frees calls i b) (With frees calls x b) (λ w u. put g.0 (int_of w) u) g.1 g.2 (keep x b) (said i b g.1 g.4) (said x b g.2 g.5)))
    said (choose c x y) b r g = bound_by (With frees calls c b) (λ v P. If (holds v) (With frees calls x b P) (With frees calls y b P)) g.0 r
        (λ v. keeps_if (holds v) (With frees calls x b) (With frees calls y b) (keep x b) (keep y b)) (said c b g.0 g.1)
        (chosen (holds g.0) (With frees calls x b) (With frees calls y b) r (Gives frees calls x b r) (Gives frees calls y b r) g.2 (said x b r) (said y b r))
    said (call f ts) b r g = bound_by (WithEach frees calls ts b) (calls f) g.0 r (keeps_call f) (said_each ts b g.0 g.1) (known (calls f g.0) r (has_call f g.0) (keeps_call f g.0) g.2)
    said (negation x) b r g = moved (With frees calls (negation x) b) r (flag (not (holds g.0))) g.2 (mapped (With frees calls x b) (λ v. flag (not (holds v))) g.0 (said x b g.0 g.1))
    said (all ts) b r g = moved (With frees calls (all ts) b) r (flag g.0) g.2 (mapped (WithEvery frees calls ts b) flag g.0 (said_every ts b g.0 g.1))
    said (some ts) b r g = moved (With frees calls (some ts) b) r (flag g.0) g.2 (mapped (WithAny frees calls ts b) flag g.0 (said_any ts b g.0 g.1))
    said (equal x y) b r g = moved (With frees calls (equal x y) b) r (flag (same g.0 g.1)) g.4 (two (With frees calls x b) (With frees calls y b) (λ v w. flag (same v w)) g.0 g.1 (keep y b) (said x b g.0 g.2) (said y b g.1 g.3))
    said (at_most x y) b r g = moved (With frees calls (at_most x y) b) r (flag (int_le (int_of g.0) (int_of g.1))) g.4 (two (With frees calls x b) (With frees calls y b) (λ v w. flag (int_le (int_of v) (int_of w))) g.0 g.1 (keep y b) (said x b g.0 g.2) (said y b g.1 g.3))
    said (for_all ss ps t) b r g = decided (AllHold frees calls ss t b) r g
    said (exists ss ps t) b r g = decided (¬ NoneHolds frees calls ss t b) r g

    pub said_each : (ts : Trees) (b vs : List Value) → GivesEach frees calls ts b vs → Says (WithEach frees calls ts b) vs
    said_each no_trees b vs g = moved (WithEach frees calls no_trees b) vs [] g (one [])
    said_each (tree t ts) b vs g = moved (WithEach frees calls (tree t ts) b) vs (g.0 ∷ g.1) g.4 (two (With frees calls t b) (WithEach frees calls ts b) (λ v ws. v ∷ ws) g.0 g.1 (keeps_each frees calls keeps_call ts b) (said t b g.0 g.2) (said_each ts b g.1 g.3))

    said_every : (ts : Trees) (b : List Value) (h : Bool) → GivesEvery frees calls ts b h → Says (WithEvery frees calls ts b) h
    said_every no_trees b h g = moved (WithEvery frees calls no_trees b) h true g (one true)
    said_every (tree t ts) b h g = moved (WithEvery frees calls (tree t ts) b) h (holds g.0 && g.1) g.4 (two (With frees calls t b) (WithEvery frees calls ts b) (λ v h. holds v && h) g.0 g.1 (keeps_every frees calls keeps_call ts b) (said t b g.0 g.2) (said_every ts b g.1 g.3))

    said_any : (ts : Trees) (b : List Value) (h : Bool) → GivesAny frees calls ts b h → Says (WithAny frees calls ts b) h
    said_any no_trees b h g = moved (WithAny frees calls no_trees b) h false g (one false)
    said_any (tree t ts) b h g = moved (WithAny frees calls (tree t ts) b) h (holds g.0 || g.1) g.4 (two (With frees calls t b) (WithAny frees calls ts b) (λ v h. holds v || h) g.0 g.1 (keeps_any frees calls keeps_call ts b) (said t b g.0 g.2) (said_any ts b g.1 g.3))

    said_sum : (ps : Parts) (b : List Value) (n : ℤ) → GivesSum frees calls ps b n → Says (WithSum frees calls ps b) n
    said_sum no_parts b n g = moved (WithSum frees calls no_parts b) n (pos 0) g (one (pos 0))
    said_sum (part k t ps) b n g = moved (WithSum frees calls (part k t ps) b) n ((k *ℤ int_of g.0) +ℤ g.1) g.4 (two (With frees calls t b) (WithSum frees calls ps b) (λ v m. (k *ℤ int_of v) +ℤ m) g.0 g.1 (keeps_sum frees calls keeps_call ps b) (said t b g.0 g.2) (said_sum ps b g.1 g.3))

  mutual
    -- where a contradiction is to be shown, a term has a value
    pub gives : (t : Tree) (b : List Value) → ((r : Value) → Gives frees calls t b r → ⊥) → ⊥
    gives (num n) b go = go (whole n) refl
    gives (truth x) b go = go (flag x) refl
    gives (free v) b go = go (at frees v) refl
    gives (bound v) b go = go (at b v) refl
    gives (linear ps c) b go = gives_sum ps b (λ n g. go (whole (n +ℤ c)) (n, g, refl))
    gives (mul x y) b go = gives x b (λ v g. gives y b (λ w h. go (whole (int_of v *ℤ int_of w)) (v, w, g, h, refl)))
    gives (read x y) b go = gives x b (λ v g. gives y b (λ w h. go (look v (int_of w)) (v, w, g, h, refl)))
    gives (write m i x) b go = gives m b (λ v g. gives i b (λ w h. gives x b (λ u j. go (put v (int_of w) u) (v, w, u, g, h, j, refl))))
    gives (choose c x y) b go = gives c b (λ v g. if_one (holds v) (Gives frees calls x b) (Gives frees calls y b) (gives x b) (gives y b) (λ r h. go r (v, g, h)))
    gives (call f ts) b go = gives_each ts b (λ vs g. has_call f vs (λ r i. go r (vs, g, (i (λ v. v ≡ r)).1 refl)))
    gives (negation x) b go = gives x b (λ v g. go (flag (not (holds v))) (v, g, refl))
    gives (all ts) b go = gives_every ts b (λ h g. go (flag h) (h, g, refl))
    gives (some ts) b go = gives_any ts b (λ h g. go (flag h) (h, g, refl))
    gives (equal x y) b go = gives x b (λ v g. gives y b (λ w h. go (flag (same v w)) (v, w, g, h, refl)))
    gives (at_most x y) b go = gives x b (λ v g. gives y b (λ w h. go (flag (int_le (int_of v) (int_of w))) (v, w, g, h, refl)))
    gives (for_all ss ps t) b go = decides_one (AllHold frees calls ss t b) go
    gives (exists ss ps t) b go = decides_one (¬ NoneHolds frees calls ss t b) go

    pub gives_each : (ts : Trees) (b : List Value) → ((vs : List Value) → GivesEach frees calls ts b vs → ⊥) → ⊥
    gives_each no_trees b go = go [] refl
    gives_each (tree t ts) b go = gives t b (λ v g. gives_each ts b (λ vs h. go (v ∷ vs) (v, vs, g, h, refl)))

    pub gives_every : (ts : Trees) (b : List Value) → ((h : Bool) → GivesEvery frees calls ts b h → ⊥) → ⊥
    gives_every no_trees b go = go true refl
    gives_every (tree t ts) b go = gives t b (λ v g. gives_every ts b (λ h j. go (holds v && h) (v, h, g, j, refl)))

    pub gives_any : (ts : Trees) (b : List Value) → ((h : Bool) → GivesAny frees calls ts b h → ⊥) → ⊥
    gives_any no_trees b go = go false refl
    gives_any (tree t ts) b go = gives t b (λ v g. gives_any ts b (λ h j. go (holds v || h) (v, h, g, j, refl)))

    pub gives_sum : (ps : Parts) (b : List Value) → ((n : ℤ) → GivesSum frees calls ps b n → ⊥) → ⊥
    gives_sum no_parts b go = go (pos 0) refl
    gives_sum (part c t ps) b go = gives t b (λ v g. gives_sum ps b (λ n h. go ((c *ℤ int_of v) +ℤ n) (v, n, g, h, refl)))

  -- a term has one value
  pub gives_one : (t : Tree) (b : List Value) (v w : Value) → Gives frees calls t b v → Gives frees calls t b w → v ≡ w
  gives_one t b v w g h = (said t b v g (λ u. u ≡ w) (λ u. value_stable u w)).0 ((said t b w h (λ u. u ≡ w) (λ u. value_stable u w)).1 refl)

-- both terms say the same where a value of the one is one of the other
module _ (frees : List Value) (calls : Calls) (has_call : (f : ℕ) (vs : List Value) → HasOne (calls f vs)) (keeps_call : (f : ℕ) (vs : List Value) → Keeps (calls f vs))
    (frees' : List Value) (calls' : Calls) (has_call' : (f : ℕ) (vs : List Value) → HasOne (calls' f vs)) (keeps_call' : (f : ℕ) (vs : List Value) → Keeps (calls' f vs)) where
  pub same_values : (t u : Tree) (b b' : List Value) → ((r : Value) → Gives frees calls t b r → Gives frees' calls' u b' r) → Same (With frees calls t b) (With frees' calls' u b')
  same_values t u b b' f P s = (
    (λ h. keeps frees' calls' keeps_call' u b' P s (λ no. gives frees calls has_call keeps_call t b (λ r g. no ((said frees' calls' has_call' keeps_call' u b' r (f r g) P s).1 ((said frees calls has_call keeps_call t b r g P s).0 h))))),
    (λ h. keeps frees calls keeps_call t b P s (λ no. gives frees calls has_call keeps_call t b (λ r g. no ((said frees calls has_call keeps_call t b r g P s).1 ((said frees' calls' has_call' keeps_call' u b' r (f r g) P s).0 h))))),
  )
