-- What lexemes spell and what is read of them are the same, with as many lexemes: items one after another.
use Rattle.std.specs.Prelude.{◌≡◌, ℕ, zero, suc, ◌<◌, ◌≤◌, Bool, true, false, List, [], ◌∷◌, drop, length, IsTrue, Ok, Err, ◌⊎◌}
use Rattle.std.proofs.Common.{refl, inl, inr, ap, sym, ◌∙◌, arith}
use Rattle.bpl_grammar.proofs.Booleans.{neither}
use Rattle.bpl_grammar.specs.Lexeme.{Lexeme}
use Rattle.bpl_grammar.specs.Judge.{Narrow, syntax}
use Rattle.bpl_grammar.specs.Terminal.{Terminal, is, is_any, sees, sees_any, apart_from}
use Rattle.bpl_grammar.specs.Reading.{Read, read_as, turn, repeated_within, repeated, read_behind, read_run}
use Rattle.bpl_grammar.proofs.Firsts.{none_apart}
use Rattle.bpl_grammar.proofs.Loops.{Shrinks}
use Rattle.bpl_grammar.proofs.Lengths.{less_behind}
use Rattle.bpl_grammar.proofs.Found.{same_found, followed_ok, read_as_ok}
use Rattle.bpl_grammar.proofs.Items.{Items, none, next, items_ok}
use Rattle.bpl_grammar.proofs.Suffixes.{Suffix, later, narrow_suffix}

-- what is left can't go on by any of these tokens, or is what is left of what is read
abbrev pub Goes : List Terminal → List Lexeme → List Lexeme → Type 0
Goes cs us vs = (sees_any cs us ≡ false) ⊎ (us ≡ vs)

-- what is spelled is what is read
abbrev pub IsOne : {A : Type 0} → List Terminal → (List Lexeme → List Lexeme → A → Type 0) → (List Lexeme → Read A) → Type 0
IsOne {A} cs P read = (ls us vs : List Lexeme) (x y : A) → Narrow ls → P ls us x → read ls ≡ Ok (y, vs) → Goes cs us vs → (us ≡ vs) × (x ≡ y)

-- no more is spelled than is read
abbrev pub IsFar : {A : Type 0} → (List Lexeme → List Lexeme → A → Type 0) → (List Lexeme → Read A) → Type 0
IsFar {A} P read = (ls us vs : List Lexeme) (x y : A) → Narrow ls → P ls us x → read ls ≡ Ok (y, vs) → length vs ≤ length us

pub none_seen : (us : List Lexeme) → sees_any [] us ≡ false
none_seen [] = refl
none_seen (t ∷ ts) = refl

-- what is the same whatever is left
pub one_far : {A : Type 0} (P : List Lexeme → List Lexeme → A → Type 0) (read : List Lexeme → Read A) → IsOne [] P read → IsFar P read
one_far P read one = λ ls us vs x y n d h. omega (arith, ap length (one ls us vs x y n d h (inl (none_seen us))).0)

abbrev pub Leaves : {A : Type 0} → (List Lexeme → List Lexeme → A → Type 0) → Type 0
Leaves {A} P = (ls us : List Lexeme) (x : A) → P ls us x → Suffix ls us

-- none of several tokens is there

pub quiet_head : (c : Terminal) (cs : List Terminal) (us : List Lexeme) → sees_any (c ∷ cs) us ≡ false → sees c us ≡ false
quiet_head c cs [] h = refl
quiet_head c cs (t ∷ ts) h = (neither (is c t) (is_any cs t) h).0

pub quiet_tail : (c : Terminal) (cs : List Terminal) (us : List Lexeme) → sees_any (c ∷ cs) us ≡ false → sees_any cs us ≡ false
quiet_tail c cs [] h = refl
quiet_tail c cs (t ∷ ts) h = (neither (is c t) (is_any cs t) h).1

pub quiet_behind : (c : Terminal) (cs : List Terminal) (us : List Lexeme) → IsTrue (apart_from c cs) → IsTrue (sees c us) → sees_any cs us ≡ false
quiet_behind c cs [] a h = refl
quiet_behind c cs (t ∷ ts) a h = none_apart c cs t h a

pub goes_tail : (c : Terminal) (cs : List Terminal) (us vs : List Lexeme) → Goes (c ∷ cs) us vs → Goes cs us vs
goes_tail c cs us vs (inl q) = inl (quiet_tail c cs us q)
goes_tail c cs us vs (inr e) = inr e

-- The first item: more is spelled, or what is left after it goes on no further, and more is read or not.
pub link : {A : Type 0} (cs : List Terminal) (P : List Lexeme → List Lexeme → A → Type 0) (read : List Lexeme → Read A) → IsOne cs P read → IsFar P read → (ls mid us rest vs : List Lexeme) (x y : A) → Narrow ls → P ls mid x → read ls ≡ Ok (y, rest)
    → (mid ≡ us) ⊎ (sees_any cs mid ≡ false) → (rest ≡ vs) ⊎ (length vs < length rest) → Goes cs us vs → (mid ≡ rest) × (x ≡ y)
link cs P read one far ls mid us rest vs x y n d h (inr e) s q = one ls mid rest x y n d h (inl e)
link cs P read one far ls mid us rest vs x y n d h (inl e) s (inl q) = one ls mid rest x y n d h (inl (ap (sees_any cs) e ∙ q))
link cs P read one far ls mid us rest vs x y n d h (inl e) (inl s) (inr q) = one ls mid rest x y n d h (inr (e ∙ (q ∙ sym s)))
link cs P read one far ls mid us rest vs x y n d h (inl e) (inr s) (inr q) = absurd (omega (arith, far ls mid rest x y n d h, s, ap length e, ap length q))

-- items as long as one begins
pub data Rep {A : Type 0} (begins : List Lexeme → Bool) (P : List Lexeme → List Lexeme → A → Type 0) : List Lexeme → List Lexeme → List A → Type 0 where
  ended : {ls : List Lexeme} → Rep begins P ls ls []
  further : {ls mid us : List Lexeme} {x : A} {xs : List A} → IsTrue (begins ls) → P ls mid x → Rep begins P mid us xs → Rep begins P ls us (x ∷ xs)

pub items_short : {A : Type 0} (begins : List Lexeme → Bool) (item : List Lexeme → Read A) → Shrinks item → (ls us : List Lexeme) (xs : List A) → Items begins item ls us xs → length us ≤ length ls
items_short begins item s ls us [] none = omega arith
items_short begins item s ls us (x ∷ xs) (next {rest = rest} b h r) = omega (arith, s ls x rest h, items_short begins item s rest us xs r)

pub items_shorter : {A : Type 0} (begins : List Lexeme → Bool) (item : List Lexeme → Read A) → Shrinks item → (ls us : List Lexeme) (xs : List A) → Items begins item ls us xs → (ls ≡ us) ⊎ (length us < length ls)
items_shorter begins item s ls us [] none = inl refl
items_shorter begins item s ls us (x ∷ xs) (next {rest = rest} b h r) = inr (omega (arith, s ls x rest h, items_short begins item s rest us xs r))

pub rep_next : {A : Type 0} (begins : List Lexeme → Bool) (P : List Lexeme → List Lexeme → A → Type 0) (cs : List Terminal) → ((ls : List Lexeme) → IsTrue (begins ls) → sees_any cs ls ≡ false) → (ls us : List Lexeme) (xs : List A) → Rep begins P ls us xs → (ls ≡ us) ⊎ (sees_any cs ls ≡ false)
rep_next begins P cs apart ls us [] ended = inl refl
rep_next begins P cs apart ls us (x ∷ xs) (further b d r) = inr (apart ls b)

module _ {A : Type 0} (begins : List Lexeme → Bool) (item : List Lexeme → Read A) (P : List Lexeme → List Lexeme → A → Type 0) (cs : List Terminal) (one : IsOne cs P item) (far : IsFar P item) (s : Shrinks item) (leaves : Leaves P)
    (apart : (ls : List Lexeme) → IsTrue (begins ls) → sees_any cs ls ≡ false) where
  quiet : (us vs : List Lexeme) → ((begins us ≡ false) × (sees_any cs us ≡ false)) ⊎ (us ≡ vs) → Goes cs us vs
  quiet us vs (inl q) = inl q.1
  quiet us vs (inr e) = inr e

  pub rep_one : (ls us vs : List Lexeme) (xs ys : List A) → Narrow ls → Rep begins P ls us xs → Items begins item ls vs ys → begins vs ≡ false → ((begins us ≡ false) × (sees_any cs us ≡ false)) ⊎ (us ≡ vs) → (us ≡ vs) × (xs ≡ ys)
  rep_one ls us vs [] [] n ended none e q = (refl, refl)
  rep_one ls us vs [] (y ∷ ys) n ended (next b h r) e (inl q) = absurd (cc (b, q.0))
  rep_one ls us vs [] (y ∷ ys) n ended (next {rest = rest} b h r) e (inr q) = absurd (omega (arith, s ls y rest h, items_short begins item s rest vs ys r, ap length q))
  rep_one ls us vs (x ∷ xs) [] n (further b d r) none e q = absurd (cc (b, e))
  rep_one ls us vs (x ∷ xs) (y ∷ ys) n (further {mid = mid} b d r) (next {rest = rest} c h i) e q =
      let l = link cs P item one far ls mid us rest vs x y n d h (rep_next begins P cs apart mid us xs r) (items_shorter begins item s rest vs ys i) (quiet us vs q) in
      let j = rw (← l.0) at i in
      let k = rep_one mid us vs xs ys (narrow_suffix (leaves ls mid x d) n) r j e q in
      (k.0, cc (l.1, k.1))

-- nothing is read where as much is left
pub nothing_read : {A : Type 0} (begins : List Lexeme → Bool) (item : List Lexeme → Read A) → Shrinks item → (ls us : List Lexeme) (xs : List A) → (begins ls ≡ false) ⊎ (ls ≡ us) → Items begins item ls us xs → (ls ≡ us) × (xs ≡ [])
nothing_read begins item s ls us [] q none = (refl, refl)
nothing_read begins item s ls us (x ∷ xs) (inl q) (next b h r) = absurd (cc (b, q))
nothing_read begins item s ls us (x ∷ xs) (inr q) (next {rest = rest} b h r) = absurd (omega (arith, s ls x rest h, items_short begins item s rest us xs r, ap length q))

-- no item begins where a repetition ends

pub ends_within : {A : Type 0} (begins : List Lexeme → Bool) (item : List Lexeme → Read A) (m : ℕ) (ls us : List Lexeme) (xs : List A) → repeated_within begins item m ls ≡ Ok (xs, us) → begins us ≡ false
ends_within {A} begins item zero ls us xs h = turned (begins ls) refl h
  where
    turned : (b : Bool) → begins ls ≡ b → turn {A = A} b (Err (syntax, ls)) (λ rest. Err (syntax, rest)) ls ≡ Ok (xs, us) → begins us ≡ false
    turned false e h = sym (ap begins (same_found [] xs ls us h).1) ∙ e
    turned true e h = absurd (cc (h))
ends_within {A} begins item (suc m) ls us xs h = turned (begins ls) refl h (ends_within begins item m)
  where
    turned : (b : Bool) → begins ls ≡ b → turn b (item ls) (λ rest. repeated_within begins item m rest) ls ≡ Ok (xs, us) → ((ls us : List Lexeme) (xs : List A) → repeated_within begins item m ls ≡ Ok (xs, us) → begins us ≡ false) → begins us ≡ false
    turned false e h ih = sym (ap begins (same_found [] xs ls us h).1) ∙ e
    turned true e h ih =
        let f = followed_ok (item ls) (λ x rest. read_as (λ ys. x ∷ ys) (repeated_within begins item m rest)) (xs, us) h in
        let r = read_as_ok (λ ys. f.first ∷ ys) (repeated_within begins item m f.rest) xs us f.then in
        ih f.rest us r.value r.reads

pub repeated_ends : {A : Type 0} (begins : List Lexeme → Bool) (item : List Lexeme → Read A) (ls us : List Lexeme) (xs : List A) → repeated begins item ls ≡ Ok (xs, us) → begins us ≡ false
unfolding repeated
repeated_ends begins item ls us xs h = ends_within begins item (suc (length ls)) ls us xs h

-- items with a sign between them

pub data Signed {A : Type 0} (c : Terminal) (P : List Lexeme → List Lexeme → A → Type 0) : List Lexeme → List Lexeme → A → Type 0 where
  signed : {t : Lexeme} {ls us : List Lexeme} {x : A} → IsTrue (is c t) → P ls us x → Signed c P (t ∷ ls) us x

-- the first of them, and the others; f joins them
pub record IsParted {A B : Type 0} (f : List A → B) (c : Terminal) (P : List Lexeme → List Lexeme → A → Type 0) (ls us : List Lexeme) (e : B) : Type 0 where
  pub first : A
  pub middle : List Lexeme
  pub others : List A
  pub there : P ls middle first
  pub behind : Rep (sees c) (Signed c P) middle us others
  pub same : f (first ∷ others) ≡ e

pub part_last : {A B : Type 0} (f : List A → B) (c : Terminal) (P : List Lexeme → List Lexeme → A → Type 0) (ls us : List Lexeme) (x : A) → P ls us x → IsParted f c P ls us (f (x ∷ []))
part_last f c P ls us x d = record { first = x; middle = us; others = []; there = d; behind = ended; same = refl }

pub part_more : {A B : Type 0} (f : List A → B) (g : A → B → B) → ((x : A) (xs : List A) → f (x ∷ xs) ≡ g x (f xs)) → (c : Terminal) (P : List Lexeme → List Lexeme → A → Type 0) (t : Lexeme) (ls mid us : List Lexeme) (x : A) (e : B)
    → P ls (t ∷ mid) x → IsTrue (is c t) → IsParted f c P mid us e → IsParted f c P ls us (g x e)
part_more f g grows c P t ls mid us x e d i r = record {
  first = x;
  middle = t ∷ mid;
  others = r.first ∷ r.others;
  there = d;
  behind = further i (signed i r.there) r.behind;
  same = grows x (r.first ∷ r.others) ∙ ap (g x) r.same;
}

module _ {A : Type 0} (c : Terminal) (item : List Lexeme → Read A) (P : List Lexeme → List Lexeme → A → Type 0) (cs : List Terminal) (one : IsOne cs P item) (far : IsFar P item) (s : Shrinks item) (leaves : Leaves P) (apart : IsTrue (apart_from c cs)) where
  signed_one : IsOne cs (Signed c P) (λ us. item (drop 1 us))
  signed_one = λ ls us vs x y n d h q. by_sign ls us vs x y n d h q
    where
      by_sign : (ls us vs : List Lexeme) (x y : A) → Narrow ls → Signed c P ls us x → item (drop 1 ls) ≡ Ok (y, vs) → Goes cs us vs → (us ≡ vs) × (x ≡ y)
      by_sign [] us vs x y n d h q = elim d [ ]
      by_sign (t ∷ ls) us vs x y n (signed i d) h q = one ls us vs x y n.1 d h q

  signed_far : IsFar (Signed c P) (λ us. item (drop 1 us))
  signed_far = λ ls us vs x y n d h. by_sign ls us vs x y n d h
    where
      by_sign : (ls us vs : List Lexeme) (x y : A) → Narrow ls → Signed c P ls us x → item (drop 1 ls) ≡ Ok (y, vs) → length vs ≤ length us
      by_sign [] us vs x y n d h = elim d [ ]
      by_sign (t ∷ ls) us vs x y n (signed i d) h = far ls us vs x y n.1 d h

  signed_leaves : Leaves (Signed c P)
  signed_leaves = λ ls us x d. by_sign ls us x d
    where
      by_sign : (ls us : List Lexeme) (x : A) → Signed c P ls us x → Suffix ls us
      by_sign [] us x d = elim d [ ]
      by_sign (t ∷ ls) us x (signed i d) = later (leaves ls us x d)

  signed_shrinks : Shrinks (λ us. item (drop 1 us))
  signed_shrinks = λ us. less_behind us (item (drop 1 us)) (s (drop 1 us))

  -- behind a sign, where the rest may be read by another sign too
  pub behind_one : (ls us vs : List Lexeme) (xs ys : List A) → Narrow ls → Rep (sees c) (Signed c P) ls us xs → read_behind c item ls ≡ Ok (ys, vs) → Goes (c ∷ cs) us vs → (us ≡ vs) × (xs ≡ ys)
  behind_one ls us vs xs ys n r h q =
      rep_one (sees c) (λ ws. item (drop 1 ws)) (Signed c P) cs signed_one signed_far signed_shrinks signed_leaves (λ ws b. quiet_behind c cs ws apart b) ls us vs xs ys n r
      (items_ok (sees c) (λ ws. item (drop 1 ws)) ls vs ys h) (repeated_ends (sees c) (λ ws. item (drop 1 ws)) ls vs ys h) (split q)
    where
      split : Goes (c ∷ cs) us vs → ((sees c us ≡ false) × (sees_any cs us ≡ false)) ⊎ (us ≡ vs)
      split (inl e) = inl (quiet_head c cs us e, quiet_tail c cs us e)
      split (inr e) = inr e

  pub behind_shorter : (ls vs : List Lexeme) (ys : List A) → read_behind c item ls ≡ Ok (ys, vs) → (ls ≡ vs) ⊎ (length vs < length ls)
  behind_shorter ls vs ys h = items_shorter (sees c) (λ ws. item (drop 1 ws)) signed_shrinks ls vs ys (items_ok (sees c) (λ ws. item (drop 1 ws)) ls vs ys h)

  pub behind_next : (ls us : List Lexeme) (xs : List A) → Rep (sees c) (Signed c P) ls us xs → (ls ≡ us) ⊎ (sees_any cs ls ≡ false)
  behind_next ls us xs r = rep_next (sees c) (Signed c P) cs (λ ws b. quiet_behind c cs ws apart b) ls us xs r

  pub run_one : {B : Type 0} (f : List A → B) (ls us vs : List Lexeme) (e : B) (ys : List A) → Narrow ls → IsParted f c P ls us e → read_run c item ls ≡ Ok (ys, vs) → Goes (c ∷ cs) us vs → (us ≡ vs) × (e ≡ f ys)
  run_one f ls us vs e ys n p h q =
      let o = followed_ok (item ls) (λ x rest. read_as (λ xs. x ∷ xs) (read_behind c item rest)) (ys, vs) h in
      let r = read_as_ok (λ xs. o.first ∷ xs) (read_behind c item o.rest) ys vs o.then in
      let l = link cs P item one far ls p.middle us o.rest vs p.first o.first n p.there o.reads (behind_next p.middle us p.others p.behind) (behind_shorter o.rest vs r.value r.reads) (goes_tail c cs us vs q) in
      let k = behind_one p.middle us vs p.others r.value (narrow_suffix (leaves ls p.middle p.first p.there) n) p.behind (ap (read_behind c item) l.0 ∙ r.reads) q in
      (k.0, sym p.same ∙ (ap f (pair p.first o.first p.others r.value l.1 k.1) ∙ ap f r.is))
    where
      pair : (x y : A) (xs zs : List A) → x ≡ y → xs ≡ zs → ◌≡◌ {A = List A} (x ∷ xs) (y ∷ zs)
      pair x y xs zs a b = cc (a, b)

-- a first item, and then others as long as one begins
module _ {A B : Type 0} (cs : List Terminal) (P : List Lexeme → List Lexeme → A → Type 0) (read : List Lexeme → Read A) (one : IsOne cs P read) (far : IsFar P read) (leaves : Leaves P)
    (ds : List Terminal) (begins : List Lexeme → Bool) (item : List Lexeme → Read B) (Q : List Lexeme → List Lexeme → B → Type 0) (next_one : IsOne ds Q item) (next_far : IsFar Q item) (s : Shrinks item) (next_leaves : Leaves Q)
    (apart : (ls : List Lexeme) → IsTrue (begins ls) → sees_any cs ls ≡ false) (next_apart : (ls : List Lexeme) → IsTrue (begins ls) → sees_any ds ls ≡ false) where
  pub first_then : (ls mid us rest vs : List Lexeme) (x y : A) (xs ys : List B) → Narrow ls → P ls mid x → Rep begins Q mid us xs → read ls ≡ Ok (y, rest) → repeated begins item rest ≡ Ok (ys, vs)
      → ((begins us ≡ false) × (sees_any cs us ≡ false) × (sees_any ds us ≡ false)) ⊎ (us ≡ vs) → (us ≡ vs) × (x ≡ y) × (xs ≡ ys)
  first_then ls mid us rest vs x y xs ys n d r h g q =
      let i = items_ok begins item rest vs ys g in
      let l = link cs P read one far ls mid us rest vs x y n d h (rep_next begins Q cs apart mid us xs r) (items_shorter begins item s rest vs ys i) (first q) in
      let k = rep_one begins item Q ds next_one next_far s next_leaves next_apart mid us vs xs ys (narrow_suffix (leaves ls mid x d) n) r (items_ok begins item mid vs ys (ap (repeated begins item) l.0 ∙ g)) (repeated_ends begins item rest vs ys g) (second q) in
      (k.0, l.1, k.1)
    where
      first : ((begins us ≡ false) × (sees_any cs us ≡ false) × (sees_any ds us ≡ false)) ⊎ (us ≡ vs) → Goes cs us vs
      first (inl a) = inl a.1
      first (inr e) = inr e

      second : ((begins us ≡ false) × (sees_any cs us ≡ false) × (sees_any ds us ≡ false)) ⊎ (us ≡ vs) → ((begins us ≡ false) × (sees_any ds us ≡ false)) ⊎ (us ≡ vs)
      second (inl a) = inl (a.0, a.2)
      second (inr e) = inr e
