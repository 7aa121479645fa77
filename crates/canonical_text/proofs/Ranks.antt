-- The order of levels, and what goes on from each to the one that takes it in.
use Rattle.std.specs.Prelude.{◌≡◌, ℕ, zero, suc, ◌+◌, ◌-◌, ◌<◌, ◌≤◌, true, false}
use Rattle.std.proofs.Common.{refl, subst, arith}
use Rattle.std.proofs.lemmas.Bool.Decides.{nat_tests}
use Rattle.canonical_text.specs.declared.level.Level.{Level}
use Rattle.canonical_text.specs.declared.level.Level.TheVariants.{Equivalence, Implication, Junction, Comparison, Sum, Product, Unary, Postfix, Atom}
use Rattle.canonical_text.specs.Level.{rank, is_looser}

-- the next that it takes in
abbrev pub above : Level → Level
above Equivalence = Implication
above Implication = Junction
above Junction = Comparison
above Comparison = Sum
above Sum = Product
above Product = Unary
above Unary = Postfix
above Postfix = Atom
above Atom = Atom

pub most : (w : Level) → rank w ≤ rank Atom
most Atom = omega arith
most w = omega arith

rank_above : (w : Level) → rank w < rank Atom → rank (above w) ≡ suc (rank w)
rank_above Atom h = absurd (omega (arith, h))
rank_above w h = refl

pub rises : (w : Level) → rank w ≤ rank (above w)
rises Atom = omega arith
rises w = omega arith

same_rank : (v w : Level) → rank v ≡ rank w → v ≡ w
same_rank Equivalence Equivalence e = refl
same_rank Implication Implication e = refl
same_rank Junction Junction e = refl
same_rank Comparison Comparison e = refl
same_rank Sum Sum e = refl
same_rank Product Product e = refl
same_rank Unary Unary e = refl
same_rank Postfix Postfix e = refl
same_rank Atom Atom e = refl
same_rank v w e = absurd (omega (arith, e))

pub looser : (v w : Level) → is_looser v w ≡ true → rank v < rank w
looser v w h = grind (arith, nat_tests)

pub not_looser : (v w : Level) → is_looser v w ≡ false → rank w ≤ rank v
not_looser v w h = grind (arith, nat_tests)

pub is_looser_by : (v w : Level) → rank v < rank w → is_looser v w ≡ true
is_looser_by v w h = grind (arith, nat_tests)

steps_down : (d : ℕ) (P : Level → Type 0) (w l : Level) → d + rank w ≡ rank l → ((k : Level) → rank w ≤ rank k → rank k < rank l → P (above k) → P k) → P l → P w
steps_down zero P w l e s p = subst P (same_rank l w (omega (arith, e))) p
steps_down (suc d) P w l e s p =
    let a = rank_above w (omega (arith, e, most l)) in
    s w (omega arith) (omega (arith, e)) (steps_down d P (above w) l (omega (arith, a, e)) (λ k b c. s k (omega (arith, a, b)) c) p)

difference : (d m n : ℕ) → m ≤ n → d ≡ n - m → d + m ≡ n
difference d m n h e = omega arith

-- from one level to any that takes it in
pub step_down : (P : Level → Type 0) (w l : Level) → rank w ≤ rank l → ((k : Level) → rank w ≤ rank k → rank k < rank l → P (above k) → P k) → P l → P w
step_down P w l h s p = steps_down (rank l - rank w) P w l (difference (rank l - rank w) (rank w) (rank l) h refl) s p
