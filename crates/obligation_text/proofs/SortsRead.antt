-- The text of a sort, and of sorts written together, tells the sorts and what follows.
use Rattle.std.proofs.Common.{◌≡◌, ℕ, nat_eq, false, List, [], ◌∷◌, refl, ap, sym, ◌∙◌}
use Rattle.logic_core.specs.Tree.{Kind, int, boolean, map}
use Rattle.obligation_text.proofs.Digits.{first, rest, apart}
use Rattle.obligation_text.proofs.Printed.{sort_onto, together_onto, sorts_onto}

-- a function of two arguments keeps equations
pub ap_two : {A B C : Type 0} (f : A → B → C) {a a' : A} {b b' : B} → a ≡ a' → b ≡ b' → f a b ≡ f a' b'
ap_two f {a} {a'} {b} {b'} p q = ap (λ x. f x b) p ∙ ap (f a') q

pub ap_three : {A B C D : Type 0} (f : A → B → C → D) {a a' : A} {b b' : B} {c c' : C} → a ≡ a' → b ≡ b' → c ≡ c' → f a b c ≡ f a' b' c'
ap_three f {a} {a'} {b} {b'} {c} {c'} p q r = ap (λ x. f x b c) p ∙ ap_two (f a') q r

pub ap_four : {A B C D E : Type 0} (f : A → B → C → D → E) {a a' : A} {b b' : B} {c c' : C} {d d' : D} → a ≡ a' → b ≡ b' → c ≡ c' → d ≡ d' → f a b c d ≡ f a' b' c' d'
ap_four f {a} {a'} {b} {b'} {c} {c'} {d} {d'} p q r s = ap_two (λ x y. f x y c d) p q ∙ ap_two (f a' b') r s

pub sort_reads : (k l : Kind) (r s : List ℕ) → sort_onto k r ≡ sort_onto l s → (k ≡ l) × (r ≡ s)
sort_reads int int r s e = (refl, ap rest e)
sort_reads boolean boolean r s e = (refl, ap rest e)
sort_reads (map k) (map l) r s e = let h = sort_reads k l r s (ap rest e) in (ap map h.0, h.1)
sort_reads int boolean r s e = apart (ap first e) refl
sort_reads int (map l) r s e = apart (ap first e) refl
sort_reads boolean int r s e = apart (ap first e) refl
sort_reads boolean (map l) r s e = apart (ap first e) refl
sort_reads (map k) int r s e = apart (ap first e) refl
sort_reads (map k) boolean r s e = apart (ap first e) refl

-- a sort's text doesn't begin with a space, a line feed or a minus
not_space : {A : Type 0} (c : ℕ) → nat_eq 105 c ≡ false → nat_eq 98 c ≡ false → nat_eq 109 c ≡ false → (k : Kind) (r : List ℕ) → first (sort_onto k r) ≡ c → A
not_space c i b m int r e = apart e i
not_space c i b m boolean r e = apart e b
not_space c i b m (map k) r e = apart e m

pub together_reads : (ks ls : List Kind) (r s : List ℕ) → together_onto ks r ≡ together_onto ls s → first r ≡ 32 → first s ≡ 32 → (ks ≡ ls) × (r ≡ s)
together_reads [] [] r s e sr ss = (refl, e)
together_reads [] (l ∷ ls) r s e sr ss = not_space 32 refl refl refl l (together_onto ls s) (sym (ap first e) ∙ sr)
together_reads (k ∷ ks) [] r s e sr ss = not_space 32 refl refl refl k (together_onto ks r) (ap first e ∙ ss)
together_reads (k ∷ ks) (l ∷ ls) r s e sr ss = let h = sort_reads k l (together_onto ks r) (together_onto ls s) e in
    let i = together_reads ks ls r s h.1 sr ss in (ap_two (λ m ms. m ∷ ms) h.0 i.0, i.1)

pub sorts_read : (ks ls : List Kind) (r s : List ℕ) → sorts_onto ks r ≡ sorts_onto ls s → first r ≡ 32 → first s ≡ 32 → (ks ≡ ls) × (r ≡ s)
sorts_read [] [] r s e sr ss = (refl, ap rest e)
sorts_read [] (l ∷ ls) r s e sr ss = not_space 45 refl refl refl l (together_onto ls s) (sym (ap first e))
sorts_read (k ∷ ks) [] r s e sr ss = not_space 45 refl refl refl k (together_onto ks r) (ap first e)
sorts_read (k ∷ ks) (l ∷ ls) r s e sr ss = together_reads (k ∷ ks) (l ∷ ls) r s e sr ss
