-- Texts that stand one behind the other combine: a text is known by what it puts before other bytes.
use Rattle.std.proofs.Common.{◌≡◌, ℕ, List, ◌∷◌, ◌++◌, refl, ap, ◌∙◌, append_assoc}
use Rattle.std.specs.Prelude.{codes}
use Rattle.obligation_text.specs.Text.{spaced, form}

-- before other bytes the text a gives what f does of them
pub record Puts (a : List ℕ) (f : List ℕ → List ℕ) : Type 0 where
  pub puts : (r : List ℕ) → a ++ r ≡ f r

pub put_two : {a b : List ℕ} {f g : List ℕ → List ℕ} → Puts a f → Puts b g → Puts (a ++ b) (λ r. f (g r))
put_two {a} {b} {f} {g} pa pb = record { puts = λ r. append_assoc a b r ∙ pa.puts (b ++ r) ∙ ap f (pb.puts r) }

pub put_spaced : {a : List ℕ} {f : List ℕ → List ℕ} → Puts a f → Puts (spaced a) (λ r. 32 ∷ f r)
put_spaced {a} {f} pa = record { puts = λ r. ap (λ l. 32 ∷ l) (pa.puts r) }

-- a text as it is
pub put_text : (a : List ℕ) → Puts a (λ r. a ++ r)
put_text a = record { puts = λ r. refl }

pub put_form : (head : List ℕ) {parts : List ℕ} {f : List ℕ → List ℕ} → Puts parts f → Puts (form head parts) (λ r. 40 ∷ (head ++ f (41 ∷ r)))
put_form head p = put_two (put_two (put_two (put_text (codes "(")) (put_text head)) p) (put_text (codes ")"))
