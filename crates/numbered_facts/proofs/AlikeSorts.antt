-- When variables and definitions agree, and that terms have the same sorts then.
use Rattle.std.proofs.Common.{◌≡◌, refl, sym, ap, ◌∙◌, ℕ, zero, suc, ◌<◌, Option, Some, None, option_map, List, [], ◌∷◌, map, take, arith}
use Rattle.std.specs.Prelude.{slice_get}
use Rattle.logic_core.specs.Tree.{Kind, Tree}
use Rattle.logic_core.specs.Def.{Def}
use Rattle.logic_core.specs.Wide.{◌>>=◌}
use Rattle.logic_core.specs.Sorts.{sort_of}
use Rattle.logic_laws.proofs.RenamedSorts.{same_sort}
use Rattle.logic_laws.proofs.RenamedVariables.{renames_nothing}
use Rattle.numbered_facts.specs.Alike.{IsBelow, head_of, AgreeBelow}

-- what is mapped is so at each place
pub mapped_at : {A B : Type 0} (f : A → B) (xs : List A) (n : ℕ) → option_map f (slice_get xs n) ≡ slice_get (map f xs) n
mapped_at f [] n = refl
mapped_at f (x ∷ xs) zero = refl
mapped_at f (x ∷ xs) (suc n) = mapped_at f xs n

-- a front has what the list has
pub front_at : {A : Type 0} (xs : List A) (n v : ℕ) → v < n → slice_get (take n xs) v ≡ slice_get xs v
front_at xs zero v l = absurd (omega (arith, l))
front_at [] (suc n) v l = refl
front_at (x ∷ xs) (suc n) zero l = refl
front_at (x ∷ xs) (suc n) (suc v) l = front_at xs n v (omega (arith, l))

-- lists with the same front of variables and the same heads agree
pub agree : (n : ℕ) (vars : List Kind) (defs : List Def) (vars' : List Kind) (defs' : List Def) → take n vars ≡ take n vars' → map head_of defs ≡ map head_of defs' → AgreeBelow n vars defs vars' defs'
agree n vars defs vars' defs' front heads = record {
  variables = λ v l. sym (front_at vars n v l) ∙ ap (λ ks. slice_get ks v) front ∙ front_at vars' n v l;
  heads = λ f. mapped_at head_of defs f ∙ ap (λ hs. slice_get hs f) heads ∙ sym (mapped_at head_of defs' f);
}

pub agree_itself : (n : ℕ) (vars : List Kind) (defs : List Def) → AgreeBelow n vars defs vars defs
agree_itself n vars defs = record { variables = λ v l. refl; heads = λ f. refl }

pub agree_then : (n : ℕ) (vars : List Kind) (defs : List Def) (vars' : List Kind) (defs' : List Def) (vars'' : List Kind) (defs'' : List Def)
    → AgreeBelow n vars defs vars' defs' → AgreeBelow n vars' defs' vars'' defs'' → AgreeBelow n vars defs vars'' defs''
agree_then n vars defs vars' defs' vars'' defs'' a b = record { variables = λ v l. a.variables v l ∙ b.variables v l; heads = λ f. a.heads f ∙ b.heads f }

-- what is said by the head of a definition
by_head : (g : List Kind → Kind → Option Kind) (o : Option Def) → (o >>= λ d. g d.params d.sort) ≡ (option_map head_of o >>= λ h. g h.0 h.1)
by_head g None = refl
by_head g (Some d) = refl

module _ (n : ℕ) (vars : List Kind) (defs : List Def) (vars' : List Kind) (defs' : List Def) (a : AgreeBelow n vars defs vars' defs') where
  pub sort_alike : (t : Tree) (b : List Kind) → IsBelow n t → sort_of vars defs b t ≡ sort_of vars' defs' b t
  sort_alike t b h = ap (sort_of vars defs b) (sym (renames_nothing t))
      ∙ same_sort (λ k. k) (λ k. k) vars' vars defs' defs (λ v. v < n) (λ f. Unit {0}) a.variables
      (λ f u g. by_head g (slice_get defs f) ∙ ap (λ (o : Option (List Kind × Kind)). o >>= λ h. g h.0 h.1) (a.heads f) ∙ sym (by_head g (slice_get defs' f))) t b h
