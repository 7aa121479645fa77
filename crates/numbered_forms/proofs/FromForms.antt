-- What code gives for the normal form of a construct, from the forms of its parts, and where a part has none.
use Rattle.std.proofs.Common.{◌≡◌, refl, sym, ap, subst, ◌∙◌, ℕ, ◌<◌, Option, Some, None, option_map, List, length, Result, Ok, Err}
use Rattle.std.specs.Result.{IsErrAnd}
use Rattle.logic_core.specs.Tree.{Kind, Tree, Patterns}
use Rattle.logic_core.specs.Def.{Def}
use Rattle.logic_core.specs.Wide.{◌>>=◌}
use Rattle.logic_core.specs.Normal.{normal}
use Rattle.logic_core.specs.declared.fault.NormalFault.{NormalFault}
use Rattle.logic_core.specs.declared.fault.NormalFault.TheVariants.{Wide}
use Rattle.term_bank.specs.Numbered.{at, Begins}
use Rattle.term_bank.proofs.Numbers.{begins_at}
use Rattle.numbered_terms.specs.At.{IsAt, GivesAt}
use Rattle.numbered_forms.specs.Forms.{normal_two}
use Rattle.numbered_forms.proofs.NormalParts.{two_of, three_of, pair_made, pair_given, pair_none, mapped_given, mapped_none, triple_given, triple_none}

-- the same fault is returned
pub at_err : (ts : List Tree) (r : Result ℕ NormalFault) (e : NormalFault) (o : Option Tree) → IsErrAnd r (λ d. d ≡ e) → (e ≡ Wide → o ≡ None) → GivesAt ts r o
at_err ts (Ok i) e o h none = absurd h
at_err ts (Err d) e o h none = λ wide. none (let w : e ≡ Wide = cc in w)

-- a computation whose first step gives nothing, and one whose last step does
pub first_none : {A B : Type 0} (o : Option A) (f : A → Option B) → o ≡ None → (o >>= λ a. f a) ≡ None
first_none o f e = ap (λ p. p >>= λ a. f a) e

pub last_none : {A B C : Type 0} (p : Option A) (q : Option B) (f : A → B → Option C) → q ≡ None → (p >>= λ a. q >>= λ b. f a b) ≡ None
last_none None q f e = refl
last_none (Some a) q f e = ap (λ o. o >>= λ b. f a b) e

pub last_two_none : {A B C : Type 0} (p : Option A) (q : Option B) (r : Option C) → two_of q r ≡ None → three_of p q r ≡ None
last_two_none None q r e = refl
last_two_none (Some a) q r e = pair_none q r (λ b c. Some (a, b, c)) e

-- the first of three in front of the other two
pub three_forms : {A B C : Type 0} (p : Option A) (q : Option B) (r : Option C) (u : A) (v : B) (w : C) → p ≡ Some u → two_of q r ≡ Some (v, w) → three_of p q r ≡ Some (u, v, w)
three_forms p q r u v w e f = ap (λ o. three_of o q r) e ∙ pair_given q r v w (λ b c. Some (u, b, c)) f

module _ (ts : List Tree) where
  -- by the form of one part
  module _ {A : Type 0} (o : Option A) where
    pub one_given : (r : Result ℕ NormalFault) (u : A) (f : A → Option Tree) → o ≡ Some u → GivesAt ts r (f u) → GivesAt ts r (o >>= λ a. f a)
    one_given r u f e h = subst (λ p. GivesAt ts r (p >>= λ a. f a)) (sym e) h

    pub one_made : (i : ℕ) (u : A) (f : A → Tree) → o ≡ Some u → IsAt ts i (f u) → GivesAt ts (Ok i) (option_map f o)
    one_made i u f e h = (h.0, ap (option_map f) e ∙ ap Some (sym h.1))

    pub one_refused : (r : Result ℕ NormalFault) (e : NormalFault) (f : A → Option Tree) → IsErrAnd r (λ d. d ≡ e) → (e ≡ Wide → o ≡ None) → GivesAt ts r (o >>= λ a. f a)
    one_refused r e f h none = at_err ts r e (o >>= λ a. f a) h (λ wide. first_none o f (none wide))

    pub one_unmade : (r : Result ℕ NormalFault) (e : NormalFault) (f : A → Tree) → IsErrAnd r (λ d. d ≡ e) → (e ≡ Wide → o ≡ None) → GivesAt ts r (option_map f o)
    one_unmade r e f h none = at_err ts r e (option_map f o) h (λ wide. ap (option_map f) (none wide))

  -- of two
  module _ (p q : Option Tree) where
    pub two_given : (r : Result ℕ NormalFault) (u v : Tree) (f : Tree → Tree → Option Tree) → two_of p q ≡ Some (u, v) → GivesAt ts r (f u v) → GivesAt ts r (p >>= λ a. q >>= λ b. f a b)
    two_given r u v f e h = subst (GivesAt ts r) (sym (pair_given p q u v f e)) h

    pub two_made : (i : ℕ) (u v : Tree) (f : Tree → Tree → Tree) → two_of p q ≡ Some (u, v) → IsAt ts i (f u v) → GivesAt ts (Ok i) (p >>= λ a. q >>= λ b. Some (f a b))
    two_made i u v f e h = (h.0, pair_given p q u v (λ a b. Some (f a b)) e ∙ ap Some (sym h.1))

    pub two_refused : (r : Result ℕ NormalFault) (e : NormalFault) (f : Tree → Tree → Option Tree) → IsErrAnd r (λ d. d ≡ e) → (e ≡ Wide → two_of p q ≡ None) → GivesAt ts r (p >>= λ a. q >>= λ b. f a b)
    two_refused r e f h none = at_err ts r e (p >>= λ a. q >>= λ b. f a b) h (λ wide. pair_none p q f (none wide))

  -- of three
  module _ (p q o : Option Tree) where
    pub three_made : (i : ℕ) (u v w : Tree) (f : Tree → Tree → Tree → Tree) → three_of p q o ≡ Some (u, v, w) → IsAt ts i (f u v w) → GivesAt ts (Ok i) (p >>= λ a. q >>= λ b. o >>= λ c. Some (f a b c))
    three_made i u v w f e h = (h.0, triple_given p q o u v w (λ a b c. Some (f a b c)) e ∙ ap Some (sym h.1))

    pub three_refused : (r : Result ℕ NormalFault) (e : NormalFault) (f : Tree → Tree → Tree → Tree) → IsErrAnd r (λ d. d ≡ e) → (e ≡ Wide → three_of p q o ≡ None) → GivesAt ts r (p >>= λ a. q >>= λ b. o >>= λ c. Some (f a b c))
    three_refused r e f h none = at_err ts r e (p >>= λ a. q >>= λ b. o >>= λ c. Some (f a b c)) h (λ wide. triple_none p q o (λ a b c. Some (f a b c)) (none wide))

  -- of a quantifier's triggers and body
  module _ (p : Option Patterns) (q : Option Tree) where
    pub parts_made : (i : ℕ) (qs : Patterns) (u : Tree) (f : Patterns → Tree → Tree) → two_of p q ≡ Some (qs, u) → IsAt ts i (f qs u) → GivesAt ts (Ok i) (p >>= λ a. option_map (f a) q)
    parts_made i qs u f e h = (h.0, mapped_given p q qs u f e ∙ ap Some (sym h.1))

    pub parts_refused : (r : Result ℕ NormalFault) (e : NormalFault) (f : Patterns → Tree → Tree) → IsErrAnd r (λ d. d ≡ e) → (e ≡ Wide → two_of p q ≡ None) → GivesAt ts r (p >>= λ a. option_map (f a) q)
    parts_refused r e f h none = at_err ts r e (p >>= λ a. option_map (f a) q) h (λ wide. mapped_none p q f (none wide))

module _ (vars : List Kind) (defs : List Def) (bound : List Kind) (ts us : List Tree) (b : Begins ts us) where
  -- what is found of a term in a longer store
  pub form_before : (i : ℕ) (o : Option Tree) → i < length ts → normal vars defs bound (at us i) ≡ o → normal vars defs bound (at ts i) ≡ o
  form_before i o l e = ap (normal vars defs bound) (sym (begins_at ts us i b l)) ∙ e

  pub two_before : (i j : ℕ) (o : Option (Tree × Tree)) → i < length ts → j < length ts → normal_two vars defs bound (at us i) (at us j) ≡ o → normal_two vars defs bound (at ts i) (at ts j) ≡ o
  two_before i j o l w e = (λ k. normal_two vars defs bound (sym (begins_at ts us i b l) k) (sym (begins_at ts us j b w) k)) ∙ e

  -- one form behind another
  module _ (vs : List Tree) (d : Begins us vs) where
    pub two_forms : (i j x y : ℕ) → j < length ts → x < length us → normal vars defs bound (at ts i) ≡ Some (at us x) → normal vars defs bound (at us j) ≡ Some (at vs y) → normal_two vars defs bound (at ts i) (at ts j) ≡ Some (at vs x, at vs y)
    two_forms i j x y l w e f = pair_made (normal vars defs bound (at ts i)) (normal vars defs bound (at ts j)) (at vs x) (at vs y) (e ∙ ap Some (sym (begins_at us vs x d w))) (form_before j (Some (at vs y)) l f)
