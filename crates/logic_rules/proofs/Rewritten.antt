-- The rule rewrite, step by step.
use Rattle.std.specs.Prelude.{◌≡◌, refl, Option, Some, None, List, [], ◌∷◌, ◌++◌}
use Rattle.std.proofs.Common.{ap, sym, ◌∙◌}
use Rattle.std.proofs.lemmas.List.{append_assoc}
use Rattle.logic_core.specs.Tree.{Tree}
use Rattle.logic_core.specs.Def.{Def}
use Rattle.logic_core.specs.Wide.{◌>>=◌}
use Rattle.proof_core.specs.Proof.{by_replace}
use Rattle.proof_core.specs.Says.{says}
use Rattle.tableau_branch.specs.Branch.{Fact, Branch, each}
use Rattle.tableau_branch.specs.Change.{Made, begun, changed_each}
use Rattle.tableau_branch.specs.Move.{on_one}
use Rattle.tableau_branch.specs.Replacing.{rewrites}
use Rattle.logic_rules.specs.Rewriting.{rewritten, rewritten_within, rewritten_mark, with_calls_and_marks, rewritten_by}
use Rattle.logic_rules.specs.View.{rest_over, rest_rewritten}
use Rattle.tableau_branch.proofs.ChangedFacts.{KeepsRest, keeps_rest}

bind_two : {A B C D : Type 0} (o : Option A) (p : Option B) (f : A → B → C) (g : C → D) → (o >>= λ a. p >>= λ b. Some (g (f a b))) ≡ ((o >>= λ a. p >>= λ b. Some (f a b)) >>= λ c. Some (g c))
bind_two None p f g = refl
bind_two (Some a) None f g = refl
bind_two (Some a) (Some b) f g = refl

module _ (defs : List Def) (b : Branch) (f : Fact) (l : Tree) where
  abbrev changed_by : Tree → Option Made
  changed_by r = changed_each (rewrites f.number l) (rewritten defs b l r) (λ g. by_replace g.number f.number l) (begun b)

  pub says_nothing : says f.term l ≡ None → rewritten_by defs b f l ≡ None
  says_nothing h = rw h refl

  pub facts_not : (r : Tree) → says f.term l ≡ Some r → changed_by r ≡ None → rewritten_by defs b f l ≡ None
  facts_not r h e = rw (h, e) refl

  same_rest : (r : Tree) (m : Made) → KeepsRest (rewrites f.number l) (rewritten defs b l r) (λ g. by_replace g.number f.number l) (begun b) m → rest_rewritten defs l r m ≡ rest_over defs l r b.vars b.calls b.marks m
  same_rest r m k = λ i. rest_over defs l r (k.2 i) (k.0 i) (k.1 i) m

  pub rewrites_as : (r : Tree) (m : Made) → says f.term l ≡ Some r → changed_by r ≡ Some m → rewritten_by defs b f l ≡ (rest_rewritten defs l r m >>= λ n. Some (on_one n))
  rewrites_as r m h e =
      let apart : rewritten_by defs b f l ≡ (rest_over defs l r b.vars b.calls b.marks m >>= λ n. Some (on_one n)) = rw (h, e) (bind_two (each (rewritten_within defs b l r) b.calls) (each (rewritten_mark defs b l r) b.marks) (λ calls marks. with_calls_and_marks calls marks m) on_one) in
      let kept = keeps_rest (rewrites f.number l) (rewritten defs b l r) (λ g. by_replace g.number f.number l) (begun b) m e in
      apart ∙ ap (λ (o : Option Made). o >>= λ n. Some (on_one n)) (sym (same_rest r m kept))

-- what is done, and then the rest
pub one_of_each_more : {A B : Type 0} (f : A → Option B) (a : A) (as' : List A) (b : B) (bs : List B) → f a ≡ Some b → (each f as' >>= λ cs. Some ((bs ++ b ∷ []) ++ cs)) ≡ (each f (a ∷ as') >>= λ cs. Some (bs ++ cs))
one_of_each_more {A} {B} f a as' b bs h = rw h (at_rest (each f as'))
  where
    at_rest : (o : Option (List B)) → (o >>= λ cs. Some ((bs ++ b ∷ []) ++ cs)) ≡ ((o >>= λ cs. Some (b ∷ cs)) >>= λ cs. Some (bs ++ cs))
    at_rest None = refl
    at_rest (Some cs) = ap Some (append_assoc bs (b ∷ []) cs)

pub one_of_each_not : {A B : Type 0} (f : A → Option B) (a : A) (as' : List A) (bs : List B) → f a ≡ None → (each f (a ∷ as') >>= λ cs. Some (bs ++ cs)) ≡ None
one_of_each_not f a as' bs h = rw h refl
