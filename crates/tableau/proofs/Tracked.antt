-- A branch of the search beside the context of a proof: each fact stands in the context under its number, and contexts only grow.
use Rattle.std.specs.Prelude.{◌≡◌, refl, ℕ, zero, suc, ◌+◌, true, Option, Some, None, List, [], ◌∷◌, ◌++◌, length, slice_get, All, ◌||◌}
use Rattle.std.proofs.Common.{sym, ◌∙◌, ap, subst, arith}
use Rattle.std.proofs.lemmas.List.{append_assoc, length_push}
use Rattle.std.proofs.lemmas.List.Elements.{All-nil, All-cons, All-head, All-tail, All-weaker, All-push}
use Rattle.logic_core.specs.Tree.{Kind, Tree}
use Rattle.logic_core.specs.Def.{Def}
use Rattle.logic_core.specs.Normal.{normal}
use Rattle.logic_core.specs.Wide.{◌>>=◌}
use Rattle.logic_core.specs.Junction.{is_truth}
use Rattle.proof_core.specs.Context.{Context, fact, with_fact, appended_each}
use Rattle.logic_laws.proofs.Options.{bind_some, cond_has}
use Rattle.tableau_branch.specs.Branch.{Fact, Branch, At, first_from, numbered, normal_in, is_there, each}
use Rattle.tableau_branch.specs.Change.{kept}

abbrev pub IsKnown : Context → Fact → Type 0
IsKnown c f = fact c f.number ≡ Some f.term

pub record Tracks (b : Branch) (c : Context) : Type 0 where
  pub vars : b.vars ≡ c.vars
  pub next : b.next ≡ length c.facts
  pub facts : All (IsKnown c) b.facts

-- what stands at a place stays there when the list grows
pub get_before : {A : Type 0} (xs ys : List A) (n : ℕ) (x : A) → slice_get xs n ≡ Some x → slice_get (xs ++ ys) n ≡ Some x
get_before [] ys n x h = absurd (cc)
get_before (y ∷ xs) ys zero x h = h
get_before (y ∷ xs) ys (suc n) x h = get_before xs ys n x h

pub get_last : {A : Type 0} (xs ys : List A) (y : A) → slice_get (xs ++ y ∷ ys) (length xs) ≡ Some y
get_last [] ys y = refl
get_last (x ∷ xs) ys y = get_last xs ys y

pub get_next : {A : Type 0} (xs : List A) (y : A) (n : ℕ) → n ≡ length xs → slice_get (xs ++ y ∷ []) n ≡ Some y
get_next xs y n e = rw e (get_last xs [] y)

-- more facts
abbrev pub with_facts : Context → List Tree → Context
with_facts c ts = record { vars = c.vars; facts = c.facts ++ ts }

pub known_later : (c : Context) (ts : List Tree) (fs : List Fact) → All (IsKnown c) fs → All (IsKnown (with_facts c ts)) fs
known_later c ts fs all = All-weaker (IsKnown c) (IsKnown (with_facts c ts)) (λ f h. get_before c.facts ts f.number f.term h) fs all

-- new facts are known
pub numbered_known : (vars : List Kind) (xs us : List Tree) (n : ℕ) → n ≡ length xs → All (IsKnown (record { vars = vars; facts = xs ++ us })) (numbered n us)
numbered_known vars xs [] n e = All-nil (IsKnown (record { vars = vars; facts = xs ++ [] }))
numbered_known vars xs (u ∷ us) n e =
    let here : slice_get (xs ++ u ∷ us) n ≡ Some u = rw e (get_last xs us u) in
    let further : n + 1 ≡ length (xs ++ u ∷ []) = omega (arith, length_push xs u) in
    let rest = subst (λ ys. All (IsKnown (record { vars = vars; facts = ys })) (numbered (n + 1) us)) (append_assoc xs (u ∷ []) us) (numbered_known vars (xs ++ u ∷ []) us (n + 1) further) in
    All-cons (IsKnown (record { vars = vars; facts = xs ++ u ∷ us })) (record { term = u; number = n }) (numbered (n + 1) us) here rest

-- the normal forms of a list of formulas are appended
pub each_appended : (defs : List Def) (ts us : List Tree) (c : Context) (b : Branch) → b.vars ≡ c.vars → each (normal_in defs b) ts ≡ Some us → appended_each defs c ts ≡ Some (with_facts c us)
each_appended defs [] us c b v h = let none : [] ≡ us = cc in subst (λ ys. Some c ≡ Some (with_facts c ys)) none (ap (λ fs. Some (record { vars = c.vars; facts = fs })) (sym (append_nil c.facts)))
  where
    append_nil : (xs : List Tree) → xs ++ [] ≡ xs
    append_nil [] = refl
    append_nil (x ∷ xs) = ap (λ ys. x ∷ ys) (append_nil xs)
each_appended defs (t ∷ ts) us c b v h =
    let p = bind_some (normal_in defs b t) (λ u. each (normal_in defs b) ts >>= λ rest. Some (u ∷ rest)) us h in
    let q = bind_some (each (normal_in defs b) ts) (λ rest. Some (p.0 ∷ rest)) us p.2 in
    let is_us : p.0 ∷ q.0 ≡ us = cc in
    let first : normal c.vars defs [] t ≡ Some p.0 = subst (λ vs. normal vs defs [] t ≡ Some p.0) v p.1 in
    let rest = each_appended defs ts q.0 (with_fact c p.0) b v q.1 in
    let whole : with_facts (with_fact c p.0) q.0 ≡ with_facts c us = ap (λ fs. record { vars = c.vars; facts = fs }) (append_assoc c.facts (p.0 ∷ []) q.0 ∙ ap (λ ys. c.facts ++ ys) is_us) in
    rw first (rest ∙ ap Some whole)

-- what is kept of a changed fact
pub kept_known : (c : Context) (done : List Fact) (f : Fact) (fs : List Fact) → All (IsKnown c) done → IsKnown c f → All (IsKnown c) (kept done f fs)
kept_known c done f fs all k = cond_has (λ gs. All (IsKnown c) gs) (is_truth true f.term || (is_there f.term done || is_there f.term fs)) done (done ++ f ∷ []) (λ _. all) (λ _. All-push (IsKnown c) done f all k)

-- of a fact that is found: it is known, and the test finds something in it
pub found_known : {A : Type 0} (test : Fact → Option A) (P : Fact → Type 0) (n : ℕ) (fs : List Fact) (a : At A) → first_from test n fs ≡ Some a → All P fs → P a.fact × (test a.fact ≡ Some a.what)
found_known test P n [] a h all = absurd (cc)
found_known {A} test P n (f ∷ fs) a h all = at_test (test f) refl h (λ k. found_known test P (n + 1) fs a k (All-tail P f fs all))
  where
    at_test : (o : Option A) → test f ≡ o → ◌≡◌ {A = Option (At A)} (elim o [ None ↦ first_from test (n + 1) fs | Some x ↦ Some (record { at = n; fact = f; what = x }) ]) (Some a) → (first_from test (n + 1) fs ≡ Some a → P a.fact × (test a.fact ≡ Some a.what)) → P a.fact × (test a.fact ≡ Some a.what)
    at_test None e k further = further k
    at_test (Some x) e k further = let is_a : record { at = n; fact = f; what = x } ≡ a = cc in subst (λ (y : At A). P y.fact × (test y.fact ≡ Some y.what)) is_a (All-head P f fs all, e)
