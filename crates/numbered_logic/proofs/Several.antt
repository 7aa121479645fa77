-- Numbers for what a definition gives of several terms, one term after another.
use Rattle.std.proofs.Common.{◌≡◌, refl, sym, ap, ◌∙◌, ℕ, ◌+◌, ◌<◌, ◌≤◌, Vec, Option, Some, None, Result, Ok, Err, List, [], ◌∷◌, ◌++◌, map, length, drop, get_or}
use Rattle.std.specs.List.{AllByRecursion}
use Rattle.std.specs.Result.{IsErrAnd}
use Rattle.std.specs.declared.alloc.Global.{Global}
use Rattle.std.proofs.lemmas.List.{append_assoc, append-nil, map-append, at_drop_all}
use Rattle.logic_core.specs.Tree.{Tree}
use Rattle.logic_core.specs.Wide.{◌>>=◌}
use Rattle.logic_core.specs.declared.fault.NormalFault.{NormalFault}
use Rattle.logic_core.specs.declared.fault.NormalFault.TheVariants.{Wide}
use Rattle.logic_core.proofs.EachOf.{every_append}
use Rattle.term_bank.specs.Numbered.{at, Begins}
use Rattle.tableau_branch.specs.Branch.{each}
use Rattle.tableau_branch.proofs.Lists.{drop_item}
use Rattle.numbered_logic.specs.Forms.{GiveAt}
use Rattle.numbered_branches.proofs.Growing.{more_within, same_terms}

shifted : (o : Option (List Tree)) (vs : List Tree) (v : Tree) → ((o >>= λ ws. Some (v ∷ ws)) >>= λ ws. Some (vs ++ ws)) ≡ (o >>= λ ws. Some ((vs ++ v ∷ []) ++ ws))
shifted None vs v = refl
shifted (Some ws) vs v = ap Some (sym (append_assoc vs (v ∷ []) ws))

pub given_low : (us ws : List Tree) (forms forms' : List ℕ) (y : ℕ) → Begins us ws → AllByRecursion (λ j. j < length us) forms → y < length ws → forms' ≡ forms ++ y ∷ [] → AllByRecursion (λ j. j < length ws) forms'
given_low us ws forms forms' y b low l pushed = rw pushed (every_append (λ j. j < length ws) forms (y ∷ []) (more_within us ws b forms low) (l, tt))

module _ (f : Tree → Option Tree) (ts : List Tree) (ids : List ℕ) where
  abbrev rest : ℕ → Option (List Tree)
  rest i = each f (map (at ts) (drop i ids))

  -- what was given so far, and what is given of the rest
  abbrev pub GivenTo : List Tree → List ℕ → ℕ → Type 0
  GivenTo us forms i = each f (map (at ts) ids) ≡ (rest i >>= λ vs. Some (map (at us) forms ++ vs))

  here : (i x : ℕ) → i < length ids → x ≡ get_or ids i x → rest i ≡ (f (at ts x) >>= λ v. rest (i + 1) >>= λ vs. Some (v ∷ vs))
  here i x l e = ap (λ is. each f (map (at ts) is)) (drop_item ids i x l e)

  rest_first : (o : Option (List Tree)) → o ≡ (o >>= λ vs. Some vs)
  rest_first None = refl
  rest_first (Some vs) = refl

  pub given_first : (us : List Tree) → GivenTo us [] 0
  given_first us = rest_first (each f (map (at ts) ids))

  pub given_next : (us ws : List Tree) (forms forms' : List ℕ) (i x y : ℕ) → Begins us ws → AllByRecursion (λ j. j < length us) forms → i < length ids → x ≡ get_or ids i x → f (at ts x) ≡ Some (at ws y)
      → forms' ≡ forms ++ y ∷ [] → GivenTo us forms i → GivenTo ws forms' (i + 1)
  given_next us ws forms forms' i x y b low l e found pushed so_far =
      let grown : map (at us) forms ++ at ws y ∷ [] ≡ map (at ws) forms' = ap (λ vs. vs ++ at ws y ∷ []) (sym (same_terms us ws b forms low)) ∙ sym (ap (map (at ws)) pushed ∙ map-append (at ws) forms (y ∷ [])) in
      so_far
      ∙ ap (λ o. o >>= λ vs. Some (map (at us) forms ++ vs)) (here i x l e ∙ ap (λ o. o >>= λ v. rest (i + 1) >>= λ vs. Some (v ∷ vs)) found)
      ∙ shifted (rest (i + 1)) (map (at us) forms) (at ws y)
      ∙ ap (λ us'. rest (i + 1) >>= λ vs. Some (us' ++ vs)) grown

  pub given_none : (us : List Tree) (forms : List ℕ) (i x : ℕ) → i < length ids → x ≡ get_or ids i x → f (at ts x) ≡ None → GivenTo us forms i → each f (map (at ts) ids) ≡ None
  given_none us forms i x l e none so_far = so_far
      ∙ ap (λ o. o >>= λ vs. Some (map (at us) forms ++ vs)) (here i x l e ∙ ap (λ o. o >>= λ v. rest (i + 1) >>= λ vs. Some (v ∷ vs)) none)

  pub given_all : (us : List Tree) (forms : List ℕ) (i : ℕ) → length ids ≤ i → GivenTo us forms i → each f (map (at ts) ids) ≡ Some (map (at us) forms)
  given_all us forms i l so_far = so_far ∙ ap (λ o. o >>= λ vs. Some (map (at us) forms ++ vs)) (at_drop_all (λ is. each f (map (at ts) is)) ids i l) ∙ ap Some (append-nil (map (at us) forms))

-- the same fault is returned
pub give_fault : (us : List Tree) (r : Result (Vec ℕ Global) NormalFault) (e : NormalFault) (o : Option (List Tree)) → IsErrAnd r (λ d. d ≡ e) → (e ≡ Wide → o ≡ None) → GiveAt us r o
give_fault us (Ok v) e o h none = absurd h
give_fault us (Err d) e o h none = λ wide. none (let w : e ≡ Wide = cc in w)
