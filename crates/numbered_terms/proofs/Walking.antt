-- What a walk has found, as the store grows and more is found.
use Rattle.std.proofs.Common.{◌≡◌, refl, sym, ap, subst, ◌∙◌, ℕ, ◌<◌, nat_eq, Bool, true, false, true≢false, cond, Option, Some, None, unwrap_or, is_some, List, [], ◌∷◌, length, arith}
use Rattle.std.specs.List.{AllByRecursion}
use Rattle.std.specs.Map.{lookup}
use Rattle.std.proofs.lemmas.Bool.{eqb-true, eq-eqb}
use Rattle.indexmap.specs.IndexMap.{insert_entry}
use Rattle.logic_core.specs.Tree.{Tree}
use Rattle.term_bank.specs.Numbered.{at, Begins}
use Rattle.term_bank.specs.Node.{numbers_in}
use Rattle.term_bank.specs.Table.{IsNodeAt}
use Rattle.term_bank.specs.declared.node.Node.{Node}
use Rattle.term_bank.proofs.Numbers.{begins_at, begins_length}
use Rattle.term_bank.proofs.Nodes.{same_tree}
use Rattle.term_bank.proofs.Indexed.{looked_up}
use Rattle.numbered_terms.specs.At.{IsAt}
use Rattle.numbered_terms.specs.Stored.{AreStored}
use Rattle.numbered_terms.specs.Renumbered.{IsFound, AreFound, Covers}
use Rattle.numbered_terms.proofs.Shapes.{one_term}
use Rattle.numbered_terms.proofs.WalkSteps.{numbers_have}

-- numbers of a longer store
pub still_below : (ts us : List Tree) (i : ℕ) → Begins ts us → i < length ts → i < length us
still_below ts us i b l = omega (arith, begins_length ts us b, l)

pub still_at : (ts us : List Tree) (i : ℕ) (t : Tree) → Begins ts us → IsAt ts i t → IsAt us i t
still_at ts us i t b h = (still_below ts us i b h.0, begins_at ts us i b h.0 ∙ h.1)

all_below : (i n : ℕ) (is : List ℕ) → i < n → AllByRecursion (λ j. j < i) is → AllByRecursion (λ j. j < n) is
all_below i n [] l h = tt
all_below i n (j ∷ is) l h = (omega (arith, l, h.0), all_below i n is l h.1)

module _ (becomes : Tree → Tree) where
  abbrev FoundAs : List Tree → ℕ → Option ℕ → Type 0
  FoundAs ts i o = (i < length ts) × ((unwrap_or o i < length ts) × (at ts (unwrap_or o i) ≡ becomes (at ts i)))

  pub there : (ts : List Tree) (found : List (ℕ × ℕ)) (i : ℕ) → AreFound becomes ts found → is_some (lookup (nat_eq i) found) ≡ true → IsFound becomes ts found i
  there ts found i right h = by (lookup (nat_eq i) found) refl h
    where
      by : (o : Option ℕ) → lookup (nat_eq i) found ≡ o → is_some o ≡ true → FoundAs ts i (lookup (nat_eq i) found)
      by (Some j) e g = subst (FoundAs ts i) (sym e) (right i j e)
      by None e g = absurd (cc)

  -- a term that stays has its own number, if no other is found
  pub unchanged : (ts : List Tree) (found : List (ℕ × ℕ)) (i : ℕ) → AreFound becomes ts found → i < length ts → becomes (at ts i) ≡ at ts i → IsFound becomes ts found i
  unchanged ts found i right l s = by (lookup (nat_eq i) found) refl
    where
      by : (o : Option ℕ) → lookup (nat_eq i) found ≡ o → FoundAs ts i (lookup (nat_eq i) found)
      by (Some j) e = subst (FoundAs ts i) (sym e) (right i j e)
      by None e = subst (FoundAs ts i) (sym e) (l, (l, sym s))

  -- what was found for a number is right later too
  pub found_later : (ts us : List Tree) (found found' : List (ℕ × ℕ)) (i : ℕ) → Begins ts us → AreFound becomes us found' → Covers found found' → IsFound becomes ts found i → IsFound becomes us found' i
  found_later ts us found found' i b right covers h = by (lookup (nat_eq i) found') refl (lookup (nat_eq i) found) refl
    where
      by : (o : Option ℕ) → lookup (nat_eq i) found' ≡ o → (p : Option ℕ) → lookup (nat_eq i) found ≡ p → FoundAs us i (lookup (nat_eq i) found')
      by (Some j) e p q = subst (FoundAs us i) (sym e) (right i j e)
      by None e (Some k) q = absurd (true≢false (sym (covers i (ap is_some q)) ∙ ap is_some e))
      by None e None q = let g : FoundAs ts i None = subst (FoundAs ts i) q h in
          let l = still_below ts us i b h.0 in
          subst (FoundAs us i) (sym e) (l, (l, begins_at ts us i b h.0 ∙ g.1.1 ∙ ap becomes (sym (begins_at ts us i b h.0))))

  pub each_later : (ts us : List Tree) (found found' : List (ℕ × ℕ)) (is : List ℕ) → Begins ts us → AreFound becomes us found' → Covers found found' → AllByRecursion (IsFound becomes ts found) is → AllByRecursion (IsFound becomes us found') is
  each_later ts us found found' [] b right covers h = tt
  each_later ts us found found' (i ∷ is) b right covers h = (found_later ts us found found' i b right covers h.0, each_later ts us found found' is b right covers h.1)

  -- as the store grows
  pub right_later : (ts us : List Tree) (found : List (ℕ × ℕ)) → Begins ts us → AreFound becomes ts found → AreFound becomes us found
  right_later ts us found b right = λ i j e. let h = right i j e in
      (still_below ts us i b h.0, (still_below ts us j b h.1.0, begins_at ts us j b h.1.0 ∙ h.1.1 ∙ ap becomes (sym (begins_at ts us i b h.0))))

  -- one more number is found
  module _ (ts : List Tree) (found found' : List (ℕ × ℕ)) (i j : ℕ) (noted : found' ≡ insert_entry nat_eq found i j) (right : AreFound becomes ts found) (l : i < length ts) (is : IsAt ts j (becomes (at ts i))) where
    looks : (n : ℕ) → lookup (nat_eq n) found' ≡ cond (nat_eq n i) (Some j) (lookup (nat_eq n) found)
    looks n = ap (lookup (nat_eq n)) noted ∙ looked_up n found i j

    noted_one : (n m : ℕ) (b : Bool) → nat_eq n i ≡ b → cond b (Some j) (lookup (nat_eq n) found) ≡ Some m → (n < length ts) × ((m < length ts) × (at ts m ≡ becomes (at ts n)))
    noted_one n m true q g = let one : i ≡ n = sym (eqb-true n i q) in let same : j ≡ m = cc in
        (subst (λ x. x < length ts) one l, (subst (λ x. x < length ts) same is.0, ap (at ts) (sym same) ∙ is.1 ∙ ap (λ x. becomes (at ts x)) one))
    noted_one n m false q g = right n m g

    pub noted_right : AreFound becomes ts found'
    noted_right = λ n m e. noted_one n m (nat_eq n i) refl (sym (looks n) ∙ e)

    pub noted_covers : Covers found found'
    noted_covers = λ n h. ap is_some (looks n) ∙ by (nat_eq n i) (lookup (nat_eq n) found) h
      where
        by : (b : Bool) (o : Option ℕ) → is_some o ≡ true → is_some (cond b (Some j) o) ≡ true
        by true o h = refl
        by false o h = h

    pub noted_found : IsFound becomes ts found' i
    noted_found = there ts found' i noted_right (ap is_some (looks i ∙ ap (λ b. cond b (Some j) (lookup (nat_eq i) found)) (eq-eqb i i refl)))

pub covers_same : (found found' : List (ℕ × ℕ)) → found' ≡ found → Covers found found'
covers_same found found' e = λ i h. ap (λ f. is_some (lookup (nat_eq i) f)) e ∙ h

pub covers_then : (a b c : List (ℕ × ℕ)) → Covers a b → Covers b c → Covers a c
covers_then a b c f g = λ i h. g i (f i h)

-- two nodes of one number have the same numbers
pub same_numbers : (P : ℕ → Type 0) (ts : List Tree) (i : ℕ) (m n : Node) → AreStored ts → i < length ts → IsNodeAt ts i m → IsNodeAt ts i n → AllByRecursion P (numbers_in m) → AllByRecursion P (numbers_in n)
same_numbers P ts i m n stored l hm hn h = numbers_have P (λ k. k) m n
    (one_term ts stored.apart n m (all_below i (length ts) (numbers_in n) l hn.1) (all_below i (length ts) (numbers_in m) l hm.1) (hn.0 ∙ sym hm.0)) h

-- a number's node in a longer store is one in the shorter store
pub node_before : (ts us : List Tree) (i : ℕ) (m : Node) → Begins ts us → i < length ts → IsNodeAt us i m → IsNodeAt ts i m
node_before ts us i m b l h = (sym (same_tree (at us) (at ts) i (λ j w. begins_at ts us j b (omega (arith, w, l))) m h.1) ∙ h.0 ∙ begins_at ts us i b l, h.1)

-- at first nothing is found
pub none_found : (becomes : Tree → Tree) (ts : List Tree) (found : List (ℕ × ℕ)) → found ≡ [] → AreFound becomes ts found
none_found becomes ts found e = λ i j q. let no : None ≡ Some j = sym (ap (lookup (nat_eq i)) e) ∙ q in absurd (cc)
