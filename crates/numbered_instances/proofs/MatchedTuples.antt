-- The tuples of what is found, by number.
use Rattle.std.proofs.Common.{◌≡◌, refl, sym, ap, subst, ◌∙◌, ℕ, Vec, ◌<◌, Option, Some, None, option_map, option_to_list, List, [], ◌∷◌, ◌++◌, map, reverse, flat_map}
use Rattle.std.specs.List.{AllByRecursion}
use Rattle.std.specs.declared.alloc.Global.{Global}
use Rattle.std.proofs.lemmas.List.{map-append, append-nil, append_assoc}
use mathlib.Core.List.{reverse-cons}
use Rattle.logic_core.specs.Tree.{Tree}
use Rattle.logic_core.proofs.EachOf.{every_append}
use Rattle.term_bank.specs.Numbered.{at}
use Rattle.term_bank.specs.Node.{in_lists}
use Rattle.quantifier_triggers.specs.Match.{each_found, tuple_of}
use Rattle.numbered_terms.specs.Lists.{lists_at}
use Rattle.numbered_instances.specs.Finding.{found_at, each_number, IsSomeBelow, IsFoundBelow}

pub map_reverse : {A B : Type 0} (f : A → B) (xs : List A) → map f (reverse xs) ≡ reverse (map f xs)
map_reverse f [] = refl
map_reverse f (x ∷ xs) = ap (map f) (reverse-cons x xs) ∙ map-append f (reverse xs) (x ∷ []) ∙ ap (λ ys. ys ++ f x ∷ []) (map_reverse f xs) ∙ sym (reverse-cons (f x) (map f xs))

pub all_reverse : {A : Type 0} (P : A → Type 0) (xs : List A) → AllByRecursion P xs → AllByRecursion P (reverse xs)
all_reverse P [] h = tt
all_reverse P (x ∷ xs) h = subst (AllByRecursion P) (sym (reverse-cons x xs)) (every_append P (reverse xs) (x ∷ []) (all_reverse P xs h.1) (h.0, tt))

one_more : (ts : List Tree) (i : ℕ) (o : Option (List ℕ)) → option_map (map (at ts)) (option_map (λ is. i ∷ is) o) ≡ option_map (λ us. at ts i ∷ us) (option_map (map (at ts)) o)
one_more ts i None = refl
one_more ts i (Some is) = refl

each_at : (ts : List Tree) (b : List (Option ℕ)) → option_map (map (at ts)) (each_number b) ≡ each_found (found_at ts b)
each_at ts [] = refl
each_at ts (None ∷ b) = refl
each_at ts (Some i ∷ b) = one_more ts i (each_number b) ∙ ap (option_map (λ us. at ts i ∷ us)) (each_at ts b)

turned : (ts : List Tree) (o : Option (List ℕ)) → option_map (map (at ts)) (option_map reverse o) ≡ option_map reverse (option_map (map (at ts)) o)
turned ts None = refl
turned ts (Some is) = ap Some (map_reverse (at ts) is)

pub tuple_at : (ts : List Tree) (b : List (Option ℕ)) → option_map (map (at ts)) (option_map reverse (each_number b)) ≡ tuple_of (found_at ts b)
tuple_at ts b = turned ts (each_number b) ∙ ap (option_map reverse) (each_at ts b)

-- the numbers of a tuple are those of terms
abbrev AreSome : ℕ → Option (List ℕ) → Type 0
AreSome n None = Unit {0}
AreSome n (Some is) = AllByRecursion (λ j. j < n) is

more_below : (n i : ℕ) (o : Option (List ℕ)) → i < n → AreSome n o → AreSome n (option_map (λ is. i ∷ is) o)
more_below n i None l h = tt
more_below n i (Some is) l h = (l, h)

each_below : (n : ℕ) (b : List (Option ℕ)) → IsFoundBelow n b → AreSome n (each_number b)
each_below n [] h = tt
each_below n (None ∷ b) h = tt
each_below n (Some i ∷ b) h = more_below n i (each_number b) h.0 (each_below n b h.1)

turned_below : (n : ℕ) (o : Option (List ℕ)) → AreSome n o → AreSome n (option_map reverse o)
turned_below n None h = tt
turned_below n (Some is) h = all_reverse (λ j. j < n) is h

pub tuple_below : (n : ℕ) (b : List (Option ℕ)) (is : List ℕ) → IsFoundBelow n b → option_map reverse (each_number b) ≡ Some is → AllByRecursion (λ j. j < n) is
tuple_below n b is h e = subst (AreSome n) e (turned_below n (each_number b) (each_below n b h))

-- one tuple more
lists_append : (ts : List Tree) (vs ws : List (Vec ℕ Global)) → lists_at ts (vs ++ ws) ≡ lists_at ts vs ++ lists_at ts ws
lists_append ts vs ws = map-append (λ (p : Vec ℕ Global). map (at ts) p.items) vs ws

in_append : (vs ws : List (Vec ℕ Global)) → in_lists (vs ++ ws) ≡ in_lists vs ++ in_lists ws
in_append [] ws = refl
in_append (v ∷ vs) ws = ap (λ xs. v.items ++ xs) (in_append vs ws) ∙ sym (append_assoc v.items (in_lists vs) (in_lists ws))

pub tuple_pushed : (ts : List Tree) (b : List (Option ℕ)) (vs ws : List (Vec ℕ Global)) (v : Vec ℕ Global) (o : Option (Vec ℕ Global)) → ws ≡ vs ++ v ∷ [] → option_map (λ (x : Vec ℕ Global). x.items) o ≡ option_map reverse (each_number b) → o ≡ Some v
    → lists_at ts ws ≡ lists_at ts vs ++ option_to_list (tuple_of (found_at ts b))
tuple_pushed ts b vs ws v o e made is = ap (lists_at ts) e ∙ lists_append ts vs (v ∷ [])
    ∙ ap (λ q. lists_at ts vs ++ option_to_list q) (ap (λ q. option_map (map (at ts)) (option_map (λ (x : Vec ℕ Global). x.items) q)) (sym is) ∙ ap (option_map (map (at ts))) made ∙ tuple_at ts b)

pub tuple_passed : (ts : List Tree) (b : List (Option ℕ)) (vs : List (Vec ℕ Global)) (o : Option (Vec ℕ Global)) → option_map (λ (x : Vec ℕ Global). x.items) o ≡ option_map reverse (each_number b) → o ≡ None
    → lists_at ts vs ≡ lists_at ts vs ++ option_to_list (tuple_of (found_at ts b))
tuple_passed ts b vs o made is = sym (append-nil (lists_at ts vs))
    ∙ ap (λ q. lists_at ts vs ++ option_to_list q) (ap (λ q. option_map (map (at ts)) (option_map (λ (x : Vec ℕ Global). x.items) q)) (sym is) ∙ ap (option_map (map (at ts))) made ∙ tuple_at ts b)

pub pushed_below : (n : ℕ) (b : List (Option ℕ)) (vs ws : List (Vec ℕ Global)) (v : Vec ℕ Global) (o : Option (Vec ℕ Global)) → IsFoundBelow n b → ws ≡ vs ++ v ∷ [] → option_map (λ (x : Vec ℕ Global). x.items) o ≡ option_map reverse (each_number b) → o ≡ Some v
    → AllByRecursion (λ j. j < n) (in_lists vs) → AllByRecursion (λ j. j < n) (in_lists ws)
pushed_below n b vs ws v o h e made is below = subst (AllByRecursion (λ j. j < n)) (sym (ap in_lists e ∙ in_append vs (v ∷ []))) (every_append (λ j. j < n) (in_lists vs) (in_lists (v ∷ [])) below
    (subst (AllByRecursion (λ j. j < n)) (sym (append-nil v.items)) (tuple_below n b v.items h (sym made ∙ ap (option_map (λ (x : Vec ℕ Global). x.items)) is))))

-- what comes of the terms found, where the pattern matches, and where it doesn't
module _ {A X : Type 0} (K : A → List X) where
  pub of_some : (o : Option A) (a : A) → o ≡ Some a → flat_map K (option_to_list o) ≡ K a
  of_some o a e = ap (λ p. flat_map K (option_to_list p)) e ∙ append-nil (K a)

  pub of_none : (o : Option A) (xs : List X) → o ≡ None → xs ≡ xs ++ flat_map K (option_to_list o)
  of_none o xs e = sym (append-nil xs) ∙ ap (λ p. xs ++ flat_map K (option_to_list p)) (sym e)
