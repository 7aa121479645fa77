-- Rules that pass over places, by the parts of which they are made.
use Rattle.std.specs.Prelude.{◌≡◌, refl, pos, ℤ, Bool, true, false, Option, Some, None, option_map, List, [], ◌∷◌, ◌++◌, flat_map, if◌then◌else◌}
use Rattle.std.specs.List.{list_any}
use Rattle.std.specs.Ordering.{int_eq}
use Rattle.std.proofs.Common.{ap, sym, ◌∙◌}
use Rattle.logic_core.specs.Tree.{Tree}
use Rattle.logic_core.specs.Def.{Def}
use Rattle.logic_core.specs.Wide.{◌>>=◌}
use Rattle.proof_core.specs.Maps.{Access, access, as_number, before_write, distance, read_at_distance}
use Rattle.theory_rules.specs.Back.{accesses_in, moved_back_by, back_at, back}
use Rattle.tableau_branch.specs.Branch.{Branch, At, Attempt, none, leaves, gives, unless_wide, first_attempt, context_of, each, places}
use Rattle.tableau_branch.specs.Move.{Move}
use Rattle.theory_rules.specs.Trichotomy.{undecided, decided_by, is_known_way, ways, trichotomy_at, trichotomy}
use Rattle.theory_rules.specs.Ways.{open_at, trichotomy_in_parts}
use Rattle.theory_rules.specs.ReadsBack.{after_attempt, read_back, moved_back, replaced_back, back_in_parts}

-- it isn't passed over
abbrev pub IsTaken : {A : Type 0} → Attempt A → Type 0
IsTaken none = ⊥
IsTaken leaves = Unit {0}
IsTaken (gives a) = Unit {0}

taken : {A : Type 0} (o : Option A) → IsTaken (unless_wide o)
taken None = tt
taken (Some a) = tt

-- what comes of the first place, and where that is passed over of the others
abbrev pub or_else : {A : Type 0} → Attempt A → Attempt A → Attempt A
or_else none y = y
or_else leaves y = leaves
or_else (gives a) y = gives a

pub or_else_taken : {A : Type 0} (x y : Attempt A) → IsTaken x → or_else x y ≡ x
or_else_taken none y e = absurd e
or_else_taken leaves y e = refl
or_else_taken (gives a) y e = refl

pub first_is : {A B : Type 0} (f : A → Attempt B) (a : A) (xs : List A) → first_attempt f (a ∷ xs) ≡ or_else (f a) (first_attempt f xs)
first_is {A} {B} f a xs = at_first (f a) (first_attempt f xs)
  where
    at_first : (x y : Attempt B) → ◌≡◌ {A = Attempt B} (elim x [ none ↦ y | leaves ↦ leaves | gives b ↦ gives b ]) (or_else x y)
    at_first none y = refl
    at_first leaves y = refl
    at_first (gives b) y = refl

or_else_both : {A : Type 0} (x y z : Attempt A) → or_else x (or_else y z) ≡ or_else (or_else x y) z
or_else_both none y z = refl
or_else_both leaves y z = refl
or_else_both (gives a) y z = refl

-- at the first list of places, and where that is passed over at the second
pub first_of_both : {A B : Type 0} (f : A → Attempt B) (xs ys : List A) → first_attempt f (xs ++ ys) ≡ or_else (first_attempt f xs) (first_attempt f ys)
first_of_both f [] ys = refl
first_of_both {A} {B} f (a ∷ xs) ys =
    first_is f a (xs ++ ys) ∙ ap (or_else (f a)) (first_of_both f xs ys) ∙ or_else_both (f a) (first_attempt f xs) (first_attempt f ys)
    ∙ ap (λ (x : Attempt B). or_else x (first_attempt f ys)) (sym (first_is f a xs))

after_or_else : {A B : Type 0} (g : A → Attempt B) → ((a : A) → IsTaken (g a)) → (x y : Attempt A) → or_else (after_attempt x g) (after_attempt y g) ≡ after_attempt (or_else x y) g
after_or_else g is_taken none y = refl
after_or_else g is_taken leaves y = refl
after_or_else g is_taken (gives a) y = or_else_taken (g a) (after_attempt y g) (is_taken a)

-- a part tried at each place, and the rest at the one that is found
pub found_first : {A B C : Type 0} (f : A → Attempt B) (g : B → Attempt C) (h : A → Attempt C) → ((a : A) → h a ≡ after_attempt (f a) g) → ((b : B) → IsTaken (g b)) → (xs : List A) → first_attempt h xs ≡ after_attempt (first_attempt f xs) g
found_first f g h is is_taken [] = refl
found_first {A} {B} {C} f g h is is_taken (a ∷ xs) =
    first_is h a xs
    ∙ ap (λ (x : Attempt C). or_else x (first_attempt h xs)) (is a)
    ∙ ap (or_else (after_attempt (f a) g)) (found_first f g h is is_taken xs)
    ∙ after_or_else g is_taken (f a) (first_attempt f xs)
    ∙ ap (λ (x : Attempt B). after_attempt x g) (sym (first_is f a xs))

module _ (defs : List Def) (b : Branch) where
  -- the Read that is moved back, with what it reads
  abbrev moved : Tree × Tree → Attempt Move
  moved p = unless_wide (replaced_back defs b p.0 p.1)

  abbrev paired : Tree → Tree → Attempt (Tree × Tree)
  paired t u = gives (t, u)

  at_number : (t : Tree) (a : Access) (o : Option ℤ) (x : Option Move) → x ≡ ((o >>= λ k. Some (if int_eq k (pos 0) then a.value else before_write a)) >>= λ u. replaced_back defs b t u)
      → ◌≡◌ {A = Attempt Move} (elim o [ None ↦ none | Some n ↦ unless_wide x ])
      (after_attempt (after_attempt (elim o [ None ↦ none | Some n ↦ gives (if int_eq n (pos 0) then a.value else before_write a) ]) (paired t)) moved)
  at_number t a None x h = refl
  at_number t a (Some n) x h = ap unless_wide h

  at_distance : (t : Tree) (a : Access) (o : Option Tree) (x : Option Move) → x ≡ ((o >>= λ d. as_number d >>= λ k. Some (if int_eq k (pos 0) then a.value else before_write a)) >>= λ u. replaced_back defs b t u)
      → ◌≡◌ {A = Attempt Move} (elim o [ None ↦ leaves | Some d ↦ elim (as_number d) [ None ↦ none | Some n ↦ unless_wide x ] ])
      (after_attempt (after_attempt (elim o [ None ↦ leaves | Some d ↦ elim (as_number d) [ None ↦ none | Some n ↦ gives (if int_eq n (pos 0) then a.value else before_write a) ] ]) (paired t)) moved)
  at_distance t a None x h = refl
  at_distance t a (Some d) x h = at_number t a (as_number d) x h

  at_access : (t : Tree) (o : Option Access) (x : Option Move) → x ≡ (o >>= λ a. read_at_distance defs (context_of b) a >>= λ u. replaced_back defs b t u)
      → ◌≡◌ {A = Attempt Move} (elim (o >>= λ a. distance defs (context_of b) a) [ None ↦ leaves | Some d ↦ elim (as_number d) [ None ↦ none | Some n ↦ unless_wide x ] ])
      (after_attempt (elim o [ None ↦ leaves | Some a ↦ after_attempt (read_back defs b a) (paired t) ]) moved)
  at_access t None x h = refl
  at_access t (Some a) x h = at_distance t a (distance defs (context_of b) a) x h

  -- back, by the first Read that can be moved back
  pub back_by_parts : back defs b ≡ back_in_parts defs b
  back_by_parts = found_first (moved_back defs b) moved (back_at defs b) (λ t. at_access t (access t) (moved_back_by defs b t) refl) (λ p. taken (replaced_back defs b p.0 p.1)) (flat_map accesses_in b.facts)

  at_ways : (a : At Tree) (x : Bool) (o : Option (List Tree))
      → ◌≡◌ {A = Attempt Move} (elim x [ true ↦ none | false ↦ unless_wide (option_map (decided_by b a) o) ])
      (after_attempt {A = At Tree × List Tree} (after_attempt {A = List Tree} (elim x [ true ↦ none | false ↦ unless_wide o ]) (λ ts. gives (a, ts))) (λ p. gives (decided_by b p.0 p.1)))
  at_ways a true o = refl
  at_ways a false None = refl
  at_ways a false (Some ts) = refl

  -- trichotomy, by the first number with open ways
  pub trichotomy_by_parts : trichotomy defs b ≡ trichotomy_in_parts defs b
  trichotomy_by_parts = found_first (open_at defs b) (λ p. gives (decided_by b p.0 p.1)) (trichotomy_at defs b)
      (λ a. at_ways a (list_any (is_known_way b) (ways defs b a.what)) (each (λ o. o) (ways defs b a.what))) (λ p. tt) (places (undecided b) b)
