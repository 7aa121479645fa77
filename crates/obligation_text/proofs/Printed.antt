-- The text of a term before other bytes is these bytes put behind it part by part.
use Rattle.std.proofs.Common.{◌≡◌, ℕ, true, false, List, [], ◌∷◌, ◌++◌, refl, ap, ◌∙◌, append_assoc}
use Rattle.std.specs.Prelude.{codes}
use Rattle.obligation_text.specs.Numbers.{number_text, signed_text}
use Rattle.logic_core.specs.Tree.{Kind, int, boolean, map, Tree, num, truth, free, bound, linear, mul, read, write, choose, call, negation, all, some, equal, at_most, for_all, exists, Trees, no_trees, tree, Parts, no_parts, part, Patterns, no_patterns, pattern}
use Rattle.obligation_text.specs.Text.{spaced, sort_text, together, sorts_text, term_text, terms_text, parts_text, triggers_text}

abbrev pub sort_onto : Kind → List ℕ → List ℕ
sort_onto int r = 105 ∷ r
sort_onto boolean r = 98 ∷ r
sort_onto (map k) r = 109 ∷ sort_onto k r

abbrev pub together_onto : List Kind → List ℕ → List ℕ
together_onto [] r = r
together_onto (k ∷ ks) r = sort_onto k (together_onto ks r)

abbrev pub sorts_onto : List Kind → List ℕ → List ℕ
sorts_onto [] r = 45 ∷ r
sorts_onto (k ∷ ks) r = together_onto (k ∷ ks) r

abbrev mutual
  pub onto : Tree → List ℕ → List ℕ
  onto (num n) r = signed_text n ++ r
  onto (truth true) r = 84 ∷ r
  onto (truth false) r = 70 ∷ r
  onto (free v) r = 118 ∷ number_text v ++ r
  onto (bound v) r = 107 ∷ number_text v ++ r
  onto (linear ps c) r = 40 ∷ 43 ∷ parts_onto ps (32 ∷ signed_text c ++ 41 ∷ r)
  onto (mul x y) r = 40 ∷ 42 ∷ 32 ∷ onto x (32 ∷ onto y (41 ∷ r))
  onto (read x y) r = 40 ∷ 114 ∷ 32 ∷ onto x (32 ∷ onto y (41 ∷ r))
  onto (write x y z) r = 40 ∷ 119 ∷ 32 ∷ onto x (32 ∷ onto y (32 ∷ onto z (41 ∷ r)))
  onto (choose x y z) r = 40 ∷ 63 ∷ 32 ∷ onto x (32 ∷ onto y (32 ∷ onto z (41 ∷ r)))
  onto (call f ts) r = 40 ∷ 102 ∷ number_text f ++ trees_onto ts (41 ∷ r)
  onto (negation x) r = 40 ∷ 33 ∷ 32 ∷ onto x (41 ∷ r)
  onto (all ts) r = 40 ∷ 38 ∷ trees_onto ts (41 ∷ r)
  onto (some ts) r = 40 ∷ 124 ∷ trees_onto ts (41 ∷ r)
  onto (equal x y) r = 40 ∷ 61 ∷ 32 ∷ onto x (32 ∷ onto y (41 ∷ r))
  onto (at_most x y) r = 40 ∷ 60 ∷ 61 ∷ 32 ∷ onto x (32 ∷ onto y (41 ∷ r))
  onto (for_all ss ps t) r = 40 ∷ 65 ∷ 32 ∷ sorts_onto ss (triggers_onto ps (32 ∷ onto t (41 ∷ r)))
  onto (exists ss ps t) r = 40 ∷ 69 ∷ 32 ∷ sorts_onto ss (triggers_onto ps (32 ∷ onto t (41 ∷ r)))

  pub trees_onto : Trees → List ℕ → List ℕ
  trees_onto no_trees r = r
  trees_onto (tree t ts) r = 32 ∷ onto t (trees_onto ts r)

  pub parts_onto : Parts → List ℕ → List ℕ
  parts_onto no_parts r = r
  parts_onto (part k t ps) r = 32 ∷ signed_text k ++ 32 ∷ onto t (parts_onto ps r)

  pub triggers_onto : Patterns → List ℕ → List ℕ
  triggers_onto no_patterns r = r
  triggers_onto (pattern ts ps) r = 32 ∷ 40 ∷ 116 ∷ trees_onto ts (41 ∷ triggers_onto ps r)

pub sort_printed : (k : Kind) (r : List ℕ) → sort_text k ++ r ≡ sort_onto k r
sort_printed int r = refl
sort_printed boolean r = refl
sort_printed (map k) r = rw (sort_printed k r)

pub together_printed : (ks : List Kind) (r : List ℕ) → together ks ++ r ≡ together_onto ks r
together_printed [] r = refl
together_printed (k ∷ ks) r = simp append_assoc (simp (together_printed ks, sort_printed k))

pub sorts_printed : (ks : List Kind) (r : List ℕ) → sorts_text ks ++ r ≡ sorts_onto ks r
sorts_printed [] r = refl
sorts_printed (k ∷ ks) r = together_printed (k ∷ ks) r

-- three parts and a closing bracket, given what each is before other bytes
pub three_printed : (a b c : List ℕ) (f g h : List ℕ → List ℕ) → ((r : List ℕ) → a ++ r ≡ f r) → ((r : List ℕ) → b ++ r ≡ g r) → ((r : List ℕ) → c ++ r ≡ h r) → (r : List ℕ) → spaced a ++ spaced b ++ spaced c ++ codes ")" ++ r ≡ 32 ∷ f (32 ∷ g (32 ∷ h (41 ∷ r)))
three_printed a b c f g h ea eb ec r = ap (λ l. 32 ∷ l) (append_assoc (a ++ spaced b ++ spaced c) (codes ")") r ∙ append_assoc (a ++ spaced b) (spaced c) (41 ∷ r) ∙ append_assoc a (spaced b) (32 ∷ (c ++ (41 ∷ r)))
    ∙ ea (32 ∷ (b ++ (32 ∷ (c ++ (41 ∷ r))))) ∙ ap (λ l. f (32 ∷ l)) (eb (32 ∷ (c ++ (41 ∷ r))) ∙ ap (λ l. g (32 ∷ l)) (ec (41 ∷ r))))

-- sorts, triggers, a body and a closing bracket
pub quantified_printed : (a b c : List ℕ) (f g h : List ℕ → List ℕ) → ((r : List ℕ) → a ++ r ≡ f r) → ((r : List ℕ) → b ++ r ≡ g r) → ((r : List ℕ) → c ++ r ≡ h r) → (r : List ℕ) → spaced a ++ b ++ spaced c ++ codes ")" ++ r ≡ 32 ∷ f (g (32 ∷ h (41 ∷ r)))
quantified_printed a b c f g h ea eb ec r = ap (λ l. 32 ∷ l) (append_assoc (a ++ b ++ spaced c) (codes ")") r ∙ append_assoc (a ++ b) (spaced c) (41 ∷ r) ∙ append_assoc a b (32 ∷ (c ++ (41 ∷ r)))
    ∙ ea (b ++ (32 ∷ (c ++ (41 ∷ r)))) ∙ ap f (eb (32 ∷ (c ++ (41 ∷ r))) ∙ ap (λ l. g (32 ∷ l)) (ec (41 ∷ r))))

mutual
  pub printed : (t : Tree) (r : List ℕ) → term_text t ++ r ≡ onto t r
  printed (num n) r = refl
  printed (truth true) r = refl
  printed (truth false) r = refl
  printed (free v) r = refl
  printed (bound v) r = refl
  printed (linear ps c) r = simp append_assoc (simp (parts_printed ps))
  printed (mul x y) r = simp append_assoc (simp (printed x, printed y))
  printed (read x y) r = simp append_assoc (simp (printed x, printed y))
  printed (write x y z) r = ap (λ l. 40 ∷ 119 ∷ l) (three_printed (term_text x) (term_text y) (term_text z) (onto x) (onto y) (onto z) (printed x) (printed y) (printed z) r)
  printed (choose x y z) r = ap (λ l. 40 ∷ 63 ∷ l) (three_printed (term_text x) (term_text y) (term_text z) (onto x) (onto y) (onto z) (printed x) (printed y) (printed z) r)
  printed (call f ts) r = simp append_assoc (simp (trees_printed ts))
  printed (negation x) r = simp append_assoc (simp (printed x))
  printed (all ts) r = simp append_assoc (simp (trees_printed ts))
  printed (some ts) r = simp append_assoc (simp (trees_printed ts))
  printed (equal x y) r = simp append_assoc (simp (printed x, printed y))
  printed (at_most x y) r = simp append_assoc (simp (printed x, printed y))
  printed (for_all ss ps t) r = ap (λ l. 40 ∷ 65 ∷ l) (quantified_printed (sorts_text ss) (triggers_text ps) (term_text t) (sorts_onto ss) (triggers_onto ps) (onto t) (sorts_printed ss) (triggers_printed ps) (printed t) r)
  printed (exists ss ps t) r = ap (λ l. 40 ∷ 69 ∷ l) (quantified_printed (sorts_text ss) (triggers_text ps) (term_text t) (sorts_onto ss) (triggers_onto ps) (onto t) (sorts_printed ss) (triggers_printed ps) (printed t) r)

  pub trees_printed : (ts : Trees) (r : List ℕ) → terms_text ts ++ r ≡ trees_onto ts r
  trees_printed no_trees r = refl
  trees_printed (tree t ts) r = simp append_assoc (simp (printed t, trees_printed ts))

  pub parts_printed : (ps : Parts) (r : List ℕ) → parts_text ps ++ r ≡ parts_onto ps r
  parts_printed no_parts r = refl
  parts_printed (part k t ps) r = simp append_assoc (simp (printed t, parts_printed ps))

  pub triggers_printed : (ps : Patterns) (r : List ℕ) → triggers_text ps ++ r ≡ triggers_onto ps r
  triggers_printed no_patterns r = refl
  triggers_printed (pattern ts ps) r = simp append_assoc (simp (trees_printed ts, triggers_printed ps))
