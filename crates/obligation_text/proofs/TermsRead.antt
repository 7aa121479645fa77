-- The text of a term tells the term and what follows, where what follows ends a number.
use Rattle.std.proofs.Common.{◌≡◌, ℕ, ℤ, nat_eq, Bool, true, false, List, ◌∷◌, ◌++◌, refl, ap, sym, ◌∙◌}
use Rattle.obligation_text.specs.Numbers.{signed_text}
use Rattle.logic_core.specs.Tree.{Kind, Tree, num, truth, free, bound, linear, mul, read, write, choose, call, negation, all, some, equal, at_most, for_all, exists, Trees, no_trees, tree, Parts, no_parts, part, Patterns, no_patterns, pattern}
use Rattle.obligation_text.specs.Text.{term_text}
use Rattle.obligation_text.proofs.Digits.{first, rest, Ends, apart, decimal_reads, signed_reads}
use Rattle.obligation_text.proofs.Printed.{onto, parts_onto, trees_onto, triggers_onto, sorts_onto, printed}
use Rattle.obligation_text.proofs.SortsRead.{ap_two, ap_three, sorts_read}
use Rattle.obligation_text.proofs.Short.{form_of, same_form, has_form, form_at}

-- a form isn't a trigger's
not_trigger : (t : Tree) → nat_eq (form_of t) 372 ≡ false
not_trigger (num n) = refl
not_trigger (truth b) = refl
not_trigger (free v) = refl
not_trigger (bound v) = refl
not_trigger (linear ps c) = refl
not_trigger (mul x y) = refl
not_trigger (read x y) = refl
not_trigger (write x y z) = refl
not_trigger (choose x y z) = refl
not_trigger (call f ts) = refl
not_trigger (negation x) = refl
not_trigger (all ts) = refl
not_trigger (some ts) = refl
not_trigger (equal x y) = refl
not_trigger (at_most x y) = refl
not_trigger (for_all ss ps t) = refl
not_trigger (exists ss ps t) = refl

no_trigger : {A : Type 0} (t : Tree) (r s : List ℕ) → onto t r ≡ 40 ∷ 116 ∷ s → A
no_trigger t r s e = apart (sym (has_form t r) ∙ ap form_at e) (not_trigger t)

-- what follows a term ends it where more terms, parts or triggers stand before what ends it
trees_end : (ts : Trees) (r : List ℕ) → Ends r → Ends (trees_onto ts r)
trees_end no_trees r e = e
trees_end (tree t ts) r e = refl

parts_end : (ps : Parts) (r : List ℕ) → Ends r → Ends (parts_onto ps r)
parts_end no_parts r e = e
parts_end (part k t ps) r e = refl

triggers_space : (ps : Patterns) (r : List ℕ) → first r ≡ 32 → first (triggers_onto ps r) ≡ 32
triggers_space no_patterns r e = e
triggers_space (pattern ts ps) r e = refl

-- the text of this term tells it from others
abbrev Tells : Tree → Type 0
Tells x = (y : Tree) (r s : List ℕ) → onto x r ≡ onto y s → Ends r → Ends s → (x ≡ y) × (r ≡ s)

truth_reads : (a b : Bool) (r s : List ℕ) → onto (truth a) r ≡ onto (truth b) s → (truth a ≡ truth b) × (r ≡ s)
truth_reads true true r s e = (refl, ap rest e)
truth_reads false false r s e = (refl, ap rest e)
truth_reads true false r s e = apart (ap first e) refl
truth_reads false true r s e = apart (ap first e) refl

two_read : (x x' y y' : Tree) (r s : List ℕ) → Tells x → Tells y → onto x (32 ∷ onto y (41 ∷ r)) ≡ onto x' (32 ∷ onto y' (41 ∷ s)) → (x ≡ x') × (y ≡ y') × (r ≡ s)
two_read x x' y y' r s tx ty e =
    let h = tx x' (32 ∷ onto y (41 ∷ r)) (32 ∷ onto y' (41 ∷ s)) e refl refl in
    let i = ty y' (41 ∷ r) (41 ∷ s) (ap rest h.1) refl refl in (h.0, i.0, ap rest i.1)

three_read : (x x' y y' z z' : Tree) (r s : List ℕ) → Tells x → Tells y → Tells z
    → onto x (32 ∷ onto y (32 ∷ onto z (41 ∷ r))) ≡ onto x' (32 ∷ onto y' (32 ∷ onto z' (41 ∷ s))) → (x ≡ x') × (y ≡ y') × (z ≡ z') × (r ≡ s)
three_read x x' y y' z z' r s tx ty tz e =
    let h = tx x' (32 ∷ onto y (32 ∷ onto z (41 ∷ r))) (32 ∷ onto y' (32 ∷ onto z' (41 ∷ s))) e refl refl in
    let i = two_read y y' z z' r s ty tz (ap rest h.1) in (h.0, i.0, i.1, i.2)

-- the same of triggers, with the body of their quantifier
abbrev TellTriggers : Patterns → Type 0
TellTriggers ps = (qs : Patterns) (t u : Tree) (r s : List ℕ)
    → triggers_onto ps (32 ∷ onto t (41 ∷ r)) ≡ triggers_onto qs (32 ∷ onto u (41 ∷ s)) → (ps ≡ qs) × (onto t (41 ∷ r) ≡ onto u (41 ∷ s))

quantified_read : (ss us : List Kind) (ps qs : Patterns) (t u : Tree) (r s : List ℕ) → TellTriggers ps → Tells t
    → sorts_onto ss (triggers_onto ps (32 ∷ onto t (41 ∷ r))) ≡ sorts_onto us (triggers_onto qs (32 ∷ onto u (41 ∷ s))) → (ss ≡ us) × (ps ≡ qs) × (t ≡ u) × (r ≡ s)
quantified_read ss us ps qs t u r s tp tt' e =
    let h = sorts_read ss us (triggers_onto ps (32 ∷ onto t (41 ∷ r))) (triggers_onto qs (32 ∷ onto u (41 ∷ s))) e (triggers_space ps (32 ∷ onto t (41 ∷ r)) refl) (triggers_space qs (32 ∷ onto u (41 ∷ s)) refl) in
    let i = tp qs t u r s h.1 in
    let j = tt' u (41 ∷ r) (41 ∷ s) i.1 refl refl in (h.0, i.0, j.0, ap rest j.1)

mutual
  pub reads : (x y : Tree) (r s : List ℕ) → onto x r ≡ onto y s → Ends r → Ends s → (x ≡ y) × (r ≡ s)
  reads (num m) (num n) r s e er es = let h = signed_reads m n r s e er es in (ap num h.0, h.1)
  reads (truth a) (truth b) r s e er es = truth_reads a b r s e
  reads (free m) (free n) r s e er es = let h = decimal_reads m n r s (ap rest e) er es in (ap free h.0, h.1)
  reads (bound m) (bound n) r s e er es = let h = decimal_reads m n r s (ap rest e) er es in (ap bound h.0, h.1)
  reads (linear ps c) (linear qs d) r s e er es =
      let h = parts_read ps qs c d r s (ap (λ l. rest (rest l)) e) in (ap_two linear h.0 h.1, h.2)
  reads (mul x y) (mul x' y') r s e er es =
      let h = two_read x x' y y' r s (reads x) (reads y) (ap (λ l. rest (rest (rest l))) e) in (ap_two mul h.0 h.1, h.2)
  reads (read x y) (read x' y') r s e er es =
      let h = two_read x x' y y' r s (reads x) (reads y) (ap (λ l. rest (rest (rest l))) e) in (ap_two read h.0 h.1, h.2)
  reads (write x y z) (write x' y' z') r s e er es =
      let h = three_read x x' y y' z z' r s (reads x) (reads y) (reads z) (ap (λ l. rest (rest (rest l))) e) in (ap_three write h.0 h.1 h.2, h.3)
  reads (choose x y z) (choose x' y' z') r s e er es =
      let h = three_read x x' y y' z z' r s (reads x) (reads y) (reads z) (ap (λ l. rest (rest (rest l))) e) in (ap_three choose h.0 h.1 h.2, h.3)
  reads (call f ts) (call g us) r s e er es =
      let h = decimal_reads f g (trees_onto ts (41 ∷ r)) (trees_onto us (41 ∷ s)) (ap (λ l. rest (rest l)) e) (trees_end ts (41 ∷ r) refl) (trees_end us (41 ∷ s) refl) in
      let i = trees_read ts us r s h.1 in (ap_two call h.0 i.0, i.1)
  reads (negation x) (negation y) r s e er es =
      let h = reads x y (41 ∷ r) (41 ∷ s) (ap (λ l. rest (rest (rest l))) e) refl refl in (ap negation h.0, ap rest h.1)
  reads (all ts) (all us) r s e er es = let h = trees_read ts us r s (ap (λ l. rest (rest l)) e) in (ap all h.0, h.1)
  reads (some ts) (some us) r s e er es = let h = trees_read ts us r s (ap (λ l. rest (rest l)) e) in (ap some h.0, h.1)
  reads (equal x y) (equal x' y') r s e er es =
      let h = two_read x x' y y' r s (reads x) (reads y) (ap (λ l. rest (rest (rest l))) e) in (ap_two equal h.0 h.1, h.2)
  reads (at_most x y) (at_most x' y') r s e er es =
      let h = two_read x x' y y' r s (reads x) (reads y) (ap (λ l. rest (rest (rest (rest l)))) e) in (ap_two at_most h.0 h.1, h.2)
  reads (for_all ss ps t) (for_all us qs u) r s e er es =
      let h = quantified_read ss us ps qs t u r s (triggers_read ps) (reads t) (ap (λ l. rest (rest (rest l))) e) in (ap_three for_all h.0 h.1 h.2, h.3)
  reads (exists ss ps t) (exists us qs u) r s e er es =
      let h = quantified_read ss us ps qs t u r s (triggers_read ps) (reads t) (ap (λ l. rest (rest (rest l))) e) in (ap_three exists h.0 h.1 h.2, h.3)
  reads x y r s e er es = apart (same_form x y r s e) refl

  pub trees_read : (ts us : Trees) (r s : List ℕ) → trees_onto ts (41 ∷ r) ≡ trees_onto us (41 ∷ s) → (ts ≡ us) × (r ≡ s)
  trees_read no_trees no_trees r s e = (refl, ap rest e)
  trees_read no_trees (tree u us) r s e = apart (ap first e) refl
  trees_read (tree t ts) no_trees r s e = apart (ap first e) refl
  trees_read (tree t ts) (tree u us) r s e =
      let h = reads t u (trees_onto ts (41 ∷ r)) (trees_onto us (41 ∷ s)) (ap rest e) (trees_end ts (41 ∷ r) refl) (trees_end us (41 ∷ s) refl) in
      let i = trees_read ts us r s h.1 in (ap_two tree h.0 i.0, i.1)

  parts_read : (ps qs : Parts) (c d : ℤ) (r s : List ℕ)
      → parts_onto ps (32 ∷ signed_text c ++ 41 ∷ r) ≡ parts_onto qs (32 ∷ signed_text d ++ 41 ∷ s) → (ps ≡ qs) × (c ≡ d) × (r ≡ s)
  parts_read no_parts no_parts c d r s e = let h = signed_reads c d (41 ∷ r) (41 ∷ s) (ap rest e) refl refl in (refl, h.0, ap rest h.1)
  parts_read no_parts (part k t qs) c d r s e =
      apart (ap first (signed_reads c k (41 ∷ r) (32 ∷ onto t (parts_onto qs (32 ∷ signed_text d ++ 41 ∷ s))) (ap rest e) refl refl).1) refl
  parts_read (part k t ps) no_parts c d r s e =
      apart (ap first (signed_reads k d (32 ∷ onto t (parts_onto ps (32 ∷ signed_text c ++ 41 ∷ r))) (41 ∷ s) (ap rest e) refl refl).1) refl
  parts_read (part k t ps) (part l u qs) c d r s e =
      let pr = parts_onto ps (32 ∷ signed_text c ++ 41 ∷ r) in let qr = parts_onto qs (32 ∷ signed_text d ++ 41 ∷ s) in
      let h = signed_reads k l (32 ∷ onto t pr) (32 ∷ onto u qr) (ap rest e) refl refl in
      let i = reads t u pr qr (ap rest h.1) (parts_end ps (32 ∷ signed_text c ++ 41 ∷ r) refl) (parts_end qs (32 ∷ signed_text d ++ 41 ∷ s) refl) in
      let j = parts_read ps qs c d r s i.1 in (ap_three part h.0 i.0 j.0, j.1, j.2)

  triggers_read : (ps qs : Patterns) (t u : Tree) (r s : List ℕ)
      → triggers_onto ps (32 ∷ onto t (41 ∷ r)) ≡ triggers_onto qs (32 ∷ onto u (41 ∷ s)) → (ps ≡ qs) × (onto t (41 ∷ r) ≡ onto u (41 ∷ s))
  triggers_read no_patterns no_patterns t u r s e = (refl, ap rest e)
  triggers_read no_patterns (pattern us qs) t u r s e = no_trigger t (41 ∷ r) _ (ap rest e)
  triggers_read (pattern ts ps) no_patterns t u r s e = no_trigger u (41 ∷ s) _ (sym (ap rest e))
  triggers_read (pattern ts ps) (pattern us qs) t u r s e =
      let h = trees_read ts us (triggers_onto ps (32 ∷ onto t (41 ∷ r))) (triggers_onto qs (32 ∷ onto u (41 ∷ s))) (ap (λ l. rest (rest (rest l))) e) in
      let i = triggers_read ps qs t u r s h.1 in (ap_two pattern h.0 i.0, i.1)

-- a term's text is a prefix code: it tells the term and what follows
pub terms_read : (x y : Tree) (r s : List ℕ) → term_text x ++ r ≡ term_text y ++ s → Ends r → Ends s → (x ≡ y) × (r ≡ s)
terms_read x y r s e er es = reads x y r s (sym (printed x r) ∙ e ∙ printed y s) er es
